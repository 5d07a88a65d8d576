-- Of a process and whom it watches: they are two processes, and each is up before it crashes.
use Rattle.detector_bounds.proofs.Words.{◌≡◌, ◌≢◌, ℕ, suc, ◌<◌, ◌≤◌, refl, sym, true, false, not, nat_eq, nat_le, arith, Option, None, Some, unwrap_or, le-leb, lt-leb, leb-true, eq-eqb, not-true, and_parts, is_process, is_other, and_true, Record, crash, has_crashed, crash_tick, Watches}

pub process_is : (n p : ℕ) → 1 ≤ p → p ≤ n → is_process n p ≡ true
process_is n p low high = and_true _ _ (le-leb 1 p low) (le-leb p n high)

-- whom q watches is another process
pub watched_is : (s : Record) (q p : ℕ) → Watches s q p → (1 ≤ p) × (p ≤ s.processes) × (q ≢ p)
watched_is s q p (own, w) =
    let other = and_parts (is_process s.processes p) (not (nat_eq p q)) (and_parts (is_other q s.processes p) _ w).0 in
    let one = and_parts (nat_le 1 p) (nat_le p s.processes) other.0 in
    (leb-true 1 p one.0, leb-true p s.processes one.1, λ same. cc (not-true (nat_eq p q) other.1, eq-eqb p q (sym same)))

-- a process is up before it crashes, and not from then on
up_before : (o : Option ℕ) (horizon u : ℕ) → u < unwrap_or o (suc horizon) → has_crashed o u ≡ false
up_before None horizon u h = refl
up_before (Some at) horizon u h = lt-leb at u h

pub up_until : (s : Record) (p t : ℕ) → t < crash_tick s p → (u : ℕ) → u ≤ t → has_crashed (crash s p) u ≡ false
up_until s p t h u l = up_before (crash s p) s.horizon u (omega (arith, h, l))

down_after : (o : Option ℕ) (horizon t : ℕ) → has_crashed o t ≡ true → unwrap_or o (suc horizon) ≤ t
down_after None horizon t down = absurd (cc down)
down_after (Some at) horizon t down = leb-true at t down

pub down_from : (s : Record) (p t : ℕ) → has_crashed (crash s p) t ≡ true → crash_tick s p ≤ t
down_from s p t down = down_after (crash s p) s.horizon t down
