-- The plain program makes the trace.
use Rattle.trace_laws.proofs.Words.{◌≡◌, ℕ, zero, suc, refl, sym, ap, ◌∙◌, List, [], ◌∷◌, put, key_cmp, Start, Setting, IsSound, Event, Events, World, IsWorld, made, taken, Run, joined, opening, opening_process, starts, start_of, entries, IsTrace, puts, plain_starts, plain_steps, plain_left, keys_total}
use Rattle.trace_laws.proofs.{Sets.{not_None, same_events}, Worlds.{taken_world}, Runs.{again, front_least, front_removed, nothing_there}, Closed.{opening_world}}
use Rattle.std.specs.FinMap as finmap

entries-joined : (more : List Event) (m : Events) (es : List Event) → finmap.entries m ≡ es → finmap.entries (joined m more) ≡ puts es more
entries-joined [] m es is = is
entries-joined (a ∷ more) m es is = entries-joined more (finmap.insert m a.0 a.1) (put key_cmp a.0 a.1 es) (finmap.entries-insert keys_total m a.0 a.1 ∙ ap (put key_cmp a.0 a.1) is)

module _ {Mind : Type 0} (S : Setting Mind) (sound : IsSound S) where
  plain_run : (n : ℕ) (w : World Mind) → IsWorld S w → (es : List Event) → finmap.entries w.pending ≡ es → plain_left S n w.process es ≡ [] → (last : World Mind) × Run S S.horizon w (plain_steps S n w.process es) last
  plain_run zero w is_world es is over = (w, ((λ q y h. absurd (nothing_there w.pending (is ∙ over) q y h)), refl))
  plain_run (suc n) w is_world [] is over = (w, ((λ q y h. absurd (nothing_there w.pending is q y h)), refl))
  plain_run (suc n) w is_world (e ∷ es) is over =
      let least = front_least w.pending e es is in
      let later = plain_run n (taken S w e.0 e.1) (taken_world S w e.0 e.1 sound is_world least.there) (puts es (made S w e.0 e.1).added)
      (entries-joined (made S w e.0 e.1).added (finmap.remove w.pending e.0) es (front_removed w.pending e es is)) over in
      (later.0, again S S.horizon w e.0 e.1 least (is_world.below e.0 e.1 least.there) _ later.0 later.1)

  entries-starts : (n : ℕ) → finmap.entries (starts n) ≡ plain_starts n
  entries-starts zero = ap finmap.entries (same_events finmap.empty (finmap.from_sorted []) (λ q y h. absurd (not_None y (sym (finmap.get-empty key_cmp q) ∙ h))) (λ q y h. absurd (not_None y (sym (finmap.get-from_sorted key_cmp [] q tt) ∙ h))))
      ∙ finmap.entries-from_sorted key_cmp [] tt
  entries-starts (suc n) = finmap.entries-insert keys_total (starts n) (start_of (suc n)) Start ∙ ap (put key_cmp (start_of (suc n)) Start) (entries-starts n)

  -- where nothing is left after n steps, they are the trace
  pub plain_trace : (n : ℕ) → plain_left S n (opening_process S) (plain_starts S.processes) ≡ [] → IsTrace S (entries (plain_steps S n (opening_process S) (plain_starts S.processes)))
  plain_trace n over =
      let r = plain_run n (opening S) (opening_world S sound) (plain_starts S.processes) (entries-starts S.processes) over in
      (plain_steps S n (opening_process S) (plain_starts S.processes), r.0, r.1, refl)
