-- Words that are at hand.
use Rattle.std.proofs.Common.{◌≡◌, ◌≢◌, ◌<◌, ◌≤◌, ◌+◌, ◌*◌, ◌%◌, ◌^◌, ℕ, List, length, subst, sym, ap, ◌∙◌, get_or, set, ⊎_elim, arith}
use Rattle.std.proofs.Math.Nat.{mul-lt-mul_of_pos_right}
use Rattle.std.proofs.lemmas.{Bool.{cases_eq, cases_lt}, Grind.{get_or-set_at}, List.{get_or-set_other, get_or_past, length-set}, Nat.{mod-mul-add}}
use Rattle.streams.specs.{Fate.{none, AreWordsOf, IsRun}, declared.kept.Pair.{Pair}}

-- the pair is of a letter with this number on the link
abbrev pub ArePairOf : (seed from to number : ℕ) → Pair → Type 0
ArePairOf seed from to number pair = AreWordsOf seed from to number pair.first pair.second

-- a row's words at a receiver's place are at no other receiver's
pub elsewhere : (places row to k : ℕ) (pairs : List Pair) (p : Pair) → to < places → k % places ≢ to
    → get_or (set pairs (row * places + to) p) k none ≡ get_or pairs k none
elsewhere places row to k pairs p there other = get_or-set_other pairs (row * places + to) k p none
    (λ e. other (ap (λ n. n % places) e ∙ mod-mul-add row places to there))

-- the words of one more letter were kept
pub one_more : (rows seed from to begin places : ℕ) (pairs : List Pair) (p : Pair) → to < places
    → (begin + rows < 2 ^ 64 → ArePairOf seed from to (begin + rows) p) → IsRun rows seed from to begin places pairs
    → IsRun (rows + 1) seed from to begin places (set pairs (rows * places + to) p)
one_more rows seed from to begin places pairs p there words run row below within small =
    let at = rows * places + to in
    let kept : row * places + to < length pairs = subst (λ n. row * places + to < n) (length-set pairs at p) within in
    ⊎_elim
    (λ e. let same = ap (λ r. r * places + to) e in
    subst (ArePairOf seed from to (begin + row))
    (sym (get_or-set_at pairs at (row * places + to) p none same (subst (λ n. n < length pairs) same kept)))
    (subst (λ r. ArePairOf seed from to (begin + r) p) (sym e) (words (subst (λ r. begin + r < 2 ^ 64) e small))))
    (λ other. subst (ArePairOf seed from to (begin + row))
    (sym (get_or-set_other pairs at (row * places + to) p none (λ same.
    let less : row * places < rows * places = mul-lt-mul_of_pos_right (omega arith) (omega arith) in omega arith)))
    (run row (omega arith) kept small))
    (cases_eq row rows)

-- each receiver's 32 pairs are of its letters
abbrev pub AreIn : (places seed from : ℕ) → List ℕ → List Pair → Type 0
AreIn places seed from begins pairs = (to : ℕ) → 1 ≤ get_or begins to 0
    → IsRun 32 seed from to (get_or begins to 0) places pairs

-- words were drawn anew at one receiver's places
pub drawn_anew : (seed from to begin : ℕ) (begins : List ℕ) (old new : List Pair) → to < length begins
    → length new ≡ length old → ((k : ℕ) → k % length begins ≢ to → get_or new k none ≡ get_or old k none)
    → IsRun 32 seed from to begin (length begins) new → AreIn (length begins) seed from begins old
    → AreIn (length begins) seed from (set begins to begin) new
drawn_anew seed from to begin begins old new there same others run are k = ⊎_elim
    (λ e one. subst (λ b. IsRun 32 seed from k b (length begins) new) (sym (get_or-set_at begins to k begin 0 e there))
    (subst (λ r. IsRun 32 seed from r begin (length begins) new) (sym e) run))
    (λ other. let as_before = get_or-set_other begins to k begin 0 other in
    subst (λ b. 1 ≤ b → IsRun 32 seed from k b (length begins) new) (sym as_before)
    (λ one row below within small. ⊎_elim
    (λ lt. subst (ArePairOf seed from k (get_or begins k 0 + row))
    (sym (others (row * length begins + k) (λ e. other (sym (mod-mul-add row (length begins) k lt) ∙ e))))
    (are k one row below (subst (λ n. row * length begins + k < n) same within) small))
    (λ past. absurd (let zero : get_or begins k 0 ≡ 0 = get_or_past begins k 0 past in omega arith))
    (cases_lt k (length begins))))
    (cases_eq k to)
