-- Parts that rise and share no key can be merged: each entry is put into its place.
use Rattle.trace_merge.proofs.Words.{◌≡◌, refl, ap, ◌∙◌, sym, subst, true, false, IsTrue, List, [], ◌∷◌, is_eq, Less, Ordering, IsPermutation, arith, All, All-cons, All-from_recursion, All-head, All-permutation, All-tail, All-weaker, IsPermutation-cons, IsPermutation-middle, IsPermutation-refl, IsPermutation-sym, IsPermutation-trans, AllPass-from_list_all, is_less, is_before, is_rising, EntryRecord, IsDistinct, inl, inr, key_cmp, keys_total, both_true, all_of, AllDiffer, IsMergeOf, same}
use Rattle.{trace_merge.proofs.Distinct.{rising_more}, std.proofs.{Common.{true≢false}, lemmas.Cmp.{tied_itself}}}
use Rattle.{std.specs.Ordering.{eq_by_cmp}, process_api.proofs.KeyOrder.{before_or_not}}

abbrev Before : EntryRecord → EntryRecord → Type 0
Before a b = is_before a.key b.key ≡ true

less_is : (r : Ordering) → is_less r ≡ true → r ≡ Less
less_is r h = grind arith

-- a list that rises and has just these entries
abbrev Sorted : List EntryRecord → Type 0
Sorted es = (sorted : List EntryRecord) × IsPermutation es sorted × IsTrue (is_rising sorted)

put : (e : EntryRecord) (es : List EntryRecord) → All (λ f. same e f ≡ false) es → IsTrue (is_rising es) → Sorted (e ∷ es)
put e [] apart r = (e ∷ [], IsPermutation-refl _, refl)
put e (f ∷ fs) apart r =
    let P : EntryRecord → Type 0 = λ g. same e g ≡ false in
    let after = AllPass-from_list_all (λ g. is_before f.key g.key) fs (both_true _ _ r).0 in
    elim (before_or_not e.key f.key) [
      | inl b ↦ (e ∷ f ∷ fs, IsPermutation-refl _, rising_more e (f ∷ fs) (All-cons (Before e) f fs (ap is_less b) (All-weaker (Before f) (Before e) (λ g h. ap is_less (keys_total.trans e.key f.key g.key b (less_is _ h))) fs after)) r)
      | inr (inl s) ↦ absurd (true≢false (sym (ap is_eq (tied_itself keys_total f.key)) ∙ subst (λ k. eq_by_cmp key_cmp k f.key ≡ false) s (All-head P f fs apart)))
      | inr (inr b) ↦
          (let s = put e fs (All-tail P f fs apart) (both_true _ _ r).1 in
          (f ∷ s.0, IsPermutation-trans _ _ _ (IsPermutation-sym _ _ (IsPermutation-middle (f ∷ []) e fs)) (IsPermutation-cons f _ _ s.1), rising_more f s.0 (All-permutation (Before f) (e ∷ fs) s.0 s.1 (All-cons (Before f) e fs (ap is_less b) after)) s.2))
    ]

in_order : (es : List EntryRecord) → AllDiffer es → Sorted es
unfolding IsDistinct
in_order [] d = ([], IsPermutation-refl [], refl)
in_order (e ∷ es) d =
    let s = in_order es d.1 in
    let t = put e s.0 (All-permutation (λ f. same e f ≡ false) es s.0 s.1 (All-from_recursion (λ f. same e f ≡ false) es d.0)) s.2 in
    (t.0, IsPermutation-trans _ _ _ (IsPermutation-cons e _ _ s.1) t.1, t.2)

pub has_merge : (parts : List (List EntryRecord)) → AllDiffer (all_of parts) → (merged : List EntryRecord) × IsMergeOf parts merged
has_merge parts d = let s = in_order (all_of parts) d in (s.0, record { rising = s.2; same = s.1 })

pub nothing_merges : (parts : List (List EntryRecord)) → all_of parts ≡ [] → IsMergeOf parts []
nothing_merges parts none = record { rising = refl; same = subst (λ es. IsPermutation es []) (sym none) (IsPermutation-refl []) }
