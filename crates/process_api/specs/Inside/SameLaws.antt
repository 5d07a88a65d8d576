-- That the tests of `==` have the laws of an equality.
use Rattle.std.proofs.{Common.{◌≡◌, ℕ, refl, sym, ap, ◌∙◌, Bool, true, false, not, ◌&&◌, nat_eq, arith, nat_cmp}, lemmas.Bool.Decides.{nat_tests}}
use Rattle.std.specs.FinSet as set
use Rattle.std.specs.{Cmp.{IsEquivalence, nat_cmp_total, nat_eq_equiv, on_equiv, and_equiv, Lexicographic.{lists_equiv}}, FinMap.{nat_cmp-IsAntisymmetric}}
use Rattle.process_api.specs.{Sets.{Processes}, Same.{lacks_none, has_same, is_same_entry, are_same_entries}}
use Rattle.process_api.specs.contracts.action.NoteEq.TheImpl.Laws as note_laws
use Rattle.process_api.specs.contracts.entry.KindEq.TheImpl.Laws as kind_laws
use Rattle.process_api.specs.contracts.key.KeyEq.TheImpl.Laws as key_laws

both : (b c : Bool) → (b && c) ≡ (c && b)
both true true = refl
both true false = refl
both false true = refl
both false false = refl

left : (b c : Bool) → (b && c) ≡ true → b ≡ true
left true c e = refl
left false c e = e

zero_of : (n : ℕ) → nat_eq n 0 ≡ true → n ≡ 0
zero_of n e = grind (e, arith, nat_tests)

alike : (a b : Bool) → (a && not b) ≡ false → (b && not a) ≡ false → a ≡ b
alike true true e f = refl
alike true false e f = e
alike false true e f = sym f
alike false false e f = refl

-- one has no member that the other lacks
none_left : (s t : Processes) → lacks_none s t ≡ true → (q : ℕ) → (set.contains s q && not (set.contains t q)) ≡ false
none_left s t e q = sym (set.contains-difference nat_cmp_total s t q)
    ∙ (ap (λ m. set.contains m q) (set.empty_of_len (set.difference s t) (zero_of _ e)) ∙ set.contains-empty nat_cmp q)

same_of : (s t : Processes) → has_same s t ≡ true → s ≡ t
same_of s t e = set.same_set nat_cmp_total nat_cmp-IsAntisymmetric s t (λ q.
    alike (set.contains s q) (set.contains t q)
    (none_left s t (left _ _ e) q)
    (none_left t s (left _ _ (both (lacks_none t s) (lacks_none s t) ∙ e)) q))

no_own : (b : Bool) → (b && not b) ≡ false
no_own true = refl
no_own false = refl

none_of_own : (s : Processes) → set.difference s s ≡ set.empty
none_of_own s = set.same_set nat_cmp_total nat_cmp-IsAntisymmetric _ _ (λ q.
    set.contains-difference nat_cmp_total s s q ∙ (no_own (set.contains s q) ∙ sym (set.contains-empty nat_cmp q)))

has_own : (s : Processes) → has_same s s ≡ true
has_own s = ap (λ d. nat_eq (set.len d) 0 && nat_eq (set.len d) 0) (none_of_own s)
    ∙ ap (λ n. nat_eq n 0 && nat_eq n 0) (set.len-empty nat_cmp)

pub same_equiv : IsEquivalence has_same
same_equiv = record {
  refl = has_own;
  symm = λ s t. both (lacks_none s t) (lacks_none t s);
  congr = λ s t u e. ap (λ m. has_same m u) (same_of s t e);
}

pub entry_equiv : IsEquivalence is_same_entry
entry_equiv = and_equiv (on_equiv (λ e. e.key) key_laws.laws-law)
    (and_equiv (on_equiv (λ e. e.kind) kind_laws.laws-law)
    (and_equiv (on_equiv (λ e. e.sent) nat_eq_equiv)
    (and_equiv (on_equiv (λ e. e.lost) nat_eq_equiv) (on_equiv (λ e. e.notes) (lists_equiv note_laws.laws-law)))))

pub entries_equiv : IsEquivalence are_same_entries
entries_equiv = lists_equiv entry_equiv
