use Rattle.trace_merge.proofs.Words.{◌≡◌, ◌+◌, ◌-◌, ◌++◌, ◌∷◌, ◌∙◌, List, [], Some, Ordering, true, false, length, get_or, ap, sym, arith, inl, inr, is_lt, ordering_reverse, EntryRecord, key_cmp, keys_total, is_less, is_before, IsInOrder}
use Rattle.std.proofs.lemmas.{Bool.{cases_lt, ltb-false}, List.{get_or_append_left, get_or_push, length_push}, Option.{get_or_from_slice_get}}
use Rattle.std.specs.Prelude.{slice_get, is_some, option_copied}
use Rattle.trace_merge.proofs.joined.goes_on.Goals as goal

not_after : (r : Ordering) → is_less r ≡ true → is_lt (ordering_reverse r) ≡ false
not_after r h = grind arith

still : (es : List EntryRecord) (e last : EntryRecord) → slice_get es (length es - 1) ≡ Some last → is_before last.key e.key ≡ true → IsInOrder es → IsInOrder (es ++ e ∷ [])
still es e last is b order k d low within =
    let less : EntryRecord → EntryRecord → _ = λ x y. is_lt (key_cmp x.key y.key) in
    let long = length_push es e in
    elim (cases_lt (k + 1) (length es)) [
      | inl inside ↦ ap (λ x. less x (get_or (es ++ e ∷ []) k d)) (get_or_append_left es (e ∷ []) d (k + 1) inside) ∙ (ap (less (get_or es (k + 1) d)) (get_or_append_left es (e ∷ []) d k (omega (arith, inside))) ∙ order k d low inside)
      | inr after ↦
          let at : get_or es k d ≡ last = ap (λ i. get_or es i d) (omega (arith, after, within, long)) ∙ get_or_from_slice_get es (length es - 1) last d is in
          ap (λ x. less x (get_or (es ++ e ∷ []) k d)) (get_or_push es e d (k + 1) (omega (arith, after, within, long))) ∙ (ap (less e) (get_or_append_left es (e ∷ []) d k (omega (arith, after, within, long)) ∙ at) ∙ (ap is_lt (keys_total.antisymm e.key last.key) ∙ not_after _ b))
    ]

pub returns-in-Some : goal.returns-in-Some
returns-in-Some c is =
    still c.args.entries.now c.args.entry.now c.in-Some.last.now (sym c.last.ensures.value ∙ ap option_copied c.in-Some.is) ((λ i. is_before (sym c.last-in-Some.view_is i).key (sym c.entry.view_is i).key) ∙ (sym c.is_before.ensures ∙ is))

pub returns-in-None : goal.returns-in-None
returns-in-None c is order k d low within =
    absurd (omega (arith, within, length_push c.args.entries.now c.args.entry.now, ltb-false 0 (length c.args.entries.now) (sym c.last.ensures.item.0 ∙ ap is_some c.in-None.is)))
