use Rattle.scenario.proofs.{Words.{◌≡◌, Option, Members, IsFoundBy, table_view, refl, subst, sym, option_or}, Findings.{either}}
use Rattle.scenario.specs.{Ranges.{detector_subject}, declared.fault.Fault.{Fault}}
use Rattle.scenario.proofs.table_fault.detector_fault.Goals as goal

of_both : (t : Members) (r a b : Option Fault) → r ≡ option_or a b → IsFoundBy detector_subject t a → IsFoundBy detector_subject t b → IsFoundBy detector_subject t r
of_both t r a b is first second = subst (IsFoundBy detector_subject t) (sym is) (either detector_subject t a b first second)

pub returns : goal.returns
returns c =
    let t = table_view c.args.table.now in
    let D = detector_subject in
    of_both t _ _ _ c.or-7.ensures (of_both t _ _ _ c.or-6.ensures (of_both t _ _ _ c.or-5.ensures (of_both t _ _ _ c.or-4.ensures (of_both t _ _ _ c.or-3.ensures (of_both t _ _ _ c.or-2.ensures (of_both t _ _ _ c.or.ensures
    (c.outside.ensures D refl) (c.outside-2.ensures D refl)) (c.outside-3.ensures D refl)) (c.outside-4.ensures D refl)) (c.outside-5.ensures D refl)) (c.outside-6.ensures D refl)) (c.other_name.ensures D refl)) (c.other_name-2.ensures D refl)
