use Rattle.process_api.proofs.Basics.{rules, ◌≡◌, ◌+◌, ◌*◌, ◌/◌, ◌<◌, ◌^◌, [], ◌∷◌, get_or, refl, sym, ap, ◌∙◌, arith, w64, Some, trailing_zeros, is_set, members, most_processes, in_order}
use Rattle.process_api.proofs.{BitWords.{lowest_place, lowest_set, none_below, none_set}, Rising.{in_order-told, in_order-none, yielded, progressed}}
use Rattle.process_api.proofs.proc_set.MembersIterator.next.Goals as goal

pub returns-in_default-clause-steps : goal.returns-in_default-clause-steps
returns-in_default-clause-steps c =
    let words = c.self.inside.words in
    let none : c.args.self.now ≡ [] = sym c.self.view_is ∙ in_order-none (is_set words) (λ i low. none_set words i (c.in_default.ensures.none refl (i / 64) (omega (arith, low)))) in
    (none, none)

pub returns : goal.returns
returns c =
    let words = c.self.inside.words in
    let k = c.in-Some.k in
    let first = c.in-Some.ensures.some in
    let fits : get_or words k 0 < 2 ^ 64 = search rules in
    let place = k * 64 + trailing_zeros w64 (get_or words k 0) in
    let low = lowest_place words k first.1 fits first.2 in
    let left = in_order (members most_processes (is_set c.clear.new.words)) in
    let is : c.args.self.now ≡ (place + 1) ∷ left =
    sym c.self.view_is
    ∙ in_order-told (is_set words) (is_set c.clear.new.words) place (omega (arith, low, first.0)) (lowest_set words k first.1 fits first.2)
    (none_below words k first.1 fits first.2) c.clear.ensures.own (λ i _ apart. c.clear.ensures.others i apart) in
    record {
      steps = yielded _ c.args.self.now left (place + 1) (ap Some c.after.ensures) is;
      goes = progressed _ c.args.self.now left (place + 1) (ap Some c.after.ensures) is;
    }
