use Rattle.scenario.proofs.Words.{◌≡◌, ◌+◌, sym, take, true, false, rules, arith, map-append, take_all, take-append-drop, filter_map-append, list_any-append, as_integer, view, natural, is_bad_proposal}
use Rattle.scenario.proofs.Among.{integers_of, one_there, none_there}
use Rattle.scenario.proofs.proposals.proposals_among.Goals as goal

pub loop-value-preserved-in_default : goal.loop-value-preserved-in_default
loop-value-preserved-in_default c =
    let none = none_there (λ v. as_integer (view v)) c.args.values.now c.loop-value.value-index c.value-item.result c.loop-value-test.true c.value-item.is (rw c.in_default.is at c.as_integer.ensures) in
    record { good = rw none c.loop-value.invariant.good; made = rw none c.loop-value.invariant.made }

pub returns-in_default-proposal_of : goal.returns-in_default-proposal_of
returns-in_default-proposal_of c =
    let values = c.args.values.now in
    let bad : is_bad_proposal c.in-Some.number ≡ true = sym (search (rules, c.in_default-proposal_of.ensures.none)) in
    let one = one_there (λ v. as_integer (view v)) values c.loop-value.value-index c.value-item.result c.loop-value-test.true c.value-item.is c.in-Some.number (rw c.in-Some.is at c.as_integer.ensures) in
    rw (integers_of values, ← take-append-drop (c.loop-value.value-index + 1) values, filter_map-append, one, list_any-append, list_any-append, c.loop-value.invariant.good, bad)

pub loop-value-preserved : goal.loop-value-preserved
loop-value-preserved c =
    let one = one_there (λ v. as_integer (view v)) c.args.values.now c.loop-value.value-index c.value-item.result c.loop-value-test.true c.value-item.is c.in-Some.number (rw c.in-Some.is at c.as_integer.ensures) in
    let good : is_bad_proposal c.in-Some.number ≡ false = sym (search (rules, c.in-Some-proposal_of.ensures.none)) in
    let its : c.in-Some-proposal_of.proposal ≡ natural c.in-Some.number = search (rules, c.in-Some-proposal_of.ensures.value) in
    record {
      good = rw (one, list_any-append, c.loop-value.invariant.good, good);
      made = rw (one, map-append, ← c.loop-value.invariant.made, ← its) c.in_ok-push.ensures.items;
    }

pub returns : goal.returns
returns c =
    let all : take c.loop-value.value-index c.args.values.now ≡ c.args.values.now = take_all c.loop-value.value-index c.args.values.now (omega arith) in
    rw (integers_of c.args.values.now) (rw all at c.loop-value.invariant.good, rw all at c.loop-value.invariant.made)
