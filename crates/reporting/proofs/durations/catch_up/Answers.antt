use Rattle.reporting.proofs.{Words.{get_or, ap, ◌∙◌, arith, length-set, caught, lists_in}, Listing.{caught_next}}
use Rattle.reporting.proofs.durations.catch_up.Goals as goal

pub loop-place-preserved : goal.loop-place-preserved
loop-place-preserved c =
    let l = c.loop-place in
    record {
      same = length-set l.pairs l.place c.catch.new.lengths ∙ l.invariant.same;
      caught = caught_next c.args.counts.now c.args.closed c.args.from l.place (lists_in c.args.pairs.now) l.pairs l.invariant.caught l.auto.place
          (omega (arith, l.invariant.same, c.loop-place-test.true, c.requires.places)) c.index-pairs-place.result c.catch.new.lengths
          (c.in_ok-catch.ensures ∙ ap (λ t. caught t (get_or l.pairs l.place c.index-pairs-place.result).items) c.tally_at.ensures);
    }
