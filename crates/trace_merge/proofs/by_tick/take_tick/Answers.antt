use Rattle.trace_merge.proofs.Words.{◌≡◌, ◌<◌, ◌++◌, [], Some, map, take, ap, ◌∙◌, sym, subst, arith, min, length, All, MatchOption, unwrap_or, IsPermutation-trans, all_of, ◌+◌, slice_set, length-set, take_more_set, All-append}
use Rattle.trace_merge.proofs.{Gathering.{rest_of, one_moved, all_of-more, later_least, later_same}, by_tick.take_tick.Goals.{in-Some, in_default}}
use Rattle.trace_merge.proofs.by_tick.take_tick.Goals as goal

pub loop-at-preserved : goal.loop-at-preserved
loop-at-preserved c =
    let tick = c.args.tick in
    let lanes = c.loop-at.lanes in
    let at = c.loop-at.at in
    let new = c.take_up_to.new.self in
    let h = c.loop-at.invariant in
    let low : at < length lanes = omega (arith, c.loop-at-test.true, h.count) in
    let before = all_of (map rest_of (take at lanes)) in
    let more : all_of (map rest_of (take (at + 1) (slice_set lanes at new))) ≡ before ++ new.rest.items =
    ap (λ ls. all_of (map rest_of ls)) (take_more_set lanes at new low) ∙ all_of-more rest_of (take at lanes) new in
    record {
      same = IsPermutation-trans _ _ _ h.same (one_moved rest_of c.loop-at.merged.entries.items c.take_up_to.new.merged.entries.items lanes at c.index-lanes-at.result new low c.in_ok-next.ensures.same);
      count = length-set lanes at new ∙ h.count;
      early = λ all. c.in_ok-next.ensures.early (h.early all);
      late = subst (All (λ e. tick < e.key.tick)) (sym more) (All-append (λ e. tick < e.key.tick) before new.rest.items h.late c.in_ok-next.ensures.late);
      later = subst (λ es. MatchOption c.match-branch-2.least (es ≡ []) (λ t. tick < t)) (sym more) (elim c.match-branch-2.branch [
        | in-Some w ↦
            let n = w.in-Some.next in
            let least : c.match-branch-2.least ≡ Some (min (unwrap_or c.loop-at.least n) n) = w.least-is ∙ ap Some (w.min.ensures ∙ ap (λ m. min m n) w.unwrap_or.ensures) in
            let next : tick < n = subst (λ o. MatchOption o (new.rest.items ≡ []) (λ t. tick < t)) w.in-Some.is c.in_ok-next.ensures.later in
            subst (λ o. MatchOption o (before ++ new.rest.items ≡ []) (λ t. tick < t)) (sym least) (later_least tick (before ≡ []) c.loop-at.least n h.later next)
        | in_default w ↦
            let none : new.rest.items ≡ [] = subst (λ o. MatchOption o (new.rest.items ≡ []) (λ t. tick < t)) w.in_default.is c.in_ok-next.ensures.later in
            subst (λ o. MatchOption o (before ++ new.rest.items ≡ []) (λ t. tick < t)) (sym w.least-is) (later_same tick before new.rest.items c.loop-at.least h.later none)
      ]);
    }
