use Rattle.study.proofs.Basics.{◌≡◌, ◌∙◌, ap, sym, [], ◌++◌, append_assoc, map, get_or, ◌+◌, ◌/◌, ◌%◌, length, drop, arith, subst, mod-lt, chosen, path_of, given_by, settings_in, set_to}
use Rattle.study.proofs.Points.{ways, block_from, place_within, some_ways, picked_more}
use Rattle.study.proofs.combination.pick_combination.Goals as goal

pub nonzero_div-left : goal.nonzero_div-left
nonzero_div-left c =
    let i = c.loop-axis.axis-index in
    omega (
      arith,
      some_ways (drop (i + 1) c.args.axes.now),
      block_from c.args.axes.now i c.axis-item.result c.loop-axis-test.true
          c.axis-item.is c.loop-axis.alike c.len.result c.len.ensures c.loop-axis.invariant.alike,
    )

pub nonzero_rem-left : goal.nonzero_rem-left
nonzero_rem-left c =
    let i = c.loop-axis.axis-index in
    omega (
      arith,
      some_ways (drop (i + 1) c.args.axes.now),
      block_from c.args.axes.now i c.axis-item.result c.loop-axis-test.true
          c.axis-item.is c.loop-axis.alike c.len.result c.len.ensures c.loop-axis.invariant.alike,
    )

pub index-value-requires : goal.index-value-requires
index-value-requires c =
    let i = c.loop-axis.axis-index in
    rw (block_from c.args.axes.now i c.axis-item.result c.loop-axis-test.true c.axis-item.is c.loop-axis.alike c.len.result
    c.len.ensures c.loop-axis.invariant.alike)
    (place_within c.args.axes.now i c.axis-item.result c.loop-axis-test.true c.axis-item.is c.loop-axis.left (omega arith))

pub loop-axis-preserved : goal.loop-axis-preserved
loop-axis-preserved c =
    let i = c.loop-axis.axis-index in
    let old = map chosen c.loop-axis.picked.items in
    let rest = ways (drop (i + 1) c.args.axes.now) in
    let alike =
    block_from c.args.axes.now i c.axis-item.result c.loop-axis-test.true c.axis-item.is c.loop-axis.alike c.len.result
    c.len.ensures c.loop-axis.invariant.alike in
    let read =
    subst (λ n. c.index-value.result.now ≡ get_or c.axis-item.result.values.items (c.loop-axis.left / n)
    c.index-value.result.now)
    alike c.index-value.ensures in
    let more = picked_more c.args.axes.now i c.axis-item.result c.loop-axis-test.true c.axis-item.is c.loop-axis.left
    c.index-value.result.now (omega arith) read in
    record {
      alike = alike;
      left = mod-lt c.loop-axis.left (omega (arith, alike, some_ways (drop (i + 1) c.args.axes.now)));
      same =
          ap (λ k. map chosen c.push_choices.new.picked.items ++ get_or rest (c.loop-axis.left % k) []) alike
          ∙ (ap (λ p. p ++ get_or rest (c.loop-axis.left % length rest) []) (c.in_ok-push_choices.ensures
          ∙ (ap (λ ks. old ++ set_to (map path_of ks) (map given_by c.deref-in-loop-axis.result.now)) c.deref.ensures.value
          ∙ ap (λ vs. old ++ set_to (map path_of c.axis-item.result.keys.items) (map given_by vs))
          c.deref-in-loop-axis.ensures.value))
          ∙ (append_assoc old (set_to (map path_of c.axis-item.result.keys.items) (settings_in c.index-value.result.now)) _
          ∙ (ap (λ ys. old ++ ys) (sym more) ∙ c.loop-axis.invariant.same)));
    }
