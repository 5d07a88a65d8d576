use Rattle.drawing.proofs.Words.{◌≡◌, ◌∙◌, ◌-◌, ◌++◌, suc, sym, ap, subst, arith, flat_map, numbers_to, others, AreRowsOf, absent, has_row_in, pair_in, group_of, bands_in, group_bands_of, own_of, group_height, group_shapes, group_bands}
use Rattle.drawing.proofs.{Counting.{groups_more, sum_more}, Joining.{numbers_more}}
use Rattle.drawing.proofs.groups.Run.push_group.Goals as goal

pub returns : goal.returns
unfolding group_of group_shapes group_bands_of group_bands pair_in bands_in has_row_in own_of
returns c =
    let run = c.args.self.now in
    let q = c.args.told.now.pid in
    let n = run.scenario.now.processes in
    let all : c.loop-before.before ≡ n = omega arith in
    let p = subst (λ n. AreRowsOf run q (others n q) c.loop-before.rows) all c.loop-before.invariant in
    let k = q - 1 in
    let own : suc k ≡ q = omega (arith, c.requires.low) in
    record {
      shapes = p.shapes ∙ sym (numbers_more (group_of run) k ∙ ap (λ q. flat_map (group_of run) (numbers_to k) ++ group_of run q) own);
      bands = p.bands ∙ sym (numbers_more (group_bands_of run) k ∙ ap (λ q. flat_map (group_bands_of run) (numbers_to k) ++ group_bands_of run q) own);
      top = omega (arith, p.top, groups_more (has_row_in run) n k, ap (group_height (has_row_in run) n) own);
      left_out = omega (arith, p.left_out, sum_more (absent (has_row_in run) n) k, ap (absent (has_row_in run) n) own);
    }
