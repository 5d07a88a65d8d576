use Rattle.runs.proofs.{Words.{◌+◌, take, cond, eqb, count_by, subst, rules, take_all, is_trust, AreCounts}, Trusting.{same_counts, counted_next}}
use Rattle.runs.proofs.trusts.note_all.Goals as goal

pub loop-one-preserved : goal.loop-one-preserved
loop-one-preserved c =
    let n = c.args.n in
    let o = c.args.observer in
    let i = c.loop-one.one-index in
    let notes = c.args.notes.now in record {
      square = search rules;
      so_far = λ of are.
          same_counts n _ (λ q p. of q p + cond (eqb o q) (count_by (is_trust p) (take (i + 1) notes)) 0) c.note.new.counts
          (λ q p. counted_next o q (is_trust p) (of q p) notes i c.one-item.result c.loop-one-test.true c.one-item.is)
          (c.note.ensures _ (c.loop-one.invariant.so_far of are));
    }

pub returns : goal.returns
returns c = λ of are.
    subst (λ ns. AreCounts c.args.n (λ q p. of q p + cond (eqb c.args.observer q) (count_by (is_trust p) ns) 0) c.loop-one.counts)
    (take_all c.loop-one.one-index c.args.notes.now c.loop-one-test.false) (c.loop-one.invariant.so_far of are)
