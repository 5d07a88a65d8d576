use Rattle.judges.proofs.{Words.{[], cond, eqb, ap, subst, arith, EntryRecord, AreTurned, noted_turns}, Entering.{pairs_fed, pairs_late}}
use Rattle.judges.proofs.pairs.Pairs.feed.Goals as goal

pub returns-then-entry-self : goal.returns-then-entry-self
returns-then-entry-self g c = λ S layer kept trace h until.
    let m = c.args.self.now in
    pairs_fed g.K.Gauge.passed S layer kept trace c.args.entry.now m h until (omega (arith, ap (λ (e : EntryRecord). e.key.tick) c.entry.view_is)) c.note_all.new.pairs
    (subst (λ old. AreTurned g.K.Gauge.passed m.processes old c.note_all.new.pairs (λ q p. cond (eqb c.args.entry.now.key.receiver q) (noted_turns m.layer p c.args.entry.now.key.tick c.args.entry.now.notes) [])) c.deref_mut.ensures.value
    (subst (λ (e : EntryRecord). AreTurned g.K.Gauge.passed m.processes c.deref_mut.result.now c.note_all.new.pairs (λ q p. cond (eqb e.key.receiver q) (noted_turns m.layer p e.key.tick e.notes) [])) c.entry.view_is
    (subst (λ notes. AreTurned g.K.Gauge.passed m.processes c.deref_mut.result.now c.note_all.new.pairs (λ q p. cond (eqb c.entry.inside.key.receiver q) (noted_turns m.layer p c.entry.inside.key.tick notes) [])) c.as_slice.ensures.value c.note_all.ensures)))
    _ _

pub returns-else-entry-self : goal.returns-else-entry-self
returns-else-entry-self g c = λ S layer kept trace h until.
    pairs_late g.K.Gauge.passed S layer kept trace c.args.entry.now c.args.self.now h until (omega (arith, c.if-entry-self.false, ap (λ (e : EntryRecord). e.key.tick) c.entry.view_is))
