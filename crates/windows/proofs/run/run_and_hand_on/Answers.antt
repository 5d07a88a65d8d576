use Rattle.windows.proofs.{Words.{rules, sym, subst, inl, inr, arith}, Waiting.{took_nothing}}
use Rattle.windows.specs.{Inside.Closing.{HandedOn}, declared.run.Handing.{Handing}}
use Rattle.windows.proofs.run.run_and_hand_on.Goals as goal

pub returns-clause-handed : goal.returns-clause-handed
returns-clause-handed g c =
    let Beside = λ (h : Handing _). HandedOn g.K.Sink.took g.K.Sink.took_front g.K.Sink.failed c.args.parts.items h.left.parts.items c.args.sink.now h.sink.now h.left.told in
    let beside : Beside c.run_parts-ran.new.chore = elim c.run_parts-ran.ensures.chore [
      | inl same ↦ subst Beside (sym same) (record { waiting = c.requires.waiting; took_all = took_nothing g.K.Sink.took c.args.parts.items c.args.sink.now; front = tt; errors = tt; count = omega arith })
      | inr did ↦ did
    ] in
    search (rules, beside)
