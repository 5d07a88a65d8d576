use Rattle.windows.proofs.Words.{ap, ◌∙◌, Vec}
use Rattle.process_api.specs.declared.entry.Entry.{Entry}
use Rattle.windows.proofs.stage.hand_over_one.Goals as goal

pub returns-clause-berth : goal.returns-clause-berth
returns-clause-berth g c = λ j. (c.args.berth.now.seat, c.in_ok-deliver.ensures.joined j, (ap (λ (v : Vec Entry). v.items) c.replace.ensures.after ∙ c.in_ok-next.ensures) j)
