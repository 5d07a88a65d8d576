use Rattle.consensus_s.proofs.Words.{◌∙◌, ap, on_ok_weaker, keep, kept_of}
use Rattle.consensus_s.proofs.letters.keep.Goals as goal

pub returns : goal.returns
returns c = on_ok_weaker c.keep.result (λ e. e ∙ ap (keep (kept_of c.args.letters.now) c.args.round c.args.sender) c.in_ok-copy.ensures) c.keep.ensures
