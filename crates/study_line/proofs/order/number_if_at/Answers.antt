use Rattle.study_line.proofs.Words.{read_number}
use Rattle.study_line.proofs.order.number_if_at.Goals as goal

pub returns : goal.returns
returns c =
    read_number 64 c.args.found.now c.args.id.now c.get_one.result c.get_one.ensures.none c.get_one.ensures.value
