use Rattle.{std.proofs.Common.{rules}, diagnosis.specs.Text.{found}}
use Rattle.diagnosis.proofs.answer.refused_table.Goals as goal

pub returns : goal.returns
returns c = record {
  other = search rules;
  applies = c.requires.applies (search rules);
  its = found c.in-Some.finding c.in_ok-meant.meant;
  is_reason = (rw c.in-Some.is at c.requires.finds, c.in_ok-meant.ensures);
  told = search rules;
}
