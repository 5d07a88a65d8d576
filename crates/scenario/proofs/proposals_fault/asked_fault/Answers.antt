use Rattle.scenario.proofs.{Words.{◌≡◌, ◌∙◌, length, sym, rules, array_view}, Items.{count_view}}
use Rattle.scenario.proofs.proposals_fault.asked_fault.Goals as goal

pub returns-then-len-from : goal.returns-then-len-from
returns-then-len-from c = λ asks same.
    let n : c.len-then-len-from.result ≡ length c.in_ok-values.values.now.items = search rules in (
      asks,
      record {
        its = array_view c.in_ok-values.values.now;
        there = sym (search rules);
        counted = n ∙ sym (count_view c.in_ok-values.values.now.items);
        wanted = same;
        other = search rules;
      },
    )
