use Rattle.runs.proofs.{Words.{◌++◌, [], map, refl, sym, ◌∙◌, append-nil, setting_of, letter_of}, Coming.{letters_in_trace, only_letters}, Losing.{letters_lost}, Numbered.{letters_are_numbered}, Ordered.{letters_in_order}}
use Rattle.runs.specs.Inside.Book.{HasHeard}
use Rattle.runs.proofs.running.letters.Goals as goal

pub returns-clause-letters : goal.returns-clause-letters
returns-clause-letters g c =
    let heard = c.in_ok-run_list_into.ensures.heard in
    let opened = c.new-book.result in
    let begun : HasHeard opened [] opened = record { scenario = refl; letters = sym (append-nil opened.letters.items) } in
    let ended : HasHeard opened heard.0 c.run_list_into.new.listener = heard.2 opened [] begun in (
      heard.0,
      heard.1,
      ended.letters ∙ (λ i. c.new-book.ensures.none i ++ map (letter_of (setting_of (c.new-book.ensures.scenario i))) heard.0),
    )

pub returns-clause-order : goal.returns-clause-order
returns-clause-order g c = letters_in_order c.args.scenario.now c.recall_ranges.ensures _ (returns-clause-letters g c)

pub returns-clause-trace : goal.returns-clause-trace
returns-clause-trace g c = letters_in_trace c.args.scenario.now c.recall_ranges.ensures _ (returns-clause-letters g c)

pub returns-clause-only : goal.returns-clause-only
returns-clause-only g c = λ others is. only_letters c.args.scenario.now _ others (returns-clause-letters g c) is

pub returns-clause-numbers : goal.returns-clause-numbers
returns-clause-numbers g c = letters_are_numbered c.args.scenario.now _ (returns-clause-letters g c)

pub returns-clause-lost : goal.returns-clause-lost
returns-clause-lost g c = λ trace is. letters_lost c.args.scenario.now _ trace (returns-clause-letters g c) is
