use Rattle.scenario.proofs.{Words.{◌≡◌, ◌∙◌, map, ap, length, rules, codes, unwrap_or, table_view, tables_at, processes_of}, Taking.{links_length}}
use Rattle.scenario.proofs.links.read_links.Goals as goal

pub returns-clause-all : goal.returns-clause-all
returns-clause-all c =
    let made : c.in_ok-links.links.items ≡ map (λ l. unwrap_or l c.in_ok-common.common) c.in_ok-own.own.items = search rules in
    rw c.requires.numbers.processes (ap length (made ∙ c.in_ok-own.ensures.value c.in_ok-common.common) ∙ links_length c.in_ok-common.common (tables_at (codes "links") (table_view c.args.top.now.table.now)) (processes_of (table_view c.args.top.now.table.now)))
