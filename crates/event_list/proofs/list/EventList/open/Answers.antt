use Rattle.event_list.proofs.{Words.{length, map, ap, ◌∙◌, arith, length-map, numbers_to, opening_mind, process_of, opened, starts, machines_open, length-numbers_to}, Opening.{opening_stands}}
use Rattle.event_list.proofs.list.EventList.open.Goals as goal

pub seats_of-requires-after_bounds : goal.seats_of-requires-after_bounds
seats_of-requires-after_bounds g c κs within = machines_open c.args.scenario.now c.processes-processes.ensures.ranges g.M.Process.mind c.args.machines.items c.requires

pub returns-clause-count : goal.returns-clause-count
returns-clause-count g c =
    let s = c.args.scenario.now in
    let mind = g.M.Process.mind in
    let seats = c.in_ok-seats.seats in
    omega (
      arith,
      seats.ok.0,
      ap length c.in_ok-seats.ensures.processes,
      length-map seats.items (process_of mind),
      length-map (map mind c.args.machines.items) opened,
      ap length c.requires,
      length-map (numbers_to s.processes) (opening_mind s),
      length-numbers_to s.processes,
    )

pub returns-clause-opening : goal.returns-clause-opening
returns-clause-opening g c =
    opening_stands c.args.scenario.now c.processes-processes.ensures.ranges _ _ (c.in_ok-seats.ensures.processes ∙ ap (map opened) c.requires) (c.in_ok-pending.ensures ∙ ap starts c.processes-processes.ensures.value)
