use Rattle.windows.proofs.{Words.{map, ap, ◌∙◌, refl, None, opened, machines_open}, Opening.{opening_stands, opening_stage}}
use Rattle.windows.proofs.stage.Stage.open.Goals as goal

pub berths_of-requires-after_bounds : goal.berths_of-requires-after_bounds
berths_of-requires-after_bounds g c κs within = machines_open c.args.scenario.now c.recall_ranges.ensures g.M.Process.mind c.args.machines.items c.requires

pub returns-clause-opening : goal.returns-clause-opening
returns-clause-opening g c =
    λ window. opening_stands g.M.Process.mind (record { scenario = c.args.scenario; berths = c.in_ok-berths.berths; start = 0; so_far = 0; workers = 0; mailboxes = None }) c.recall_ranges.ensures refl refl
    (c.in_ok-berths.ensures.processes ∙ ap (map opened) c.requires) c.in_ok-berths.ensures.berths window

pub returns-clause-stage : goal.returns-clause-stage
returns-clause-stage g c =
    opening_stage g.M.Process.mind (record { scenario = c.args.scenario; berths = c.in_ok-berths.berths; start = 0; so_far = 0; workers = 0; mailboxes = None }) c.recall_ranges.ensures refl refl
    (c.in_ok-berths.ensures.processes ∙ ap (map opened) c.requires) c.in_ok-berths.ensures.berths
