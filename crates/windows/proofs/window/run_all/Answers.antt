use Rattle.windows.proofs.{Words.{rules, arith, length, sym, ap, ◌∙◌, subst, All, own_of, IsSlipOf, Berth, IsNonDecreasingBy-from_sort_by_key, IsCountOfWorkers}, Gathered.{outcome}}
use Rattle.windows.proofs.window.run_all.Goals as goal

pub returns-in_err-done-clause-limit : goal.returns-in_err-done-clause-limit
returns-in_err-done-clause-limit g c is = c.run_berths_of.ensures.limit (search rules)

pub returns-clause-boxes : goal.returns-clause-boxes
returns-clause-boxes g c = ap length c.in_ok-done.ensures.mailboxes ∙ c.requires.boxes

pub returns-clause-slips : goal.returns-clause-slips
returns-clause-slips g c = subst (λ m. All (IsSlipOf m) c.in_ok-done.slips.items) (sym c.in_ok-done.ensures.mailboxes) c.in_ok-done.ensures.run.of_mailboxes

pub returns-clause-outcome : goal.returns-clause-outcome
returns-clause-outcome g c =
    outcome g.M.Process.mind c.args.window.now.streams c.args.window.now.end _ c.args.berths.items c.in_ok-done.done.items _ c.in_ok-done.slips.items c.in_ok-done.ensures.run
    c.requires.ready c.requires.rising c.sort_unstable_by_key.ensures.permutation
    (IsNonDecreasingBy-from_sort_by_key (λ (b : Berth _). own_of g.M.Process.mind b.seat) _ c.sort_unstable_by_key.ensures.sorted (λ a r q k. search rules))

pub returns-clause-workers : goal.returns-clause-workers
returns-clause-workers g c = let w = c.in_ok-done.ensures.workers in subst (IsCountOfWorkers c.args.window.now.end c.args.crew.now.workers c.args.berths.items) (omega (arith, w.2, c.len.ensures)) w.1
