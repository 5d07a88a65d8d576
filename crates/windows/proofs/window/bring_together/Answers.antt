use Rattle.windows.proofs.{Words.{rules, ◌≡◌, map, sym, ap, ◌∙◌, subst, All-weaker, deques_of, all_put, IsOneTooLong, IsWorkIn, Work, AreReady, given_to, BringsTogether}, Gathered.{run_of_parts}}
use Rattle.windows.proofs.window.bring_together.Goals as goal

pub gather-requires : goal.gather-requires
gather-requires g c =
    let OfAll : Work _ → Type 0 = λ x. x.hand.deques ≡ deques_of (map (λ (y : Work _). y.hand.own) c.args.works.items) in
    (search rules, All-weaker (IsWorkIn g.M.Process.mind c.args.shared.now) OfAll (λ x is. is.of_deques ∙ c.requires.deques) c.args.works.items c.requires.works)

pub run_rest-requires-clause-ready : goal.run_rest-requires-clause-ready
run_rest-requires-clause-ready g c κs within =
    subst (λ l. AreReady g.M.Process.mind c.args.shared.now.window.now (all_put l)) (sym c.in_ok-rest.ensures.own) c.requires.ready

pub returns-in_err-last-clause-limit : goal.returns-in_err-last-clause-limit
returns-in_err-last-clause-limit g c is =
    subst (λ l. IsOneTooLong g.M.Process.mind c.args.shared.now.window.now (all_put l)) c.in_ok-rest.ensures.own (c.run_rest.ensures.limit (search rules))

pub returns-clause-run : goal.returns-clause-run
returns-clause-run g c =
    let w = c.args.shared.now in
    let put : all_put c.in_ok-rest.rest.own ≡ given_to c.args.works.items = ap all_put c.in_ok-rest.ensures.own in
    let brings = subst (λ d. BringsTogether g.M.Process.mind d c.args.works.items c.in_ok-rest.rest.taken c.in_ok-rest.done.items c.in_ok-rest.slips.items) (sym c.requires.deques) c.in_ok-rest.ensures.works in
    let are = brings w.window.now.streams w.window.now.end w.mailboxes.now w.boxes c.requires.works in
    run_of_parts g.M.Process.mind w.window.now.streams w.window.now.end w.mailboxes.now _ c.in_ok-rest.rest c.run_rest.new.rest (given_to c.args.works.items)
    c.in_ok-rest.done.items c.in_ok-last.last.items c.append.new.self.items c.in_ok-rest.slips.items c.push.new.self.items c.in_ok-last.slip
    are c.in_ok-last.ensures.rest (search rules) put c.in_ok-append.ensures.items c.in_ok-push.ensures.items w.boxes
