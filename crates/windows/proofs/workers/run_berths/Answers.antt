use Rattle.windows.proofs.{Words.{IfOk-from_err, rules, ◌≡◌, refl, sym, ap, ◌∙◌, subst, Contains, All-contains, HandView, SlipView, IsWorkBy, IsReady, Berth}, Posting.{posting_opens}, Gathered.{work_begins, work_more}}
use Rattle.windows.proofs.{Refused.{memory_alone, not_err}, workers.run_berths.Goals.{in-None, in-Some+in_default}}
use Rattle.windows.proofs.workers.run_berths.Goals as goal

pub loop-init : goal.loop-init
loop-init g c =
    let w = c.args.shared.now in
    let fresh = c.requires.0 in
    let begins = posting_opens _ _ _ (ap (λ (s : SlipView). s.mailboxes) fresh.none_posted) c.in_ok-tray.ensures.fits c.in_ok-tray.ensures.empty _ c.in_ok-tray.ensures.slip in (
      subst (λ s. IsWorkBy g.M.Process.mind w c.args.start.hand s c.in_ok-done.done.items) (sym begins.1) (work_begins g.M.Process.mind w.window.now.streams w.window.now.end w.mailboxes.now w.fronts.now.items _ _ _ fresh c.in_ok-done.ensures.items),
      begins.0,
      refl,
      refl,
    )

pub run_taken-requires-clause-ready : goal.run_taken-requires-clause-ready
run_taken-requires-clause-ready g c κs within =
    All-contains (IsReady g.M.Process.mind c.args.shared.now.window.now.streams) c.args.start.hand.known c.in-Some-take.berth c.requires.1
    (subst (λ l. Contains l c.in-Some-take.berth) c.loop.invariant.2 c.in-Some-take.ensures.3)

pub loop-preserved : goal.loop-preserved
loop-preserved g c =
    let inv = c.loop.invariant in
    let took = c.in-Some-take.ensures in (
      work_more g.M.Process.mind c.args.shared.now.window.now.streams c.args.shared.now.window.now.end c.args.shared.now.mailboxes.now c.args.shared.now.fronts.now.items _ _ _ _ _ _ c.in-Some-take.berth inv.0 took
          (c.in_ok-run_taken.ensures.ran _ inv.0.run),
      c.in_ok-run_taken.ensures.posting,
      ap (λ (h : HandView (Berth _)). h.known) took.1 ∙ inv.2,
      ap (λ (h : HandView (Berth _)). h.own) took.1 ∙ inv.3,
    )

pub returns : goal.returns
returns g c =
    elim c.match-next.branch [
      | in-None w ↦ absurd (search rules)
      | in-Some+in_default w ↦
          let same : c.match-next.hand ≡ c.loop.hand = w.hand-is ∙ w.in_default.ensures in
          record {
            own = ap (λ (h : HandView (Berth _)). h.own) same ∙ c.loop.invariant.3;
            work = subst (λ (p : HandView (Berth _) × SlipView). IsWorkBy g.M.Process.mind c.args.shared.now p.0 p.1 c.loop.done.items) (λ i. (sym same i, sym (c.keep.ensures ∙ c.in_ok-post_all.ensures.ok) i)) c.loop.invariant.0;
            errors = tt;
            limit = λ is. absurd (not_err _ _ is);
          }
    ]

pub returns-in_err-run_taken : goal.returns-in_err-run_taken
returns-in_err-run_taken g c =
    let is = c.from_residual-in_err-run_taken.ensures.0 in
    record {
      own = IfOk-from_err _ _ is;
      work = IfOk-from_err _ _ is;
      errors = search rules;
      limit = λ is. (
        c.in-Some-take.berth,
        subst (λ l. Contains l c.in-Some-take.berth) c.loop.invariant.2 c.in-Some-take.ensures.3,
        λ history after rest letters run. c.run_taken.ensures.limit (search rules) history after rest letters run,
      );
    }

pub returns-in_err-post_all : goal.returns-in_err-post_all
returns-in_err-post_all g c =
    let is = c.from_residual-in_err-post_all.ensures.0 in
    record {
      own = IfOk-from_err _ _ is;
      work = IfOk-from_err _ _ is;
      errors = search rules;
      limit = λ is. absurd (memory_alone c.from_residual-in_err-post_all.result (search rules) is);
    }
