use Rattle.windows.proofs.Words.{◌≡◌, ◌<◌, [], ◌∷◌, ◌++◌, ◌+◌, ◌*◌, map, ap, sym, subst, ◌∙◌, refl, arith, append_assoc, append-nil, length, length-append, most_step_actions, setting_of, process_of, own_of, IsSeated, Has, event_of, all_filed, made_in, most_in_part, BerthRun, berth_opens, berth_longer, berth_ends}
use Rattle.windows.proofs.Letters.{filed_more, one_longer, stands_next}
use Rattle.windows.proofs.berth.run_into.Goals as goal

pub loop-event-init : goal.loop-event-init
loop-event-init g c =
    let b = c.args.berth.now in
    let is = c.requires.berth.1 in
    record {
      fits = refl;
      own = refl;
      stands = (
        [],
        refl,
        [],
        sym (append-nil b.part.items),
        berth_opens (setting_of c.args.streams.now) (own_of g.M.Process.mind b.seat) c.args.end (process_of g.M.Process.mind b.seat) b.pending (λ key x h. is.own key x h ∙ sym is.is),
      );
      seated = λ most h. h;
      within = omega (arith, c.if-len-left.false, c.len.ensures);
    }

pub take-requires-clause-seated : goal.take-requires-clause-seated
take-requires-clause-seated g c κs within =
    let most = most_step_actions * most_in_part in
    let now = c.loop-event.berth.part in
    (most + most_step_actions * length now.items, c.loop-event.invariant.seated most c.requires.berth.1.seated, omega (arith, now.ok.0))

pub loop-event-preserved : goal.loop-event-preserved
loop-event-preserved g c =
    let mind = g.M.Process.mind in
    let b = c.args.berth.now in
    let i = c.loop-event.invariant in
    let old = c.loop-event.berth in
    let new = c.take.new.self in
    let made = i.stands.2 in
    let taken = rw c.in-Some.is at c.in_ok-event.ensures.least in
    let removed = rw c.in-Some.is at c.in_ok-event.ensures.removed in
    let done = c.in_ok-take.ensures in
    let entry = (made_in mind c.args.streams.now old.seat c.in-Some.event).entry in
    let longer : length new.part.items ≡ length old.part.items + 1 = one_longer old.part.items new.part.items _ done.part in
    record {
      fits = done.tray ∙ i.fits;
      own = done.own ∙ i.own;
      stands = (
        i.stands.0 ++ done.letters.0,
        done.letters.2 ∙ (ap (λ z. all_filed z done.letters.0) i.stands.1 ∙ filed_more _ i.stands.0 done.letters.0),
        made ++ entry ∷ [],
        done.part ∙ ap (λ es. es ++ entry ∷ []) i.stands.3 ∙ append_assoc b.part.items made (entry ∷ []),
        stands_next (setting_of c.args.streams.now) (own_of mind b.seat) c.args.end (process_of mind b.seat) b.pending (process_of mind old.seat) old.pending made i.stands.0 i.stands.4
            c.in-Some.event.0 c.in-Some.event.1 taken.0 taken.1 (process_of mind new.seat) c.take_below.new.self new.pending (made ++ entry ∷ []) done.letters.0 done.process removed done.pending refl done.letters.1,
      );
      seated = λ most h. let same : (most + most_step_actions * length old.part.items) + most_step_actions ≡ most + most_step_actions * length new.part.items = omega (arith, longer) in
          subst (λ n. IsSeated mind c.args.streams.now n new.seat) same (done.seated (most + most_step_actions * length old.part.items) (i.seated most h));
      within = omega (arith, longer, new.part.ok.0, old.part.ok.0);
    }

pub returns-then-made-left-clause-limit : goal.returns-then-made-left-clause-limit
returns-then-made-left-clause-limit g c is history after rest letters run =
    let mind = g.M.Process.mind in
    let b = c.args.berth.now in
    let i = c.loop-event.invariant in
    let old = c.loop-event.berth in
    let taken = rw c.in-Some.is at c.in_ok-event.ensures.least in
    let made = i.stands.2 in
    let longer : length made < length history =
    berth_longer (setting_of c.args.streams.now) (own_of mind b.seat) c.args.end (process_of mind b.seat) b.pending (process_of mind old.seat) old.pending made (map event_of i.stands.0) i.stands.4
    c.in-Some.event.0 c.in-Some.event.1 taken.0 taken.1 history after rest letters run in
    omega (arith, longer, c.if-made-left.true, old.part.ok.0, ap length i.stands.3, length-append b.part.items made)

pub returns-clause-ran : goal.returns-clause-ran
returns-clause-ran g c =
    let mind = g.M.Process.mind in
    let S = setting_of c.args.streams.now in
    let b = c.args.berth.now in
    let i = c.loop-event.invariant in
    let old = c.loop-event.berth in
    let made = i.stands.2 in
    let was = i.stands.4 in
    let run = berth_ends S (own_of mind b.seat) c.args.end (process_of mind b.seat) b.pending (process_of mind old.seat) old.pending made (map event_of i.stands.0) was (rw c.in_default.is at c.in_ok-event.ensures.least) in
    λ p is. (
      i.stands.0,
      record {
        history = was.history;
        run = subst (λ m. BerthRun S p c.args.end (process_of mind b.seat) b.pending was.history (process_of mind old.seat) m (map event_of i.stands.0)) (sym (rw c.in_default.is at c.in_ok-event.ensures.removed))
            (subst (λ q. BerthRun S q c.args.end (process_of mind b.seat) b.pending was.history (process_of mind old.seat) old.pending (map event_of i.stands.0)) is run);
        part = i.stands.3 ∙ ap (λ es. b.part.items ++ es) was.part_is;
      },
      i.stands.1,
    )

pub returns-clause-berth : goal.returns-clause-berth
returns-clause-berth g c =
    let i = c.loop-event.invariant in
    λ p most h. record {
      seated = i.seated most h.seated;
      is = i.own ∙ h.is;
      own = λ key x there. i.stands.4.own key x (subst (λ m. Has m key x) (rw c.in_default.is at c.in_ok-event.ensures.removed) there) ∙ h.is;
    }
