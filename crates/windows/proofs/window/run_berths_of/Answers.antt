use Rattle.windows.proofs.{Words.{rules, refl, inl, inr, ℕ, ◌≡◌, ◌<◌, ◌≤◌, ◌⊎◌, zero, suc, MailboxesView, vec_len, ap, sym, ◌∙◌, subst, min, length, arith, length-map, All-permutation, all_put, deques_of, AreReady, IsOneTooLong, IsReady, Start}, Gathered.{all_dealt, fresh_at, long_dealt, run_at, run_with_idle}}
use Rattle.std.proofs.Math.Nat.{le-min, min-le_right}
use Rattle.windows.proofs.window.run_berths_of.Goals as goal

-- at least one is dealt to, or nothing is dealt
some_or_none : (n w : ℕ) → 0 < w → (0 < min n w) ⊎ (n ≡ 0)
some_or_none zero w some = inr refl
some_or_none (suc n) w some =
    let both : 1 ≤ min (suc n) w = le-min (omega arith) (omega (arith, some)) in
    inl (omega (arith, both))

pub deal-requires : goal.deal-requires
deal-requires g c =
    let waiting = c.in_ok-waiting.waiting in
    let count : c.min-count.result ≡ min (vec_len waiting) c.args.crew.now.workers = c.min-count.ensures ∙ (λ i. min (c.len.ensures i) (c.from.ensures i)) in
    subst (λ n. (0 < n) ⊎ (vec_len waiting ≡ 0)) (sym count) (some_or_none _ _ c.requires.some)

pub in_threads-works-requires-clause-starts : goal.in_threads-works-requires-clause-starts
in_threads-works-requires-clause-starts g c κs within k d lt =
    let Ready = IsReady g.M.Process.mind c.args.window.now.streams in
    let waiting = c.in_ok-waiting.waiting.items in
    let ready = (all_dealt Ready c.args.berths.items waiting c.in_ok-waiting.idle.items c.in_ok-waiting.ensures.same c.requires.ready).0 in
    let dealt = All-permutation Ready waiting (all_put c.in_ok-fronts.dealer) c.in_ok-fronts.ensures.all ready in (
      fresh_at _ _ _ _ c.in_ok-starts.starts.items c.in_ok-starts.ensures.fresh (sym c.in_ok-fronts.ensures.fronts) (search rules) k d lt,
      subst (AreReady g.M.Process.mind c.args.window.now) (sym (c.in_ok-starts.ensures.known k d lt)) dealt,
    )

pub bring_together-requires-clause-deques : goal.bring_together-requires-clause-deques
bring_together-requires-clause-deques g c κs within = c.in_ok-fronts.ensures.fronts ∙ ap deques_of (sym (c.in_ok-works.ensures.works.own ∙ c.in_ok-starts.ensures.own))

pub bring_together-requires-clause-works : goal.bring_together-requires-clause-works
bring_together-requires-clause-works g c κs within = c.in_ok-works.ensures.works.works

pub bring_together-requires-clause-ready : goal.bring_together-requires-clause-ready
bring_together-requires-clause-ready g c κs within =
    let Ready = IsReady g.M.Process.mind c.args.window.now.streams in
    let waiting = c.in_ok-waiting.waiting.items in
    let ready = (all_dealt Ready c.args.berths.items waiting c.in_ok-waiting.idle.items c.in_ok-waiting.ensures.same c.requires.ready).0 in
    subst (λ l. AreReady g.M.Process.mind c.args.window.now (all_put l)) (sym (c.in_ok-works.ensures.works.own ∙ c.in_ok-starts.ensures.own)) (All-permutation Ready waiting (all_put c.in_ok-fronts.dealer) c.in_ok-fronts.ensures.all ready)

pub returns-in_err-works-clause-limit : goal.returns-in_err-works-clause-limit
returns-in_err-works-clause-limit g c is =
    let w = c.args.window.now in
    long_dealt g.M.Process.mind w.streams w.end w.left c.args.berths.items c.in_ok-waiting.waiting.items (all_put c.in_ok-fronts.dealer) c.in_ok-waiting.idle.items c.in_ok-waiting.ensures.same c.in_ok-fronts.ensures.all
    (c.in_threads-works.ensures.works.limit (search rules) (all_put c.in_ok-fronts.dealer) c.in_ok-starts.ensures.known)

pub returns-in_err-done-clause-limit : goal.returns-in_err-done-clause-limit
returns-in_err-done-clause-limit g c is =
    let w = c.args.window.now in
    long_dealt g.M.Process.mind w.streams w.end w.left c.args.berths.items c.in_ok-waiting.waiting.items (all_put c.in_ok-fronts.dealer) c.in_ok-waiting.idle.items c.in_ok-waiting.ensures.same c.in_ok-fronts.ensures.all
    (subst (λ l. IsOneTooLong g.M.Process.mind w (all_put l)) (c.in_ok-works.ensures.works.own ∙ c.in_ok-starts.ensures.own) (c.bring_together.ensures.limit (search rules)))

pub returns-clause-run : goal.returns-clause-run
returns-clause-run g c =
    let w = c.args.window.now in
    let waiting = c.in_ok-waiting.waiting.items in
    let run = run_at g.M.Process.mind w.streams w.end _ c.args.mailboxes.now.mailboxes waiting _ (all_put c.in_ok-fronts.dealer) _ _ c.in_ok-done.ensures.run (search rules) (ap all_put (c.in_ok-works.ensures.works.own ∙ c.in_ok-starts.ensures.own)) c.in_ok-fronts.ensures.all in
    run_with_idle g.M.Process.mind w.streams w.end c.args.mailboxes.now.mailboxes c.args.berths.items waiting c.in_ok-waiting.idle.items c.in_ok-done.done.items c.append.new.self.items
    c.in_ok-done.slips.items run c.in_ok-waiting.ensures.same c.in_ok-waiting.ensures.idle c.in_ok-append.ensures.items

pub returns-clause-workers : goal.returns-clause-workers
returns-clause-workers g c =
    let waiting = c.in_ok-waiting.waiting in
    let parted = c.in_ok-waiting.ensures in
    let starts = c.in_ok-starts.starts in (
      c.min-count.result,
      record { waiting = waiting.items; idle = c.in_ok-waiting.idle.items; all = parted.same; some = parted.waiting; none = parted.idle; count = c.min-count.ensures ∙ (λ i. min ((c.len.ensures ∙ waiting.ok.0) i) (c.from.ensures i)) },
      omega (arith, c.in_ok-done.ensures.slips, c.in_ok-works.ensures.works.count, length-map starts.items (λ (s : Start _). s.hand.own), ap length c.in_ok-starts.ensures.own, c.in_ok-fronts.ensures.count),
    )

pub in_threads-works-requires-clause-few : goal.in_threads-works-requires-clause-few
in_threads-works-requires-clause-few g c κs within =
    let starts = c.in_ok-starts.starts in
    omega (arith, starts.ok.0, length-map starts.items (λ (s : Start _). s.hand.own), ap length c.in_ok-starts.ensures.own, c.in_ok-fronts.ensures.count, c.min-count.ensures, min-le_right c.len.result c.from.result, c.from.ensures, c.requires.few)

pub in_threads-works-requires-clause-chore : goal.in_threads-works-requires-clause-chore
in_threads-works-requires-clause-chore g c κs within = c.requires.chore

pub returns-clause-mailboxes : goal.returns-clause-mailboxes
returns-clause-mailboxes g c =
    ap (λ (m : MailboxesView). m.mailboxes) c.in_ok-starts.ensures.mailboxes ∙ ap (λ (m : MailboxesView). m.mailboxes) c.in_ok-slip.ensures.mailboxes

pub returns-clause-slips : goal.returns-clause-slips
returns-clause-slips g c =
    omega (arith, c.in_ok-done.ensures.slips, c.in_ok-works.ensures.works.count, c.in_ok-starts.starts.ok.0, ap (λ (m : MailboxesView). m.slips) c.in_ok-starts.ensures.mailboxes, ap (λ (m : MailboxesView). m.slips) c.in_ok-slip.ensures.mailboxes, c.requires.slips)

pub returns-clause-worked : goal.returns-clause-worked
returns-clause-worked g c = c.in_threads-works.ensures.chore

pub returns-clause-chore : goal.returns-clause-chore
returns-clause-chore g c = inr c.in_threads-works.ensures.chore

pub returns-clause-place : goal.returns-clause-place
returns-clause-place g c = c.in_threads-works.ensures.place
