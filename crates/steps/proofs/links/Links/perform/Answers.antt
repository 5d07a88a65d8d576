use Rattle.steps.proofs.Words.{◌≡◌, ◌+◌, ◌∷◌, ◌∙◌, ap, refl, arith, slice_set, drop, Action, IsAllowed, setting_of, posted_by, posting, count_of, added, joining, length-set}
use Rattle.steps.proofs.Performing.{one_counted, one_joined, one_lost, one_sent, one_noted, one_sent_few, one_lost_few, one_room, one_allowed, drop_at}
use Rattle.steps.proofs.links.Links.perform.Goals as goal

pub loop-place-preserved : goal.loop-place-preserved
loop-place-preserved h c =
    let S = setting_of c.args.streams.now in
    let p = c.args.key.now.receiver in
    let now = c.args.key.now.tick in
    let all = c.args.actions.now.items in
    let before = count_of c.args.self.now.counts.items in
    let old = c.loop-place.actions.items in
    let place = c.loop-place.place in
    let a : Action = c.index_mut-action.result.now in
    let rest = drop place old in
    let left = drop (place + 1) (slice_set old place c.act.new.action) in
    let e : rest ≡ a ∷ left = drop_at old place a c.act.new.action (omega (arith, c.loop-place-test.true, c.len-place-end.ensures, c.loop-place.invariant.many)) c.index_mut-action.ensures.value in
    let f = count_of c.loop-place.self.counts.items in
    let g = count_of c.act.new.self.counts.items in
    let i = c.loop-place.invariant in
    let was = c.loop-place.done in
    let is = c.act.new.done in
    let done = c.in_ok-act.ensures in
    let more = done.done in
    let done_serves = c.act.ensures.serves in
    record {
      many = length-set old place c.act.new.action ∙ i.many;
      counts = one_counted all rest left a e p before f g done.counts i.counts;
      places = done.places ∙ i.places;
      horizon = done.horizon ∙ i.horizon;
      room = one_room all rest left a e p before f g done.counts i.room;
      serves = λ first own n h. done_serves first own n (i.serves first own n h);
      added = one_joined all rest left a e p before f g done.counts h.J.Joins.grown (added S p now) (joining S p now f a) refl c.args.added.now c.loop-place.added c.act.new.added done.added i.added;
      heard = one_joined all rest left a e p before f g done.counts h.L.Listener.heard (posted_by S p now) (posting S p now f a) refl c.args.listener.now c.loop-place.listener c.act.new.listener done.heard i.heard;
      sent = one_sent all rest left a e was.sent is.sent (ap (λ x. x.sent) more) i.sent;
      lost = one_lost all rest left a e p before f g done.counts S now was.lost is.lost (ap (λ x. x.lost) more) i.lost;
      notes = one_noted all rest left a e was.notes is.notes (ap (λ x. x.notes) more) i.notes;
      allowed = one_allowed all rest left a e (IsAllowed c.args.streams.now.processes) i.allowed;
      sent_few = one_sent_few all rest left a e was.sent is.sent (ap (λ x. x.sent) more) i.sent_few;
      lost_few = one_lost_few all rest left a e p before f g done.counts S now was.lost is.lost (ap (λ x. x.lost) more) i.lost_few;
    }
