use Rattle.windows.proofs.{Words.{◌∙◌, ◌++◌, [], ◌<◌, ap, append-nil, map, sym, subst, key_cmp, event_of, Has, joined, not_None, all_in, in_box, IsParted}, Agendas.{joined_moved, of_joined}, Letters.{joined_both}}
use Rattle.std.specs.FinMap as events
use Rattle.windows.proofs.agenda.part.Goals as goal

-- all were filed
all_filed : (g : _) (c : goal.In_ok-fill g) → IsParted c.args.end (c.in_ok-events.events.items ++ map event_of c.in_ok-inbox.ensures.filed.0) c.file_inbox.new.self
all_filed g c =
    let p = c.file_events.new.self in
    c.in_ok-inbox.ensures.filed.2 p [] (λ end es had. subst (λ l. IsParted end l p) (sym (append-nil es)) had) c.args.end c.in_ok-events.events.items
    (c.in_ok-file_events.ensures c.args.end [] c.new-parted.ensures)

pub returns-clause-lists : goal.returns-clause-lists
returns-clause-lists g c =
    let h = all_filed g c in
    let p = c.file_inbox.new.self in
    let end = c.args.end in
    record {
      below = λ k y there. of_joined events.empty p.due.items (λ q. q.tick < end) (λ q z has. absurd (not_None z (sym (events.get-empty key_cmp q) ∙ has))) h.below k y (subst (λ m. Has m k y) c.in_ok-fill.ensures.ok there);
      from = h.from;
      next = h.next;
    }

pub returns-clause-same : goal.returns-clause-same
returns-clause-same g c =
    let p = c.file_inbox.new.self in
    let letters = c.in_ok-inbox.ensures.filed in
    ap (λ m. joined m p.later.items) c.in_ok-fill.ensures.ok
    ∙ (joined_both events.empty p.due.items p.later.items
    ∙ ((all_filed g c).same
    ∙ (sym (joined_both events.empty c.in_ok-events.events.items (map event_of letters.0))
    ∙ (ap (λ m. joined m (map event_of letters.0)) c.in_ok-events.ensures
    ∙ sym (joined_moved (all_in c.args.lists) (in_box c.args.inbox) letters.0 letters.1 c.requires)))))
