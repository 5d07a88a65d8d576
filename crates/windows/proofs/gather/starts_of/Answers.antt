use Rattle.windows.proofs.Words.{length-append, ℕ, List, ◌≡◌, ◌+◌, ◌∷◌, ◌++◌, [], length, refl, ap, ◌∙◌, subst, vec_len, arith, All, into_iter_items, All-push, All-same, All-head, All-tail, MailboxId, MailboxesView, mailboxes_of, unused, HandView, deques_of, all_put, IsDealt, IsFresh, Start, map_turn}
use Rattle.windows.proofs.gather.starts_of.Goals as goal

slip_more : (old new : MailboxesView) (ids : List MailboxId) (before n n' : ℕ) → new ≡ mailboxes_of old.mailboxes (old.slips + 1) → old ≡ mailboxes_of ids (before + n) → n' ≡ n + 1 → new ≡ mailboxes_of ids (before + n')
slip_more old new ids before n n' e is more =
    let many : (before + n) + 1 ≡ before + n' = omega (arith, more) in
    e ∙ (λ i. mailboxes_of ((is i).mailboxes) ((is i).slips + 1)) ∙ ap (mailboxes_of ids) many

pub loop-hand-preserved : goal.loop-hand-preserved
loop-hand-preserved g c =
    let inv = c.loop-hand.invariant in
    let m = c.args.mailboxes.now in
    let all = c.args.dealer in
    let h = c.in-Some.hand in
    let left = into_iter_items c.next.new.self in
    let e : into_iter_items c.loop-hand.hand-iterator ≡ h ∷ left = c.in-Some.ensures.steps.0 in
    let Fresh : Start _ → Type 0 = λ b. IsFresh (deques_of all) m.mailboxes b.hand b.slip in
    let Knows : Start _ → Type 0 = λ b. b.hand.known ≡ all_put all in
    let is : IsDealt all h = All-head (IsDealt all) h left (subst (All (IsDealt all)) e inv.left) in
    let starts = c.loop-hand.starts.items in
    let more : c.push.new.self.items ≡ starts ++ record { hand = h; slip = c.in_ok-slip.slip } ∷ [] = c.in_ok-push.ensures.items in
    let same : c.loop-hand.mailboxes.mailboxes ≡ m.mailboxes = ap (λ (v : MailboxesView). v.mailboxes) inv.slips in
    record {
      own = map_turn (λ (b : Start _). b.hand.own) (λ (v : HandView _). v.own) starts _ (record { hand = h; slip = c.in_ok-slip.slip }) _ left h all more e refl inv.own;
      slips = slip_more c.loop-hand.mailboxes c.slip.new.self m.mailboxes m.slips (vec_len c.loop-hand.starts) (vec_len c.push.new.self) c.in_ok-slip.ensures.mailboxes inv.slips
          (omega (arith, ap length more, length-append starts (record { hand = h; slip = c.in_ok-slip.slip } ∷ []), c.loop-hand.starts.ok.0, c.push.new.self.ok.0));
      fresh = All-same Fresh _ _ more (All-push Fresh starts _ inv.fresh (record { of_deques = is.0; none_taken = is.2; none_posted = c.in_ok-slip.ensures.slip ∙ ap unused same }));
      known = All-same Knows _ _ more (All-push Knows starts _ inv.known is.1);
      left = All-tail (IsDealt all) h left (subst (All (IsDealt all)) e inv.left);
    }
