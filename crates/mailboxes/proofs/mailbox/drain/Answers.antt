use Rattle.mailboxes.proofs.Words.{rules, ◌≡◌, ◌∙◌, [], ◌++◌, List, ap, sym, subst, refl, append_assoc, Account, Letter, has_taken, admits, takes, learns, account}
use Rattle.std.proofs.lemmas.Option.{MatchOption-at_some}
use Rattle.mailboxes.proofs.mailbox.drain.Goals as goal

-- more letters were taken
taken_next : (f a b : Account Letter) (xs : List Letter) → f.taken ≡ [] → a ≡ has_taken f a.taken → b ≡ has_taken a xs → b ≡ has_taken f b.taken
taken_next f a b xs none was now =
    now ∙ (λ i. account (was i).made (was i).parts (was i).put ((sym (ap (λ (q : Account Letter). q.taken) now) ∙ ap (λ l. l ++ b.taken) (sym none)) i) (was i).told)

pub try_pop_batch-requires-clause-rule : goal.try_pop_batch-requires-clause-rule
try_pop_batch-requires-clause-rule g c =
    let same = c.head-head.ensures.1.0.2 in
    let i = c.loop.invariant in (
      (λ n some few xs items views count b at. (has_taken _ xs, takes _ _ xs (λ none. i.3 (sym (ap (λ (a : Account Letter). a.parts) same) ∙ none)) items views b at, refl)),
      learns _ _ (c.head-head.ensures.0.2 ∙ i.1) (ap (λ (a : Account Letter). a.parts) same ∙ i.2 ∙ sym (ap (λ (a : Account Letter). a.made) same)),
      admits,
    )

pub loop-preserved-in-Continue-1 : goal.loop-preserved-in-Continue-1
loop-preserved-in-Continue-1 g c =
    let i = c.loop.invariant in
    let a : Account Letter = c.loop.pass.me.view.client in
    let b : Account Letter = c.collect_all.new.pass.me.view.client in
    let held = (MatchOption-at_some _ _ _ c.in-Ok-Some.field-0-is c.in-Ok-Some.ensures.done).2 in
    let now : b ≡ has_taken a held.0 = c.collect_all.ensures.view ∙ held.2 ∙ ap (λ (q : Account Letter). has_taken q held.0) c.head-head.ensures.1.0.2 in (
      search rules,
      search rules,
      search rules,
      search rules,
      search rules,
      taken_next _ a b held.0 c.requires.none i.5 now,
      λ first so_far had.
          subst (g.T.Collects.collected first c.collect_all.new.to) (append_assoc so_far a.taken held.0 ∙ ap (λ t. so_far ++ t) (sym (ap (λ (q : Account Letter). q.taken) now)))
          (c.in_ok-collect_all-in-Ok-Some.ensures.to held.0 held.1 first (so_far ++ a.taken) (i.6 first so_far had)),
    )
