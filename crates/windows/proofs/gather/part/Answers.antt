use Rattle.windows.proofs.{Words.{rules, ◌≡◌, ◌∷◌, ◌++◌, [], sym, ◌∙◌, subst, IsPermutation, All-push, All-same, map-id, NoneBelow, Berth}, Gathered.{one_put, one_idle}}
use Rattle.std.proofs.lemmas.Iterator.{Adapters.{YieldsList-from_vec}, Consumers.{YieldsList-end}}
use Rattle.windows.proofs.gather.part.Goals as goal

pub loop-berth-preserved-in-Continue-branch-2 : goal.loop-berth-preserved-in-Continue-branch-2
loop-berth-preserved-in-Continue-branch-2 g c =
    let inv = c.loop-berth.invariant in
    let Waits : Berth _ → Type 0 = λ b. NoneBelow c.args.end b.pending → ⊥ in (
      tt,
      tt,
      one_put c.loop-berth.yielded c.loop-berth.waiting.items c.push.new.self.items c.loop-berth.idle.items c.in-Some.berth inv.2 c.in_ok-push.ensures.items,
      All-same Waits c.push.new.self.items (c.loop-berth.waiting.items ++ c.in-Some.berth ∷ []) c.in_ok-push.ensures.items
          (All-push Waits c.loop-berth.waiting.items c.in-Some.berth inv.3 (c.is_waiting.ensures.yes c.if-is_waiting.true)),
      inv.4,
    )

pub loop-berth-preserved : goal.loop-berth-preserved
loop-berth-preserved g c =
    let inv = c.loop-berth.invariant in
    let Idle : Berth _ → Type 0 = λ b. NoneBelow c.args.end b.pending in (
      tt,
      tt,
      one_idle c.loop-berth.yielded c.loop-berth.waiting.items c.loop-berth.idle.items c.push-else-is_waiting.new.self.items c.in-Some.berth inv.2 c.in_ok-push-2.ensures.items,
      inv.3,
      All-same Idle c.push-else-is_waiting.new.self.items (c.loop-berth.idle.items ++ c.in-Some.berth ∷ []) c.in_ok-push-2.ensures.items
          (All-push Idle c.loop-berth.idle.items c.in-Some.berth inv.4 (c.is_waiting.ensures.no (search rules))),
    )

pub returns-clause-same : goal.returns-clause-same
returns-clause-same g c =
    let b = c.into_iter-berth-iterator.ensures.into_iter_gives in
    let bs = c.args.berths.items in
    let ys = c.loop-berth.yielded in
    let end = YieldsList-end (YieldsList-from_vec bs b.0 (b.1 ∙ c.args.berths.ok.0)) ys c.loop-berth.berth-iterator c.loop-berth.yielded_by c.next.result c.next.new.self c.in-None.is c.next.ensures.steps in
    let same : ys ≡ bs = sym (map-id ys) ∙ end.0 in
    subst (λ l. IsPermutation l (c.loop-berth.waiting.items ++ c.loop-berth.idle.items)) same c.loop-berth.invariant.2
