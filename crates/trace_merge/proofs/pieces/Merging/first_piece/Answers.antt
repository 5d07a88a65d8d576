use Rattle.trace_merge.proofs.Words.{◌≡◌, ◌<◌, ◌≤◌, ◌++◌, [], List, map, ap, ◌∙◌, sym, subst, arith, inl, inr, length, with_items_is, All, All-weaker, MatchOption, IsPermutation, IsPermutation-trans, length_permutation, EntryRecord, Lane, AllDiffer, all_of}
use Rattle.trace_merge.proofs.{Distinct.{Ahead, goes_on, rest_differ}, Exists.{has_merge}, Gathering.{rest_of, taken_ahead, taken_before}, pieces.Merging.first_piece.Goals.{in-Some+then-len-least, in_default}}
use Rattle.trace_merge.proofs.pieces.Merging.first_piece.Goals as goal

abbrev rests : List Lane → List EntryRecord
rests lanes = all_of (map rest_of lanes)

pub loop-at-preserved : goal.loop-at-preserved
loop-at-preserved c =
    let v = c.loop-at.lanes in
    let new = c.take_tick.new.lanes in
    let merged = c.loop-at.merged.entries.items in
    let to = c.take_tick.new.merged.entries.items in
    let tick = c.in-Some.tick in
    let h = c.loop-at.invariant in
    let call = c.in_ok-at.ensures in
    let is = ap rests (with_items_is v new (c.take_tick.auto.lanes ∙ (ap length c.deref_mut.ensures.value ∙ sym v.ok.0))) in
    let goes : IsPermutation (merged ++ rests v.items) (to ++ rests new) = subst (λ ls. IsPermutation (merged ++ rests ls) (to ++ rests new)) c.deref_mut.ensures.value call.same in
    let before = subst (λ o. MatchOption o (rests v.items ≡ []) (λ t. All (λ e. e.key.tick < t) merged)) c.in-Some.is h.before in
    let early = call.early (All-weaker (λ e. e.key.tick < tick) (λ e. e.key.tick ≤ tick) (λ e low. omega (arith, low)) merged before) in
    subst (λ es. record { same : IsPermutation (all_of c.args.self) (to ++ es); ahead : Ahead to es; before : MatchOption c.in_ok-at.at (es ≡ []) (λ t. All (λ e. e.key.tick < t) to) }) (sym is)
    (record { same = IsPermutation-trans _ _ _ h.same goes; ahead = taken_ahead tick to (rests new) early call.late; before = taken_before tick (rests new ≡ []) c.in_ok-at.at to call.later early })

pub invariant_of-rest : goal.invariant_of-rest
invariant_of-rest c = rest_differ c.args.self (map rest_of c.loop-at.lanes.items) c.loop-at.merged.entries.items (subst (λ ls. AllDiffer (all_of ls)) c.self.view_is c.self.invariant) c.loop-at.invariant.same

pub returns-clause-front : goal.returns-clause-front
returns-clause-front c =
    let h = c.loop-at.invariant in
    goes_on c.args.self (map rest_of c.loop-at.lanes.items) c.loop-at.merged.entries.items (subst (λ ls. AllDiffer (all_of ls)) c.self.view_is c.self.invariant) h.same c.in_order-piece.result.items c.in_order-piece.ensures.same c.in_order-piece.ensures.order h.ahead

pub returns-clause-left : goal.returns-clause-left
returns-clause-left c = has_merge (map rest_of c.loop-at.lanes.items) (invariant_of-rest c)

pub returns-clause-enough : goal.returns-clause-enough
returns-clause-enough c = elim c.match-at.branch [
  | in-Some+then-len-least w ↦ inl (omega (arith, w.if-len-least.true, w.len.ensures, c.loop-at.merged.entries.ok.0, length_permutation c.loop-at.merged.entries.items c.in_order-piece.result.items c.in_order-piece.ensures.same))
  | in_default w ↦ inr (subst (λ o. MatchOption o (rests c.loop-at.lanes.items ≡ []) (λ t. All (λ e. e.key.tick < t) c.loop-at.merged.entries.items)) w.in_default.is c.loop-at.invariant.before)
]
