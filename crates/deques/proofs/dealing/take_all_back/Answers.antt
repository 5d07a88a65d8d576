use Rattle.deques.proofs.Words.{◌<◌, List, refl, map, length, get_or, sym, ap, ◌∙◌, subst, arith, All, All-get_or, YieldsList-from_vec, YieldsList-turn, with-nil, with-length, parts_agree, below_parts, length_more, turn_at, turn_more, OwnerView, one_back}
use Rattle.deques.proofs.Deals.{stolen_by, deque_of, from_deque}
use Rattle.deques.proofs.dealing.take_all_back.Goals as goal

pub loop-permit-init : goal.loop-permit-init
loop-permit-init g c = (tt, tt, refl, sym (with-nil one_back _))

pub index_mut-requires : goal.index_mut-requires
index_mut-requires g c =
    let b = c.into_iter-permit-iterator.ensures.into_iter_gives in
    let turn = YieldsList-turn (YieldsList-from_vec c.args.permits.items b.0 (b.1 ∙ c.args.permits.ok.0)) c.loop-permit.yielded c.loop-permit.permit-iterator c.loop-permit.yielded_by c.next.result c.next.new.self c.in-Some.permit c.in-Some.is c.next.ensures.steps in
    let lt = below_parts from_deque deque_of c.args.permits.items c.args.owners.now.items (length c.loop-permit.yielded) c.requires.deques turn.0 in
    omega (arith, lt, c.loop-permit.invariant.2, c.loop-permit.owners.ok.0, ap length c.loop-permit.invariant.3, with-length one_back c.args.owners.now.items (map stolen_by c.loop-permit.yielded))

pub take_back-requires : goal.take_back-requires
take_back-requires g c =
    let b = c.into_iter-permit-iterator.ensures.into_iter_gives in
    let hs = c.args.owners.now.items in
    let ys = c.loop-permit.yielded in
    let d = c.index_mut.result.now in
    let turn = YieldsList-turn (YieldsList-from_vec c.args.permits.items b.0 (b.1 ∙ c.args.permits.ok.0)) c.loop-permit.yielded c.loop-permit.permit-iterator c.loop-permit.yielded_by c.next.result c.next.new.self c.in-Some.permit c.in-Some.is c.next.ensures.steps in
    let lt = below_parts from_deque deque_of c.args.permits.items c.args.owners.now.items (length c.loop-permit.yielded) c.requires.deques turn.0 in
    let was = turn_at one_back stolen_by hs c.loop-permit.owners.items ys c.loop-permit.at d c.index_mut.ensures.value c.loop-permit.invariant.3 c.loop-permit.invariant.2 in
    record {
      deque = ap from_deque turn.1 ∙ parts_agree from_deque deque_of c.args.permits.items hs (length ys) c.in-Some.permit d turn.0 c.requires.deques ∙ sym (ap deque_of was);
      out = subst (λ (o : OwnerView _). 0 < o.out) (sym was) (All-get_or (λ (o : OwnerView _). 0 < o.out) hs (length ys) d lt c.requires.out);
    }

pub loop-permit-preserved : goal.loop-permit-preserved
loop-permit-preserved g c =
    let b = c.into_iter-permit-iterator.ensures.into_iter_gives in
    let ys = c.loop-permit.yielded in
    let turn = YieldsList-turn (YieldsList-from_vec c.args.permits.items b.0 (b.1 ∙ c.args.permits.ok.0)) c.loop-permit.yielded c.loop-permit.permit-iterator c.loop-permit.yielded_by c.next.result c.next.new.self c.in-Some.permit c.in-Some.is c.next.ensures.steps in
    let lt = below_parts from_deque deque_of c.args.permits.items c.args.owners.now.items (length c.loop-permit.yielded) c.requires.deques turn.0 in
    let more = turn_more one_back stolen_by c.args.owners.now.items c.loop-permit.owners.items ys c.loop-permit.at c.index_mut.result.now c.index_mut.ensures.value c.loop-permit.invariant.3 c.loop-permit.invariant.2 c.in-Some.permit c.take_back.new.self lt c.take_back.ensures in
    (tt, tt, length_more ys c.in-Some.permit c.loop-permit.at c.loop-permit.invariant.2, more)
