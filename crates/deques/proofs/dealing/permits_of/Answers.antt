use Rattle.deques.proofs.{Words.{◌<◌, ◌≤◌, ◌++◌, length, map, ap, ◌∙◌, append-nil, rules, one_out, blank, take_all, drop_all}, Deals.{may_give, one_gave, one_given}}
use Rattle.deques.proofs.dealing.permits_of.Goals as goal

pub permit-permit-requires : goal.permit-permit-requires
permit-permit-requires g c =
    let lt : c.loop-at.at < length c.args.owners.now.items = search rules in
    may_give c.args.owners.now.items c.loop-at.owners.items c.loop-at.at c.index_mut.result.now c.index_mut.ensures.value c.loop-at.invariant.0 lt c.requires

pub loop-at-preserved : goal.loop-at-preserved
loop-at-preserved g c =
    let hs = c.args.owners.now.items in
    let now = c.loop-at.owners.items in
    let i = c.loop-at.at in
    let d = c.index_mut.result.now in
    let lt : i < length hs = search rules in (
      one_gave hs now i d c.index_mut.ensures.value c.loop-at.invariant.0 lt c.permit-permit.new.self c.permit-permit.ensures.owner,
      one_given hs now i d c.index_mut.ensures.value c.loop-at.invariant.0 lt c.loop-at.permits.items c.push_reserved.new.self.items c.permit-permit.result c.loop-at.invariant.1 c.permit-permit.ensures.permit c.push_reserved.ensures.items,
      search rules,
      search rules,
    )

pub returns : goal.returns
returns g c =
    let hs = c.args.owners.now.items in
    let end : length hs ≤ c.loop-at.at = search rules in
    record {
      owners = c.loop-at.invariant.0 ∙ (λ j. map one_out (take_all c.loop-at.at hs end j) ++ drop_all c.loop-at.at hs end j) ∙ append-nil (map one_out hs);
      permits = c.loop-at.invariant.1 ∙ ap (map blank) (take_all c.loop-at.at hs end);
    }
