use Rattle.deques.proofs.{Words.{rules, ◌≡◌, [], ◌∷◌, ◌++◌, length, map, sym, ap, ◌∙◌, arith, map-append, length-map, All-same, All-push, All-map, OwnerView, Dealt, dealt_of}, Deals.{New, deque_of, dealt_deques}}
use Rattle.deques.proofs.dealing.Dealer.open.Goals as goal

pub loop-preserved : goal.loop-preserved
loop-preserved g c =
    let inv = c.loop.invariant in
    let o = c.in_ok-owner.owner in
    let is = c.in_ok-owner.ensures in
    let owners = c.loop.owners.items in
    let more : c.push_reserved-in-loop.new.self.items ≡ owners ++ o ∷ [] = c.push_reserved-in-loop.ensures.items in
    let Bare : OwnerView _ → Type 0 = λ v. v.put ≡ [] in (
      search rules,
      search rules,
      search rules,
      search rules,
      search rules,
      c.push_reserved.ensures.items ∙ (λ i. inv.5 i ++ c.in_ok-front.ensures i ∷ []) ∙ sym (map-append deque_of owners (o ∷ [])) ∙ ap (map deque_of) (sym more),
      All-same New _ (owners ++ o ∷ []) more (All-push New owners o inv.6 (ap (λ (v : OwnerView _). v.out) is, ap (λ (v : OwnerView _). v.taken) is, ap (λ (v : OwnerView _). v.told) is)),
      All-same Bare _ (owners ++ o ∷ []) more (All-push Bare owners o inv.7 (ap (λ (v : OwnerView _). v.put) is)),
    )

pub returns : goal.returns
returns g c =
    let many : length c.loop.owners.items ≡ c.args.count = omega arith in
    record {
      fronts = c.loop.invariant.5 ∙ sym (dealt_deques c.loop.owners.items);
      count = length-map c.loop.owners.items dealt_of ∙ many;
      none = All-map (λ (d : Dealt _). d.1 ≡ []) dealt_of c.loop.owners.items c.loop.invariant.7;
    }
