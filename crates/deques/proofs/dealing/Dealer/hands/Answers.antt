use Rattle.deques.proofs.{Words.{◌≡◌, sym, ap, ◌∙◌, subst, map, length, IfOk, Vec, All, length-map, All-weaker, HandView, dealt_of, many_out, blank, HasTold, AreBlank, IsDealt}, Deals.{have_told, are_blank, many_dealt}}
use Rattle.deques.proofs.dealing.Dealer.hands.Goals as goal

pub hands_of-requires : goal.hands_of-requires
hands_of-requires g c =
    let os = c.self.inside.owners in
    let new = c.all_permits.new.owners in
    let e : new.items ≡ map (many_out os.len) os.items = c.in_ok-lists.ensures.owners in
    let count : new.len ≡ length os.items = new.ok.0 ∙ ap length e ∙ length-map os.items (many_out os.len) in
    record {
      count = c.in_ok-lists.ensures.count ∙ os.ok.0 ∙ sym count;
      owners = subst (All (HasTold new.len (map dealt_of new.items))) (sym e) (have_told os.items os.len new.len (map dealt_of new.items) os.ok.0 count (ap (map dealt_of) e) c.self.invariant);
      lists = All-weaker (λ (v : Vec _). v.items ≡ map blank os.items) (λ (v : Vec _). AreBlank new.len (map dealt_of new.items) v.items)
          (λ v is. are_blank os.items v.items new.len (map dealt_of new.items) count (ap (map dealt_of) e ∙ many_dealt os.len os.items) is) c.in_ok-lists.lists.items c.in_ok-lists.ensures.permits;
    }

pub returns : goal.returns
returns g c =
    let os = c.self.inside.owners in
    let same : map dealt_of c.all_permits.new.owners.items ≡ c.args.self = ap (map dealt_of) c.in_ok-lists.ensures.owners ∙ many_dealt os.len os.items ∙ c.self.view_is in
    record {
      own = subst (λ l. IfOk c.hands_of.result (λ (hands : Vec _). map (λ (h : HandView _). h.own) hands.items ≡ l)) same c.hands_of.ensures.own;
      hands = subst (λ l. IfOk c.hands_of.result (λ (hands : Vec _). All (IsDealt l) hands.items)) same c.hands_of.ensures.hands;
    }
