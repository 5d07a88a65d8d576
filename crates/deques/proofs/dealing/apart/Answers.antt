use Rattle.deques.proofs.Words.{◌≡◌, ◌≤◌, List, ◌∷◌, [], ◌++◌, length, map, ap, sym, subst, ◌∙◌, vec_len, append-nil, arith, All, flat_map, IsPermutation, Vec, into_iter_items, length-map, nil_from_length, All-push, All-same, All-head, All-tail, OwnerView, HandView, PermitView, deques_of, dealt_of}
use Rattle.deques.proofs.Deals.{Counts, count_out_of, map_turn, flat_push, apart_more}
use Rattle.deques.proofs.dealing.apart.Goals as goal

pub loop-hand-preserved : goal.loop-hand-preserved
loop-hand-preserved g c =
    let inv = c.loop-hand.invariant in
    let own_of = λ (h : HandView _). h.own in
    let all = map own_of c.args.hands.items in
    let n = vec_len c.args.hands in
    let h = c.in-Some.hand in
    let o = c.hand.inside.owner in
    let ps = c.hand.inside.permits in
    let left = into_iter_items c.next.new.self in
    let e : into_iter_items c.loop-hand.hand-iterator ≡ h ∷ left = c.in-Some.ensures.steps.0 in
    let owners = c.loop-hand.owners.items in
    let lists = c.loop-hand.lists.items in
    let more : c.push_reserved.new.self.items ≡ owners ++ o ∷ [] = c.push_reserved.ensures.items in
    let listed : c.push_reserved-in-loop-hand.new.self.items ≡ lists ++ ps ∷ [] = c.push_reserved-in-loop-hand.ensures.items in
    let taken_of = λ (x : OwnerView _). x.taken in
    let stolen = λ (v : Vec _). flat_map (λ (p : PermitView _). p.taken) v.items in
    let hand_taken = λ (x : HandView _). x.taken in
    let OfAll : HandView _ → Type 0 = λ x. x.deques ≡ deques_of all in
    let ListOfAll : Vec _ → Type 0 = λ v. map (λ (p : PermitView _). p.deque) v.items ≡ deques_of all in
    let of_all : OfAll h = All-head OfAll h left (subst (All OfAll) e inv.left) in
    let many : length all ≡ n = length-map c.args.hands.items own_of ∙ sym c.args.hands.ok.0 in
    record {
      own = map_turn dealt_of own_of owners c.push_reserved.new.self.items o (into_iter_items c.loop-hand.hand-iterator) left h all more e (ap own_of c.hand.view_is) inv.own;
      owners = All-same (Counts n) c.push_reserved.new.self.items (owners ++ o ∷ []) more
          (All-push (Counts n) owners o inv.owners (count_out_of n ps.len all o ps.items h c.hand.view_is of_all many ps.ok.0 c.hand.invariant.1, c.hand.invariant.2));
      deques = All-same ListOfAll c.push_reserved-in-loop-hand.new.self.items (lists ++ ps ∷ []) listed (All-push ListOfAll lists ps inv.deques (ap (λ (x : HandView _). x.deques) c.hand.view_is ∙ of_all));
      left = All-tail OfAll h left (subst (All OfAll) e inv.left);
      taken = apart_more (flat_map hand_taken c.args.hands.items) (flat_map taken_of owners) (flat_map taken_of c.push_reserved.new.self.items) (flat_map stolen lists) (flat_map stolen c.push_reserved-in-loop-hand.new.self.items)
          h.taken o.taken (stolen ps) (flat_map hand_taken left)
          (subst (λ l. IsPermutation (flat_map hand_taken c.args.hands.items) ((flat_map taken_of owners ++ flat_map stolen lists) ++ flat_map hand_taken l)) e inv.taken)
          (sym (ap hand_taken c.hand.view_is)) (flat_push taken_of owners c.push_reserved.new.self.items o more) (flat_push stolen lists c.push_reserved-in-loop-hand.new.self.items ps listed);
      made = omega (arith, inv.made, ap length e, c.push_reserved.ensures.len);
      count = omega (arith, inv.count, ap length e, c.push_reserved-in-loop-hand.ensures.len);
      room = subst (λ m. n ≤ m) (sym c.push_reserved.ensures.capacity) inv.room;
      space = subst (λ m. n ≤ m) (sym c.push_reserved-in-loop-hand.ensures.capacity) inv.space;
    }

pub returns : goal.returns
returns g c =
    let inv = c.loop-hand.invariant in
    let none : into_iter_items c.loop-hand.hand-iterator ≡ [] = nil_from_length _ (sym c.loop-hand.hand-iterator.rest.ok.0 ∙ c.in-None.ensures.steps.0) in
    let own = map dealt_of c.loop-hand.owners.items in
    let taken = flat_map (λ (o : OwnerView _). o.taken) c.loop-hand.owners.items ++ flat_map (λ (v : Vec _). flat_map (λ (p : PermitView _). p.taken) v.items) c.loop-hand.lists.items in
    record {
      own = sym (append-nil own) ∙ ap (λ (hs : List (HandView _)). own ++ map (λ h. h.own) hs) (sym none) ∙ inv.own;
      owners = inv.owners;
      count = omega (arith, inv.count, ap length none);
      deques = inv.deques;
      taken = subst (IsPermutation _) (append-nil taken) (subst (λ (hs : List (HandView _)). IsPermutation (flat_map (λ h. h.taken) c.args.hands.items) (taken ++ flat_map (λ h. h.taken) hs)) none inv.taken);
    }
