use Rattle.deques.proofs.Words.{rules, ◌≡◌, ◌<◌, ◌≤◌, ◌+◌, ℕ, suc, ◌∷◌, [], ◌++◌, length, map, ap, sym, subst, ◌∙◌, vec_len, append-nil, List, arith, All, Contains, Vec, into_iter_items, nil_from_length, All-nil, All-push, All-same, All-head, All-tail, OwnerView, HandView, dealt_of, HasTold, AreBlank, IsDealt}
use Rattle.deques.proofs.Deals.{hand_dealt, hand_own, map_turn}
use Rattle.deques.proofs.dealing.hands_of.Goals as goal

low : (place rest left n len many : ℕ) → place + rest ≡ n → rest ≡ suc left → many ≡ n → len ≡ many → place < len
low place rest left n len many p r m e = omega arith

pub loop-owner-init : goal.loop-owner-init
loop-owner-init g c =
    let own = map dealt_of c.args.owners.items in
    let os = into_iter_items c.into_iter-owner-iterator.result in
    let none = c.in_ok-hands.ensures.items in
    let n = vec_len c.args.owners in
    let P : OwnerView _ → Type 0 = HasTold n own in
    let Q : Vec _ → Type 0 = λ v. AreBlank n own v.items in
    let all : os ≡ c.args.owners.items = c.into_iter-owner-iterator.ensures.into_iter_gives.0 in
    let lists : into_iter_items c.into_iter-lists.result ≡ c.args.lists.items = search rules in
    record {
      own = (λ i. map (λ (h : HandView _). h.own) (none i) ++ map dealt_of (all i));
      hands = All-same (IsDealt own) c.in_ok-hands.hands.items [] none (All-nil (IsDealt own));
      owners = subst (All P) (sym all) c.requires.owners;
      blank = subst (All Q) (sym lists) c.requires.lists;
      same = ap length lists ∙ sym c.args.lists.ok.0 ∙ c.requires.count ∙ c.args.owners.ok.0 ∙ sym (ap length all);
      place = omega (arith, ap length all, c.args.owners.ok.0);
      count = omega (arith, ap length all, c.args.owners.ok.0, c.in_ok-hands.ensures.len);
      room = search rules;
    }

pub new-requires : goal.new-requires
new-requires g c =
    let inv = c.loop-owner.invariant in
    let own = map dealt_of c.args.owners.items in
    let n = vec_len c.args.owners in
    let ps = c.in-Some-next.permits in
    let P : OwnerView _ → Type 0 = HasTold n own in
    let Q : Vec _ → Type 0 = λ v. AreBlank n own v.items in
    let told : P c.in-Some.owner = All-head P c.in-Some.owner (into_iter_items c.next.new.self) (subst (All P) c.in-Some.ensures.steps.0 inv.owners) in
    let blank : Q ps = All-head Q ps (into_iter_items c.next-in-loop-owner.new.self) (subst (All Q) c.in-Some-next.ensures.items inv.blank) in (
      low c.loop-owner.place (length (into_iter_items c.loop-owner.owner-iterator)) (length (into_iter_items c.next.new.self)) n ps.len (length ps.items) inv.place (ap length c.in-Some.ensures.steps.0) blank.0 ps.ok.0,
      told.0 ∙ sym blank.0 ∙ sym ps.ok.0,
      told.1,
      λ x here. subst (λ l. Contains l x) (sym blank.2) (told.3 x here),
    )

pub loop-owner-preserved : goal.loop-owner-preserved
loop-owner-preserved g c =
    let inv = c.loop-owner.invariant in
    let own = map dealt_of c.args.owners.items in
    let n = vec_len c.args.owners in
    let o = c.in-Some.owner in
    let ps = c.in-Some-next.permits in
    let left = into_iter_items c.next.new.self in
    let lists_left = into_iter_items c.next-in-loop-owner.new.self in
    let e : into_iter_items c.loop-owner.owner-iterator ≡ o ∷ left = c.in-Some.ensures.steps.0 in
    let f : into_iter_items c.loop-owner.lists ≡ ps ∷ lists_left = c.in-Some-next.ensures.items in
    let P : OwnerView _ → Type 0 = HasTold n own in
    let Q : Vec _ → Type 0 = λ v. AreBlank n own v.items in
    let told : P o = All-head P o left (subst (All P) e inv.owners) in
    let blank : Q ps = All-head Q ps lists_left (subst (All Q) f inv.blank) in
    let own_of = λ (h : HandView _). h.own in
    let hands = c.loop-owner.hands.items in
    let h = c.new.result in
    let more : c.push_reserved.new.self.items ≡ hands ++ h ∷ [] = c.push_reserved.ensures.items in
    record {
      own = map_turn own_of dealt_of hands c.push_reserved.new.self.items h (into_iter_items c.loop-owner.owner-iterator) left o own more e (hand_own o ps.items h c.new.ensures) inv.own;
      hands = All-same (IsDealt own) c.push_reserved.new.self.items (hands ++ h ∷ []) more (All-push (IsDealt own) hands h inv.hands (hand_dealt n own o ps.items h c.new.ensures told blank));
      owners = All-tail P o left (subst (All P) e inv.owners);
      blank = All-tail Q ps lists_left (subst (All Q) f inv.blank);
      same = omega (arith, inv.same, ap length e, ap length f);
      place = omega (arith, inv.place, ap length e);
      count = omega (arith, inv.count, ap length e, c.push_reserved.ensures.len);
      room = subst (λ m. n ≤ m) (sym c.push_reserved.ensures.capacity) inv.room;
    }

pub returns : goal.returns
returns g c =
    let none : into_iter_items c.loop-owner.owner-iterator ≡ [] = nil_from_length _ (sym c.loop-owner.owner-iterator.rest.ok.0 ∙ c.in-None.ensures.steps.0) in
    let own = map (λ (h : HandView _). h.own) c.loop-owner.hands.items in
    record {
      own = sym (append-nil own) ∙ ap (λ (os : List (OwnerView _)). own ++ map dealt_of os) (sym none) ∙ c.loop-owner.invariant.own;
      hands = c.loop-owner.invariant.hands;
    }
