use Rattle.deques.proofs.Words.{◌≡◌, ◌-◌, ◌∷◌, [], ◌++◌, length, map, ap, sym, subst, ◌∙◌, append-nil, ℕ, suc, arith, All, flat_map, IsPermutation, Vec, into_iter_items, nil_from_length, All-tail, HandView, RestView, PermitView, deques_of}
use Rattle.deques.proofs.Deals.{back_more}
use Rattle.deques.proofs.dealing.Rest.of_hands.Goals as goal

one_less : (out rest left : ℕ) → out ≡ rest → rest ≡ suc left → out - 1 ≡ left
one_less out rest left a b = omega arith

pub loop-permits-preserved : goal.loop-permits-preserved
loop-permits-preserved g c =
    let inv = c.loop-permits.invariant in
    let all = map (λ (h : HandView _). h.own) c.args.hands.items in
    let hands = flat_map (λ (h : HandView _). h.taken) c.args.hands.items in
    let ps = c.in-Some.permits in
    let left = into_iter_items c.next.new.self in
    let e : into_iter_items c.loop-permits.permits-iterator ≡ ps ∷ left = c.in-Some.ensures.steps.0 in
    let stolen = λ (v : Vec _). flat_map (λ (p : PermitView _). p.taken) v.items in
    let ListOfAll : Vec _ → Type 0 = λ v. map (λ (p : PermitView _). p.deque) v.items ≡ deques_of all in
    let back = c.take_back.ensures in
    record {
      own = ap (λ (r : RestView _). r.own) back.1 ∙ inv.own;
      out = ap (λ (r : RestView _). r.out) back.1 ∙ one_less _ _ (length left) inv.out (ap length e);
      deques = All-tail ListOfAll ps left (subst (All ListOfAll) e inv.deques);
      taken = subst (λ l. IsPermutation hands (l ++ flat_map stolen left)) (sym (ap (λ (r : RestView _). r.taken) back.1))
          (back_more hands c.loop-permits.rest.taken back.0 (stolen ps) (flat_map stolen left) (subst (λ l. IsPermutation hands (c.loop-permits.rest.taken ++ flat_map stolen l)) e inv.taken) back.2);
    }

pub returns-clause-taken : goal.returns-clause-taken
returns-clause-taken g c =
    let stolen = λ (v : Vec _). flat_map (λ (p : PermitView _). p.taken) v.items in
    let hands = flat_map (λ (h : HandView _). h.taken) c.args.hands.items in
    let none : into_iter_items c.loop-permits.permits-iterator ≡ [] = nil_from_length _ (sym c.loop-permits.permits-iterator.rest.ok.0 ∙ c.in-None.ensures.steps.0) in
    subst (IsPermutation hands) (ap (λ l. c.loop-permits.rest.taken ++ flat_map stolen l) none ∙ append-nil c.loop-permits.rest.taken) c.loop-permits.invariant.taken
