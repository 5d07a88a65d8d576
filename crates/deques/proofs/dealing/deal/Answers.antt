use Rattle.deques.proofs.Words.{◌≡◌, ◌<◌, ◌%◌, ◌⊎◌, inl, inr, ℕ, [], length, get_or, map, arith, refl, sym, ap, ◌∙◌, subst, IsPermutation, IsPermutation-refl, mod_below, YieldsList-from_vec, YieldsList-turn, YieldsList-end, map-id, length_more, deques_of, all_put, AreShares}
use Rattle.deques.proofs.Deals.{shares_none, shares_more, none_put, with_length, with_deques, with_more}
use Rattle.deques.proofs.dealing.deal.Goals as goal

some_deque : (count len n k : ℕ) → (0 < count) ⊎ (len ≡ 0) → k < n → len ≡ n → 0 < count
some_deque count len n k (inl some_count) lt e = some_count
some_deque count len n k (inr none) lt e = absurd (omega arith)

pub loop-item-init : goal.loop-item-init
loop-item-init g c =
    let made = c.in_ok-fronts in (
      tt,
      tt,
      refl,
      made.ensures.count,
      made.ensures.fronts,
      shares_none c.args.count made.dealer made.ensures.none,
      subst (IsPermutation []) (sym (none_put made.dealer made.ensures.none)) (IsPermutation-refl []),
    )

pub loop-item-preserved : goal.loop-item-preserved
loop-item-preserved g c =
    let inv = c.loop-item.invariant in
    let ys = c.loop-item.yielded in
    let x = c.in-Some.item in
    let ds = c.loop-item.dealer in
    let at = c.loop-item.dealt % c.args.count in
    let new = c.in_ok-put.ensures in
    let b = c.into_iter-item-iterator.ensures.into_iter_gives in
    let all = c.args.items in
    let turn : (length ys < length all.items) × (x ≡ get_or all.items (length ys) x) =
    YieldsList-turn (YieldsList-from_vec all.items b.0 (b.1 ∙ all.ok.0)) ys c.loop-item.item-iterator c.loop-item.yielded_by c.next.result c.next.new.self x c.in-Some.is c.next.ensures.steps in
    let lt : at < length ds = subst (λ n. at < n) (sym inv.3) (mod_below c.loop-item.dealt c.args.count (some_deque c.args.count all.len (length all.items) (length ys) c.requires turn.0 all.ok.0)) in (
      tt,
      tt,
      length_more ys x c.loop-item.dealt inv.2,
      ap length new ∙ with_length ds at x ∙ inv.3,
      inv.4 ∙ sym (with_deques ds at x) ∙ ap deques_of (sym new),
      shares_more c.args.count c.loop-item.dealt at ys ds c.put.new.self x inv.5 inv.2 refl lt new,
      with_more ys ds c.put.new.self at x lt new inv.6,
    )

pub returns : goal.returns
returns g c =
    let inv = c.loop-item.invariant in
    let ys = c.loop-item.yielded in
    let ds = c.loop-item.dealer in
    let b = c.into_iter-item-iterator.ensures.into_iter_gives in
    let all = c.args.items in
    let end = YieldsList-end (YieldsList-from_vec all.items b.0 (b.1 ∙ all.ok.0)) ys c.loop-item.item-iterator c.loop-item.yielded_by c.next.result c.next.new.self c.in-None.is c.next.ensures.steps in
    let done : ys ≡ all.items = sym (map-id ys) ∙ end.0 in
    record {
      fronts = inv.4;
      count = inv.3;
      shares = subst (λ l. AreShares c.args.count l (map (λ d. d.1) ds)) done inv.5;
      all = subst (λ l. IsPermutation l (all_put ds)) done inv.6;
    }
