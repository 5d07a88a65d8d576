use Rattle.deques.proofs.{Words.{◌≡◌, ◌<◌, ◌+◌, ◌%◌, ℕ, List, sym, ap, ◌∙◌, subst, length, map, set, arith, mod_below, length-map, map-id, parts_agree, OwnerView, HandView, PermitView, hand_at, TookOne}, Dealings.{hand_stole, known_same}}
use Rattle.deques.proofs.Deals.{holds_still, known_in}
use Rattle.deques.proofs.hand.Hand.steal.Goals as goal

next_place : {T : Type 0} (o : OwnerView T) (ps now : List (PermitView T)) (h : HandView T) (at count : ℕ) → hand_at o ps ≡ h → count ≡ length h.deques → now ≡ ps → at < length now → (at + 1) % count < length now
next_place o ps now h at count view e same lt =
    let many : count ≡ length now = e ∙ ap (λ (v : HandView _). length v.deques) (sym view) ∙ length-map ps (λ (p : PermitView _). p.deque) ∙ ap length (sym same) in
    subst (λ n. (at + 1) % count < n) many (mod_below (at + 1) count (omega (arith, lt, many)))

pub steal-requires : goal.steal-requires
steal-requires g c =
    let now = c.loop.self-inside.permits.items in
    let fronts = c.args.fronts.now.items in
    let at = (c.loop.at + 1) % c.len-count.result in
    let lt : at < length now =
    next_place c.self.inside.owner c.self.inside.permits.items now _ c.loop.at c.len-count.result c.self.view_is (c.len-count.ensures ∙ c.args.fronts.now.ok.0 ∙ ap length c.requires) c.loop.invariant.1 c.loop.invariant.0 in
    let same = ap (map (λ (p : PermitView _). p.deque)) c.loop.invariant.1 ∙ ap (λ (h : HandView _). h.deques) c.self.view_is ∙ sym c.requires ∙ sym (map-id fronts) in
    ap (λ (p : PermitView _). p.deque) c.index_mut.ensures.value ∙ parts_agree (λ (p : PermitView _). p.deque) (λ q. q) now fronts at c.index_mut.result.now c.index.result.now lt same ∙ sym c.index.ensures

pub invariant_of-self : goal.invariant_of-self
invariant_of-self g c =
    let now = c.loop.self-inside in
    let old = c.self.inside in
    let inv = c.loop.invariant in
    holds_still old.place now.place old.permits.len now.permits.len old.owner now.owner old.permits.items now.permits.items inv.3 (now.permits.ok.0 ∙ ap length inv.1 ∙ sym old.permits.ok.0) inv.2 (ap known_in inv.1) c.self.invariant

pub invariant_of-self-in-Some : goal.invariant_of-self-in-Some
invariant_of-self-in-Some g c =
    let now = c.loop.self-inside in
    let old = c.self.inside in
    let inv = c.loop.invariant in
    let at = (c.loop.at + 1) % c.len-count.result in
    let lt : at < length now.permits.items =
    next_place c.self.inside.owner c.self.inside.permits.items now.permits.items _ c.loop.at c.len-count.result c.self.view_is (c.len-count.ensures ∙ c.args.fronts.now.ok.0 ∙ ap length c.requires) inv.1 inv.0 in
    holds_still old.place now.place old.permits.len now.permits.len old.owner now.owner old.permits.items (set now.permits.items at c.steal.new.permit) inv.3 (now.permits.ok.0 ∙ ap length inv.1 ∙ sym old.permits.ok.0) inv.2
    (known_same now.owner now.permits.items at c.index_mut.result.now c.steal.new.permit c.index_mut.ensures.value lt (ap (λ p. p.known) c.in-Some.ensures.0) ∙ ap known_in inv.1) c.self.invariant

pub returns-in-Some : goal.returns-in-Some
returns-in-Some g c =
    let now = c.loop.self-inside in
    let inv = c.loop.invariant in
    let at = (c.loop.at + 1) % c.len-count.result in
    let lt : at < length now.permits.items =
    next_place c.self.inside.owner c.self.inside.permits.items now.permits.items _ c.loop.at c.len-count.result c.self.view_is (c.len-count.ensures ∙ c.args.fronts.now.ok.0 ∙ ap length c.requires) inv.1 inv.0 in
    subst (λ h. TookOne h (hand_at now.owner (set now.permits.items at c.steal.new.permit)) c.in-Some.item) ((λ i. hand_at (inv.2 i) (inv.1 i)) ∙ c.self.view_is)
    (hand_stole now.owner now.permits.items at c.index_mut.result.now c.steal.new.permit c.index_mut.ensures.value lt c.in-Some.item c.in-Some.ensures)
