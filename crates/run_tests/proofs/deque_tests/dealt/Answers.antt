use Rattle.std.proofs.{Common.{◌≡◌, ◌∙◌, sym}, lemmas.List.Elements.{All-weaker}}
use Rattle.deques.specs.Deques.{IsDealt}
use Rattle.run_tests.proofs.deque_tests.dealt.Goals as goal

pub returns : goal.returns
returns c =
    All-weaker (IsDealt c.in_ok-fronts.dealer) (λ h. h.deques ≡ c.in_ok-fronts.fronts.items) (λ h d. d.0 ∙ sym c.in_ok-fronts.ensures.fronts)
    c.in_ok-hands.hands.items c.in_ok-hands.ensures.hands
