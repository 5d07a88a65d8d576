use Rattle.std.proofs.{Common.{◌≡◌}, lemmas.List.Elements.{All-pop}}
use Rattle.run_tests.proofs.deque_tests.last_of.Goals as goal

pub returns-clause-last : goal.returns-clause-last
returns-clause-last c =
    (All-pop (λ h. h.deques ≡ c.args.fronts.now.items) c.args.hands.now.items c.pop.new.self.items c.pop.result c.pop.ensures.items c.requires).1

pub returns-clause-others : goal.returns-clause-others
returns-clause-others c =
    (All-pop (λ h. h.deques ≡ c.args.fronts.now.items) c.args.hands.now.items c.pop.new.self.items c.pop.result c.pop.ensures.items c.requires).0
