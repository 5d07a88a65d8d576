use Rattle.std.proofs.Common.{◌≡◌, ◌∙◌, ◌++◌, IsTrue, List, ap, sym, subst, append-nil}
use Rattle.std.specs.FinSet as set
use Rattle.process_api.specs.{Answer.{Answer, still}, ConsensusS.{Exchange, step_exchange}, Mind.{AlgorithmState, Exchanging, leaves_out}, Place.{Place}, React.{react_algorithm}, Sets.{Processes}}
use Rattle.process_api.specs.declared.{action.Action.{Action}, message.{StepInput.{StepInput}, Tag.{Tag}}}
use Rattle.process_api.specs.declared.message.StepInput.TheVariants as input
use Rattle.process_api.specs.declared.message.Tag.TheVariants as tag
use Rattle.{consensus_s.specs.State.{RestsSettled, SettlesAlways}, base_tests.specs.Settled.{IsSettled}}
use Rattle.base_tests.proofs.exchange_tests.laws.take_and_wake.Goals as goal

module _ (place : Place) (s : Exchange) (x : StepInput) (suspects : Processes) (a : AlgorithmState) (is : a ≡ (react_algorithm (Exchanging place s) x suspects).state) where
  left_out : IsTrue (leaves_out suspects (Exchanging place s)) → IsTrue (leaves_out suspects a)
  unfolding react_algorithm
  left_out h = subst (λ b. IsTrue (leaves_out suspects b)) (sym is) h

  settled : SettlesAlways → IsSettled suspects a
  unfolding react_algorithm
  settled over = subst (IsSettled suspects) (sym is) (over place.processes place.own (set.contains suspects) x s)

  -- a wake then does nothing
  woken : SettlesAlways → RestsSettled → (t : Tag) → react_algorithm a (input.Wake t) suspects ≡ still a
  unfolding react_algorithm
  woken over rests t =
      let q = set.contains suspects in
      let rest = rests place.processes place.own q (step_exchange place.processes place.own q x s).state (over place.processes place.own q x s) in
      subst (λ b. react_algorithm b (input.Wake t) suspects ≡ still b) (sym is)
      (ap joined rest)
    where
      joined : Answer Exchange → Answer AlgorithmState
      joined r = record { state = Exchanging place r.state; actions = r.actions }

  -- nor is anything added to the input's actions
  acts : SettlesAlways → RestsSettled → (t : Tag) (old one two : List Action)
      → one ≡ old ++ (react_algorithm (Exchanging place s) x suspects).actions → two ≡ one ++ (react_algorithm a (input.Wake t) suspects).actions
      → two ≡ old ++ (react_algorithm (Exchanging place s) x suspects).actions
  acts over rests t old one two f g = g ∙ (ap (λ (r : Answer AlgorithmState). one ++ r.actions) (woken over rests t) ∙ (append-nil one ∙ f))

pub take-requires-2 : goal.take-requires-2
take-requires-2 c = left_out _ _ _ _ _ c.in_ok-take.ensures.state c.requires

pub returns-clause-over : goal.returns-clause-over
returns-clause-over c =
    let first = c.in_ok-take.ensures.state in
    let law = c.law_settled.ensures in
    let rest = ap (λ (r : Answer AlgorithmState). r.state) (woken _ _ _ _ _ first law.over law.rests _) in
    subst (IsSettled c.args.suspects.now) (sym (c.in_ok-take-2.ensures.state ∙ rest)) (settled _ _ _ _ _ first law.over)

pub returns-clause-state : goal.returns-clause-state
returns-clause-state c =
    let first = c.in_ok-take.ensures.state in
    let law = c.law_settled.ensures in
    let rest = ap (λ (r : Answer AlgorithmState). r.state) (woken _ _ _ _ _ first law.over law.rests _) in
    c.in_ok-take-2.ensures.state ∙ (rest ∙ first)

pub returns-clause-actions : goal.returns-clause-actions
returns-clause-actions c =
    let law = c.law_settled.ensures in
    acts _ _ _ _ _ c.in_ok-take.ensures.state law.over law.rests tag.Check _ _ _ c.in_ok-take.ensures.actions c.in_ok-take-2.ensures.actions
