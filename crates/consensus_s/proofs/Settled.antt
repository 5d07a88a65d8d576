-- The number of waits that may end is enough: after an input no wait is over. While a process doesn't suspect itself, one wait ends at most.
use Rattle.consensus_s.proofs.Words.{◌≡◌, ◌⊎◌, ℕ, zero, suc, ◌+◌, ◌<◌, ◌≤◌, inl, inr, refl, sym, ap, ◌∙◌, subst, Bool, true, false, cond, ◌&&◌, ◌||◌, arith, nat_lt, nat_le, nat_eq, Option, None, Some, IfSome, is_some, unwrap_or, List, [], ◌++◌, length, append_assoc, append-nil, leb-true, leb-false, ltb-true, ltb-false, eqb-true, and_parts, cond_both, both_ways, not-true, nat_tests, Vector, Exchange, all_to, keep, above, enter, is_running, is_over, gather, decide, end_wait, end_waits, waits_left, is_timely, receive_cells, receive, begin, step_exchange, IsOrderly, end_one}
use Rattle.std.proofs.lemmas.Option.{none-some}
use Rattle.process_api.specs.{Answer.{Answer, still, after, to_all}, declared.{message.{Payload.{Payload}, StepInput.{StepInput}}, action.Action.{Action}}}
use Rattle.process_api.specs.declared.message.Payload.TheVariants as payload
use Rattle.process_api.specs.declared.message.StepInput.TheVariants as input
use Rattle.process_api.proofs.Sending.{length-to_all}
use Rattle.process_api.proofs.Waits as waits

last_or : (q n : ℕ) → q ≤ suc n → (q ≡ suc n) ⊎ (q ≤ n)
last_or q n h = grind arith

-- what is meant of all of 1 to n is meant of each
all_each : (n : ℕ) (which : ℕ → Bool) (q : ℕ) → all_to n which ≡ true → 1 ≤ q → q ≤ n → which q ≡ true
all_each zero which q is low high = absurd (omega arith)
all_each (suc n) which q is low high = go (last_or q n high) (and_parts (all_to n which) (which (suc n)) is) (all_each n which q)
  where
    go : (q ≡ suc n) ⊎ (q ≤ n) → (all_to n which ≡ true) × (which (suc n) ≡ true) → (all_to n which ≡ true → 1 ≤ q → q ≤ n → which q ≡ true) → which q ≡ true
    go (inl e) parts rest = ap which e ∙ parts.1
    go (inr h) parts rest = rest parts.0 low h

module _ (n own : ℕ) (is_suspected : ℕ → Bool) where
  -- a wait that is over in a round before the last enters the next
  pub ends_round : (s : Exchange) → is_running n own s ≡ true → is_over n own is_suspected s ≡ true → nat_lt s.round n ≡ true → end_one n own is_suspected s ≡ enter n own (s.round + 1) (gather n own s)
  ends_round s runs over early = λ i. ends (cond (runs i && over i) (Some (cond (early i) (enter n own (s.round + 1) (gather n own s)) (decide n own s))) None)
    where
      ends : Option (Answer Exchange) → Answer Exchange
      ends o = elim o [ None ↦ still s | Some a ↦ a ]

  -- after the end of a wait fewer can end
  abbrev Fewer : ℕ → Answer Exchange → Type 0
  Fewer k a = waits_left n own a.state < k

  -- a wait goes on, or a round is left, or the decision is made
  by_end : (s : Exchange) (P : Option (Answer Exchange) → Type 0) → P None → ((is_running n own s && is_over n own is_suspected s) ≡ true → (nat_lt s.round n ≡ true → P (Some (enter n own (s.round + 1) (gather n own s))))
      × (nat_lt s.round n ≡ false → P (Some (decide n own s)))) → P (end_wait n own is_suspected s)
  by_end s P none ended =
      let next = cond (nat_lt s.round n) (enter n own (s.round + 1) (gather n own s)) (decide n own s) in
      cond_both (is_running n own s && is_over n own is_suspected s) (Some next) None P
      (λ is. cond_both (nat_lt s.round n) (enter n own (s.round + 1) (gather n own s)) (decide n own s) (λ a. P (Some a)) (ended is).0 (ended is).1) (λ _. none)

  in_round : (s : Exchange) → (is_running n own s && is_over n own is_suspected s) ≡ true → s.round ≤ n
  in_round s is = leb-true s.round n (and_parts (nat_le 1 s.round) _ (and_parts (is_running n own s) _ is).0).1

  wait_fewer : (s : Exchange) → IfSome (end_wait n own is_suspected s) (Fewer (waits_left n own s))
  wait_fewer s = by_end s (λ o. IfSome o (Fewer (waits_left n own s))) tt (λ is. (λ early. let low : s.round < n = ltb-true _ _ early in omega arith, λ _. let high : s.round ≤ n = in_round s is in omega arith))

  abbrev at_most : ℕ → Exchange → Answer Exchange
  at_most k s = end_waits n own k is_suspected s

  -- after an input no wait is over
  pub settled : (x : StepInput) (s : Exchange) → end_wait n own is_suspected (step_exchange n own is_suspected x s).state ≡ None
  settled x s = waits.over (end_wait n own is_suspected) at_most (λ s. refl) (λ k s. refl) (waits_left n own) wait_fewer (waits_left n own (begin n own x s).state) (begin n own x s).state (omega arith)

  -- where no wait is over nothing is done
  pub stops : (k : ℕ) (s : Exchange) → end_wait n own is_suspected s ≡ None → end_waits n own k is_suspected s ≡ still s
  stops = waits.stops (end_wait n own is_suspected) at_most (λ s. refl) (λ k s. refl)

  module _ (first : 1 ≤ own) (last : own ≤ n) (not_itself : is_suspected own ≡ false) where
    -- without the own letter no wait is over
    needs_own : (s : Exchange) → s.kept s.round own ≡ None → end_wait n own is_suspected s ≡ None
    needs_own s none = by_end s (λ o. o ≡ None) refl (λ is. absurd (both_ways _ (ap (λ o. is_some o || is_suspected own) none ∙ not_itself)
        (all_each n (λ q. is_some (s.kept s.round q) || is_suspected q) own (and_parts (is_running n own s) _ is).1 first last)))

    -- when a round is left, no own letter is kept
    left_none : (s : Exchange) → IsOrderly own s → (r : ℕ) → above s.round s.kept r own ≡ None
    left_none s orderly r = cond_both (nat_le r s.round) None (s.kept r own) (λ (o : Option Vector). o ≡ None) (λ _. refl) (λ is. orderly r (leb-false _ _ is))

    -- what ends a wait: nothing waits then, the process is orderly, and few actions are made
    abbrev IsQuiet : Answer Exchange → Type 0
    IsQuiet a = (end_wait n own is_suspected a.state ≡ None) × IsOrderly own a.state × (length a.actions ≤ n + 1)

    enter_quiet : (round : ℕ) (s : Exchange) → ((r : ℕ) → round ≤ r → s.kept r own ≡ None) → IsQuiet (enter n own round s)
    enter_quiet round s none = (
      needs_own (record s { round = round }) (none round (omega arith)),
      (λ r later. none r (omega arith)),
      few (cond (nat_lt round n) (payload.Vector round s.news) (payload.Last s.known)),
    )
      where
        few : (what : Payload) → suc (length (to_all n what)) ≤ n + 1
        few what = omega (arith, length-to_all n what)

    -- past the last round nothing waits
    ended : (s : Exchange) → n < s.round → end_wait n own is_suspected s ≡ None
    ended s past = by_end s (λ o. o ≡ None) refl (λ is. absurd (let high : s.round ≤ n = in_round s is in omega arith))

    end_quiet : (s : Exchange) → IsOrderly own s → IfSome (end_wait n own is_suspected s) IsQuiet
    end_quiet s orderly = by_end s (λ o. IfSome o IsQuiet) tt (λ is. (
      λ _. enter_quiet (s.round + 1) (gather n own s) (λ r later. left_none s orderly r),
      λ late. let high : n ≤ s.round = ltb-false _ _ late in (ended (decide n own s).state (omega arith), (λ r later. left_none s orderly r), omega arith),
    ))

    -- what an input begins: the process stays orderly, and either few actions are made and no wait is over, or none is made
    abbrev Begun : Answer Exchange → Type 0
    Begun a = IsOrderly own a.state × ((IsQuiet a) ⊎ (a.actions ≡ []))

    keep_none : (s : Exchange) (sender round : ℕ) (cells : Vector) → IsOrderly own s → (nat_eq sender own && nat_lt s.round round) ≡ false
        → (r : ℕ) → s.round < r → keep s.kept round sender cells r own ≡ None
    keep_none s sender round cells orderly is r later =
        cond_both (nat_eq r round && nat_eq own sender) (Some (unwrap_or (s.kept round sender) cells)) (s.kept r own) (λ (o : Option Vector). o ≡ None) (λ here. absurd (never here is)) (λ _. orderly r later)
      where
        never : (nat_eq r round && nat_eq own sender) ≡ true → (nat_eq sender own && nat_lt s.round round) ≡ false → ⊥
        never here is = grind (later, here, is, arith, nat_tests)

    receive_cells_orderly : (sender round : ℕ) (cells : Vector) (s : Exchange) → IsOrderly own s → IsOrderly own (receive_cells n own sender round cells s)
    receive_cells_orderly sender round cells s orderly =
        cond_both (is_timely n own s sender round cells) (record s { kept = keep s.kept round sender cells }) s (IsOrderly own)
        (λ is. keep_none s sender round cells orderly (not-true _ (and_parts (nat_le s.round round) _ (and_parts (nat_eq (length cells) n) _ (and_parts (nat_le sender n) _ (and_parts (is_running n own s) _ is).1).1).1).1)) (λ _. orderly)

    receive_orderly : (sender : ℕ) (what : Payload) (s : Exchange) → IsOrderly own s → IsOrderly own (receive n own sender what s)
    receive_orderly sender (payload.Vector round cells) s orderly =
        cond_both (nat_le 1 round && nat_lt round n) (receive_cells n own sender round cells s) s (IsOrderly own) (λ _. receive_cells_orderly sender round cells s orderly) (λ _. orderly)
    receive_orderly sender (payload.Last cells) s orderly = receive_cells_orderly sender n cells s orderly
    receive_orderly sender what s orderly = orderly

    begun : (x : StepInput) (s : Exchange) → IsOrderly own s → Begun (begin n own x s)
    begun input.Start s orderly =
        cond_both (nat_eq s.round 0) (enter n own 1 s) (still s) Begun (λ is. let quiet = enter_quiet 1 s (λ r later. orderly r (omega (arith, later, eqb-true s.round 0 is))) in (quiet.1, inl quiet)) (λ _. (orderly, inr refl))
    begun (input.Letter sender what) s orderly = (receive_orderly sender what s orderly, inr refl)
    begun (input.Wake tag) s orderly = (orderly, inr refl)

    -- what an input makes is what at most one end makes
    abbrev Made : Answer Exchange → Type 0
    Made a = IsOrderly own a.state × (length a.actions ≤ n + 1)

    made_once : (a : Answer Exchange) → Begun a → Made (after a.actions (end_one n own is_suspected a.state))
    made_once a start = go (end_wait n own is_suspected a.state) refl (end_quiet a.state start.0) start.1
      where
        go : (o : Option (Answer Exchange)) → end_wait n own is_suspected a.state ≡ o → IfSome o IsQuiet → (IsQuiet a) ⊎ (a.actions ≡ [])
            → Made (after a.actions (elim o [ None ↦ still a.state | Some b ↦ b ]))
        go None is quiet (inl h) = (start.0, subst (λ xs. length xs ≤ n + 1) (sym (append-nil a.actions)) h.2)
        go None is quiet (inr h) = (start.0, subst (λ xs. length (xs ++ []) ≤ n + 1) (sym h) (omega arith))
        go (Some b) is quiet (inl h) = absurd (none-some b (sym h.0 ∙ is))
        go (Some b) is quiet (inr h) = (quiet.1, subst (λ xs. length (xs ++ b.actions) ≤ n + 1) (sym h) quiet.2)

    -- one wait ends at most
    once : (s : Exchange) → IsOrderly own s → end_waits n own (waits_left n own s) is_suspected s ≡ end_one n own is_suspected s
    once s orderly = go (end_wait n own is_suspected s) refl (end_quiet s orderly)
      where
        go : (o : Option (Answer Exchange)) → end_wait n own is_suspected s ≡ o → IfSome o IsQuiet → end_waits n own (waits_left n own s) is_suspected s ≡ elim o [ None ↦ still s | Some b ↦ b ]
        go None is quiet = stops (waits_left n own s) s is
        go (Some b) is quiet =
            waits.settles_on (end_wait n own is_suspected) at_most (λ s. refl) (λ k s. refl) (waits_left n own) wait_fewer s b is
            ∙ (ap (after b.actions) (stops (waits_left n own b.state) b.state quiet.0) ∙ ap (λ xs. record { state = b.state; actions = xs }) (append-nil b.actions))

    -- an input begins something, and then the wait ends if it is over
    pub ends_once : (x : StepInput) (s : Exchange) → IsOrderly own s → step_exchange n own is_suspected x s ≡ after (begin n own x s).actions (end_one n own is_suspected (begin n own x s).state)
    ends_once x s orderly = ap (after (begin n own x s).actions) (once (begin n own x s).state (begun x s orderly).0)

    pub stays_orderly : (x : StepInput) (s : Exchange) → IsOrderly own s → IsOrderly own (step_exchange n own is_suspected x s).state
    stays_orderly x s orderly = (subst Made (sym (ends_once x s orderly)) (made_once (begin n own x s) (begun x s orderly))).0

    pub few_actions : (x : StepInput) (s : Exchange) → IsOrderly own s → length (step_exchange n own is_suspected x s).actions ≤ n + 1
    few_actions x s orderly = (subst Made (sym (ends_once x s orderly)) (made_once (begin n own x s) (begun x s orderly))).1

    -- what is begun, and then the end of a wait, is what the input makes
    pub steps : (x : StepInput) (s t : Exchange) → IsOrderly own s → t ≡ (begin n own x s).state
        → (u : Exchange) → u ≡ (end_one n own is_suspected t).state → u ≡ (step_exchange n own is_suspected x s).state
    steps x s t orderly begins u ends = ends ∙ (ap (λ v. (end_one n own is_suspected v).state) begins ∙ ap (λ a. a.state) (sym (ends_once x s orderly)))

    pub acts : (x : StepInput) (s t : Exchange) → IsOrderly own s → t ≡ (begin n own x s).state
        → (old mid new : List Action) → mid ≡ old ++ (begin n own x s).actions → new ≡ mid ++ (end_one n own is_suspected t).actions → new ≡ old ++ (step_exchange n own is_suspected x s).actions
    acts x s t orderly begins old mid new first later =
        later ∙ ((λ i. first i ++ (end_one n own is_suspected (begins i)).actions)
        ∙ (append_assoc old (begin n own x s).actions (end_one n own is_suspected (begin n own x s).state).actions ∙ ap (λ a. old ++ a.actions) (sym (ends_once x s orderly))))
