-- At most n rounds are left in one input, because no process passes Await as the coordinator before its own proposal came. So it makes at most 6 n + 3 actions.
use Rattle.consensus_es.proofs.Words.{◌≡◌, ◌⊎◌, ℕ, zero, suc, ◌+◌, ◌-◌, ◌*◌, ◌/◌, ◌%◌, ◌<◌, ◌≤◌, inl, inr, refl, sym, ap, ◌∙◌, subst, Bool, true, false, cond, ◌&&◌, not, arith, nat_lt, nat_le, nat_eq, Option, None, Some, IfSome, unwrap_or, List, [], ◌∷◌, ◌++◌, length, length-append, mod-lt, mod-eq_of_lt, eqb-true, eq-eqb, cases_lt, cond_both, and_parts, not-true, both_ways, false≢true, none-some, Kept, Coordinator, is_decided, is_opening, is_running, keep, enter, leave, reply, end_wait, waits_left, end_waits, is_timely, is_early, receive, begin, step_coordinator, opening_coordinator, Answer, to_all, after, still, coordinator, greatest_round, is_own, Estimate, Phase, Opening, Collect, Await, Tally, Decided, Ended, StepInput, Action, own_below, is_in_place}
use Rattle.consensus_es.proofs.Cases.{by_leave, by_reply, by_collect, by_await, by_tally}
use Rattle.std.proofs.{Math.Nat.{mod-add-div', add-mul-mod_self_right, add-mod_right}, lemmas.Bool.Decides.{nat_tests}}
use Rattle.process_api.specs.{Place.{most_processes, most_algorithm_actions, Place, same_place}, Rows.{keep_one}, declared.message.Payload.{Payload}}
use Rattle.process_api.specs.declared.message.Payload.TheVariants as payload
use Rattle.process_api.specs.declared.message.StepInput.TheVariants as input
use Rattle.process_api.specs.declared.action.Note.TheVariants as note
use Rattle.process_api.specs.declared.action.Action.TheVariants as action
use Rattle.process_api.proofs.{Sending.{length-to_all}, Waits.{by_ends}}
use Rattle.consensus_es.specs.State as orderly_of

pub same_itself : (p : Place) → same_place p p ≡ true
same_itself p = λ i. eq-eqb p.own p.own refl i && (eq-eqb p.processes p.processes refl i && eq-eqb p.horizon p.horizon refl i)

-- 6 n + 3 actions are few
pub within : (k n : ℕ) → k ≤ 6 * n + 3 → n ≤ most_processes → k ≤ most_algorithm_actions
within k n h small = omega (arith, h, small)

none_if : (o : Option ℕ) → ((v : ℕ) → o ≡ Some v → ⊥) → o ≡ None
none_if None never = refl
none_if (Some v) never = absurd (never v refl)

keep_one_cases : (kept : ℕ → Option ℕ) (round x r y : ℕ) → keep_one kept round x r ≡ Some y → (kept r ≡ Some y) ⊎ (r ≡ round)
keep_one_cases kept round x r y h = go (nat_eq r round) refl h
  where
    go : (b : Bool) → nat_eq r round ≡ b → cond b (Some (unwrap_or (kept round) x)) (kept r) ≡ Some y → (kept r ≡ Some y) ⊎ (r ≡ round)
    go true is h2 = inr (eqb-true _ _ is)
    go false is h2 = inl h2

bound_low : (phase : Phase) (round : ℕ) → own_below phase round ≤ round + 1
bound_low Collect round = omega arith
bound_low _ round = omega arith

-- process own of n, in an input that comes to no round past top
module _ (n own top : ℕ) (first : 1 ≤ own) (last : own ≤ n) where
  own_at : (r : ℕ) → r % n ≡ own - 1 → is_own n own r ≡ true
  own_at r e = eq-eqb _ _ (let h : r % n ≡ own - 1 = e in omega arith)

  -- an own round comes within n
  near : (r : ℕ) → (d : ℕ) × (d < n) × (is_own n own (r + d) ≡ true)
  near r = go (cases_lt (r % n) own)
    where
      small : r % n < n
      small = mod-lt r (omega arith)

      split_r : r % n + r / n * n ≡ r
      split_r = mod-add-div' r n

      own_mod : (own - 1) % n ≡ own - 1
      own_mod = mod-eq_of_lt (omega arith)

      go : (r % n < own) ⊎ (own ≤ r % n) → (d : ℕ) × (d < n) × (is_own n own (r + d) ≡ true)
      go (inl h) =
          let sum : r + (own - 1 - r % n) ≡ own - 1 + r / n * n = omega (arith, split_r) in
          (own - 1 - r % n, omega (arith, small), own_at _ (ap (λ z. z % n) sum ∙ add-mul-mod_self_right (own - 1) (r / n) n ∙ own_mod))
      go (inr h) =
          let sum : r + (own + n - 1 - r % n) ≡ own - 1 + (r / n + 1) * n = omega (arith, split_r, small) in
          (own + n - 1 - r % n, omega (arith, small), own_at _ (ap (λ z. z % n) sum ∙ add-mul-mod_self_right (own - 1) (r / n + 1) n ∙ own_mod))

  own_again : (r : ℕ) → is_own n own r ≡ true → is_own n own (r + n) ≡ true
  own_again r e = ap (λ z. nat_eq (z + 1) own) (add-mod_right r n) ∙ e

  moved : (a b : ℕ) → a ≡ b → is_own n own a ≡ true → is_own n own b ≡ true
  moved a b e is = subst (λ z. is_own n own z ≡ true) e is

  abbrev IsOrderly : Coordinator → Type 0
  IsOrderly s = orderly_of.IsOrderly n own s

  -- own proposals are kept of rounds below this alone
  abbrev KeptBelow : Coordinator → ℕ → Type 0
  KeptBelow s bound = (k v : ℕ) → s.kept.proposals k ≡ Some v → is_own n own k ≡ true → k < bound

  -- the round is its own: its proposal didn't come yet, or a further own round is still in reach
  abbrev AwaitsItself : Coordinator → ℕ → Type 0
  AwaitsItself s c = (is_own n own s.round ≡ true) × ((s.kept.proposals s.round ≡ None) ⊎ ((5 * n + 1 ≤ c) × (s.round + n ≤ top)))

  -- the round is another's: the next of its own is d rounds on
  abbrev AwaitsAnother : Coordinator → ℕ → Type 0
  AwaitsAnother s c = (is_own n own s.round ≡ false) × (d : ℕ) × (is_own n own (s.round + d) ≡ true) × (3 * d + n ≤ c) × (s.round + d ≤ top)

  -- at most c actions come, and no round past top
  abbrev Costs : Phase → Coordinator → ℕ → Type 0
  Costs Opening s c = Unit {0}
  Costs Collect s c = (s.kept.proposals s.round ≡ None) × (n ≤ c)
  Costs Await s c = AwaitsItself s c ⊎ AwaitsAnother s c
  Costs Tally s c = (5 * n ≤ c) × (s.round + n ≤ top)
  Costs Decided s c = Unit {0}
  Costs Ended s c = Unit {0}

  abbrev Cheap : ℕ → Answer Coordinator → Type 0
  Cheap c a = IsOrderly a.state × (c2 : ℕ) × Costs a.state.phase a.state c2 × (length a.actions + c2 ≤ c) × (a.state.round ≤ top)

  abbrev Good : ℕ → Option (Answer Coordinator) → Type 0
  Good c o = IfSome o (Cheap c)

  -- the next round is entered
  entered : (s : Coordinator) (r c d : ℕ) → s.round < r → KeptBelow s (s.round + 1) → is_own n own (r + d) ≡ true → 3 * d + n ≤ c → r + d ≤ top → Cheap (c + 2) (enter n own r s)
  entered s r c d later kept there some low = go (is_own n own r) refl
    where
      still_kept : (k v : ℕ) → (enter n own r s).state.kept.proposals k ≡ Some v → is_own n own k ≡ true → k < s.round + 1
      still_kept k v h own2 = kept k v (gone (nat_lt k r) h) own2
        where
          gone : (b : Bool) → cond b None (s.kept.proposals k) ≡ Some v → s.kept.proposals k ≡ Some v
          gone true h = absurd (none-some v h)
          gone false h = h

      orderly : (phase : Phase) → s.round + 1 ≤ own_below phase r → is_in_place n own phase r ≡ true → IsOrderly (record (enter n own r s).state { phase = phase })
      orderly phase room right = record { own_kept = λ k v h own2. let l : k < s.round + 1 = still_kept k v h own2 in omega arith; in_place = right }

      go : (b : Bool) → is_own n own r ≡ b → Cheap (c + 2) (record { state = record (enter n own r s).state { phase = cond b Collect Await }; actions = (enter n own r s).actions })
      go true is = (orderly Collect (omega arith) is, c, (none_if _ (λ v e. let l : r < s.round + 1 = still_kept r v e is in omega arith), omega arith), omega arith, omega arith)
      go false is = (orderly Await (omega arith) refl, c, inr (is, d, there, some, low), omega arith, omega arith)

  left : (s : Coordinator) (c d : ℕ) → KeptBelow s (s.round + 1) → is_own n own (s.round + 1 + d) ≡ true → 3 * d + n ≤ c → s.round + 1 + d ≤ top → Cheap (c + 2) (leave n own s)
  left s c d kept there some low = by_leave n own s (Cheap (c + 2)) (λ _. entered s (s.round + 1) c d (omega arith) kept there some low) (record { own_kept = kept; in_place = refl }, 0, tt, omega arith, omega arith)

  -- some actions before
  cheap_after : (c e : ℕ) (more : List Action) (a : Answer Coordinator) → length more + c ≤ e → Cheap c a → Cheap e (after more a)
  cheap_after c e more a h l = (l.0, l.1, l.2, omega (arith, h, length-append more a.actions, l.3), l.4)

  module _ (is_suspected : ℕ → Bool) (not_itself : is_suspected own ≡ false) (round : ℕ) (e : Estimate) (kept : Kept) (seen : ℕ → Bool) where
    abbrev at : Phase → Coordinator
    at phase = record { round = round; phase = phase; estimate = e; kept = kept; seen = seen }

    -- a proposal is answered: the own one came, or the round is another's
    replied : (c : ℕ) (ack : Bool) (d2 : Estimate) → IsOrderly (at Await) → Costs Await (at Await) c → round ≤ top → (is_own n own round ≡ true → kept.proposals round ≡ None → ⊥)
        → Cheap c (reply n own ack (record (at Await) { estimate = d2 }))
    replied c ack d2 o l low came = by l
      where
        onward : is_own n own round ≡ false → (d : ℕ) → is_own n own (round + d) ≡ true → 3 * d + n ≤ c → round + d ≤ top
            → Cheap c (after (action.Send (coordinator n round) (payload.Reply round ack) ∷ []) (leave n own (record (at Await) { estimate = d2 })))
        onward is zero there some far = absurd (both_ways _ is (moved (round + 0) round (omega arith) there))
        onward is (suc d) there some far =
            cheap_after (3 * d + n + 2) c (action.Send (coordinator n round) (payload.Reply round ack) ∷ []) (leave n own (record (at Await) { estimate = d2 })) (omega arith)
            (left (record (at Await) { estimate = d2 }) (3 * d + n) d o.own_kept (moved (round + suc d) (round + 1 + d) (omega arith) there) (omega arith) (omega arith))

        by : AwaitsItself (at Await) c ⊎ AwaitsAnother (at Await) c → Cheap c (reply n own ack (record (at Await) { estimate = d2 }))
        by (inl (is, inl none)) = absurd (came is none)
        by (inl (is, inr (m, further))) =
            by_reply n own (record (at Await) { estimate = d2 }) ack (Cheap c) (λ _. (record { own_kept = o.own_kept; in_place = is }, 5 * n, (omega arith, further), omega arith, low)) (λ other. absurd (both_ways _ other is))
        by (inr (is, d, there, m, further)) = by_reply n own (record (at Await) { estimate = d2 }) ack (Cheap c) (λ mine. absurd (both_ways _ is mine)) (λ _. onward is d there m further)

    waited : (phase : Phase) (c : ℕ) → IsOrderly (at phase) → Costs phase (at phase) c → round ≤ top → Good c (end_wait n own is_suspected (at phase))
    waited Collect c o l low = by_collect n own (at Collect) (Good c) tt (λ best.
        let few : length (to_all n (payload.Proposal round best.value)) + 0 ≤ c = omega (arith, l.1, length-to_all n (payload.Proposal round best.value)) in
        (record { own_kept = λ r v h own2. let m : r < round = o.own_kept r v h own2 in omega arith; in_place = refl }, 0, inl (o.in_place, inl l.0), few, low))
    waited Await c o l low =
        by_await n own (at Await) is_suspected (Good c) tt (λ v is. replied c true (record { value = v; stamp = round }) o l low (λ _ none. none-some v (sym none ∙ is)))
        (λ sus. replied c false e o l low (λ mine _. both_ways _ not_itself (ap is_suspected (sym (eqb-true _ _ mine)) ∙ sus)))
    waited Tally c o l low =
        by_tally n own (at Tally) (Good c) tt (λ b. cheap_after (3 * (n - 1) + n + 2) c (cond b (to_all n (payload.Decide round e.value)) []) (leave n own (at Tally)) (omega (arith, l.0, spread b (payload.Decide round e.value)))
        (left (at Tally) (3 * (n - 1) + n) (n - 1) o.own_kept (moved (round + n) (round + 1 + (n - 1)) (omega arith) (own_again round o.in_place)) (omega arith) (omega (arith, l.1))))
      where
        spread : (b : Bool) (what : Payload) → length (cond b (to_all n what) []) ≤ n
        spread b what = cond_both b (to_all n what) [] (λ xs. length xs ≤ n) (λ _. omega (arith, length-to_all n what)) (λ _. omega arith)
    waited _ c o l low = tt

  -- whatever waits: all that it can cost
  costs_all : (s : Coordinator) → IsOrderly s → s.round + n ≤ top → Costs s.phase s (5 * n + 1)
  costs_all s o far = go s.phase o.own_kept o.in_place
    where
      by : (b : Bool) → is_own n own s.round ≡ b → Costs Await s (5 * n + 1)
      by true is = inl (is, inr (omega arith, far))
      by false is = let d = near s.round in let l : d.0 < n = d.1 in inr (is, d.0, d.2, omega arith, omega arith)

      go : (phase : Phase) → KeptBelow s (own_below phase s.round) → is_in_place n own phase s.round ≡ true → Costs phase s (5 * n + 1)
      go Collect k r = (none_if _ (λ v e. let l : s.round < s.round = k s.round v e r in omega arith), omega arith)
      go Await k r = by (is_own n own s.round) refl
      go Tally k r = (omega arith, far)
      go _ k r = tt

  -- an own proposal that is kept is of a round that it may be of
  proposal_orderly : (s : Coordinator) → IsOrderly s → (sender r v : ℕ) → (is_timely n own s sender r && (nat_eq sender (coordinator n r) && not (is_early n own s sender))) ≡ true
      → IsOrderly (record s { kept = record s.kept { proposals = keep_one s.kept.proposals r v } })
  proposal_orderly s o sender r v is = record { own_kept = λ k w h own2. go k w own2 (keep_one_cases s.kept.proposals r v k w h); in_place = o.in_place }
    where
      low : (a b : Bool) → nat_eq sender own ≡ true → (nat_le s.round r && (a && not (nat_eq sender own && nat_lt s.round r))) ≡ true → r ≤ s.round
      low a b mine h = grind (mine, h, arith, nat_tests)

      room : (phase : Phase) → is_running phase ≡ true → r ≤ s.round → elim phase [ Opening ↦ false | Collect ↦ true | Await ↦ false | Tally ↦ false | Decided ↦ false | Ended ↦ false ] ≡ false → r < own_below phase s.round
      room Collect runs h early = absurd (false≢true (sym early))
      room Await runs h early = omega (arith, h)
      room Tally runs h early = omega (arith, h)
      room _ runs h early = absurd (false≢true runs)

      own_room : is_own n own r ≡ true → r < own_below s.phase s.round
      own_room own2 =
          let parts = and_parts (is_timely n own s sender r) _ is in
          let others = and_parts (nat_eq sender (coordinator n r)) _ parts.1 in
          let timely = and_parts (is_running s.phase) _ parts.0 in
          let mine : nat_eq sender own ≡ true = ap (λ z. nat_eq z own) (eqb-true sender (coordinator n r) others.0) ∙ own2 in
          room s.phase timely.0 (low _ true mine timely.1) (ap (λ b. b && elim s.phase [ Opening ↦ false | Collect ↦ true | Await ↦ false | Tally ↦ false | Decided ↦ false | Ended ↦ false ]) (sym mine) ∙ not-true _ others.1)

      go : (k w : ℕ) → is_own n own k ≡ true → (s.kept.proposals k ≡ Some w) ⊎ (k ≡ r) → k < own_below s.phase s.round
      go k w own2 (inl h) = o.own_kept k w h own2
      go k w own2 (inr e) = subst (λ z. z < own_below s.phase s.round) (sym e) (own_room (moved k r e own2))

  -- what an input does before any wait ends
  abbrev Begun : Answer Coordinator → Type 0
  Begun a = Cheap (6 * n + 3) a

  begun_still : (s : Coordinator) → IsOrderly s → s.round + n ≤ top → Begun (still s)
  begun_still s o far = (o, 5 * n + 1, costs_all s o far, omega arith, omega arith)

  kept : (b : Bool) (s t : Coordinator) → (b ≡ true → IsOrderly s) → IsOrderly t → s.round + n ≤ top → t.round + n ≤ top → Begun (still (cond b s t))
  kept b s t o p far further = cond_both b s t (λ s. Begun (still s)) (λ is. begun_still s (o is) far) (λ _. begun_still t p further)

  received : (sender : ℕ) (what : Payload) (s : Coordinator) → IsOrderly s → s.round + n ≤ top → Begun (receive n own sender what s)
  received sender (payload.Estimate r v t) s o far =
      kept (is_timely n own s sender r && is_own n own r) (record s { kept = record s.kept { estimates = keep s.kept.estimates r sender (record { value = v; stamp = t }) } }) s (λ _. record { own_kept = o.own_kept; in_place = o.in_place }) o far far
  received sender (payload.Proposal r v) s o far =
      kept (is_timely n own s sender r && (nat_eq sender (coordinator n r) && not (is_early n own s sender))) (record s { kept = record s.kept { proposals = keep_one s.kept.proposals r v } }) s (λ is. proposal_orderly s o sender r v is) o far far
  received sender (payload.Reply r ack) s o far =
      kept (is_timely n own s sender r && is_own n own r) (record s { kept = record s.kept { replies = keep s.kept.replies r sender ack } }) s (λ _. record { own_kept = o.own_kept; in_place = o.in_place }) o far far
  received sender (payload.Decide r v) s o far = go (nat_le 1 r && nat_le r greatest_round) (s.seen r)
    where
      few : (b d : Bool) → length (cond b [] (to_all n (payload.Decide r v)) ++ cond d [] (action.Note (note.Decided v) ∷ [])) ≤ n + 2
      few b d =
          let k : length (cond b [] (to_all n (payload.Decide r v))) ≤ n = cond_both b [] (to_all n (payload.Decide r v)) (λ xs. length xs ≤ n) (λ _. omega arith) (λ _. omega (arith, length-to_all n (payload.Decide r v))) in
          let m : length (cond d [] (action.Note (note.Decided v) ∷ [])) ≤ 1 = cond_both d [] (action.Note (note.Decided v) ∷ []) (λ xs. length xs ≤ 1) (λ _. omega arith) (λ _. omega arith) in
          omega (arith, length-append (cond b [] (to_all n (payload.Decide r v))) (cond d [] (action.Note (note.Decided v) ∷ [])))

      go : (b c : Bool) → Begun (cond b (cond c (still s) (record {
        state = record s { seen = λ k. cond (nat_eq k r) true (s.seen k); phase = Decided };
        actions = cond (is_own n own r) [] (to_all n (payload.Decide r v)) ++ cond (is_decided s.phase) [] (action.Note (note.Decided v) ∷ []);
      })) (still s))
      go true true = begun_still s o far
      go true false = (record { own_kept = λ k w h own2. let l : k < own_below s.phase s.round = o.own_kept k w h own2 in omega (arith, bound_low s.phase s.round); in_place = refl }, 0, tt, omega (arith, few (is_own n own r) (is_decided s.phase)), omega arith)
      go false c = begun_still s o far
  received sender what s o far = begun_still s o far

  opens : (phase : Phase) (round : ℕ) → is_opening phase ≡ true → is_in_place n own phase round ≡ true → (round ≡ 0) × (own_below phase round ≡ round + 1)
  opens Opening round is right = (eqb-true round 0 right, refl)
  opens _ round is right = absurd (false≢true is)

  begun : (x : StepInput) (s : Coordinator) → IsOrderly s → s.round + n ≤ top → Begun (begin n own x s)
  begun input.Start s o far = cond_both (is_opening s.phase) (enter n own 1 s) (still s) Begun (λ is. entering (opens s.phase s.round is o.in_place) (near 1)) (λ _. begun_still s o far)
    where
      entering : (s.round ≡ 0) × (own_below s.phase s.round ≡ s.round + 1) → (d : ℕ) × (d < n) × (is_own n own (1 + d) ≡ true) → Begun (enter n own 1 s)
      entering p (d, l, there) =
          cheap_after (3 * d + n + 2) (6 * n + 3) [] (enter n own 1 s) (omega arith)
          (entered s 1 (3 * d + n) d (omega (arith, p.0)) (λ k v h own2. let m : k < own_below s.phase s.round = o.own_kept k v h own2 in omega (arith, p.1)) there (omega arith) (omega (arith, p.0)))
  begun (input.Wake tag) s o far = begun_still s o far
  begun (input.Letter sender what) s o far = go (is_opening s.phase) (nat_le sender n)
    where
      go : (b c : Bool) → Begun (cond b (still s) (cond c (receive n own sender what s) (still s)))
      go false true = received sender what s o far
      go _ _ = begun_still s o far

  module _ (is_suspected : ℕ → Bool) (not_itself : is_suspected own ≡ false) where
    -- what comes of it all
    abbrev Waited : ℕ → Answer Coordinator → Type 0
    Waited c a = IsOrderly a.state × (length a.actions ≤ c) × (a.state.round ≤ top)

    all_waited : (k : ℕ) (s : Coordinator) (c : ℕ) → IsOrderly s → Costs s.phase s c → s.round ≤ top → Waited c (end_waits n own k is_suspected s)
    all_waited =
        by_ends (end_wait n own is_suspected) (λ k s. end_waits n own k is_suspected s) (λ s. refl) (λ k s. refl)
        (λ s b. (c : ℕ) → IsOrderly s → Costs s.phase s c → s.round ≤ top → Waited c b)
        (λ s c o l low. (o, omega arith, low))
        (λ s a b is rest c o l low.
        let good = subst (λ z. Good c z) is (waited is_suspected not_itself s.round s.estimate s.kept s.seen s.phase c o l low) in
        let r = rest good.1 good.0 good.2 good.4 in
        (r.0, omega (arith, r.1, good.3, length-append a.actions b.actions), r.2))

    step_within : (x : StepInput) (s : Coordinator) → IsOrderly s → s.round + n ≤ top → Waited (6 * n + 3) (step_coordinator n own is_suspected x s)
    step_within x s o far =
        let b = begun x s o far in
        let start = begin n own x s in
        let k = waits_left n own start.state in
        let w = all_waited k start.state b.1 b.0 b.2 b.4 in
        (w.0, omega (arith, b.3, w.1, length-append start.actions (end_waits n own k is_suspected start.state).actions), w.2)

-- one input leaves an orderly process orderly, with at most 6 n + 3 actions and at most n rounds on
pub step_few : (n own : ℕ) → 1 ≤ own → own ≤ n → (is_suspected : ℕ → Bool) → is_suspected own ≡ false → (x : StepInput) (s : Coordinator) → orderly_of.IsOrderly n own s
    → orderly_of.IsOrderly n own (step_coordinator n own is_suspected x s).state
    × (length (step_coordinator n own is_suspected x s).actions ≤ 6 * n + 3)
    × ((step_coordinator n own is_suspected x s).state.round ≤ s.round + n)
step_few n own first last is_suspected not_itself x s o = step_within n own (s.round + n) first last is_suspected not_itself x s o (omega arith)

pub opening_orderly : (n own proposal : ℕ) → orderly_of.IsOrderly n own (opening_coordinator proposal)
opening_orderly n own proposal = record { own_kept = λ r v h own2. absurd (none-some v h); in_place = refl }
