-- What a process may come to as a wait ends, case by case.
use Rattle.consensus_es.proofs.Words.{◌≡◌, ℕ, ◌+◌, Bool, true, false, cond, nat_lt, nat_le, Option, None, Some, is_some, unwrap_or, [], ◌∷◌, cond_both, Answer, to_all, after, still, Coordinator, best_to, enter, leave, propose, collect, reply, adopt, await, tally, greatest_round, coordinator, is_own, majority, count_to, Estimate, Tally, Ended}
use Rattle.process_api.specs.declared.{action.Action.TheVariants.{Send}, message.Payload.TheVariants.{Reply, Decide}}
use Rattle.process_api.proofs.Lists.{option_both}

module _ (n own : ℕ) (s : Coordinator) where
  pub by_leave : (P : Answer Coordinator → Type 0) → (nat_lt s.round greatest_round ≡ true → P (enter n own (s.round + 1) s)) → P (still (record s { phase = Ended })) → P (leave n own s)
  by_leave P on past = cond_both (nat_lt s.round greatest_round) (enter n own (s.round + 1) s) (still (record s { phase = Ended })) P on (λ _. past)

  pub by_reply : (ack : Bool) (P : Answer Coordinator → Type 0)
      → (is_own n own s.round ≡ true → P (after (Send (coordinator n s.round) (Reply s.round ack) ∷ []) (still (record s { phase = Tally }))))
      → (is_own n own s.round ≡ false → P (after (Send (coordinator n s.round) (Reply s.round ack) ∷ []) (leave n own s))) → P (reply n own ack s)
  by_reply ack P mine other = cond_both (is_own n own s.round) (still (record s { phase = Tally })) (leave n own s) (λ a. P (after (Send (coordinator n s.round) (Reply s.round ack) ∷ []) a)) mine other

  pub by_collect : (P : Option (Answer Coordinator) → Type 0) → P None → ((best : Estimate) → P (Some (propose n own s best))) → P (collect n own s)
  by_collect P none some =
      let best = best_to n (s.kept.estimates s.round) in
      cond_both (nat_le (majority n) (count_to n (λ q. is_some (s.kept.estimates s.round q)))) (elim best as (λ z. Option (Answer Coordinator)) [ None ↦ None | Some best ↦ Some (propose n own s best) ]) None P
      (λ _. option_both best None (λ best. Some (propose n own s best)) P (λ _. none) (λ best _. some best)) (λ _. none)

  pub by_await : (is_suspected : ℕ → Bool) (P : Option (Answer Coordinator) → Type 0) → P None → ((v : ℕ) → s.kept.proposals s.round ≡ Some v → P (Some (reply n own true (adopt n own s v))))
      → (is_suspected (coordinator n s.round) ≡ true → P (Some (reply n own false s))) → P (await n own is_suspected s)
  by_await is_suspected P none came suspected =
      option_both (s.kept.proposals s.round) (cond (is_suspected (coordinator n s.round)) (Some (reply n own false s)) None) (λ value. Some (reply n own true (adopt n own s value))) P
      (λ _. cond_both (is_suspected (coordinator n s.round)) (Some (reply n own false s)) None P suspected (λ _. none)) came

  pub by_tally : (P : Option (Answer Coordinator) → Type 0) → P None → ((b : Bool) → P (Some (after (cond b (to_all n (Decide s.round s.estimate.value)) []) (leave n own s)))) → P (tally n own s)
  by_tally P none some =
      let acked = nat_le (majority n) (count_to n (λ q. unwrap_or (s.kept.replies s.round q) false)) in
      cond_both (nat_le (majority n) (count_to n (λ q. is_some (s.kept.replies s.round q)))) (Some (after (cond acked (to_all n (Decide s.round s.estimate.value)) []) (leave n own s))) None P (λ _. some acked) (λ _. none)
