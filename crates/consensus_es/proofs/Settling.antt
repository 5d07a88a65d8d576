-- A process whose waits end, one after the other.
use Rattle.consensus_es.proofs.Words.{◌≡◌, ℕ, ◌+◌, ◌<◌, refl, sym, ap, ◌∙◌, Bool, true, false, cond, arith, Option, None, Some, IfSome, List, ◌++◌, append_assoc, append-nil, true≢false, Answer, after, still, Coordinator, settle, end_wait, waits_left, Action, state_of, Does, Ends}
use Rattle.consensus_es.proofs.Settled.{Fewer, wait_fewer, settles_on, settles_here}
use Rattle.consensus_es.specs.declared.progress.Progress.{Progress}

module _ (n own : ℕ) (is_suspected : ℕ → Bool) where
  -- first has come to s and to these actions, and what is left to do of s is what was left of first
  pub record Going (first s : Progress) (out out2 : List Action) (more : Bool) : Type 0 where
    pub since : List Action
    pub actions : out2 ≡ out ++ since
    pub rest : settle n own is_suspected (still (state_of first)) ≡ after since (settle n own is_suspected (still (state_of s)))
    pub over : more ≡ false → end_wait n own is_suspected (state_of s) ≡ None

  module _ (first : Progress) (out : List Action) where
    module _ (s t : Progress) (out2 out3 : List Action) (b : Bool) where
      pub going_on : Going first s out out2 true → Ends b s t out2 out3 (end_wait n own is_suspected (state_of s)) → Going first t out out3 b
      going_on g e = go (end_wait n own is_suspected (state_of s)) refl e
        where
          joined : (xs ys : List Action) (r : Answer Coordinator) → after xs (after ys r) ≡ after (xs ++ ys) r
          joined xs ys r = ap (λ z. record { state = r.state; actions = z }) (sym (append_assoc xs ys r.actions))

          go : (o : Option (Answer Coordinator)) → end_wait n own is_suspected (state_of s) ≡ o → Ends b s t out2 out3 o → Going first t out out3 b
          go None is (off, d) = record {
            since = g.since;
            actions = d.actions ∙ (append-nil out2 ∙ g.actions);
            rest = g.rest ∙ ap (λ m. after g.since (settle n own is_suspected (still m))) (sym d.state);
            over = λ z. ap (end_wait n own is_suspected) d.state ∙ is;
          }
          go (Some a) is (ok, d) = record {
            since = g.since ++ a.actions;
            actions = d.actions ∙ (ap (λ z. z ++ a.actions) g.actions ∙ append_assoc out g.since a.actions);
            rest = g.rest ∙ (ap (after g.since) (settles_on n own is_suspected (state_of s) a is)
                ∙ (joined g.since a.actions (settle n own is_suspected (still a.state))
                ∙ ap (λ m. after (g.since ++ a.actions) (settle n own is_suspected (still m))) (sym d.state)));
            over = λ z. absurd (true≢false (sym ok ∙ z));
          }

      pub going_fewer : Ends b s t out2 out3 (end_wait n own is_suspected (state_of s)) → waits_left n own (state_of t) + cond b 1 0 < waits_left n own (state_of s) + 1
      going_fewer e = go (end_wait n own is_suspected (state_of s)) (wait_fewer n own is_suspected (state_of s)) e
        where
          go : (o : Option (Answer Coordinator)) → IfSome o (Fewer n own is_suspected (waits_left n own (state_of s))) → Ends b s t out2 out3 o
              → waits_left n own (state_of t) + cond b 1 0 < waits_left n own (state_of s) + 1
          go None f (off, d) = omega (arith, ap (waits_left n own) d.state, ap {B = ℕ} (λ (c : Bool). cond c 1 0) off)
          go (Some a) f (ok, d) = omega (arith, f, ap (waits_left n own) d.state, ap {B = ℕ} (λ (c : Bool). cond c 1 0) ok)

    -- where no wait is over all is done
    pub gone : (s : Progress) (out2 : List Action) → Going first s out out2 false → Does s out out2 (settle n own is_suspected (still (state_of first)))
    gone s out2 g =
        let all = g.rest ∙ ap (after g.since) (settles_here n own is_suspected (state_of s) (g.over refl)) in
        record {
          state = sym (ap (λ a. a.state) all);
          actions = g.actions ∙ (ap (λ z. out ++ z) (sym (append-nil g.since)) ∙ ap (λ a. out ++ a.actions) (sym all));
        }
