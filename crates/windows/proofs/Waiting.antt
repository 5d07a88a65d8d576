-- Parts of a window that wait to be merged and handed on.
use Rattle.windows.proofs.Words.{IsMergeOf, ◌≡◌, ◌≤◌, ◌⊎◌, inl, inr, refl, sym, ap, ◌∙◌, subst, List, [], ◌∷◌, ◌++◌, append_assoc, append-nil, length, map, IsTrue, Result, Ok, Err, IfOk, IfErr, arith, Vec, All, IsPermutation, nil_from_length, All-nil, length_permutation, EntryRecord, Mind, is_rising, RunError, IsInRange, Record, setting_of, IsTrace, one_trace, all_of, end_to_end, IsRefusal, TookAll, IsStageAfter, Stage, AreParts, IsMerged, TookAllBut, TookFrontOf, TookTrace, TookFront, TookClosed, writes_of, has_merge, nothing_merges, HasNextWindow, IsNextWindow, PlanRecord, IsPlanFor}
use Rattle.{windows.proofs.{Closing.{stage_trace}, Cut.{stage_cut}}, trace_merge.proofs.Distinct.{all_differ}}

-- what parts make
pub merged_of : (parts : List (Vec EntryRecord)) → AreParts parts → (merged : List EntryRecord) × IsMerged parts merged
merged_of parts are = has_merge (map (λ (v : Vec EntryRecord). v.items) parts) (all_differ (λ (v : Vec EntryRecord). v.items) parts are.rising are.apart)

pub merged_ok : (parts : List (Vec EntryRecord)) (r : Result (Vec EntryRecord) RunError) → IfOk r (λ v. IsTrue (is_rising v.items)) → IfOk r (λ v. IsPermutation (all_of (map (λ (p : Vec EntryRecord). p.items) parts)) v.items) → IfOk r (λ v. IsMerged parts v.items)
merged_ok parts (Ok v) rising same = record { rising = rising; same = same }
merged_ok parts (Err e) rising same = tt

pub no_parts : AreParts []
no_parts = record { rising = All-nil (λ (v : Vec EntryRecord). IsTrue (is_rising v.items)); apart = tt }

pub none_merged : {parts : List (List EntryRecord)} (rest : List EntryRecord) → all_of parts ≡ [] → IsMergeOf parts rest → rest ≡ []
none_merged rest none is = nil_from_length rest (length_permutation [] rest (subst (λ es. IsPermutation es rest) none is.same))

end_to_end_append : (xs ys : List (List EntryRecord)) → end_to_end (xs ++ ys) ≡ end_to_end xs ++ end_to_end ys
end_to_end_append [] ys = refl
end_to_end_append (x ∷ xs) ys = ap (λ es. x ++ es) (end_to_end_append xs ys) ∙ sym (append_assoc x (end_to_end xs) (end_to_end ys))

module _ {K : Type 0} (took : K → List EntryRecord → K → Type 0) where
  took_append : (old mid new : K) (xs ys : List (List EntryRecord)) → TookAll took old xs mid → TookAll took mid ys new → TookAll took old (xs ++ ys) new
  took_append old mid new [] ys first then = subst (λ k. TookAll took k ys new) first then
  took_append old mid new (x ∷ xs) ys first then = (first.0, first.1, took_append first.0 mid new xs ys first.2 then)

  -- all of it waits
  pub took_nothing : (parts : List (Vec EntryRecord)) (sink : K) → TookAllBut took parts (map (λ part. part.items) parts) sink sink
  took_nothing parts sink = ([], refl, λ rest is. is)

  module _ (parts : List (Vec EntryRecord)) {left : List (List EntryRecord)} {old sink : K} (so_far : TookAllBut took parts left old sink) where
    -- all was taken
    pub took_whole : all_of left ≡ [] → TookAllBut took parts [] old sink
    took_whole none = (so_far.0, so_far.1, λ rest is. so_far.2 rest (subst (IsMergeOf left) (sym (none_merged {parts = []} rest refl is)) (nothing_merges left none)))

    -- a piece more
    module _ (piece : List EntryRecord) (others : List (List EntryRecord)) (front : (rest : List EntryRecord) → IsMergeOf others rest → IsMergeOf left (piece ++ rest)) where
      pub took_piece : (new : K) → took sink piece new → TookAllBut took parts others old new
      took_piece new one =
          let told = end_to_end so_far.0 in
          let all : end_to_end (so_far.0 ++ piece ∷ []) ≡ told ++ piece = end_to_end_append so_far.0 (piece ∷ []) ∙ ap (λ es. told ++ es) (append-nil piece) in
          (so_far.0 ++ piece ∷ [], took_append old sink new so_far.0 (piece ∷ []) so_far.1 (new, one, refl), λ rest is. subst (IsMerged parts) (sym (ap (λ es. es ++ rest) all ∙ append_assoc told piece rest)) (so_far.2 (piece ++ rest) (front rest is)))

      -- or a front of it
      pub took_no_more : (took_front : K → List EntryRecord → K → Type 0) (new : K) → (rest : List EntryRecord) × IsMergeOf others rest → ((piece ≡ []) × (new ≡ sink)) ⊎ took_front sink piece new → TookFrontOf took took_front parts old new
      took_no_more took_front new has ended =
          let merged = subst (IsMerged parts) (sym (append_assoc (end_to_end so_far.0) piece has.0)) (so_far.2 (piece ++ has.0) (front has.0 has.1)) in
          record { told = so_far.0; mid = sink; took_all = so_far.1; last = piece; ended = ended; rest = has.0; merged = merged }

  -- the sink took this so far of a run that is at this stage, where these parts wait
  pub record IsUnderway {M : Type 0} (mind : M → Mind) (s : Record) (first : K) (stage : Stage M) (sink : K) (parts : List (Vec EntryRecord)) : Type 0 where
    pub told : List (List EntryRecord)
    pub took_all : TookAll took first told sink
    pub waiting : AreParts parts
    pub after : (merged : List EntryRecord) → IsMerged parts merged → IsStageAfter mind (end_to_end told ++ merged) stage
    pub scenario : stage.scenario.now ≡ s

  -- a run begins
  pub begins : {M : Type 0} {mind : M → Mind} {s : Record} {stage : Stage M} (sink : K) (parts : List (Vec EntryRecord)) → parts ≡ [] → IsStageAfter mind [] stage → stage.scenario.now ≡ s → IsUnderway mind s sink stage sink parts
  begins {M} {mind} {s} {stage} sink parts none opened same = record {
    told = [];
    took_all = refl;
    waiting = subst AreParts (sym none) no_parts;
    after = λ merged is. subst (λ es. IsStageAfter mind es stage) (sym (none_merged {parts = []} merged refl (subst (λ l. IsMerged l merged) none is))) opened;
    scenario = same;
  }

module _ {K : Type 0} {took : K → List EntryRecord → K → Type 0} {M : Type 0} {mind : M → Mind} {s : Record} {first : K} {stage : Stage M} {sink : K} where
  module _ {parts : List (Vec EntryRecord)} (u : IsUnderway took mind s first stage sink parts) where
    pub stage_is : (trace : List EntryRecord) × IsStageAfter mind trace stage
    stage_is = let m = merged_of parts u.waiting in (end_to_end u.told ++ m.0, u.after m.0 m.1)

    -- below the horizon a window more may be run
    pub has_next : (plan : PlanRecord) → IsPlanFor s plan → ¬ (stage.start ≡ stage.scenario.now.horizon) → HasNextWindow mind plan stage
    has_next plan fits more = record { stage_is = stage_is; plan_is = subst (λ (z : Record). IsPlanFor z plan) (sym u.scenario) fits; before_horizon = omega (arith, stage_is.1.to_horizon, more) }

    -- what waited was handed on, but for these parts
    pub handed : (new : K) (others : List (Vec EntryRecord)) → AreParts others → TookAllBut took parts (map (λ part. part.items) others) sink new → IsUnderway took mind s first stage new others
    handed new others are more = record {
      told = u.told ++ more.0;
      took_all = took_append took first sink new u.told more.0 u.took_all more.1;
      waiting = are;
      after = λ rest is. subst (λ es. IsStageAfter mind es stage) (sym (ap (λ es. es ++ rest) (end_to_end_append u.told more.0) ∙ append_assoc (end_to_end u.told) (end_to_end more.0) rest)) (u.after (end_to_end more.0 ++ rest) (more.2 rest is));
      scenario = u.scenario;
    }

    module _ (ranges : IsInRange s) where
      cut : (merged : List EntryRecord) → IsMerged parts merged → (whole : List EntryRecord) → IsTrace (setting_of s) whole → (rest : List EntryRecord) × (whole ≡ (end_to_end u.told ++ merged) ++ rest) × All (λ (e : EntryRecord). stage.start ≤ e.key.tick) rest
      cut merged is = stage_cut mind stage (end_to_end u.told ++ merged) (u.after merged is) s u.scenario ranges

      module _ (took_front : K → List EntryRecord → K → Type 0) where
        -- the sink refused what waits
        pub front_of : (new : K) → TookFrontOf took took_front parts sink new → TookFront took (setting_of s) took_front first new
        front_of new f =
            let before = end_to_end u.told in
            let part = end_to_end f.told ++ f.last in
            let all : end_to_end (u.told ++ f.told) ++ f.last ≡ before ++ part = ap (λ es. es ++ f.last) (end_to_end_append u.told f.told) ∙ append_assoc before (end_to_end f.told) f.last in
            let front : (whole : List EntryRecord) → IsTrace (setting_of s) whole → (rest : List EntryRecord) × (whole ≡ (end_to_end (u.told ++ f.told) ++ f.last) ++ rest) = λ whole t.
            let r = cut (part ++ f.rest) f.merged whole t in
            (f.rest ++ r.0, r.1 ∙ (ap (λ es. es ++ r.0) (sym (append_assoc before part f.rest)) ∙ (append_assoc (before ++ part) f.rest r.0 ∙ ap (λ es. es ++ (f.rest ++ r.0)) (sym all)))) in
            record { parts = u.told ++ f.told; mid = f.mid; took_all = took_append took first sink f.mid u.told f.told u.took_all f.took_all; last = f.last; ended = f.ended; front = front }

        -- it was handed nothing of it
        pub front_so_far : TookFront took (setting_of s) took_front first sink
        front_so_far = front_of sink (took_no_more took parts (took_nothing took parts sink) [] _ (λ rest is. is) took_front sink (merged_of parts u.waiting) (inl (refl, refl)))

  module _ (u : IsUnderway took mind s first stage sink []) where
    so_far : IsStageAfter mind (end_to_end u.told) stage
    so_far = subst (λ es. IsStageAfter mind es stage) (append-nil (end_to_end u.told)) (u.after [] (nothing_merges [] refl))

    -- one window more was run
    pub ran : {plan : PlanRecord} {new : Stage M} {parts : List (Vec EntryRecord)} → IsNextWindow mind plan stage parts new → IsUnderway took mind s first new sink parts
    ran next = record {
      told = u.told;
      took_all = u.took_all;
      waiting = next.are_parts;
      after = λ merged is. next.stage merged is (end_to_end u.told) so_far;
      scenario = next.scenario ∙ u.scenario;
    }

    pub closed_so_far : IsInRange s → TookClosed took (setting_of s) first sink
    closed_so_far ranges = record {
      parts = u.told;
      took_all = u.took_all;
      tick = stage.start;
      before = so_far.before;
      after = stage_cut mind stage (end_to_end u.told) so_far s u.scenario ranges;
    }

    module _ (over : stage.start ≡ stage.scenario.now.horizon) where
      is_whole : IsTrace (setting_of s) (end_to_end u.told)
      is_whole = subst (λ z. IsTrace (setting_of z) (end_to_end u.told)) u.scenario (stage_trace mind stage (end_to_end u.told) so_far over)

      pub whole_told : TookTrace took (setting_of s) first sink
      whole_told = record { parts = u.told; took_all = u.took_all; is_trace = is_whole }

      pub few_told : (whole : List EntryRecord) → IsTrace (setting_of s) whole → length whole ≤ s.limit
      few_told whole t = omega (arith, ap length (one_trace (setting_of s) (end_to_end u.told) whole is_whole t), so_far.within, so_far.so_far, ap (λ (z : Record). z.limit) u.scenario)

-- ---- for the code

pub no_write : {A : Type 0} (r : Result A RunError) → IfErr r IsRefusal → writes_of r ≡ 0
no_write (Ok x) h = refl
no_write (Err e) (inl is) = ap (λ k. writes_of {X = Unit {0}} (Err k)) is
no_write (Err e) (inr (inl is)) = ap (λ k. writes_of {X = Unit {0}} (Err k)) is
no_write (Err e) (inr (inr is)) = ap (λ k. writes_of {X = Unit {0}} (Err k)) is
