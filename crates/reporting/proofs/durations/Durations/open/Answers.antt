use Rattle.reporting.proofs.Words.{◌≡◌, ℕ, zero, suc, List, [], ◌∷◌, ◌++◌, ◌∙◌, refl, ap, get_or, map-append, arith, lists_in}
use Rattle.reporting.proofs.durations.Durations.open.Goals as goal

-- one empty list more
none_more : (xs : List (List ℕ)) → ((k : ℕ) → get_or xs k [] ≡ []) → (k : ℕ) → get_or (xs ++ [] ∷ []) k [] ≡ []
none_more [] none zero = refl
none_more [] none (suc k) = refl
none_more (x ∷ xs) none zero = none 0
none_more (x ∷ xs) none (suc k) = none_more xs (λ j. none (suc j)) k

pub loop-preserved : goal.loop-preserved
loop-preserved c =
    let pairs = c.loop.pairs.items in
    record {
      count = omega (arith, c.in_ok-push.ensures.len, c.loop.invariant.count);
      each = λ k. ap (λ ls. get_or ls k []) (ap lists_in c.in_ok-push.ensures.items ∙ (map-append (λ v. v.items) pairs (c.new.result ∷ []) ∙ ap (λ es. lists_in pairs ++ es ∷ []) c.new.ensures.items))
          ∙ none_more (lists_in pairs) c.loop.invariant.each k;
    }
