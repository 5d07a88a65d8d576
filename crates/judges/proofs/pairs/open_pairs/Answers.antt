use Rattle.judges.proofs.Words.{◌≡◌, ◌⊎◌, ◌<◌, ◌≤◌, ◌+◌, ◌++◌, ℕ, List, inl, inr, ap, ◌∙◌, arith, [], ◌∷◌, get_or, length, cases_lt, get_or_append_left, get_or_push, opened_at}
use Rattle.judges.proofs.pairs.open_pairs.Goals as goal

-- each element is known by its place, also where there is one more
known_pushed : {A : Type 0} (xs ys : List A) (x : A) (n : ℕ) (at : ℕ → A) → length xs ≡ n → ys ≡ xs ++ x ∷ [] → x ≡ at n → ((m : ℕ) (d : A) → m < n → get_or xs m d ≡ at m)
    → (m : ℕ) (d : A) → m < n + 1 → get_or ys m d ≡ at m
known_pushed xs ys x n at many more is known m d l = ap (λ l. get_or l m d) more ∙ go (cases_lt m n)
  where
    go : (m < n) ⊎ (n ≤ m) → get_or (xs ++ x ∷ []) m d ≡ at m
    go (inl p) = get_or_append_left xs (x ∷ []) d m (omega arith) ∙ known m d p
    go (inr p) = let same : n ≡ m = omega arith in get_or_push xs x d m (omega arith) ∙ is ∙ ap at same

pub loop-place-preserved : goal.loop-place-preserved
loop-place-preserved g c =
    let count : length c.loop-place.pairs.items ≡ c.loop-place.place = omega (arith, c.loop-place.pairs.ok.0, c.loop-place.invariant.count) in
    record {
      count = omega (arith, c.in_ok-push.ensures.len, c.loop-place.invariant.count);
      each = known_pushed c.loop-place.pairs.items c.push.new.self.items c.pair_at.result c.loop-place.place (opened_at c.args.ends.now c.args.kept) count c.in_ok-push.ensures.items c.pair_at.ensures c.loop-place.invariant.each;
    }
