use Rattle.sweep.proofs.{Words.{◌≡◌, ◌+◌, ◌∷◌, [], Some, cond, ap, sym, ◌∙◌, arith, unwrap_or, is_at, lookup, nat_cmp, length_push, sum_by_push, passing, greater}, Counting.{passing_more, lookup_le, total_of}, Greatest.{greatest_both}}
use Rattle.sweep.proofs.value_counts.ValueCounts.add.Goals as goal

pub returns : goal.returns
returns c values few told =
    let es = c.args.self.now.counts.entries in
    let v = c.args.value in
    let had : c.unwrap_or-had.result ≡ unwrap_or (lookup (is_at (nat_cmp v)) es) 0 = c.unwrap_or-had.ensures ∙ ap (λ o. unwrap_or o 0) (c.copied.ensures ∙ c.get.ensures.value) in
    let low = lookup_le (is_at (nat_cmp v)) es in
    let all = total_of values es told.counts in
    let next : c.saturating_add.result ≡ unwrap_or (lookup (is_at (nat_cmp v)) es) 0 + 1 = omega (arith, c.saturating_add.ensures, had, low, all, few) in
    record {
      counts = λ test. sum_by_push (λ w. cond (test w) 1 0) values v ∙ ap (λ n. n + cond (test v) 1 0) (told.counts test)
          ∙ sym (ap (passing test) c.in_ok-insert.ensures.entries ∙ passing_more test es v c.saturating_add.result 1 c.in_ok-insert.ensures.was_ordered next);
      total = omega (arith, c.saturating_add-self.ensures, told.total, few, length_push values v);
      highest = c.greater-self.ensures ∙ ap (λ o. greater o (Some v)) told.highest ∙ sym (greatest_both values (v ∷ []));
    }
