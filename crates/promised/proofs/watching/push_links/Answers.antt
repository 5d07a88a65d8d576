use Rattle.promised.proofs.{Words.{◌≡◌, ◌∙◌, ◌+◌, ◌++◌, rules, ap, append_assoc, sym, ℕ, Bool, true, false, [], ◌∷◌, filter, map, range_with_len, is_watched, watched_link, watch_of, WatchedLink}, Linking.{chosen_more, passed_more}}
use Rattle.promised.proofs.watching.push_links.Goals.{then-takes_in+in_ok-push, else-takes_in}
use Rattle.promised.proofs.watching.push_links.Goals as goal

pub loop-before-preserved : goal.loop-before-preserved
loop-before-preserved c =
    let S = c.args.scenario.now in
    let q = c.args.observer in
    let k = c.loop-before.before in
    let old = c.args.links.now.items in
    let p : ℕ → Bool = is_watched q S.processes (watch_of S.detector) in
    let f : ℕ → WatchedLink = watched_link S q in
    let so_far = map f (filter p (range_with_len 1 k)) in
    let next : c.after-subject.result ≡ k + 1 = c.after-subject.ensures in
    elim c.if-takes_in.branch [
      | then-takes_in+in_ok-push w ↦
          let is : p (k + 1) ≡ true = search (rules, w.if-takes_in.true) in
          let its : w.watched_link.result ≡ f (k + 1) = w.watched_link.ensures ∙ ap f next in
          let now : c.if-takes_in.links.items ≡ c.loop-before.links.items ++ w.watched_link.result ∷ [] = search rules in
          now ∙ ap (λ l. l ++ w.watched_link.result ∷ []) c.loop-before.invariant
          ∙ ap (λ x. (old ++ so_far) ++ x ∷ []) its
          ∙ append_assoc old so_far (f (k + 1) ∷ [])
          ∙ ap (λ l. old ++ l) (sym (chosen_more p f k is))
      | else-takes_in w ↦
          let is : p (k + 1) ≡ false = search (rules, w.if-takes_in.false) in
          let now : c.if-takes_in.links.items ≡ c.loop-before.links.items = search rules in
          now ∙ c.loop-before.invariant ∙ ap (λ l. old ++ l) (sym (passed_more p f k is))
    ]
