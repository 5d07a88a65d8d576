use Rattle.windows.proofs.{Words.{rules, refl, subst, ◌∙◌, ◌++◌, ◌∷◌, [], IsStay, stay}, Posting.{posting_more, posted_more, all_posted}, Gathered.{run_more}}
use Rattle.windows.proofs.workers.run_taken.Goals as goal

pub returns-then-saturating_mul-lt-MANY_LETTERS-clause-ran : goal.returns-then-saturating_mul-lt-MANY_LETTERS-clause-ran
returns-then-saturating_mul-lt-MANY_LETTERS-clause-ran g c =
    let w = c.args.shared.now in
    let ran = c.in_ok-run_into.ensures.ran _ refl in
    let is = subst (λ b. IsStay g.M.Process.mind w.window.now.streams w.window.now.end (stay b c.run_into.new.berth ran.0)) c.swap_memory.ensures.berth (ran.1, c.in_ok-run_into.ensures.berth) in
    let adds = c.in_ok-push.ensures.items ∙ (λ i. (c.swap_memory-2.ensures.done ∙ c.swap_memory.ensures.done) i ++ c.swap_memory-2.ensures.berth i ∷ []) in
    let now = posting_more _ _ _ c.requires.posting _ c.run_into.ensures.tray in
    run_more g.M.Process.mind w.window.now.streams w.window.now.end w.mailboxes.now _ _ _ _ _ _ ran.0 is now.by_slip (posted_more _ _ _ c.requires.posting _ ran.0 ran.2) adds

pub returns : goal.returns
returns g c =
    let w = c.args.shared.now in
    let ran = c.in_ok-run_into.ensures.ran _ refl in
    let is = subst (λ b. IsStay g.M.Process.mind w.window.now.streams w.window.now.end (stay b c.run_into.new.berth ran.0)) c.swap_memory.ensures.berth (ran.1, c.in_ok-run_into.ensures.berth) in
    let adds = c.in_ok-push.ensures.items ∙ (λ i. (c.swap_memory-2.ensures.done ∙ c.swap_memory.ensures.done) i ++ c.swap_memory-2.ensures.berth i ∷ []) in
    let now = all_posted _ _ _ (posting_more _ _ _ c.requires.posting _ c.run_into.ensures.tray) _ _ c.post_all.ensures.slip c.in_ok-post_all.ensures.ok c.in_ok-post_all.ensures.empty in
    record {
      posting = now.0;
      ran = run_more g.M.Process.mind w.window.now.streams w.window.now.end w.mailboxes.now _ _ _ _ _ _ ran.0 is now.0.by_slip
          (now.1 ∙ posted_more _ _ _ c.requires.posting _ ran.0 ran.2) adds;
      errors = tt;
      limit = search rules;
    }
