use Rattle.windows.proofs.{Words.{ap, ◌∙◌, with_letters}, Posting.{posting_opens, posted_more}}
use Rattle.windows.proofs.berth.run_berth.Goals as goal

pub returns-clause-ran : goal.returns-clause-ran
returns-clause-ran g c = λ p is.
    let ran = c.in_ok-run_into.ensures.ran p is in
    let opens = posting_opens _ _ _ c.requires.slip c.in_ok-tray.ensures.fits c.in_ok-tray.ensures.empty _ c.in_ok-tray.ensures.slip in
    (ran.0, ran.1, c.keep.ensures ∙ (c.in_ok-post_all.ensures.ok ∙ (posted_more _ _ _ opens.0 _ ran.0 ran.2 ∙ ap (λ s. with_letters s ran.0) opens.1)))
