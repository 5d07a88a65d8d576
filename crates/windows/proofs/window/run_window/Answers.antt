use Rattle.windows.proofs.{Words.{IfOk-weaker}, Waiting.{merged_ok}}
use Rattle.windows.proofs.window.run_window.Goals as goal

pub returns-clause-stage : goal.returns-clause-stage
returns-clause-stage g c =
    IfOk-weaker c.merge.result _ _ (λ v m. c.in_ok-parts.ensures.window.stage v.items m) (merged_ok c.in_ok-parts.parts.items c.merge.result c.merge.ensures.rising c.merge.ensures.same)

pub returns-clause-run : goal.returns-clause-run
returns-clause-run g c =
    IfOk-weaker c.merge.result _ _ (λ v m. c.in_ok-parts.ensures.window.run v.items m) (merged_ok c.in_ok-parts.parts.items c.merge.result c.merge.ensures.rising c.merge.ensures.same)
