use Rattle.process_api.proofs.{Basics.{rules, ℕ, ◌<◌, ◌^◌, get_or, sym, ◌∙◌, subst, HasAbove}, OneWord.{is_word, has_above}}
use Rattle.process_api.proofs.proc_set.ProcSet.to_word.Goals as goal

pub returns-then-second-third-ne0-clause-above : goal.returns-then-second-third-ne0-clause-above
returns-then-second-third-ne0-clause-above c = λ _.
    let fits : (k : ℕ) → get_or c.self.inside.words k 0 < 2 ^ 64 = λ k. search rules in
    subst (HasAbove 64) c.self.view_is (has_above c.self.inside.words c.if-second-third-ne0.true fits)

pub returns-clause-word : goal.returns-clause-word
returns-clause-word c = sym (is_word c.self.inside.words c.if-second-third-ne0.false) ∙ c.self.view_is
