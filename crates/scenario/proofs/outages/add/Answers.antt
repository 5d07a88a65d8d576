use Rattle.scenario.proofs.{Words.{◌∙◌, ℕ, Result, Ok, Err, OnOk, outages_in}, Cuts.{one_added}}
use Rattle.scenario.proofs.outages.add.Goals as goal

on_ok : {T E : Type 0} (r : Result T E) (A B : Type 0) → (A → B) → OnOk r A → OnOk r B
on_ok (Ok x) A B f a = f a
on_ok (Err e) A B f a = tt

pub returns-clause-lists : goal.returns-clause-lists
returns-clause-lists c = λ its says tables are.
    let pair : ℕ × ℕ = (c.args.pair.from, c.args.pair.to) in
    on_ok c.push_at.result _ _ (λ pushed. rw c.place_of.ensures.value at pushed ∙ one_added c.args.n (outages_in c.args.lists.now.items) tables its pair c.args.pair.outage are says.0 says.1 c.requires.processes) c.push_at.ensures
