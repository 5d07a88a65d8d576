use Rattle.study_commands.proofs.{Words.{◌≡◌, false, true, subst, ℕ, List, None, IsDocumentOf, IsOfBytes}, Reasons.{bytes_table}}
use Rattle.study_commands.proofs.file.table_of.Goals as goal

pub returns-clause-why : goal.returns-clause-why
returns-clause-why g c =
    let P : List ℕ → Type 0 = λ b. IsDocumentOf b None in
    let Q : List ℕ → Type 0 = λ b. IsOfBytes c.args.path.now b c.refusal_of.result in
    let none : P c.deref.result.now = c.in-Err.ensures.refused (λ m.
    let both : false ≡ true = rw c.if-is_memory.false at (c.is_memory.ensures.1 m) in cc) in
    bytes_table (g.I.Read.remaining c.args.input.now) c.args.path.now _ c.refusal_of.result c.in_ok-bytes.ensures.bytes
    (subst P c.deref.ensures.value none) (subst Q c.deref-in-Err-2.ensures.value c.refusal_of.ensures)
