use Rattle.runs.proofs.{Words.{◌≡◌, ◌+◌, ◌*◌, ◌∙◌, [], ◌∷◌, ◌++◌, ℕ, cond, eqb, count_by, ap, sym, subst, arith, with_items_is, EntryRecord, is_trust, trusts, AreCounts}, Trusting.{entry_counted}}
use Rattle.std.specs.Vec.{with_items}
use Rattle.runs.proofs.trusts.Trusts.feed.Goals as goal

pub returns-then-len-processes : goal.returns-then-len-processes
returns-then-len-processes c = λ n trace are.
    let t = c.args.self.now in
    let entry = c.args.entry.now in
    let new = c.note_all.new.counts in
    let processes : c.from-processes.result ≡ n = c.from-processes.ensures ∙ are.processes in
    let Noted : ℕ → EntryRecord → Type 0 = λ m e. AreCounts m (λ q p. trusts trace q p + cond (eqb e.key.receiver q) (count_by (is_trust p) e.notes) 0) new in
    let before : AreCounts c.from-processes.result (trusts trace) c.deref_mut.result.now
    = subst (λ m. AreCounts m (trusts trace) c.deref_mut.result.now) (sym processes) (subst (AreCounts n (trusts trace)) (sym c.deref_mut.ensures.value) are.counts) in
    let after : AreCounts c.from-processes.result (λ q p. trusts trace q p + cond (eqb c.entry.inside.key.receiver q) (count_by (is_trust p) c.as_slice.result.now) 0) new
    = c.note_all.ensures (trusts trace) before in
    let whole = subst (λ notes. AreCounts c.from-processes.result (λ q p. trusts trace q p + cond (eqb c.entry.inside.key.receiver q) (count_by (is_trust p) notes) 0) new) c.as_slice.ensures.value after in
    let its : Noted n entry = subst (λ m. Noted m entry) processes (subst (Noted c.from-processes.result) c.entry.view_is whole) in
    let items : (with_items t.counts new).items ≡ new = with_items_is t.counts new (omega (arith, its.square, are.counts.square)) in
    record { processes = are.processes; counts = subst (AreCounts n (trusts (trace ++ entry ∷ []))) (sym items) (entry_counted n trace entry new its) }
