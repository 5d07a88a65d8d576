use Rattle.mailboxes.proofs.Words.{◌≡◌, ◌<◌, ◌++◌, ◌∷◌, ◌∙◌, [], ℕ, List, length, append-nil, append_assoc, ap, arith, nil_from_length, refl, subst, sym, admits, Letter, Result, Ok, Err, OnOk, on_ok_weaker, Holds}
use Rattle.mailboxes.proofs.mailbox.collect_all.Goals as goal

-- letters that aren't none have a first and a rest
next_held : (Held : List Letter → Type 0) (n : ℕ) (rest : List Letter) → Held rest → length rest ≡ n → 0 < n → (x : Letter) × (xs : List Letter) × (rest ≡ x ∷ xs) × Held (x ∷ xs)
next_held Held n [] held count some = absurd (omega (arith, some, count))
next_held Held n (x ∷ xs) held count some = (x, xs, refl, held)

told_of_all : {A E : Type 0} (Held Then : List Letter → Type 0) (r : Result A E) → ((l : List Letter) → Held l → OnOk r (Then l)) → OnOk r ((l : List Letter) → Held l → Then l)
told_of_all Held Then (Ok _) each = each
told_of_all Held Then (Err _) each = tt

pub next_of-letter-requires : goal.next_of-letter-requires
next_of-letter-requires g c =
    let e = c.loop-pass.invariant.3 c.requires.1.0 c.requires.1.1 in
    let s = next_held (Holds c.args.queue.now c.loop-pass.pass c.loop-pass.batch) _ e.1 e.3 e.3.8 (omega (arith, c.loop-pass-test.true, c.len.ensures)) in
    (c.loop-pass.invariant.0, admits, (s.0, s.1, s.3))

pub loop-pass-smaller : goal.loop-pass-smaller
loop-pass-smaller g c =
    let e = c.loop-pass.invariant.3 c.requires.1.0 c.requires.1.1 in
    let s = next_held (Holds c.args.queue.now c.loop-pass.pass c.loop-pass.batch) _ e.1 e.3 e.3.8 (omega (arith, c.loop-pass-test.true, c.len.ensures)) in
    omega (arith, (c.next_of-letter.ensures.item s.0 s.1 s.3).1.8, s.3.8)

pub loop-pass-preserved : goal.loop-pass-preserved
loop-pass-preserved g c = (
  c.next_of-letter.ensures.queue.0,
  c.next_of-letter.ensures.queue.1 ∙ c.loop-pass.invariant.1,
  c.next_of-letter.ensures.queue.2 ∙ c.loop-pass.invariant.2,
  λ letters holds.
      let e = c.loop-pass.invariant.3 letters holds in
      let s = next_held (Holds c.args.queue.now c.loop-pass.pass c.loop-pass.batch) _ e.1 e.3 e.3.8 (omega (arith, c.loop-pass-test.true, c.len.ensures)) in
      let n = c.next_of-letter.ensures.item s.0 s.1 s.3 in (
        e.0 ++ s.0 ∷ [],
        s.1,
        e.2 ∙ ap (λ l. e.0 ++ l) s.2 ∙ sym (append_assoc e.0 (s.0 ∷ []) s.1),
        n.1,
        on_ok_weaker c.collect_after-told.result
            (λ p first so_far had.
            let T = g.T.Collects.collected in
            let before : (f : g.row.T.Denot) (so : List Letter) → T f c.args.to.now so → T f c.loop-pass.to (so ++ e.0) =
            subst (λ t. OnOk t ((f : g.row.T.Denot) (so : List Letter) → T f c.args.to.now so → T f c.loop-pass.to (so ++ e.0))) p.0 e.4 in
            subst (T first c.collect_after-told.new.to) (append_assoc so_far e.0 _ ∙ ap (λ y. so_far ++ (e.0 ++ y ∷ [])) n.0) (p.1 first (so_far ++ e.0) (before first so_far had))) c.collect_after-told.ensures,
      ),
)

pub returns-clause-to : goal.returns-clause-to
returns-clause-to g c =
    let T = g.T.Collects.collected in
    told_of_all (Holds c.args.queue.now c.args.pass.now c.args.batch) (λ l. (f : g.row.T.Denot) (so : List Letter) → T f c.args.to.now so → T f c.loop-pass.to (so ++ l)) c.loop-pass.told (λ letters holds.
    let e = c.loop-pass.invariant.3 letters holds in
    let none : e.1 ≡ [] = nil_from_length e.1 (omega (arith, c.loop-pass-test.false, c.len.ensures, e.3.8)) in
    on_ok_weaker c.loop-pass.told (λ had first so_far was. subst (g.T.Collects.collected first c.loop-pass.to) (ap (λ l. so_far ++ l) (sym (e.2 ∙ ap (λ l. e.0 ++ l) none ∙ append-nil e.0))) (had first so_far was)) e.4)
