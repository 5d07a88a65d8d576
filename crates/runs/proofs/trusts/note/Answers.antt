use Rattle.runs.proofs.{Words.{◌≡◌, ◌+◌, ap, sym, cond, eqb, rules, is_trust}, Trusting.{same_counts}}
use Rattle.process_api.specs.declared.action.Note.TheVariants as note
use Rattle.runs.proofs.trusts.note.Goals as goal

pub returns-in-Trust-eq1-default : goal.returns-in-Trust-eq1-default
returns-in-Trust-eq1-default c = λ of are.
    let n = c.args.n in
    let o = c.args.observer in
    let who = c.in-Trust-eq1-default.who in
    let is : c.args.note.now ≡ note.Trust 1 who = search rules in
    same_counts n (λ q p. of q p + cond (eqb o q) (cond (eqb who p) 1 0) 0) (λ q p. of q p + cond (eqb o q) (cond (is_trust p c.args.note.now) 1 0) 0) c.count.new.counts
    (λ q p. ap (λ m. of q p + cond (eqb o q) (cond (is_trust p m) 1 0) 0) (sym is)) (c.count.ensures of are)
