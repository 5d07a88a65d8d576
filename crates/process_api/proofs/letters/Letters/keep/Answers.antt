use Rattle.process_api.proofs.{Basics.{◌∙◌, ap, sym, subst, refl, IsSome, keep, by_number, by_row, in_row, keep_one}, Rows.{row_changed}}
use Rattle.std.proofs.lemmas.Result.{on_ok_weaker}
use Rattle.process_api.proofs.letters.Letters.keep.Goals as goal

pub returns-in-Some : goal.returns-in-Some
returns-in-Some g c =
    let t = c.args.self.now.rows in
    let row = c.keep.new.self in
    on_ok_weaker c.keep.result
    (λ kept. row_changed t (c.get_mut.follows.lender row) c.args.round c.args.sender c.args.letter row
    ((c.get_mut.follows.holds row).3 (subst IsSome c.in-Some.ensures.value refl))
    (kept ∙ ap (λ o. keep_one (in_row o) c.args.sender c.args.letter) c.in-Some.ensures.value))
    c.keep.ensures

pub returns : goal.returns
returns g c =
    let t = c.get_mut.follows.lender-at-none in
    let same = c.get_mut.follows.holds-at-none in
    let absent = c.in_default.ensures.value ∙ ap (λ m. by_number m c.args.round) (sym same) in
    row_changed t c.insert.new.self c.args.round c.args.sender c.args.letter c.keep-2.new.self c.in_ok-insert.ensures.updates
    (c.in_ok-keep.ensures ∙ ap (λ f. keep_one f c.args.sender c.args.letter) (c.new-row.ensures ∙ ap in_row absent))
    ∙ ap (λ m. keep (by_row (by_number m)) c.args.round c.args.sender c.args.letter) same
