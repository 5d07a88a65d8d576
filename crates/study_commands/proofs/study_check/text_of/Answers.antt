use Rattle.study_commands.proofs.Words.{◌≡◌, ◌∙◌, ◌-◌, ◌++◌, ap, rules, length, string_bytes, range_with_len, length-range_with_len, runs, numbers_of, study_begin}
use Rattle.study_commands.proofs.study_check.text_of.Goals as goal

pub returns : goal.returns
returns g c =
    let grid = c.args.said.now.grid in
    let its = numbers_of grid c.args.said.now.shard in
    let count = c.points-its.result.end - c.points-its.result.start in
    let is : its ≡ range_with_len c.points-its.result.start count = search rules in
    let counted : length its ≡ count = ap length is ∙ length-range_with_len c.points-its.result.start count in
    let begin : string_bytes c.in_ok-text.text ≡ study_begin (length its) (length (runs grid)) =
    rw (counted, ← c.runs-runs.ensures.value) c.in_ok-text.ensures.ok in
    (c.as_str.result.now, c.in_ok-push_str.ensures.bytes ∙ ap (λ t. t ++ c.as_str.result.now) begin)
