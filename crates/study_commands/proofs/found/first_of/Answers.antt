use Rattle.study_commands.proofs.{Words.{◌≡◌, ◌<◌, rules, length, get_or, Some, is_some, position}, Findings.{found_is}}
use Rattle.study_commands.proofs.found.first_of.Goals as goal

pub returns : goal.returns
returns g c =
    let all = c.args.all.now in
    let d = c.index-all-place.result in
    let at : position is_some all ≡ Some c.in_ok-place.place = search rules in
    let low : c.in_ok-place.place < length all = search rules in
    let is : get_or all c.in_ok-place.place d ≡ Some c.in_ok-what.what = search rules in
    rw c.count_of.ensures (found_is all c.args.begin c.in_ok-place.place c.in_ok-what.what d at is low)
