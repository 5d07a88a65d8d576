use Rattle.{std.proofs.Common.{map}, study_line.proofs.Words.{kind_by_words, nothing_by_words, stated_by_words}}
use Rattle.study_line.proofs.order.read_words.Goals as goal

pub returns-in-Ok-try_get_matches_from-clause-stated : goal.returns-in-Ok-try_get_matches_from-clause-stated
returns-in-Ok-try_get_matches_from-clause-stated c =
    stated_by_words c.in-Ok.command (map (λ w. w.now) c.args.words.now) c.in-Ok.ensures.0
    c.in-Ok-try_get_matches_from.matches c.in-Ok-try_get_matches_from.ensures.matches
    c.read_matches.result c.read_matches.ensures.0

pub returns-in-Ok-try_get_matches_from-clause-refused : goal.returns-in-Ok-try_get_matches_from-clause-refused
returns-in-Ok-try_get_matches_from-clause-refused c =
    nothing_by_words c.in-Ok.command (map (λ w. w.now) c.args.words.now) c.in-Ok.ensures.0
    c.in-Ok-try_get_matches_from.matches c.in-Ok-try_get_matches_from.ensures.matches
    c.in-Ok-try_get_matches_from.ensures.kinds c.read_matches.result c.read_matches.ensures.1

pub returns-in-Err-clause-refused : goal.returns-in-Err-clause-refused
returns-in-Err-clause-refused c =
    c.told_of.ensures (map (λ w. w.now) c.args.words.now)
    (kind_by_words c.in-Ok.command (map (λ w. w.now) c.args.words.now) c.in-Ok.ensures.0
    c.in-Err.error c.in-Err.ensures.kinds)
