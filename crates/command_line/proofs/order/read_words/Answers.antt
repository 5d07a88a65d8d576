use Rattle.{std.proofs.Common.{map, refl}, command_line.proofs.Words.{kind_by_words, nothing_by_words, stated_by_words}}
use Rattle.command_line.proofs.order.read_words.Goals as goal

pub returns-in-Some-clause-stated : goal.returns-in-Some-clause-stated
returns-in-Some-clause-stated c =
    stated_by_words c.in-Ok.command (map (λ w. w.now) c.args.words.now) c.in-Ok.ensures c.in-Ok-try_get_matches_from.matches
    c.in-Ok-try_get_matches_from.ensures.matches c.in-Some.order c.in-Some.ensures.stated

pub returns-in-Ok-try_get_matches_from-clause-refused :
    goal.returns-in-Ok-try_get_matches_from-clause-refused
returns-in-Ok-try_get_matches_from-clause-refused c =
    nothing_by_words c.in-Ok.command (map (λ w. w.now) c.args.words.now) c.in-Ok.ensures c.in-Ok-try_get_matches_from.matches
    c.in-Ok-try_get_matches_from.ensures.matches c.in-Ok-try_get_matches_from.ensures.kinds (c.in-None.ensures.missing refl)

pub returns-clause-refused : goal.returns-clause-refused
returns-clause-refused c =
    c.told_of.ensures c.in-Ok.ensures.prints (map (λ w. w.now) c.args.words.now)
    (kind_by_words c.in-Ok.command (map (λ w. w.now) c.args.words.now) c.in-Ok.ensures c.in-Err.error c.in-Err.ensures.kinds)
