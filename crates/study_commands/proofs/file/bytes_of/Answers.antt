use Rattle.study_commands.proofs.{Words.{ap, Err, absent, unreadable, too_long}, Reasons.{unread_told}}
use Rattle.study_commands.proofs.file.bytes_of.Goals as goal

pub returns-in-Err-NoSuchFile-clause-why : goal.returns-in-Err-NoSuchFile-clause-why
returns-in-Err-NoSuchFile-clause-why g c =
    unread_told (g.I.Read.remaining c.args.input.now) c.args.path.now absent c.told_with.result tt
    (c.in-Err-NoSuchFile.ensures.absent (ap Err c.in-Err-NoSuchFile.field-0-is)) c.told_with.ensures

pub returns-in-Err-Unreadable-clause-why : goal.returns-in-Err-Unreadable-clause-why
returns-in-Err-Unreadable-clause-why g c =
    unread_told (g.I.Read.remaining c.args.input.now) c.args.path.now unreadable _ tt tt
    c.told_with-in-Err-Unreadable.ensures

pub returns-in-Err-TooLong-clause-why : goal.returns-in-Err-TooLong-clause-why
returns-in-Err-TooLong-clause-why g c =
    unread_told (g.I.Read.remaining c.args.input.now) c.args.path.now too_long _ tt
    (λ named. c.in-Err-TooLong.ensures.long named (ap Err c.in-Err-TooLong.field-0-is))
    c.told_with-in-Err-TooLong.ensures
