use Rattle.command_line.proofs.{Basics.{◌∙◌, sym, found_of, one_text, one_text-rows}, Words.{none_read, read_one}}
use Rattle.std.specs.Str.Parse.{ParsesUnsigned, ExplainsUnsignedError, HasUnsignedDigitsIfOk}
use Rattle.std.proofs.lemmas.Option.{IfSome_then}
use Rattle.command_line.proofs.order.number_at.Goals as goal

pub returns-clause-stated : goal.returns-clause-stated
returns-clause-stated c =
    let f = found_of c.args.found.now in
    let id = c.args.id.now in
    let read = read_one (λ bs r. ParsesUnsigned 64 10 bs r × ExplainsUnsignedError 10 bs r × HasUnsignedDigitsIfOk bs r) (one_text f id) c.get_one.result c.get_one.ensures.none c.get_one.ensures.value in
    IfSome_then c.get_one.result read (λ n h. (h.0, sym (one_text-rows f id) ∙ h.1, h.2.0))

pub returns-clause-missing : goal.returns-clause-missing
returns-clause-missing c none n stated =
    let f = found_of c.args.found.now in
    let id = c.args.id.now in
    let given = none_read (λ bs r. ParsesUnsigned 64 10 bs r × ExplainsUnsignedError 10 bs r × HasUnsignedDigitsIfOk bs r) (one_text f id) c.get_one.result c.get_one.ensures.value none stated.0 (one_text-rows f id ∙ stated.1) in
    given.1.0 stated.2.0
