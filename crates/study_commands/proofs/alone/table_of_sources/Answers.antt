use Rattle.std.proofs.Common.{◌≡◌, false, rules}
use Rattle.study.specs.Placed.{is_memory}
use Rattle.study.specs.declared.error.ReadError.TheVariants as error
use Rattle.study_commands.proofs.alone.table_of_sources.Goals as goal

pub returns-in-Err-2-clause-why : goal.returns-in-Err-2-clause-why
returns-in-Err-2-clause-why c =
    let other : is_memory c.in-Err.error ≡ false = search rules in
    record { reason = error.Place c.in-Err.error; other = other; refused = c.in-Err.ensures.err other }
