use Rattle.reporting.proofs.{Words.{arith, rules, length-decimal-le}, NoQuotes.{plain_decimal}}
use Rattle.reporting.proofs.digits.form_digits.Goals as goal

pub write_digits-requires : goal.write_digits-requires
write_digits-requires c = (omega (arith, length-decimal-le 20 c.args.number (omega arith) (omega arith) c.ranges.number.fits), search rules)

pub returns-clause-plain : goal.returns-clause-plain
returns-clause-plain c = plain_decimal c.args.number (omega (arith, c.ranges.number.fits))
