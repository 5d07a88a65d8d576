use Rattle.reporting.proofs.{Words.{sym, subst, arith, IsPlain}, NoQuotes.{plain_decimal}}
use Rattle.reporting.proofs.digits.digits_of.Goals as goal

pub returns : goal.returns
returns c = (
  c.format.ensures.text,
  subst IsPlain (sym c.format.ensures.text) (plain_decimal c.args.number (omega (arith, c.ranges.number.fits))),
)
