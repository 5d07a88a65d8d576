use Rattle.shell.proofs.Basics.{◌≤◌, length, Consumes, most_bytes}
use Rattle.shell.proofs.input.read_all.Given as goal

-- the bytes so far are what is gone of the input, and are not too many
abbrev pub invariant-loop : goal.invariant-loop
invariant-loop g l = record {
  within : length l.bytes.items ≤ most_bytes;
  gone : Consumes (g.R.Read.remaining l.fn.input) (g.R.Read.remaining l.input) l.bytes.items;
}
