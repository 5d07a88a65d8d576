use Rattle.{std.proofs.Common.{take}, std.specs.Fmt.{HasWritten, IsPlainFormatter}, diagnosis.specs.Text.{names_text}}
use Rattle.diagnosis.proofs.text.write_names.Given as goal

abbrev pub invariant-loop-name : goal.invariant-loop-name
invariant-loop-name g l =
    IsPlainFormatter l.fn.f → HasWritten g.W.Write.write_str_gives l.fn.f (names_text (take l.name-index l.names)) l.f
