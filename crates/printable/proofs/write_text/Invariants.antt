use Rattle.{std.proofs.Common.{IsUtf8}, std.specs.{Str.Iter.{chars_rest}, Fmt.{IsPlainFormatter}}}
use Rattle.{printable.specs.Printable.{shown_as}, printable.proofs.Characters.{IsUnderWay}}
use Rattle.printable.proofs.write_text.Given as goal

abbrev pub invariant-loop-c : goal.invariant-loop-c
invariant-loop-c g l = IsUtf8 (chars_rest l.c-iterator)
    × (IsPlainFormatter l.fn.f → IsUnderWay g.W.Write.write_str_gives (shown_as l.in_lines) l.fn.f l.f l.fn.text (chars_rest l.c-iterator))
