use Rattle.{std.proofs.{Common.{refl}, lemmas.Str.{IsUtf8-past_char}}, printable.proofs.Characters.{one_more, ended}}
use Rattle.printable.proofs.write_text.Goals as goal

pub loop-c-preserved : goal.loop-c-preserved
loop-c-preserved g c =
    let held = c.loop-c.invariant in
    let parts = c.in-Some.ensures.steps.0 in (
      IsUtf8-past_char _ _ c.in-Some.c held.0 parts,
      λ plain. one_more _ _ _ _ _ _ _ _ c.in-Some.c held.0 parts (c.in_ok-write_one.ensures (held.1 plain).written.plain refl) (held.1 plain),
    )

pub returns : goal.returns
returns g c = λ plain ok. ended _ _ _ _ _ _ c.in-None.ensures.steps.0.0 (c.loop-c.invariant.1 plain)
