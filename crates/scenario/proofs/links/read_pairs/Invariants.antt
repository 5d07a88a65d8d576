use Rattle.scenario.proofs.{Words.{◌≡◌, take, false, delays_of, are_bad_pairs, tables_in}, KeyFacts.{pair_keys}, Slots.{AreHeld, once}}
use Rattle.scenario.proofs.links.read_pairs.Given as goal

abbrev pub invariant-loop-i : goal.invariant-loop-i
invariant-loop-i l = record {
  clean : are_bad_pairs l.n (tables_in (take l.i l.tables)) ≡ false;
  hold : AreHeld (pair_keys l.n) (once delays_of) l.links.items (tables_in (take l.i l.tables));
}
