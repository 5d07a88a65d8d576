use Rattle.sweep.proofs.{Words.{◌≡◌, ℕ, Bool, true, false, is_some, cond, refl, sym, ◌∙◌, [], ◌∷◌, Record, Group, limited_run, rules, AreLayerNumbers, AreOfLimited, AreOfNoLayer}, Layered.{has_first, has_second}}
use Rattle.sweep.specs.declared.run_numbers.LayerNumbers.{LayerNumbers}
use Rattle.sweep.proofs.run_numbers.GroupNumbers.of_limited.Goals as goal

second : (group : Group) (S : Record) (n : LayerNumbers) (b : Bool) (count : ℕ) → b ≡ is_some S.share → count ≡ cond b 1 0
    → (count ≡ 1 → AreOfLimited n) → (count ≡ 0 → AreOfNoLayer n) → AreLayerNumbers group 2 (limited_run S ∷ []) n
second group S n true count is one some none = some one group 2 S (has_second S ∙ sym is)
second group S n false count is zero some none = none zero group 2 (limited_run S) (has_second S ∙ sym is)

pub returns : goal.returns
returns c group =
    let S = c.args.scenario.now in
    let count : c.from.result ≡ cond c.is_shared.result 1 0 = search rules in
    record {
      first = c.of_nothing.ensures.limited refl group 1 S (has_first S);
      second = second group S c.of_nothing-2.result c.is_shared.result c.from.result c.is_shared.ensures count c.of_nothing-2.ensures.limited c.of_nothing-2.ensures.none;
    }
