-- The network of a network file is in its ranges.
use Rattle.std.proofs.Common.{◌≡◌, ℕ, zero, suc, ◌≤◌, ◌==◌, ◌&&◌, ℤ, pos, negsuc, min, nat_le, nat_lt, List, [], ◌∷◌, length, find, Bool, true, false, not, Option, Some, None, option_map, option_and_then, is_some, refl, ap, sym, ◌∙◌, subst, arith, codes, if◌then◌else◌}
use Rattle.std.proofs.lemmas.{Bool.{leb-true, ltb-true, ltb-false, not-false}, List.Sorted.{All-permutation, length_permutation}, Slice.Zip.{AllZip-long}}
use Rattle.network.proofs.Basics.{All, AllZip, option_map_or, option_or, All-nil, All-cons, All-head, All-tail, All-weaker, Data, Items, Members, no_items, item, table, integer, array, get_member, all_items, is_number, tables_at, count, Outage, Field, both_field, burst_fields, cut_fields, fault_at, fault_of_value, first_of, first_outside, group_field, has_fault, has_more, is_empty_array, is_numbers, is_spell_table, items_in, key_of, lacks_member, needed, number_outside, outside, pause_fields, replay_fields, spell_field, takes, Said, SaysBurst, SaysCut, SaysNetwork, SaysPause, SaysReplay, SaysRhythm, each, lasts_in, mean, number_of, outage_of, outages_in, said_at, said_in, said_of, ticks, values, IsNetworkFile, IsTableOf, lies_within, replay_fault, most_tables, Replay, Rhythm}
use Rattle.{process_api.specs.Place.{last_tick}, scenario.specs.{Text.{natural}, Rules.{is_within}}, scenario.proofs.Within.{neither}}
use Rattle.network.specs.Ranges.{IsNetwork, IsReplay, IsRhythm, IsSpell, IsTicks, IsWithin, most_values}
use Rattle.network.specs.declared.{field.{Shape.{Shape}, TableKind.TheVariants.{Bursts, Cuts, Pauses, Replays}}, network.{Burst.{Burst}, Cut.{Cut}, Network.{Network}, Pause.{Pause}}, spell.Spell.{Spell}}
use Rattle.network.specs.declared.field.Shape.TheVariants as shape
use Rattle.network.specs.declared.refusal.TableFault.TheVariants as together
use Rattle.network.specs.declared.refusal.ValueFault.TheVariants as fault
use Rattle.network.specs.declared.spell.Spell.TheVariants as spell

-- ---- tests

both : (a b : Bool) → (a && b) ≡ true → (a ≡ true) × (b ≡ true)
both true b e = (refl, e)
both false b e = cc

none_of : {T : Type 0} (o : Option T) → is_some o ≡ false → o ≡ None
none_of None e = refl
none_of (Some x) e = cc

neither_of : {T : Type 0} (o p : Option T) → option_or o p ≡ None → (o ≡ None) × (p ≡ None)
neither_of None p e = (refl, e)
neither_of (Some x) p e = cc

nothing_mapped : {T U : Type 0} (f : T → U) (o : Option T) → option_map f o ≡ None → o ≡ None
nothing_mapped f None e = refl
nothing_mapped f (Some x) e = cc

inside_of : (b : Bool) (z : ℤ) → (if b then None else Some z) ≡ None → b ≡ true
inside_of true z e = refl
inside_of false z e = cc

some_counted : (n : ℕ) → (n == 0) ≡ false → 1 ≤ n
some_counted zero e = cc
some_counted (suc n) e = omega arith

not_first : {X : Type 0} (x : X) (b : Bool) (o : Option X) → (if b then Some x else o) ≡ None → (b ≡ false) × (o ≡ None)
not_first x true o e = cc
not_first x false o e = (refl, e)

none_found : {X : Type 0} (p : X → Bool) (xs : List X) → find p xs ≡ None → All (λ x. p x ≡ false) xs
none_found p [] e = All-nil (λ x. p x ≡ false)
none_found p (x ∷ xs) e =
    let parts = not_first x (p x) (find p xs) e in
    All-cons (λ y. p y ≡ false) x xs parts.0 (none_found p xs parts.1)

zip_all : {A B : Type 0} (R : A → B → Type 0) (P : A → Type 0) (Q : B → Type 0) → ((a : A) (b : B) → R a b → P a → Q b)
    → (xs : List A) (ys : List B) → AllZip R xs ys → All P xs → All Q ys
zip_all R P Q f [] [] zip h = All-nil Q
zip_all R P Q f (x ∷ xs) (y ∷ ys) zip h = All-cons Q y ys (f x y zip.0 (All-head P x xs h)) (zip_all R P Q f xs ys zip.1 (All-tail P x xs h))
zip_all R P Q f _ _ zip h = absurd zip

-- ---- values with no fault

record IsGood (its : Shape) (low high : ℕ) (d : Data) : Type 0 where
  shaped : takes its d ≡ true
  some : lacks_member its d ≡ false
  few : has_more its d ≡ false
  inside : number_outside its low high d ≡ None

chain : (f : Field) (a b c : Bool) (o : Option ℤ)
    → (if not a then Some (fault.OtherShape f.shape) else if b then Some fault.NoMember else if c then Some fault.TooManyValues else option_map (λ z. fault.OutOfRange z f.low f.high) o) ≡ None
    → (a ≡ true) × (b ≡ false) × (c ≡ false) × (o ≡ None)
chain f true false false o e = (refl, refl, refl, nothing_mapped (λ z. fault.OutOfRange z f.low f.high) o e)
chain f _ _ _ o e = cc

good_value : (f : Field) (d : Data) → fault_of_value f d ≡ None → IsGood f.shape f.low f.high d
unfolding fault_of_value
good_value f d e =
    let all = chain f (takes f.shape d) (lacks_member f.shape d) (has_more f.shape d) (number_outside f.shape f.low f.high d) e in
    record { shaped = all.0; some = all.1; few = all.2; inside = all.3 }

-- the value at a key that must be there
record Has (key : List ℕ) (its : Shape) (low high : ℕ) (t : Members) : Type 0 where
  value : Data
  there : get_member key t ≡ Some value
  good : IsGood its low high value

has : (key : List ℕ) (its : Shape) (low high : ℕ) (t : Members) → fault_at (needed key its low high) t ≡ None → Has key its low high t
unfolding fault_at
has key its low high t e = there_at (get_member key t) refl e
  where
    there_at : (o : Option Data) → get_member key t ≡ o → option_map_or (fault_of_value (needed key its low high)) o (Some fault.Missing) ≡ None → Has key its low high t
    there_at None is e = cc
    there_at (Some d) is e = record { value = d; there = is; good = good_value (needed key its low high) d e }

-- ---- numbers

cut_inside : (low high n : ℕ) → high ≤ 4294967295 → low ≤ n → n ≤ high → (low ≤ min n 4294967295) × (min n 4294967295 ≤ high)
cut_inside low high n fits above below = (omega arith, omega arith)

integer_inside : (low high : ℕ) (z : ℤ) → high ≤ 4294967295 → is_within low high z ≡ true → (low ≤ min (natural z) 4294967295) × (min (natural z) 4294967295 ≤ high)
integer_inside low high (pos n) fits e =
    let tests = both (nat_le low n) (nat_le n high) e in
    cut_inside low high n fits (leb-true low n tests.0) (leb-true n high tests.1)
integer_inside low high (negsuc n) fits e = cc

number_inside : (low high : ℕ) (d : Data) → high ≤ 4294967295 → is_number d ≡ true → outside low high d ≡ None → (low ≤ number_of d) × (number_of d ≤ high)
unfolding number_of
number_inside low high (integer z) fits is none = integer_inside low high z fits (inside_of (is_within low high z) z none)
number_inside low high _ fits is none = cc

is_ticks : (d : Data) → is_number d ≡ true → outside 1 last_tick d ≡ None → IsTicks (number_of d)
is_ticks d is none =
    let ends = number_inside 1 last_tick d (omega arith) is none in
    record { low = ends.0; high = ends.1 }

each_ticks : (ds : Items) → all_items is_number ds ≡ true → first_of (outside 1 last_tick) ds ≡ None → All IsTicks (each number_of ds)
each_ticks no_items are none = All-nil IsTicks
each_ticks (item d ds) are none =
    let numbers = both (is_number d) (all_items is_number ds) are in
    let inside = neither_of (outside 1 last_tick d) (first_of (outside 1 last_tick) ds) none in
    All-cons IsTicks (number_of d) (each number_of ds) (is_ticks d numbers.0 inside.0) (each_ticks ds numbers.1 inside.1)

each_counted : {T : Type 0} (f : Data → T) (ds : Items) → length (each f ds) ≡ count ds
each_counted f no_items = refl
each_counted f (item d ds) = ap suc (each_counted f ds)

-- ---- gaps and lengths

record AreGood (ns : List ℕ) : Type 0 where
  some : 1 ≤ length ns
  few : length ns ≤ most_values
  each : All IsTicks ns

abbrev IsGoodSaid : Said → Type 0
IsGoodSaid (ticks n) = IsTicks n
IsGoodSaid (values ns) = AreGood ns
IsGoodSaid (mean m) = IsTicks m

good_values : (v : Data) → is_numbers v ≡ true → is_empty_array v ≡ false → nat_lt most_values (count (items_in v)) ≡ false
    → first_outside 1 last_tick v ≡ None → AreGood (each number_of (items_in v))
good_values (array ds) are some few none =
    let long = each_counted number_of ds in
    record {
      some = let n = some_counted (count ds) some in omega (arith, long, n);
      few = let n = ltb-false most_values (count ds) few in omega (arith, long, n);
      each = each_ticks ds are none;
    }
good_values _ are some few none = cc

good_table : (b : Bool) (m v : Option Data) → (b && option_map_or is_number m (option_map_or is_numbers v false)) ≡ true
    → option_map_or is_empty_array v false ≡ false → option_map_or (λ v. nat_lt most_values (count (items_in v))) v false ≡ false
    → option_or (option_and_then (outside 1 last_tick) m) (option_and_then (first_outside 1 last_tick) v) ≡ None
    → IsGoodSaid (option_map_or (λ m. mean (number_of m)) m (values (option_map_or (λ v. each number_of (items_in v)) v [])))
good_table b (Some m) v are some few none =
    is_ticks m (both b (is_number m) are).1 (neither_of (outside 1 last_tick m) (option_and_then (first_outside 1 last_tick) v) none).0
good_table b None (Some v) are some few none = good_values v (both b (is_numbers v) are).1 some few none
good_table b None None are some few none = let no : false ≡ true = (both b false are).1 in cc

good_said : (d : Data) → IsGood shape.Spell 1 last_tick d → IsGoodSaid (said_in d)
unfolding is_spell_table
good_said (integer z) good = is_ticks (integer z) refl (neither_of (outside 1 last_tick (integer z)) None good.inside).0
good_said (table ms) good = good_table _ (get_member (codes "mean") ms) (get_member (codes "values") ms) good.shaped good.some good.few good.inside
good_said _ good = let e = good.shaped in cc

good_spell : (s : Spell) → IsGoodSaid (said_of s) → IsSpell s
good_spell (spell.Ticks n) good = good
good_spell (spell.Values its) good = record { some = good.some; few = good.few; each = good.each }
good_spell (spell.Mean m) good = good

spell_in_range : (key : List ℕ) (t : Members) (s : Spell) → said_of s ≡ said_at key t → fault_at (spell_field key) t ≡ None → IsSpell s
spell_in_range key t s is e =
    let its = has key shape.Spell 1 last_tick t e in
    let said : said_of s ≡ said_in its.value = is ∙ ap (λ o. option_map_or said_in o (values [])) its.there in
    good_spell s (subst IsGoodSaid (sym said) (good_said its.value its.good))

rhythm_in_range : (t : Members) (r : Rhythm) → SaysRhythm t r → fault_at (spell_field (codes "gap")) t ≡ None
    → fault_at (spell_field (codes "length")) t ≡ None → IsRhythm r
rhythm_in_range t r says gap long = record {
  gap = spell_in_range (codes "gap") t r.gap says.gap gap;
  length = spell_in_range (codes "length") t r.length says.length long;
}

-- ---- tables

burst_in_range : (t : Members) (b : Burst) → SaysBurst t b → IsTableOf Bursts t → IsRhythm b.rhythm
unfolding has_fault burst_fields
burst_in_range t b says is =
    let gap = (neither (is_some (fault_at both_field t)) _
    (neither (is_some (fault_at (group_field (codes "to")) t)) _ (neither (is_some (fault_at (group_field (codes "from")) t)) _ is.values).1).1).1 in
    let long = (neither _ _ gap).1 in
    rhythm_in_range t b.rhythm says.rhythm (none_of _ (neither _ _ gap).0) (none_of _ (neither _ false long).0)

cut_in_range : (t : Members) (c : Cut) → SaysCut t c → IsTableOf Cuts t → IsRhythm c.rhythm
unfolding has_fault cut_fields
cut_in_range t c says is =
    let gap = (neither _ _ is.values).1 in
    let long = (neither _ _ gap).1 in
    rhythm_in_range t c.rhythm says.rhythm (none_of _ (neither _ _ gap).0) (none_of _ (neither _ _ long).0)

pause_in_range : (t : Members) (p : Pause) → SaysPause t p → IsTableOf Pauses t → IsRhythm p.rhythm
unfolding has_fault pause_fields
pause_in_range t p says is =
    let gap = (neither _ _ is.values).1 in
    let long = (neither _ _ gap).1 in
    rhythm_in_range t p.rhythm says.rhythm (none_of _ (neither _ _ gap).0) (none_of _ (neither _ _ long).0)

within_record : (lasts : ℕ) (o : Outage) → not (lies_within lasts o) ≡ false → IsWithin lasts o
within_record lasts o e =
    let tests = both (nat_lt o.begin o.until) (nat_le o.until lasts) (not-false (lies_within lasts o) e) in
    record { some = ltb-true o.begin o.until tests.0; within = leb-true o.until lasts tests.1 }

all_within : (t : Members) → replay_fault t ≡ None → All (IsWithin (lasts_in t)) (outages_in t)
unfolding replay_fault
all_within t e =
    All-weaker (λ o. not (lies_within (lasts_in t) o) ≡ false) (IsWithin (lasts_in t)) (within_record (lasts_in t)) (outages_in t)
    (none_found (λ o. not (lies_within (lasts_in t) o)) (outages_in t)
    (nothing_mapped (λ o. together.NotWithin o.begin o.until (lasts_in t)) (find (λ o. not (lies_within (lasts_in t) o)) (outages_in t)) e))

some_outages : (d : Data) → IsGood shape.Outages 0 last_tick d → 1 ≤ length (each outage_of (items_in d))
some_outages (array ds) good = let n = some_counted (count ds) good.some in omega (arith, each_counted outage_of ds, n)
some_outages _ good = let e = good.shaped in cc

record_in_range : (t : Members) (r : Replay) → SaysReplay t r → fault_at (needed (codes "lasts") shape.Number 1 last_tick) t ≡ None
    → fault_at (needed (codes "outages") shape.Outages 0 last_tick) t ≡ None → replay_fault t ≡ None → IsReplay r
record_in_range t r says lasts outages together =
    let long = has (codes "lasts") shape.Number 1 last_tick t lasts in
    let its = has (codes "outages") shape.Outages 0 last_tick t outages in
    let ticks : lasts_in t ≡ number_of long.value = ap (λ o. option_map_or number_of o 0) long.there in
    let list : outages_in t ≡ each outage_of (items_in its.value) = ap (λ o. option_map_or (λ d. each outage_of (items_in d)) o []) its.there in
    let counted : length r.outages.items ≡ length (each outage_of (items_in its.value)) = length_permutation (outages_in t) r.outages.items says.outages ∙ ap length list in
    let some = some_outages its.value its.good in
    let all : All (IsWithin (lasts_in t)) r.outages.items = All-permutation (IsWithin (lasts_in t)) (outages_in t) r.outages.items says.outages (all_within t together) in
    record {
      lasts = subst IsTicks (sym (says.lasts ∙ ticks)) (is_ticks long.value long.good.shaped long.good.inside);
      some = omega (arith, counted, some);
      outages = subst (λ n. All (IsWithin n) r.outages.items) (sym says.lasts) all;
      in_order = says.in_order;
    }

replay_in_range : (t : Members) (r : Replay) → SaysReplay t r → IsTableOf Replays t → IsReplay r
unfolding has_fault replay_fields
replay_in_range t r says is =
    let lasts = (neither (is_some (fault_at both_field t)) _
    (neither (is_some (fault_at (group_field (codes "to")) t)) _ (neither (is_some (fault_at (group_field (codes "from")) t)) _ is.values).1).1).1 in
    let outages = (neither _ _ lasts).1 in
    record_in_range t r says (none_of _ (neither _ _ lasts).0) (none_of _ (neither _ false outages).0) is.together

-- ---- the file

few_tables : {T : Type 0} (R : Members → T → Type 0) (ts : List Members) (its : List T) → AllZip R ts its → length ts ≤ most_tables → length its ≤ most_tables
few_tables R ts its zip few = let same = AllZip-long R ts its zip in omega (arith, same, few)

pub in_range : (file : Members) (its : Network) → IsNetworkFile file → SaysNetwork file its → IsNetwork its
in_range file its is says =
    let bursts = is.tables Bursts in
    let cuts = is.tables Cuts in
    let pauses = is.tables Pauses in
    let replays = is.tables Replays in
    record {
      bursts = zip_all SaysBurst (IsTableOf Bursts) (λ (b : Burst). IsRhythm b.rhythm) burst_in_range (tables_at (key_of Bursts) file) its.bursts.items says.bursts bursts.each;
      few_bursts = few_tables SaysBurst (tables_at (key_of Bursts) file) its.bursts.items says.bursts bursts.few;
      cuts = zip_all SaysCut (IsTableOf Cuts) (λ (c : Cut). IsRhythm c.rhythm) cut_in_range (tables_at (key_of Cuts) file) its.cuts.items says.cuts cuts.each;
      few_cuts = few_tables SaysCut (tables_at (key_of Cuts) file) its.cuts.items says.cuts cuts.few;
      pauses = zip_all SaysPause (IsTableOf Pauses) (λ (p : Pause). IsRhythm p.rhythm) pause_in_range (tables_at (key_of Pauses) file) its.pauses.items says.pauses pauses.each;
      few_pauses = few_tables SaysPause (tables_at (key_of Pauses) file) its.pauses.items says.pauses pauses.few;
      replays = zip_all SaysReplay (IsTableOf Replays) IsReplay replay_in_range (tables_at (key_of Replays) file) its.replays.items says.replays replays.each;
      few_replays = few_tables SaysReplay (tables_at (key_of Replays) file) its.replays.items says.replays replays.few;
    }
