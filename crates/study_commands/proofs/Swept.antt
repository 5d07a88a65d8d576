-- Where a study stops, and what a sweep leaves.
use Rattle.study_commands.proofs.Words.{◌≡◌, ℕ, ◌<◌, ◌⊎◌, inl, inr, refl, subst, sym, Result, Err, IfErr, List, length, take, Option, arith, All-contains, All-drop, All-take, length-range_with_len, get_or-range_with_len, LeftAt, MayHaveGone, Went, IsBefore, IsRefusal, end_of, StopsSweep, Fault, Refused, WroteNothing, GridRecord, points, SourceTexts, IsTextOf, numbers_of, units_of, SourcesRecord}
use Rattle.{study_commands.proofs.Reasons.{stops_so}, std.specs.List.{All, Contains, range_with_len}}
use Rattle.study_commands.specs.{Inside.Private.{IsFaultOf, IsOfRun}, Sweep.{IsSaid, IsSweepAnswer, IsSweepFront}}
use Rattle.study.specs.Grid.{ShardRecord, end_of as shard_end}
use Rattle.study_line.specs.declared.order.StudyTexts.{StudyTexts}
use Rattle.sweep.specs.{Layout.{LayoutRecord}, Outcome.{BreaksOff, CantBeRun, IsFirstUnready, WroteStudy, WroteFirst}, declared.{error.SweepError.{SweepError}, group.Group.{Group}}}
use Rattle.sweep.specs.declared.error.SweepError.TheVariants as error

-- what stands for a failure stands where that is answered
pub if_err : {A F : Type 0} (r : Result A F) (Stands : F → Type 0) (f : F) → r ≡ Err f → Stands f → IfErr r Stands
if_err r Stands f is stands = subst (λ answer. IfErr answer Stands) (sym is) stands

-- a point of a shard is one of the study's
point_within : (g : GridRecord) (shard : ShardRecord) (point : ℕ) → Contains (numbers_of g shard) point
    → point < length (points g)
point_within g shard point =
    let n = length (points g) in
    let below : All (λ p. p < n) (range_with_len 0 n) = λ k d within.
    let low : k < n = omega (arith, within, length-range_with_len 0 n) in
    omega (arith, get_or-range_with_len 0 n k d low, low) in
    let till = shard_end (length (range_with_len 0 n)) shard in
    let low = All-take (λ p. p < n) till (range_with_len 0 n) below in
    All-contains (λ p. p < n) (numbers_of g shard) point (All-drop (λ p. p < n) _ (take till (range_with_len 0 n)) low)

-- and a run of the shard that is refused
pub cant_of_run : (sources : SourcesRecord) (g : GridRecord) (shard : ShardRecord) (groups : List Group) (e : SweepError) → CantBeRun sources g groups shard e
    → IsOfRun g e
cant_of_run sources g shard groups (error.Refused point run reason) cant = (point_within g shard point cant.point_in, cant.run_in)
cant_of_run sources g shard groups (error.NoSuchProcess point run group processes) cant = (point_within g shard point cant.point_in, cant.run_in)
cant_of_run sources g shard groups error.Memory cant = tt
cant_of_run sources g shard groups error.Write cant = tt

module _ {input : Option (List ℕ)} {texts : SourceTexts} {study : StudyTexts} {sources : SourcesRecord} {g : GridRecord}
    {shard : ShardRecord} {layout : LayoutRecord} (said : IsSaid input texts study sources g shard layout) where
  -- a run of the study is refused
  run_stops : (point run : ℕ) (reason : SweepError) (f : Fault) → IsFirstUnready sources g layout.groups shard point run reason
      → IsRefusal f → IsBefore (StopsSweep input texts study) f
  run_stops point run reason (Refused line) first is = inr (record {
    sources = sources;
    are_sources = said.are_sources;
    grid = g;
    is_grid = said.is_grid;
    shard = shard;
    is_shard = said.is_shard;
    point = point;
    run = run;
    layout = layout;
    is_layout = said.is_layout;
    reason = reason;
    first = first;
  })
  run_stops point run reason _ first is = absurd is

  -- a study can't be run
  pub cant_stop : (e : SweepError) (f : Fault) → CantBeRun sources g layout.groups shard e → IsFaultOf e f
      → IsBefore (StopsSweep input texts study) f
  cant_stop (error.Refused point run reason) f cant is = run_stops point run (error.Refused point run reason) f cant is
  cant_stop (error.NoSuchProcess point run group processes) f cant is =
      run_stops point run (error.NoSuchProcess point run group processes) f cant is
  cant_stop error.Memory f cant is = rw is tt
  cant_stop error.Write f cant is = absurd cant

  front : (count : ℕ) (piece : List ℕ) → IsTextOf sources g shard layout (take count (units_of layout.rows g shard)) piece
      → IsSweepFront input texts study piece
  front count piece text =
      record { sources = sources; grid = g; shard = shard; layout = layout; said = said; count = count; text = text }

  module _ {O : Type 0} (told : O → Option (List ℕ)) (failed : O → ℕ) (old new : O) where
    pub swept : WroteStudy sources g shard layout told failed old new
        → Went told failed old new (IsSweepAnswer input texts study)
    swept wrote = record {
      piece = wrote.text;
      is_wanted = record { sources = sources; grid = g; shard = shard; layout = layout; said = said; text = wrote.is_text };
      written = wrote.wrote;
    }

    left : WroteNothing told failed old new ⊎ WroteFirst sources g shard layout told failed old new
        → MayHaveGone told failed old new (IsSweepFront input texts study)
    left (inl nothing) = inl nothing
    left (inr first) = inr (record {
      piece = first.text;
      is_wanted = front first.count first.text first.is_text;
      written = first.wrote;
    })

    pub breaks_of_run : (e : SweepError) → BreaksOff sources g shard layout told failed old new e → IsOfRun g e
    breaks_of_run (error.Refused point run reason) broke =
        cant_of_run sources g shard layout.groups (error.Refused point run reason) broke.0
    breaks_of_run (error.NoSuchProcess point run group processes) broke =
        cant_of_run sources g shard layout.groups (error.NoSuchProcess point run group processes) broke.0
    breaks_of_run error.Memory broke = tt
    breaks_of_run error.Write broke = tt

    pub sweep_why : (e : SweepError) (f : Fault) → BreaksOff sources g shard layout told failed old new e
        → IsFaultOf e f → StopsSweep input texts study f
    sweep_why (error.Refused point run reason) f broke is =
        stops_so (StopsSweep input texts study) f (run_stops point run (error.Refused point run reason) f broke.0 is)
    sweep_why (error.NoSuchProcess point run group processes) f broke is =
        stops_so (StopsSweep input texts study) f
        (run_stops point run (error.NoSuchProcess point run group processes) f broke.0 is)
    sweep_why error.Memory f broke is = rw is tt
    sweep_why error.Write f broke is = rw is tt

    pub sweep_leaves : (e : SweepError) (f : Fault) → BreaksOff sources g shard layout told failed old new e
        → IsFaultOf e f → LeftAt told failed old new (IsSweepFront input texts study)
        (IsSweepFront input texts study) (end_of f)
    sweep_leaves (error.Refused point run reason) (Refused line) broke is = broke.1
    sweep_leaves (error.Refused point run reason) _ broke is = absurd is
    sweep_leaves (error.NoSuchProcess point run group processes) (Refused line) broke is = broke.1
    sweep_leaves (error.NoSuchProcess point run group processes) _ broke is = absurd is
    sweep_leaves error.Memory f broke is = rw is (left broke)
    sweep_leaves error.Write f broke is = rw is (record {
      piece = broke.text;
      is_wanted = front broke.count broke.text broke.is_text;
      written = broke.wrote;
    })
