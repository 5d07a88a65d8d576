-- How a sweep ends: what went out, and which run was refused.
use Rattle.sweep.proofs.Words.{◌≡◌, ℕ, ◌+◌, ◌-◌, ◌*◌, ◌/◌, ◌%◌, ◌<◌, ◌≤◌, ⊎_elim, inl, inr, List, [], ◌++◌, length, take, Option, refl, sym, ap, ◌∙◌, subst, arith, append-nil, Contains, range_with_len, slice_index_or, lt_of_mul-lt-mul_right, mul-le-mul_right, length-range_with_len, get_or-range_with_len, div-add-mod', mod_below, SourcesRecord, Wrote, WrotePart, wrote_both, wrote_then_part, GridRecord, runs, ShardRecord, LayoutRecord, unit_count, IsReadyAt, IsFirstRefusal, WroteUpTo, StopsBelow, HeaderFails, Text, header_of, numbers_of, units_in, units_of, HasRowsOf, IsTextOf, Group, SweepError, StopsInPoints}
use Rattle.sweep.proofs.{Numbered.{point_is, run_is, number_below}, Zipped.{range_taken}, Units.{unit_range, unit_count-sub}}
use Rattle.sweep.specs.Outcome.{IsBefore, IsReady, CantRun, IsFirstUnready, AreReady, CantBeRun, WroteStudy, BreaksOff, RefusesRun}
use Rattle.sweep.specs.declared.error.SweepError.TheVariants as error

module _ (sources : SourcesRecord) (g : GridRecord) (shard : ShardRecord) (layout : LayoutRecord)
    {O : Type 0} (told : O → Option Text) (failed : O → ℕ) where
  pub breaks_at_check : (old : O) (e : SweepError) → CantBeRun sources g layout.groups shard e → BreaksOff sources g shard layout told failed old old e
  breaks_at_check old (error.Refused point run reason) refusal = (refusal, record { bytes = refl; failures = refl })
  breaks_at_check old (error.NoSuchProcess point run group processes) refusal = (refusal, record { bytes = refl; failures = refl })
  breaks_at_check old error.Memory refusal = inl (record { bytes = refl; failures = refl })
  breaks_at_check old error.Write refusal = absurd refusal

  pub breaks_at_header : (old new : O) (e : SweepError) → HeaderFails g shard layout told failed old new e
      → BreaksOff sources g shard layout told failed old new e
  breaks_at_header old new (error.Refused point run reason) fails = absurd fails
  breaks_at_header old new (error.NoSuchProcess point run group processes) fails = absurd fails
  breaks_at_header old new error.Memory fails = inl fails
  breaks_at_header old new error.Write fails =
      let P : Text → Type 0 = λ t. WrotePart told failed old new t in
      record {
        count = 0;
        text = header_of g shard layout ++ [];
        is_text = record { rows = []; has = record { parts = []; each = tt; text_is = refl }; text_is = refl };
        wrote = subst P (sym (append-nil (header_of g shard layout))) fails;
      }

-- once all runs are read none is refused
module _ (g : GridRecord) (layout : LayoutRecord) {O : Type 0} (told : O → Option Text) (failed : O → ℕ) (old new : O) where
  pub header_refuses_none : (shard : ShardRecord) (e : SweepError) → HeaderFails g shard layout told failed old new e → RefusesRun e → ⊥
  header_refuses_none shard (error.Refused point run reason) fails is = fails
  header_refuses_none shard (error.NoSuchProcess point run group processes) fails is = fails
  header_refuses_none shard error.Memory fails is = is
  header_refuses_none shard error.Write fails is = is

  pub points_refuse_none : (sources : SourcesRecord) (begin end : ℕ) (e : SweepError) → StopsInPoints g layout told failed old new sources begin end e → RefusesRun e → ⊥
  points_refuse_none sources begin end (error.Refused point run reason) stops is = stops
  points_refuse_none sources begin end (error.NoSuchProcess point run group processes) stops is = stops
  points_refuse_none sources begin end error.Memory stops is = is
  points_refuse_none sources begin end error.Write stops is = is

module _ (sources : SourcesRecord) (g : GridRecord) (shard : ShardRecord) (begin end : ℕ)
    (is : numbers_of g shard ≡ range_with_len begin (end - begin)) where
  contains : (p : ℕ) → begin ≤ p → p < end → Contains (numbers_of g shard) p
  contains p low high =
      let lt : p - begin < end - begin = omega (arith, low, high) in
      let len : length (range_with_len begin (end - begin)) ≡ end - begin = length-range_with_len begin (end - begin) in
      let at : slice_index_or (range_with_len begin (end - begin)) (p - begin) p ≡ begin + (p - begin) =
      get_or-range_with_len begin (end - begin) (p - begin) p lt in
      let P : List ℕ → Type 0 = λ l. Contains l p in
      subst P (sym is) (p - begin, omega (arith, lt, len), omega (arith, at, low))

  within : (p : ℕ) → Contains (numbers_of g shard) p → (begin ≤ p) × (p < end)
  within p c =
      let P : List ℕ → Type 0 = λ l. Contains l p in
      let d : Contains (range_with_len begin (end - begin)) p = subst P is c in
      let len : length (range_with_len begin (end - begin)) ≡ end - begin = length-range_with_len begin (end - begin) in
      let lt : d.0 < end - begin = omega (arith, d.1, len) in
      let at : slice_index_or (range_with_len begin (end - begin)) d.0 p ≡ begin + d.0 =
      get_or-range_with_len begin (end - begin) d.0 p lt in (
        omega (arith, at, d.2),
        omega (arith, at, d.2, lt),
      )

  -- ---- a refusal

  earlier : (n p r : ℕ) → 1 ≤ length (runs g) → r < length (runs g)
      → IsBefore p r (n / length (runs g)) (n % length (runs g)) → p * length (runs g) + r < n
  earlier n p r some low before =
      let w : ℕ = length (runs g) in
      let split : n / w * w + n % w ≡ n = div-add-mod' n w in
      ⊎_elim
      (λ (lt : p < n / w).
      let up : (p + 1) * w ≤ n / w * w = mul-le-mul_right {m = p + 1} {n = n / w} w (omega (arith, lt)) in
      omega (arith, split, up, low))
      (λ (same : (p ≡ n / w) × (r < n % w)).
      let rows : p * w ≡ n / w * w = ap (λ k. k * w) same.0 in
      omega (arith, split, rows, same.1))
      before

  module _ (groups : List Group) where
    -- the run of a point and its place there, by its number
    run_at_number : (p r : ℕ) → r < length (runs g) → IsReadyAt sources g groups (p * length (runs g) + r) → IsReady sources g groups p r
    run_at_number p r small here =
        let w : ℕ = length (runs g) in
        let R : ℕ → Type 0 = λ k. IsReady sources g groups k ((p * w + r) % w) in
        let S : ℕ → Type 0 = λ k. IsReady sources g groups p k in
        subst S (run_is p r w (p * w + r) small refl) (subst R (point_is p r w (p * w + r) small refl) here)

    first_refused : (n : ℕ) (e : SweepError) → 1 ≤ length (runs g) → begin * length (runs g) ≤ n → n < end * length (runs g)
        → CantRun sources g groups (n / length (runs g)) (n % length (runs g)) e
        → ((m : ℕ) → begin * length (runs g) ≤ m → m < n → IsReadyAt sources g groups m)
        → IsFirstUnready sources g groups shard (n / length (runs g)) (n % length (runs g)) e
    first_refused n e some low high cant before =
        let w : ℕ = length (runs g) in
        let split : n / w * w + n % w ≡ n = div-add-mod' n w in
        let rest : n % w < w = mod_below n w some in
        let up : begin < n / w + 1 = lt_of_mul-lt-mul_right w {m = begin} {n = n / w + 1} (omega (arith, split, low, rest)) in
        let below : n / w < end = number_below w n end some high in
        record {
          point_in = contains (n / w) (omega (arith, up)) below;
          run_in = rest;
          cant_run = cant;
          before = λ p r inside small earlier_is.
              let in_range = within p inside in
              let lt : p * w + r < n = earlier n p r some small earlier_is in
              let from : begin * w ≤ p * w = mul-le-mul_right {m = begin} {n = p} w in_range.0 in
              run_at_number p r small (before (p * w + r) (omega (arith, from)) lt);
        }

    -- a run that is told of is that of the number
    placed : (e : SweepError) (p r point run : ℕ) → point ≡ p → run ≡ r → IsFirstUnready sources g groups shard p r e
        → IsFirstUnready sources g groups shard point run e
    placed e p r point run is_point is_run first =
        subst (λ k. IsFirstUnready sources g groups shard point k e) (sym is_run)
        (subst (λ k. IsFirstUnready sources g groups shard k r e) (sym is_point) first)

    pub cant_be_run : (e : SweepError) → 1 ≤ length (runs g)
        → IsFirstRefusal sources g groups (begin * length (runs g)) (end * length (runs g)) e → CantBeRun sources g groups shard e
    cant_be_run (error.Refused point run reason) some (n, low, high, cant, before) =
        let e : SweepError = error.Refused point run reason in
        placed e _ _ point run cant.0 cant.1 (first_refused n e some low high cant before)
    cant_be_run (error.NoSuchProcess point run group processes) some (n, low, high, cant, before) =
        let e : SweepError = error.NoSuchProcess point run group processes in
        placed e _ _ point run cant.0 cant.1 (first_refused n e some low high cant before)
    cant_be_run error.Memory some refusal = tt
    cant_be_run error.Write some (n, low, high, cant, before) = cant

    pub are_ready : ((n : ℕ) → begin * length (runs g) ≤ n → n < end * length (runs g) → IsReadyAt sources g groups n)
        → AreReady sources g groups shard
    are_ready all p r inside small =
        let w : ℕ = length (runs g) in
        let in_range = within p inside in
        let from : begin * w ≤ p * w = mul-le-mul_right {m = begin} {n = p} w in_range.0 in
        let to : (p + 1) * w ≤ end * w = mul-le-mul_right {m = p + 1} {n = end} w (omega (arith, in_range.1)) in
        run_at_number p r small (all (p * w + r) (omega (arith, from)) (omega (arith, to, small)))

  module _ (layout : LayoutRecord) {O : Type 0} (told : O → Option Text) (failed : O → ℕ) where
    -- the first unit, and the one after the last
    abbrev first : ℕ
    first = unit_count layout.rows g begin

    abbrev last : ℕ
    last = unit_count layout.rows g end

    units_are : units_of layout.rows g shard ≡ range_with_len first (last - first)
    units_are =
        ap (λ l. units_in layout.rows g l) is
        ∙ unit_range layout.rows g begin (end - begin)
        ∙ ap (λ n. range_with_len first n) (unit_count-sub layout.rows g begin end)

    module _ (old mid new : O) (header : Wrote told failed old mid (header_of g shard layout)) where
      pub wrote_study : WroteUpTo sources g layout told failed mid new first last → WroteStudy sources g shard layout told failed old new
      wrote_study up =
          let P : List ℕ → Type 0 = λ l. HasRowsOf sources g layout l up.text in
          record {
            text = header_of g shard layout ++ up.text;
            is_text = record { rows = up.text; has = subst P (sym units_are) up.has; text_is = refl };
            wrote = wrote_both told failed old mid new (header_of g shard layout) up.text header up.wrote;
          }

      first_text : (unit : ℕ) (text : Text) → unit ≤ last → HasRowsOf sources g layout (range_with_len first (unit - first)) text
          → IsTextOf sources g shard layout (take (unit - first) (units_of layout.rows g shard)) (header_of g shard layout ++ text)
      first_text unit text le has =
          let units = ap (λ l. take (unit - first) l) units_are ∙ range_taken first (last - first) (unit - first) (omega (arith, le)) in
          record { rows = text; has = subst (λ l. HasRowsOf sources g layout l text) (sym units) has; text_is = refl }

      pub breaks_at_points : (e : SweepError) → StopsBelow sources g layout told failed mid new first last e
          → BreaksOff sources g shard layout told failed old new e
      breaks_at_points (error.Refused point run reason) stops = absurd stops
      breaks_at_points (error.NoSuchProcess point run group processes) stops = absurd stops
      breaks_at_points error.Memory (unit, le, up) = inr (record {
        count = unit - first;
        text = header_of g shard layout ++ up.text;
        is_text = first_text unit up.text le up.has;
        wrote = wrote_both told failed old mid new (header_of g shard layout) up.text header up.wrote;
      })
      breaks_at_points error.Write (unit, le, up) = record {
        count = unit - first;
        text = header_of g shard layout ++ up.text;
        is_text = first_text unit up.text le up.has;
        wrote = wrote_then_part told failed old mid new (header_of g shard layout) up.text header up.wrote;
      }
