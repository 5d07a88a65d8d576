use Rattle.sweep.proofs.{Words.{rules, ◌≡◌, ◌<◌, ℕ, Ok, IfOk, length, sym, ap, subst, ◌∙◌, vec_len, arith, slice_index_or, All, length-map, IsPlaced, ArePlaces, AreAnswers}, Placed.{all_columns, columns_put, nothing_at, length_columns}}
use Rattle.sweep.proofs.parallel.in_parallel.Goals as goal

pub put_columns-requires : goal.put_columns-requires
put_columns-requires g c =
    let columns = c.in_ok-all_of.field-0.items in
    let answered = c.in_ok-columns.columns.items in
    let count : length columns ≡ c.min-workers.result =
    sym (length-map columns (λ v. Ok v)) ∙ (ap length c.in_ok-all_of.ensures
    ∙ (sym c.in_ok-columns.columns.ok.0 ∙ c.in_ok-columns.ensures.len)) in
    let each : (i : ℕ) (d : _) → i < length columns
    → IfOk (slice_index_or answered i d) (λ v. All (IsPlaced g.F.Fn c.args.job.now c.args.first c.args.count) v.items) =
    λ i d lt. let h = (c.in_ok-columns.ensures.each i d (omega (arith, lt, count))).1.met in search rules in
    let placed = all_columns (λ v. All (IsPlaced g.F.Fn c.args.job.now c.args.first c.args.count) v.items) columns answered
    c.in_ok-all_of.ensures each in
    λ k d lt i answer below.
    let within = (placed k d lt i answer below).within in
    omega (arith, within, c.in_ok-places.ensures.count)

pub filled-requires-clause-room : goal.filled-requires-clause-room
filled-requires-clause-room g c =
    let places = c.in_ok-places.places in
    let long : vec_len c.put_columns.new.places ≡ c.args.count =
    c.put_columns.new.places.ok.0 ∙ (ap length c.put_columns.ensures
    ∙ (length_columns places.items c.in_ok-all_of.field-0.items ∙ (sym places.ok.0 ∙ c.in_ok-places.ensures.count))) in
    omega (arith, c.requires.room, long)

pub filled-requires-clause-accepts : goal.filled-requires-clause-accepts
filled-requires-clause-accepts g c =
    let places = c.in_ok-places.places in
    let long : vec_len c.put_columns.new.places ≡ c.args.count =
    c.put_columns.new.places.ok.0 ∙ (ap length c.put_columns.ensures
    ∙ (length_columns places.items c.in_ok-all_of.field-0.items ∙ (sym places.ok.0 ∙ c.in_ok-places.ensures.count))) in
    λ number above below. c.requires.accepts number above (omega (arith, below, long))

pub filled-requires-clause-places : goal.filled-requires-clause-places
filled-requires-clause-places g c =
    let columns = c.in_ok-all_of.field-0.items in
    let answered = c.in_ok-columns.columns.items in
    let places = c.in_ok-places.places in
    let count : length columns ≡ c.min-workers.result =
    sym (length-map columns (λ v. Ok v)) ∙ (ap length c.in_ok-all_of.ensures
    ∙ (sym c.in_ok-columns.columns.ok.0 ∙ c.in_ok-columns.ensures.len)) in
    let each : (i : ℕ) (d : _) → i < length columns
    → IfOk (slice_index_or answered i d) (λ v. All (IsPlaced g.F.Fn c.args.job.now c.args.first c.args.count) v.items) =
    λ i d lt. let h = (c.in_ok-columns.ensures.each i d (omega (arith, lt, count))).1.met in search rules in
    let placed = all_columns (λ v. All (IsPlaced g.F.Fn c.args.job.now c.args.first c.args.count) v.items) columns answered
    c.in_ok-all_of.ensures each in
    let empty : ArePlaces g.F.Fn c.args.job.now c.args.first places.items =
    λ i answer is. absurd (nothing_at places.items i answer c.in_ok-places.ensures.empty is) in
    subst (λ now. ArePlaces g.F.Fn c.args.job.now c.args.first now) (sym c.put_columns.ensures)
    (columns_put g.F.Fn c.args.job.now c.args.first c.args.count places.items columns
    (sym places.ok.0 ∙ c.in_ok-places.ensures.count) placed empty)

pub returns : goal.returns
returns g c =
    let places = c.in_ok-places.places in
    let long : vec_len c.put_columns.new.places ≡ c.args.count =
    c.put_columns.new.places.ok.0 ∙ (ap length c.put_columns.ensures
    ∙ (length_columns places.items c.in_ok-all_of.field-0.items ∙ (sym places.ok.0 ∙ c.in_ok-places.ensures.count))) in
    subst (λ m. IfOk c.filled.result (λ v. AreAnswers g.F.Fn c.args.job.now c.args.first m v.items)) long c.filled.ensures
