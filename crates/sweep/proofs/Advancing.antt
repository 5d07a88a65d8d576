-- How a sweep comes on: one more run is in, and one more unit's rows went out.
use Rattle.sweep.proofs.Words.{◌≡◌, ℕ, zero, suc, ◌+◌, ◌-◌, ◌*◌, ◌/◌, ◌%◌, ◌≤◌, ◌<◌, List, [], ◌∷◌, ◌++◌, length, take, get_or, Option, refl, sym, ap, ◌∙◌, subst, arith, append-nil, AllZip, flat_map, range_with_len, take-length, flat_map-append, take_more, length-take, SourcesRecord, Wrote, WrotePart, wrote_both, wrote_then_part, GridRecord, RunRecord, runs, LayoutRecord, runs_each, AreNumbersAt, AreNumbersFrom, Trial, Text, point_at, run_at, unit_point, unit_runs, unit_first, IsTrialOf, AreRowsOf, HasRowsOf, AreAdded, WroteUpTo, WroteFrontUpTo, next_run, AreNumbers, AreUnitSums, AddsRun, Group, Rows, RunNumbers, UnitSums, AreRowsOfSums, AllZip-long}
use Rattle.sweep.proofs.{Numbered.{run_is, point_is, runs_length}, Zipped.{zip_push, range_more}}
use Rattle.sweep.specs.declared.layout.Rows.TheVariants as kind
use Rattle.sweep.specs.declared.progress.Progress.{Progress}

-- one of the runs of a unit, from 0
abbrev unit_run : Rows → GridRecord → (unit run : ℕ) → RunRecord
unit_run rows g unit run = get_or (unit_runs rows g unit) run (record { settings = []; seed = 0 })

module _ (sources : SourcesRecord) (g : GridRecord) (layout : LayoutRecord) where
  -- what became of the run of a number
  pub trial_here : (unit run number : ℕ) (n : RunNumbers) → run < runs_each layout.rows g
      → unit * runs_each layout.rows g + run ≡ number → AreNumbersAt sources g layout.groups number n
      → (t : Trial) × IsTrialOf sources (point_at g (unit_point layout.rows g unit)) (unit_run layout.rows g unit run) t × AreNumbers layout.groups t n
  trial_here unit run number n low is at = (at.trial, by layout.rows low is, at.numbers)
    where
      by : (k : Rows) → run < runs_each k g → unit * runs_each k g + run ≡ number
          → IsTrialOf sources (point_at g (unit_point k g unit)) (unit_run k g unit run) at.trial
      by kind.Points low is =
          let P : ℕ → Type 0 = λ k. IsTrialOf sources (point_at g k) (run_at g (number % length (runs g))) at.trial in
          let Q : ℕ → Type 0 = λ k. IsTrialOf sources (point_at g unit) (run_at g k) at.trial in
          subst Q (run_is unit run (length (runs g)) number low is)
          (subst P (point_is unit run (length (runs g)) number low is) at.is_trial)
      by kind.Runs low is =
          let P : ℕ → Type 0 = λ k. IsTrialOf sources (point_at g (k / length (runs g))) (run_at g (k % length (runs g))) at.trial in
          let Q : ℕ → Type 0 = λ k. IsTrialOf sources (point_at g (unit_point kind.Runs g unit)) (unit_run kind.Runs g unit k) at.trial in
          let here : number ≡ unit = omega (arith, low, is) in
          let first : 0 ≡ run = omega (arith, low) in
          subst Q first (subst P here at.is_trial)

  abbrev pub AreFirst : (unit run : ℕ) → List Trial → Type 0
  AreFirst unit run trials =
      AllZip (IsTrialOf sources (point_at g (unit_point layout.rows g unit))) (take run (unit_runs layout.rows g unit)) trials

  -- what became of the next run joins what became of the first of its unit
  pub next_trial : (unit run : ℕ) (trials : List Trial) (n : RunNumbers) → AreFirst unit run trials → run < runs_each layout.rows g
      → AreNumbersFrom sources g layout.groups (unit * runs_each layout.rows g + run) (n ∷ [])
      → (t : Trial) × AreNumbers layout.groups t n × AreFirst unit (run + 1) (trials ++ t ∷ [])
  next_trial unit run trials n first low numbers =
      let all : List RunRecord = unit_runs layout.rows g unit in
      let R : RunRecord → Trial → Type 0 = IsTrialOf sources (point_at g (unit_point layout.rows g unit)) in
      let (t, is, are) = trial_here unit run (unit * runs_each layout.rows g + run + 0) n low (omega arith) (numbers 0 n (omega arith)) in
      let P : List RunRecord → Type 0 = λ l. AllZip R l (trials ++ t ∷ []) in (
        t,
        are,
        subst P (sym (take_more all run (record { settings = []; seed = 0 }) (omega (arith, low, runs_length layout.rows g unit))))
            (zip_push R (take run all) trials (unit_run layout.rows g unit run) t first is),
      )

  -- the next run is added up with the first of its unit
  pub record IsAddedTo (p : Progress) (sums : UnitSums) : Type 0 where
    pub trials : List Trial
    pub each : AreFirst p.unit (p.run + 1) trials
    pub summed : AreUnitSums layout.groups (unit_first layout.rows g p.unit) trials sums

  pub added_to : (p : Progress) (n : RunNumbers) (sums : UnitSums) → AddsRun n p.sums sums → runs_each layout.rows g ≤ 1000000000000
      → AreNumbersFrom sources g layout.groups (next_run g layout p) (n ∷ []) → AreAdded sources g layout p → IsAddedTo p sums
  added_to p n sums more high numbers was =
      let all : List RunRecord = unit_runs layout.rows g p.unit in
      let t = next_trial p.unit p.run was.trials n was.each was.run_low numbers in
      let few : length was.trials < 1000000000000 =
      omega (arith, AllZip-long (IsTrialOf sources (point_at g (unit_point layout.rows g p.unit))) (take p.run all) was.trials was.each, length-take p.run all, runs_length layout.rows g p.unit, was.run_low, high) in
      record { trials = was.trials ++ t.0 ∷ []; each = t.2; summed = more layout.groups (unit_first layout.rows g p.unit) was.trials t.0 few was.summed t.1 }

  -- and that is the unit's last
  pub rows_added : (p : Progress) (sums : UnitSums) (rows : Text) → IsAddedTo p sums → p.run + 1 ≡ runs_each layout.rows g
      → AreRowsOfSums layout g p.unit sums rows → AreRowsOf sources g layout p.unit rows
  rows_added p sums rows added is told =
      let all : List RunRecord = unit_runs layout.rows g p.unit in
      let P : List RunRecord → Type 0 = λ l. AllZip (IsTrialOf sources (point_at g (unit_point layout.rows g p.unit))) l added.trials in
      let whole : p.run + 1 ≡ length all = is ∙ sym (runs_length layout.rows g p.unit) in
      record {
        trials = added.trials;
        each = subst P (take-length all) (subst (λ n. P (take n all)) whole added.each);
        told = told (unit_first layout.rows g p.unit) added.trials added.summed;
      }

  rows_none : (begin : ℕ) → HasRowsOf sources g layout (range_with_len begin 0) []
  rows_none begin = record { parts = []; each = tt; text_is = refl }

  rows_more : (begin n : ℕ) (text rows : Text) → HasRowsOf sources g layout (range_with_len begin n) text
      → AreRowsOf sources g layout (begin + n) rows → HasRowsOf sources g layout (range_with_len begin (n + 1)) (text ++ rows)
  rows_more begin n text rows has are =
      let R : ℕ → Text → Type 0 = AreRowsOf sources g layout in
      let P : List ℕ → Type 0 = λ l. AllZip R l (has.parts ++ rows ∷ []) in
      record {
        parts = has.parts ++ rows ∷ [];
        each = subst P (sym (range_more begin n)) (zip_push R (range_with_len begin n) has.parts (begin + n) rows has.each are);
        text_is = ap (λ t. t ++ rows) has.text_is
            ∙ ap (λ t. flat_map (λ r. r) has.parts ++ t) (sym (append-nil rows))
            ∙ sym (flat_map-append (λ r. r) has.parts (rows ∷ []));
      }

  next_rows : (begin unit : ℕ) (text rows : Text) → begin ≤ unit → HasRowsOf sources g layout (range_with_len begin (unit - begin)) text
      → AreRowsOf sources g layout unit rows → HasRowsOf sources g layout (range_with_len begin (unit + 1 - begin)) (text ++ rows)
  next_rows begin unit text rows order has are =
      let here : unit ≡ begin + (unit - begin) = omega (arith, order) in
      let long : unit - begin + 1 ≡ unit + 1 - begin = omega (arith, order) in
      let P : ℕ → Type 0 = λ n. AreRowsOf sources g layout n rows in
      let Q : ℕ → Type 0 = λ n. HasRowsOf sources g layout (range_with_len begin n) (text ++ rows) in
      subst Q long (rows_more begin (unit - begin) text rows has (subst P here are))

  module _ {O : Type 0} (told : O → Option Text) (failed : O → ℕ) where
    pub wrote_none : (start : O) (begin : ℕ) → Wrote told failed start start [] → WroteUpTo sources g layout told failed start start begin begin
    wrote_none start begin none =
        let zero_len : 0 ≡ begin - begin = omega arith in
        let Q : ℕ → Type 0 = λ n. HasRowsOf sources g layout (range_with_len begin n) [] in
        record { text = []; has = subst Q zero_len (rows_none begin); wrote = none; order = omega arith }

    module _ (start old new : O) (begin unit : ℕ) (rows : Text) (out : WroteUpTo sources g layout told failed start old begin unit)
        (are : AreRowsOf sources g layout unit rows) where
      pub wrote_more : Wrote told failed old new rows → WroteUpTo sources g layout told failed start new begin (unit + 1)
      wrote_more more = record {
        text = out.text ++ rows;
        has = next_rows begin unit out.text rows out.order out.has are;
        wrote = wrote_both told failed start old new out.text rows out.wrote more;
        order = omega (arith, out.order);
      }

      pub wrote_front : WrotePart told failed old new rows → WroteFrontUpTo sources g layout told failed start new begin (unit + 1)
      wrote_front part = record {
        text = out.text ++ rows;
        has = next_rows begin unit out.text rows out.order out.has are;
        wrote = wrote_then_part told failed start old new out.text rows out.wrote part;
        order = omega (arith, out.order);
      }

-- of some numbers that follow one another one alone
pub one_of : (sources : SourcesRecord) (g : GridRecord) (groups : List Group) (first : ℕ) (all : List RunNumbers) (i : ℕ) (n : RunNumbers) (next : ℕ) → i < length all
    → n ≡ get_or all i n → next ≡ first + i → AreNumbersFrom sources g groups first all → AreNumbersFrom sources g groups next (n ∷ [])
one_of sources g groups first all i n next lt is same numbers zero d low =
    let P : ℕ → Type 0 = λ m. AreNumbersAt sources g groups m n in
    subst P (omega (arith, same)) (subst (AreNumbersAt sources g groups (first + i)) (sym is) (numbers i n lt))
one_of sources g groups first all i n next lt is same numbers (suc k) d low = absurd (omega (arith, low))
