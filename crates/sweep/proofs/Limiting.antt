-- How the count of runs that passed their limit comes on.
use Rattle.sweep.proofs.Words.{◌≡◌, ℕ, ◌+◌, ◌-◌, ◌*◌, ◌<◌, ◌≤◌, cond, Result, Ok, IfOk, List, [], ◌∷◌, ◌++◌, length, map, take, get_or, sym, ap, ◌∙◌, subst, arith, AllZip, count_by, range_with_len, slice_index_or, lt_of_mul-lt-mul_right, take-length, length-map, sum_by-append, HaveJoined, SourcesRecord, GridRecord, RunRecord, runs, is_limited, LayoutRecord, AreUnderWay, next_counted, IsAnswerAt, AreNumbersAt, AreNumbersFrom, Trial, point_at, IsTrialOf, told_of, AreLimited, HeardLimits, HeardSomeLimits, Group, RunNumbers, get_or-map}
use Rattle.sweep.proofs.{Advancing.{next_trial}, Heard.{heard_same, heard_point}, Zipped.{range_more, range_taken}}
use Rattle.sweep.specs.{Inside.Progress.{AreCounted, numbers_in}, declared.limits.Limits.{Limits}}
use Rattle.sweep.specs.declared.layout.Rows.TheVariants as kind

-- ---- one run

count_more : (trials : List Trial) (t : Trial) (n m : ℕ) → n ≡ count_by (λ u. is_limited u.result) trials
    → m ≡ cond (is_limited t.result) 1 0 → n + m ≡ count_by (λ u. is_limited u.result) (trials ++ t ∷ [])
count_more trials t n m is one = omega (arith, sum_by-append (λ u. cond (is_limited u.result) 1 0) trials (t ∷ []), is, one)

-- ---- of a point

abbrev pub points_layout : List Group → LayoutRecord
points_layout groups = record { rows = kind.Points; groups = groups; picks = [] }

module _ (sources : SourcesRecord) (g : GridRecord) (groups : List Group) (l : Limits) (n : RunNumbers) (one : ℕ) (low : l.run < length (runs g))
    (is : one ≡ cond n.is_limited 1 0) (numbers : AreNumbersFrom sources g groups (next_counted g l) (n ∷ [])) (was : AreCounted sources g l) where
  -- with the run that comes next
  pub counted_to : (trials : List Trial) × AllZip (IsTrialOf sources (point_at g l.point)) (take (l.run + 1) (runs g)) trials
      × (l.count + one ≡ count_by (λ t. is_limited t.result) trials)
  counted_to =
      let t = next_trial sources g (points_layout groups) l.point l.run was.trials n was.each low numbers in
      (was.trials ++ t.0 ∷ [], t.2, count_more was.trials t.0 l.count one was.counted (is ∙ ap (λ b. cond b 1 0) t.1.limited))

  -- and that is the point's last
  pub all_counted : l.run + 1 ≡ length (runs g) → AreLimited sources g l.point (l.count + one)
  all_counted whole =
      let P : List RunRecord → Type 0 = λ rs. AllZip (IsTrialOf sources (point_at g l.point)) rs counted_to.0 in
      record { trials = counted_to.0; each = subst P (take-length (runs g)) (subst (λ k. P (take k (runs g))) whole counted_to.1); counted = counted_to.2 }

-- the next point
module _ {W : Type 0} (heard : W → List (ℕ × ℕ) → W → Type 0) (sources : SourcesRecord) (g : GridRecord) (start old new : W)
    (begin point : ℕ) (order : begin ≤ point) where
  pub next_told : HeardLimits heard start old sources g (range_with_len begin (point - begin))
      → (count : ℕ) → AreLimited sources g point count → HaveJoined heard old new (told_of ((point, count) ∷ []))
      → HeardLimits heard start new sources g (range_with_len begin (point + 1 - begin))
  next_told told count are said =
      let here : begin + (point - begin) ≡ point = omega (arith, order) in
      let long : point - begin + 1 ≡ point + 1 - begin = omega (arith, order) in
      let more : range_with_len begin (point - begin) ++ point ∷ [] ≡ range_with_len begin (point + 1 - begin) =
      sym (range_more begin (point - begin) ∙ ap (λ k. range_with_len begin (point - begin) ++ k ∷ []) here) ∙ ap (λ n. range_with_len begin n) long in
      subst (HeardLimits heard start new sources g) more (heard_point heard sources g start old new (range_with_len begin (point - begin)) told point count are said)

-- ---- the numbers of a batch, none of which is missing

pub numbers_from : {E : Type 0} (sources : SourcesRecord) (g : GridRecord) (groups : List Group) (first : ℕ) (answers : List (Result RunNumbers E)) (all : List RunNumbers)
    → map (λ n. Ok n) all ≡ answers
    → ((i : ℕ) (d : Result RunNumbers E) → i < length answers → IsAnswerAt sources g groups (first + i) (slice_index_or answers i d))
    → AreNumbersFrom sources g groups first all
numbers_from {E} sources g groups first answers all is each i d lt =
    let len : length answers ≡ length all = ap length (sym is) ∙ length-map all (λ n. Ok n) in
    let at : get_or answers i (Ok d) ≡ Ok (get_or all i d) = ap (λ l. get_or l i (Ok d)) (sym is) ∙ get_or-map (λ n. Ok n) all i d (Ok d) lt in
    let P : Result RunNumbers E → Type 0 = λ r. IfOk r (AreNumbersAt sources g groups (first + i)) in
    subst P at (each i (Ok d) (omega (arith, lt, len)))

-- ---- a sweep's watcher

module _ (sources : SourcesRecord) (g : GridRecord) {W : Type 0} (heard : W → List (ℕ × ℕ) → W → Type 0) (begin : ℕ) (l : Limits) where
  pub way_same : (old now new : W) → AreUnderWay sources g heard old now begin l → HaveJoined heard now new [] → AreUnderWay sources g heard old new begin l
  way_same old now new was same = record {
    told = heard_same heard sources g old now new (range_with_len begin (l.point - begin)) was.told same;
    order = was.order;
    counting = was.counting;
  }

  pub way_begin : (old new : W) → l.point ≡ begin → AreCounted sources g l → HaveJoined heard old new [] → AreUnderWay sources g heard old new begin l
  way_begin old new at counting same =
      let none : 0 ≡ l.point - begin = omega (arith, at) in
      record {
        told = subst (λ n. HeardLimits heard old new sources g (range_with_len begin n)) none (record { counts = []; counted = tt; told = same });
        order = omega (arith, at);
        counting = counting;
      }

  -- what was heard where it breaks off
  pub heard_up_to : (old new : W) (end : ℕ) → l.run < length (runs g) → l.point * length (runs g) + l.run ≤ end * length (runs g)
      → AreUnderWay sources g heard old new begin l → HeardSomeLimits heard old new sources g (numbers_in (begin, end))
  heard_up_to old new end low le way =
      let up : l.point < end + 1 = lt_of_mul-lt-mul_right (length (runs g)) {m = l.point} {n = end + 1} (omega (arith, low, le)) in
      let first = range_taken begin (end - begin) (l.point - begin) (omega (arith, up)) in
      (l.point - begin, subst (HeardLimits heard old new sources g) (sym first) way.told)
