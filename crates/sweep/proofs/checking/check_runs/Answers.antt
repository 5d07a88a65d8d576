use Rattle.sweep.proofs.{Words.{rules, ◌≡◌, ◌≤◌, ◌<◌, ◌+◌, ◌*◌, ℕ, [], Bool, true, length, arith, subst, slice_index_or, mul-le-mul_right, sources_of, points, runs, IsReadyAt, IsFirstRefusal, joined_then}, Numbered.{number_below}}
use Rattle.sweep.proofs.Reading.{read_more, first_refusal}
use Rattle.sweep.proofs.checking.check_runs.Goals as goal

pub loop-next-init : goal.loop-next-init
loop-next-init g c = record {
  low = omega arith;
  high = mul-le-mul_right {m = c.args.begin} {n = c.args.end} c.runs-runs.result c.requires.order;
  heard = c.hear.ensures;
  read = λ n low high. absurd (omega (arith, low, high));
}

pub refusal-requires-clause-within : goal.refusal-requires-clause-within
refusal-requires-clause-within g c =
    let all : ℕ = length (points c.args.grid.now) in
    let here : c.in-Some.place < length c.in_ok-are_read.are_read.items = search rules in
    let within = rw c.runs-runs.ensures.value at c.in_ok-are_read.ensures.within in
    let up = mul-le-mul_right {m = c.args.end} {n = all} (length (runs c.args.grid.now)) c.requires.within in
    number_below (length (runs c.args.grid.now)) _ all c.requires.some (omega (arith, here, within, up))

pub returns-in-Some-clause-err : goal.returns-in-Some-clause-err
returns-in-Some-clause-err g c =
    let sources = sources_of c.args.sources.now in
    let groups = c.args.groups.now in
    let grid = c.args.grid.now in
    let w : ℕ = length (runs grid) in
    let begin : ℕ = c.args.begin in
    let end : ℕ = c.args.end in
    let each : (i : ℕ) (d : Bool) → i < c.in-Some.place → slice_index_or c.in_ok-are_read.are_read.items i d ≡ true
    → IsReadyAt sources grid groups (c.loop-next.next + i) =
    λ i d lt yes. let h = (c.in_ok-are_read.ensures.answers.each i d (search rules)).met in search rules in
    let before : (n : ℕ) → begin * c.runs-runs.result ≤ n → n < c.loop-next.next + c.in-Some.place → IsReadyAt sources grid groups n =
    read_more sources grid groups (begin * c.runs-runs.result) c.loop-next.next c.in-Some.place c.in_ok-are_read.are_read.items c.loop-next.invariant.read each (search rules) in
    let P : ℕ → Type 0 = λ n. IsFirstRefusal sources grid groups (begin * n) (end * n) c.refusal.result in
    subst P c.runs-runs.ensures.value
    (first_refusal sources grid groups (begin * c.runs-runs.result) (end * c.runs-runs.result) (c.loop-next.next + c.in-Some.place) c.refusal.result (search rules) (search rules) (search rules) before)

pub loop-next-preserved : goal.loop-next-preserved
loop-next-preserved g c =
    let sources = sources_of c.args.sources.now in
    let groups = c.args.groups.now in
    let inv = c.loop-next.invariant in
    let items = c.in_ok-are_read.are_read.items in
    let len : c.len.result ≡ length items = search rules in
    let each : (i : ℕ) (d : Bool) → i < c.len.result → slice_index_or items i d ≡ true
    → IsReadyAt sources c.args.grid.now groups (c.loop-next.next + i) =
    λ i d lt yes. let h = (c.in_ok-are_read.ensures.answers.each i d (omega (arith, lt, len))).met in search rules in
    let all : (i : ℕ) (d : Bool) → i < c.len.result → slice_index_or items i d ≡ true =
    λ i d lt. let within : i < length items = omega (arith, lt, len) in search rules in
    record {
      low = search rules;
      high = search rules;
      heard = joined_then g.W.Watcher.heard c.args.watcher.now c.loop-next.watcher c.hear-in-loop-next.new.self [] [] inv.heard c.hear-in-loop-next.ensures;
      read = read_more sources c.args.grid.now groups (c.args.begin * c.runs-runs.result) c.loop-next.next c.len.result items inv.read each all;
    }

pub returns-clause-ok : goal.returns-clause-ok
returns-clause-ok g c =
    let sources = sources_of c.args.sources.now in
    let groups = c.args.groups.now in
    let grid = c.args.grid.now in
    let inv = c.loop-next.invariant in
    let P : ℕ → Type 0 = λ w. (n : ℕ) → c.args.begin * w ≤ n → n < c.args.end * w → IsReadyAt sources grid groups n in
    subst P c.runs-runs.ensures.value (λ n low high. inv.read n low (omega (arith, high, c.loop-next-test.false)))
