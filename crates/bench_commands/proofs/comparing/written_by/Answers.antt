use Rattle.bench_commands.proofs.{Words.{rules, ◌≡◌, ℕ, List, Option, Some, Limit, Both}, Stopping.{refused_long}}
use Rattle.reporting.specs.Outlet.{Held}
use Rattle.bench_commands.proofs.comparing.written_by.Goals as goal

pub returns : goal.returns
returns g c = record {
  written = tt;
  threads = search rules;
  other = search rules;
  long = λ is.
      let told : Held → Option (List ℕ) = λ o. Some o.bytes in
      let failed : Held → ℕ = λ o. o.failures in
      let same : c.in-Err.error ≡ Limit = cc in
      refused_long c.args.scenario.now Both told failed c.new-outlet.result c.bench.new.outlet c.args.mode c.in-Err.error c.in-Err.ensures.refused same;
}
