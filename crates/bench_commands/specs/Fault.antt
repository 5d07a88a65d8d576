-- The exit status of a fault, its line, what it leaves of what was to be written, and which fault of a plan comes.
use Rattle.std.specs.Prelude.{ℕ, List, [], ◌++◌, codes, decimal, string_bytes}
use Rattle.process_api.specs.declared.run_error.RunError.{RunError}
use Rattle.process_api.specs.declared.run_error.RunError.TheVariants as run
use Rattle.{bench_commands.specs.declared.fault.Fault.{Fault, TheVariants.{Different, Form, Plan, Run, Scenario, TooLong, Unreadable, Words, WordsMemory}}, scenario.specs.{Refusals.{name_of}, declared.error.ScenarioError.{ScenarioError}}}
use Rattle.scenario.specs.declared.error.ScenarioError.TheVariants as scenario
use Rattle.{shell.specs.Ending.{End, begun, cut, untouched}, windows.specs.{Plan.{IsFirst}, declared.error.PlanError.{PlanError}}}
use Rattle.windows.specs.declared.error.PlanError.TheVariants as plan

-- 1: the scenario or its file is refused; 2: the words are; 3: the plan or run is, or runs differ; 4: a write failed
abbrev pub status_of : Fault → ℕ
status_of Form = 2
status_of WordsMemory = 2
status_of (Words text) = 2
status_of Unreadable = 1
status_of TooLong = 1
status_of (Scenario refusal) = 1
status_of (Plan refusal) = 3
status_of Different = 3
status_of (Run run.Limit) = 3
status_of (Run run.Memory) = 3
status_of (Run run.Spawn) = 3
status_of (Run run.Write) = 4

-- only a run that is refused later, by windows, leaves anything, and a failed write
abbrev pub end_of : Fault → End
end_of (Run run.Write) = cut
end_of (Run refusal) = begun
end_of _ = untouched

-- what follows the name of a scenario's refusal: the pair of a link that is below the lookahead
abbrev pub after_name : ScenarioError → List ℕ
after_name (scenario.BelowLookahead from to) = codes " " ++ (decimal from ++ (codes " " ++ (decimal to ++ codes "\n")))
after_name _ = codes "\n"

-- the lines of a scenario's refusals, of a plan's, and of a run's
abbrev pub scenario_line : ScenarioError → List ℕ
scenario_line refusal = codes "fdbench: scenario: " ++ (name_of refusal ++ after_name refusal)

abbrev pub plan_line : PlanError → List ℕ
plan_line plan.Workers = codes "fdbench: plan: Workers\n"
plan_line plan.WindowZero = codes "fdbench: plan: WindowZero\n"
plan_line plan.WindowTooLong = codes "fdbench: plan: WindowTooLong\n"

abbrev pub run_line : RunError → List ℕ
run_line run.Limit = codes "fdbench: run: Limit\n"
run_line run.Memory = codes "fdbench: run: Memory\n"
run_line run.Spawn = codes "fdbench: run: Spawn\n"
run_line run.Write = codes "fdbench: run: Write\n"

-- the line that is told of a fault: it names the refusal. Of two runs that differ nothing is told
abbrev pub line_of : Fault → List ℕ
line_of Form = codes "fdbench: words: Form\n"
line_of WordsMemory = codes "fdbench: words: Memory\n"
line_of (Words text) = string_bytes text
line_of Unreadable = codes "fdbench: input: unreadable\n"
line_of TooLong = codes "fdbench: input: too long\n"
line_of (Scenario refusal) = scenario_line refusal
line_of (Plan refusal) = plan_line refusal
line_of Different = []
line_of (Run refusal) = run_line refusal

-- the fault is a plan's, and the first that applies to these numbers
abbrev pub IsFirstFault : (lookahead workers window : ℕ) → Fault → Type 0
IsFirstFault lookahead workers window (Plan reason) = IsFirst lookahead workers window reason
IsFirstFault lookahead workers window _ = ⊥
