use Rattle.command_line.proofs.Basics.{◌≡◌, ◌∙◌, IfOk, Ok, Result, codes, rules, App, app_of, new_app, with_subcommand, Command, Adds, IsCommand, IsLocal, IsPrinting, Makes, check_app, compare_app, list_app, run_app, whole_app}
use Rattle.std.proofs.lemmas.Result.{IfOk-at_ok, IfOk-weaker}
use Rattle.clap.specs.declared.builder.value_parser.ValueParser.{ValueParser}
use Rattle.command_line.proofs.command.command.Goals as goal

-- four commands are added to a bare one
whole : (list run : ValueParser) (base first second third fourth a b c d : App) → base ≡ new_app (codes "fdbench") → first ≡ with_subcommand base a.top → a ≡ check_app
    → second ≡ with_subcommand first b.top → b ≡ list_app list → third ≡ with_subcommand second c.top → c ≡ run_app run → fourth ≡ with_subcommand third d.top
    → d ≡ compare_app → fourth ≡ whole_app list run
whole list run base first second third fourth a b c d is e is_a f is_b g is_c h is_d = rw (h, is_d, g, is_c, f, is_b, e, is_a, is)

-- a command with these four is the command line
made : {E : Type 0} (bare last : Command) (check list run compare first second third : Result Command E)
    → app_of bare ≡ new_app (codes "fdbench") → Makes check_app check → IfOk list (IsPrinting list_app)
    → IfOk run (IsPrinting run_app) → Makes compare_app compare → IfOk first (Adds (Ok bare) check)
    → IfOk second (Adds first list) → IfOk third (Adds second run) → Adds third compare last → IsCommand last
made bare last check list run compare first second third begun makes_check prints_list prints_run makes_compare
    adds_check adds_list adds_run d =
    let c = IfOk-at_ok (Adds second run) d.was adds_run in
    let b = IfOk-at_ok (Adds first list) c.was adds_list in
    let a = IfOk-at_ok (Adds (Ok bare) check) b.was adds_check in
    let is_check = IfOk-at_ok (λ m. (app_of m ≡ check_app) × IsLocal m) a.is makes_check in
    let is_list = IfOk-at_ok (IsPrinting list_app) b.is prints_list in
    let is_run = IfOk-at_ok (IsPrinting run_app) c.is prints_run in
    let is_compare = IfOk-at_ok (λ m. (app_of m ≡ compare_app) × IsLocal m) d.is makes_compare in
    let same : app_of a.before ≡ app_of bare = cc in
    record {
      prints = record {
        list = is_list.prints;
        run = is_run.prints;
        takes_list = is_list.takes;
        takes_run = is_run.takes;
      };
      app = whole _ _ _ _ _ _ _ _ _ _ _ (same ∙ begun) a.app is_check.0 b.app is_list.app_is c.app is_run.app_is d.app
          is_compare.0;
      local = d.local;
    }

pub returns : goal.returns
returns c = IfOk-weaker c.with_command.result _ _
    (λ m. made c.after_help-command.result m _ _ _ _ _ _ _ (search rules) c.check_command.ensures c.list_command.ensures
    c.run_command.ensures c.compare_command.ensures c.with_command-checking.ensures c.with_command-listing.ensures
    c.with_command-running.ensures)
    c.with_command.ensures

pub with_command-checking-requires : goal.with_command-checking-requires
with_command-checking-requires c =
    record { local = (search rules, IfOk-weaker c.check_command.result _ IsLocal (λ m h. h.1) c.check_command.ensures) }

-- what each command that was made before says of itself
pub with_command-listing-requires : goal.with_command-listing-requires
with_command-listing-requires c = record {
  local = (
    IfOk-weaker c.with_command-checking.result _ IsLocal (λ m h. h.local) c.with_command-checking.ensures,
    IfOk-weaker c.list_command.result _ IsLocal (λ m h. h.local) c.list_command.ensures,
  );
}

pub with_command-running-requires : goal.with_command-running-requires
with_command-running-requires c = record {
  local = (
    IfOk-weaker c.with_command-listing.result _ IsLocal (λ m h. h.local) c.with_command-listing.ensures,
    IfOk-weaker c.run_command.result _ IsLocal (λ m h. h.local) c.run_command.ensures,
  );
}

pub with_command-requires : goal.with_command-requires
with_command-requires c = record {
  local = (
    IfOk-weaker c.with_command-running.result _ IsLocal (λ m h. h.local) c.with_command-running.ensures,
    IfOk-weaker c.compare_command.result _ IsLocal (λ m h. h.1) c.compare_command.ensures,
  );
}
