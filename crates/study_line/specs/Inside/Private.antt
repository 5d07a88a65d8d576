-- Words of private functions.
use Rattle.std.specs.Prelude.{◌≡◌, IfOk, Result, false, IfErr}
use Rattle.{clap.specs.{Words.{App, Rule, app_of, rule_of}, declared.builder.{arg.Arg.{Arg}, command.Command.{Command}}}, study_line.specs.{Commands.{IsLocal}, declared.order.WordsError.{WordsError}}}
use Rattle.study_line.specs.declared.order.WordsError.TheVariants as refusal

-- why none was read of what may be stated: there is none, or memory was refused
abbrev pub Lacks : {X : Type 0} → (X → Type 0) → WordsError → Type 0
Lacks {X} IsStated (refusal.NoPicture word) = (stated : X) → IsStated stated → ⊥
Lacks {X} IsStated (refusal.NoEach word) = (stated : X) → IsStated stated → ⊥
Lacks {X} IsStated refusal.Form = (stated : X) → IsStated stated → ⊥
Lacks IsStated refusal.Memory = Unit {0}
Lacks IsStated _ = ⊥

-- something was read that may be stated, or the error says why nothing was
abbrev pub Reads : {X : Type 0} → (X → Type 0) → Result X WordsError → Type 0
Reads IsStated read = IfOk read IsStated × IfErr read (Lacks IsStated)

-- the argument has this rule, and isn't one of each subcommand too
abbrev pub HasRule : Rule → Arg → Type 0
HasRule rule a = (rule_of a ≡ rule) × (a.global ≡ false)

-- where a command was made it is this one
abbrev pub Makes : {E : Type 0} → App → Result Command E → Type 0
Makes app made = IfOk made (λ c. (app_of c ≡ app) × IsLocal c)
