-- Fields that call for no quotes.
use Rattle.reporting.proofs.Words.{◌≡◌, ℕ, ◌+◌, ◌%◌, ◌^◌, ◌<◌, ◌≤◌, ◌||◌, List, [], ◌∷◌, ◌++◌, false, decimal, refl, sym, subst, ap, ◌∙◌, arith, ne_eqb, decimal_by_steps, default_writer, needs_byte, IsPlain, kind_text}
use Rattle.{std.proofs.lemmas.List.Folds.{list_any-append}, process_api.specs.declared.entry.Kind.{Kind}}
use Rattle.process_api.specs.declared.entry.Kind.TheVariants as kind

digit_byte : (b : ℕ) → 48 ≤ b → b ≤ 57 → needs_byte default_writer b ≡ false
digit_byte b low high =
    rw (ne_eqb b 44 (λ e. omega (arith, e)), ne_eqb b 34 (λ e. omega (arith, e)), ne_eqb b 13 (λ e. omega (arith, e)), ne_eqb b 10 (λ e. omega (arith, e))) refl

plain_digit : (d : ℕ) → d < 10 → IsPlain ((48 + d) ∷ [])
plain_digit d low = ap (λ t. t || false) (digit_byte (48 + d) (omega arith) (omega arith))

pub plain_both : (xs ys : List ℕ) → IsPlain xs → IsPlain ys → IsPlain (xs ++ ys)
plain_both xs ys p q = list_any-append (needs_byte default_writer) xs ys ∙ rw (p, q) refl

pub plain_decimal : (n : ℕ) → n < 2 ^ 64 → IsPlain (decimal n)
plain_decimal =
    decimal_by_steps (λ m ds. IsPlain ds) plain_digit
    (λ m ds l h. plain_both ds ((48 + m % 10) ∷ []) h (plain_digit (m % 10) (omega arith)))

pub plain_kind : (k : Kind) → IsPlain (kind_text k)
plain_kind kind.Start = refl
plain_kind kind.Beat = refl
plain_kind kind.Check = refl
plain_kind kind.Share = refl
plain_kind kind.Alive = refl
plain_kind kind.Heartbeat = refl
plain_kind kind.Suspects = refl
plain_kind kind.Vector = refl
plain_kind kind.Last = refl
plain_kind kind.Estimate = refl
plain_kind kind.Proposal = refl
plain_kind kind.Reply = refl
plain_kind kind.Decide = refl
plain_kind kind.Dead = refl

pub plain_name : (name : List ℕ) (k : Kind) → name ≡ kind_text k → IsPlain name
plain_name name k is = subst IsPlain (sym is) (plain_kind k)
