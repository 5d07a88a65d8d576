use Rattle.sweep.proofs.Words.{ℕ, ◌+◌, ◌*◌, ◌<◌, ◌≤◌, ⊎_elim, arith, cases_lt, mul-le, mul-lt}
use Rattle.sweep.proofs.standard_error.root_over.Goals as goal

-- roots of squares in order
root_le : (m e : ℕ) → m * m ≤ e * e → m ≤ e
root_le m e h = ⊎_elim (λ below. absurd (omega (arith, h, mul-lt e e m m below below))) (λ least. least) (cases_lt e m)

root_lt : (m e : ℕ) → m * m < e * e → m < e
root_lt m e h = ⊎_elim (λ below. below) (λ least. absurd (omega (arith, h, mul-le e e m m least least))) (cases_lt m e)

pub returns-then-rest-eq0-clause-least : goal.returns-then-rest-eq0-clause-least
returns-then-rest-eq0-clause-least c e h = root_le _ e (omega (arith, h))

pub returns-then-rest-half-clause-least : goal.returns-then-rest-half-clause-least
returns-then-rest-half-clause-least c e h = omega (arith, root_lt (c.isqrt-half.result * 2) e (omega (arith, h)))

pub returns-else-rest-half-clause-least : goal.returns-else-rest-half-clause-least
returns-else-rest-half-clause-least c e h = omega (arith, root_lt (c.isqrt-half.result * 2 + 1) e (omega (arith, h)))
