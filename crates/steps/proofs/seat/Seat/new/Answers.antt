use Rattle.steps.proofs.Words.{◌≡◌, ◌+◌, ap, arith, length, length-replicate, refl, replicate, suc, zero, ◌∙◌, ℕ, crash, count_of}
use Rattle.steps.specs.declared.links.Links.{Links}
use Rattle.steps.proofs.seat.Seat.new.Goals as goal

-- nothing is on any link
none : (n q : ℕ) → count_of (replicate n 0) q ≡ 0
none zero q = refl
none (suc n) zero = refl
none (suc n) (suc q) = none n q

pub returns-clause-process : goal.returns-clause-process
returns-clause-process g c =
    let s = c.args.scenario.now in
    let counts : c.in_ok-links.links.value.counts.items ≡ replicate (s.processes + 1) 0 =
    ap (λ (l : Links). l.counts.items) c.in_ok-links.ensures.ok ∙ c.in_ok-made.ensures.counts in
    λ i. record {
      mind = g.M.Process.mind c.args.machine;
      counts = λ q. (ap (λ xs. count_of xs q) counts ∙ none (s.processes + 1) q) i;
    }

pub returns-clause-seated : goal.returns-clause-seated
returns-clause-seated g c =
    let s = c.args.scenario.now in
    let links : c.in_ok-links.links.value ≡ c.in_ok-made.made = c.in_ok-links.ensures.ok in
    let counts : c.in_ok-links.links.value.counts.items ≡ replicate (s.processes + 1) 0 =
    ap (λ (l : Links). l.counts.items) links ∙ c.in_ok-made.ensures.counts in
    record {
      low = c.requires.0;
      high = c.requires.1;
      is_mind = c.requires.2;
      horizon = ap (λ (l : Links). l.horizon) links ∙ c.in_ok-made.ensures.horizon;
      crash = c.crash-crash.ensures.value ∙ ap (crash s) c.pid-own.ensures;
      places = ap (λ xs. length xs) counts ∙ length-replicate (s.processes + 1) 0;
      counts = λ q. omega (arith, ap (λ xs. count_of xs q) counts, none (s.processes + 1) q);
    }
