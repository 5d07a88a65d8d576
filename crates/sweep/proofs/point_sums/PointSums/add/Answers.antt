use Rattle.sweep.proofs.{Words.{◌∷◌, [], length-append, arith}, Lines.{on_ok}}
use Rattle.sweep.proofs.point_sums.PointSums.add.Goals as goal

pub returns : goal.returns
returns c =
    on_ok c.add-2.result (λ second group first trials trial few sums numbers. record {
      on_first = c.in_ok-add.ensures group 1 first trials trial few sums.next sums.on_first numbers.first;
      on_second = second group 2 first trials trial few sums.next sums.on_second numbers.second;
      first_high = sums.first_high;
      next = omega (arith, sums.next, sums.first_high, few, c.saturating_add-self.ensures, length-append trials (trial ∷ []));
    }) c.add-2.ensures
