use Rattle.reporting.proofs.{Words.{◌∙◌, ◌++◌, ap, layer_measures, second_measures}, Layers.{both_layers}}
use Rattle.reporting.proofs.telling.close_measuring.Goals as goal

pub returns-clause-found : goal.returns-clause-found
returns-clause-found c = λ listed S trace h small. record {
  summary = c.sum_up.ensures S trace h.0 small;
  first = c.in_ok-verdicts.ensures.verdicts listed S 1 trace h.1.0;
  second = c.in_ok-second.ensures.verdicts listed S trace h.1.1;
  measures =
      c.in_ok-second.ensures.measures listed S trace h.1.1
      ∙ ap (λ rows. rows ++ second_measures S trace) (c.in_ok-verdicts.ensures.measures listed S 1 trace h.1.0 ∙ ap (λ rows. rows ++ layer_measures S trace 1) c.in_ok-measures.ensures.items)
      ∙ both_layers S trace;
}

pub returns-clause-lasted : goal.returns-clause-lasted
returns-clause-lasted c = λ S trace h. record {
  first = c.in_ok-verdicts.ensures.lengths S 1 trace h.1.0;
  second = c.in_ok-second.ensures.lengths S trace h.1.1;
}
