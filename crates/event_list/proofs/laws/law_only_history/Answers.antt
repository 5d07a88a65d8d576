use Rattle.event_list.proofs.Words.{setting_of, opening_world, has_one_trace, trace_is_closed, only_history, setting_sound, taken_world}
use Rattle.trace_laws.proofs.{Causes.{has_one_cause, is_taken_once}, Simulate.{plain_trace}}
use Rattle.event_list.proofs.laws.law_only_history.Goals as goal

pub returns : goal.returns
returns c =
    let S = setting_of c.args.scenario.now in
    let sound = setting_sound c.args.scenario.now c.recall_ranges.ensures in
    record {
      worlds = (opening_world S sound, λ w key input is least. taken_world S w key input sound is least.there);
      trace = has_one_trace S sound;
      closed = trace_is_closed S sound;
      only = only_history S sound;
      cause = has_one_cause S sound;
      once = is_taken_once S sound;
      plain = plain_trace S sound;
    }
