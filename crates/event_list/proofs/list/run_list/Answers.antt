use Rattle.event_list.proofs.Words.{◌≤◌, [], length, subst, sym, rules, ◌∙◌, setting_of, IsTrace, IsTrue}
use Rattle.{process_api.specs.Order.{is_rising}, trace_laws.specs.History.{HasCauses, TakesOnce}}
use Rattle.event_list.proofs.list.run_list.Goals as goal

pub new-requires : goal.new-requires
new-requires g c =
    let is = c.in_ok-run_list_into.ensures.recorded in
    subst (λ t. IsTrue (is_rising t)) (sym (is.taken [] c.new-entries.ensures.items)) is.rising

pub returns : goal.returns
returns g c =
    let s = c.args.scenario.now in
    let S = setting_of s in
    let is = c.in_ok-run_list_into.ensures.recorded in
    let told = sym (is.taken [] c.new-entries.ensures.items) ∙ sym c.new.ensures in
    record {
      trace = subst (IsTrace S) told is.is_trace;
      cause = subst (HasCauses S) told is.cause;
      once = subst (TakesOnce S) told is.once;
      within = subst (λ t. length t ≤ s.limit) told is.within;
      errors = search rules;
      limit = search rules;
    }
