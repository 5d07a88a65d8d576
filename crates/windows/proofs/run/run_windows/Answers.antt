use Rattle.windows.proofs.{Words.{◌≡◌, ◌++◌, subst, sym, ap, ◌∙◌, setting_of, IsTrace, trace_rises, setting_sound, end_to_end, Vec}, Handed.{kept_all}}
use Rattle.windows.proofs.run.run_windows.Goals as goal

pub new-requires : goal.new-requires
new-requires g c =
    let t = c.in_ok-run_windows_into.ensures.trace in
    let is : c.run_windows_into.new.sink.items ≡ end_to_end t.parts = kept_all (λ (v : Vec _). v.items) _ (λ a b part h. h) _ _ t.parts t.took_all ∙ ap (λ es. es ++ end_to_end t.parts) c.new-entries.ensures.items in
    trace_rises (setting_of c.args.scenario.now) (setting_sound c.args.scenario.now c.recall_ranges.ensures) c.run_windows_into.new.sink.items (subst (IsTrace (setting_of c.args.scenario.now)) (sym is) t.is_trace)

pub returns-clause-trace : goal.returns-clause-trace
returns-clause-trace g c =
    let t = c.in_ok-run_windows_into.ensures.trace in
    let is : c.run_windows_into.new.sink.items ≡ end_to_end t.parts = kept_all (λ (v : Vec _). v.items) _ (λ a b part h. h) _ _ t.parts t.took_all ∙ ap (λ es. es ++ end_to_end t.parts) c.new-entries.ensures.items in
    subst (IsTrace (setting_of c.args.scenario.now)) (sym (c.new.ensures ∙ is)) t.is_trace

pub returns-clause-within : goal.returns-clause-within
returns-clause-within g c = c.in_ok-run_windows_into.ensures.within c.new.result (returns-clause-trace g c)
