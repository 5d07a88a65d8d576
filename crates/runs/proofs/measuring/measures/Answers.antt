use Rattle.runs.proofs.{Words.{◌<◌, ◌^◌, sym, ap, ◌∙◌, subst, false, length, [], rules, All, shares_suspicions, IsBounded, RestsOnBlame, all_measures, measuring_same, measuring_told}, Resting.{all_bounded, all_rest}}
use Rattle.runs.proofs.measuring.measures.Goals as goal

pub returns-clause-rows : goal.returns-clause-rows
returns-clause-rows c =
    let S = c.args.scenario.now in
    let trace = c.entries.result.now in
    let opened = c.in_ok-measuring.measuring in
    let small : length trace < 2 ^ 64 = search rules in
    let told = measuring_told S trace c.entries.ensures.rising false opened c.follow_all.new.follower (c.in_ok-follow_all.ensures opened [] (measuring_same opened)) c.in_ok-measuring.ensures in
    (c.in_ok-found.ensures.found false S trace told small).measures ∙ ap (all_measures S) c.entries.ensures.value

pub returns-clause-blame : goal.returns-clause-blame
returns-clause-blame c is_trace =
    subst (All (RestsOnBlame c.args.scenario.now c.args.trace.now)) (sym (returns-clause-rows c)) (all_rest c.args.scenario.now c.recall_ranges.ensures c.args.trace.now is_trace)

pub returns-clause-bounds : goal.returns-clause-bounds
returns-clause-bounds c is_trace =
    subst (All (IsBounded c.args.scenario.now c.args.trace.now)) (sym (returns-clause-rows c)) (all_bounded c.args.scenario.now c.recall_ranges.ensures c.args.trace.now is_trace)

pub returns-in_err-measuring-clause-shares : goal.returns-in_err-measuring-clause-shares
returns-in_err-measuring-clause-shares c is_trace = shares_suspicions c.args.scenario.now c.recall_ranges.ensures c.args.trace.now is_trace

pub returns-in_err-follow_all-clause-shares : goal.returns-in_err-follow_all-clause-shares
returns-in_err-follow_all-clause-shares c is_trace = shares_suspicions c.args.scenario.now c.recall_ranges.ensures c.args.trace.now is_trace

pub returns-in_err-found-clause-shares : goal.returns-in_err-found-clause-shares
returns-in_err-found-clause-shares c is_trace = shares_suspicions c.args.scenario.now c.recall_ranges.ensures c.args.trace.now is_trace

pub returns-clause-shares : goal.returns-clause-shares
returns-clause-shares c is_trace = shares_suspicions c.args.scenario.now c.recall_ranges.ensures c.args.trace.now is_trace
