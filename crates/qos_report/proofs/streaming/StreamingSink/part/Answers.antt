use Rattle.qos_report.proofs.Words.{◌++◌, refl, sym, subst, RunningFollowed, rows_text, Wrote, on_ok, WroteWhere}
use Rattle.qos_report.proofs.streaming.StreamingSink.part.Goals as goal

pub returns-then-self-clause-whole : goal.returns-then-self-clause-whole
returns-then-self-clause-whole g c =
    let told = g.O.Outlet.told in
    let failed = g.O.Outlet.failed in
    let old = c.args.self.now.outlet.now in
    let new = c.write_rows.new.outlet in
    let items = c.args.entries.items in
    on_ok c.write_rows.result
    (λ wrote. record {
      same = record { outlet = refl; traced = refl };
      written = subst (λ t. WroteWhere told failed old new t (rows_text items)) (sym c.if-self.true) (subst (λ es. Wrote told failed old new (rows_text es)) c.deref-then-self.ensures.value wrote);
      measured = λ first seen was. subst (λ es. RunningFollowed first c.follow_all.new.follower (seen ++ es)) c.deref.ensures.value (c.in_ok-follow_all.ensures first seen was);
    })
    c.write_rows.ensures.whole

pub returns-clause-whole : goal.returns-clause-whole
returns-clause-whole g c =
    let told = g.O.Outlet.told in
    let failed = g.O.Outlet.failed in
    let outlet = c.args.self.now.outlet.now in
    record {
      same = record { outlet = refl; traced = refl };
      written = subst (λ t. WroteWhere told failed outlet outlet t (rows_text c.args.entries.items)) (sym c.if-self.false) refl;
      measured = λ first seen was. subst (λ es. RunningFollowed first c.follow_all.new.follower (seen ++ es)) c.deref.ensures.value (c.in_ok-follow_all.ensures first seen was);
    }
