use Rattle.study.proofs.{Basics.{◌≡◌, ◌∙◌, ◌<◌, ◌≤◌, false, length, ap, sym, subst, rules, table_view, with_outages, drawn_of, most_outages, laid_links, laid_in, drawn_in, lay_links, CantBeLaid, too_many}, KeyNames.{carried}}
use Rattle.study.specs.Placed.{is_memory}
use Rattle.study.proofs.laying.lay_over.Goals as goal

pub returns-in_err-drawn-clause-err : goal.returns-in_err-drawn-clause-err
returns-in_err-drawn-clause-err c =
    let t = table_view c.args.table.now in
    let its = c.in_ok-network.network in
    let e = c.requires in
    let drawn : drawn_of c.args.extent.processes c.args.extent.horizon c.args.extent.seed its ≡ drawn_in t its =
    λ i. drawn_of (e.processes i) (e.horizon i) (e.seed i) its in
    carried (λ f. is_memory f ≡ false → CantBeLaid t (table_view c.args.file.now) f)
    c.from_residual-in_err-drawn.result c.in_err-drawn.field-0.0 c.from_residual-in_err-drawn.ensures.1
    (λ other. subst (CantBeLaid t (table_view c.args.file.now)) (sym (c.in_err-drawn.ensures.err other))
    (too_many its c.in_ok-network.ensures.ok
    (subst (λ os. most_outages < length os) drawn (c.in_err-drawn.ensures.many other))))

pub returns-clause-ok : goal.returns-clause-ok
returns-clause-ok c =
    let t = table_view c.args.table.now in
    let its = c.in_ok-network.network in
    let e = c.requires in
    let drawn : c.in_ok-drawn.drawn.items ≡ drawn_in t its =
    c.in_ok-drawn.ensures.ok ∙ (λ i. drawn_of (e.processes i) (e.horizon i) (e.seed i) its) in
    let links : c.in_ok-laid.laid.items ≡ laid_links c.deref.result.now c.args.extent.processes = search rules in
    let laid : c.deref-2.result.now ≡ laid_in t its =
    c.deref-2.ensures.value ∙ (links ∙ (λ i. laid_links (c.deref.ensures.value i) (e.processes i))) in
    record {
      its = its;
      fits = c.in_ok-network.ensures.ok;
      few = subst (λ os. length os ≤ most_outages) drawn c.in_ok-drawn.ensures.few;
      laid_is =
          ap (λ os. with_outages os (table_view c.lay_links.new.table)) drawn
          ∙ ap (with_outages (drawn_in t its)) (c.in_ok-lay_links.ensures.ok ∙ ap (λ ls. lay_links ls t) laid);
    }
