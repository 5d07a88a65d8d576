use Rattle.run_tests.proofs.{Words.{◌≡◌, ◌-◌, sym, ap, ◌∙◌, subst, arith, true, get_or, is_before, is_rising}, traces.add.Goals.{else-count-gt0-via-then-count-gt0+else-not-is_before, else-count-gt0-via-else-count-gt0}}
use Rattle.{process_api.specs.Order.{EntryRecord}, judges.proofs.Adding.{rising_first, rising_more}}
use Rattle.run_tests.proofs.traces.add.Goals as goal

pub returns : goal.returns
returns g c =
    subst (λ xs. is_rising xs ≡ true) (sym c.in_ok-push.ensures.items) (elim c.else-count-gt0.branch [
      | else-count-gt0-via-then-count-gt0+else-not-is_before w ↦
          let last : (get_or c.args.entries.now.items (c.len-count.result - 1) w.index.result.now).key ≡ w.behind-entries.inside.key
          = ap (λ (e : EntryRecord). e.key) (sym w.index.ensures) ∙ ap (λ (e : EntryRecord). e.key) (sym w.behind-entries.view_is) in
          let next : c.args.entry.key ≡ c.entry.inside.key = ap (λ (e : EntryRecord). e.key) (sym c.entry.view_is) in
          rising_more c.args.entries.now.items c.args.entry w.index.result.now (c.len-count.result - 1) (omega (arith, w.if-count-gt0, c.len-count.ensures, c.args.entries.now.ok.0)) c.requires
          (ap (λ k. is_before k c.args.entry.key) last ∙ ap (is_before w.behind-entries.inside.key) next ∙ sym w.is_before.ensures ∙ w.if-not-is_before.false)
      | else-count-gt0-via-else-count-gt0 w ↦ rising_first c.args.entries.now.items c.args.entry (omega (arith, w.if-count-gt0, c.len-count.ensures, c.args.entries.now.ok.0))
    ])
