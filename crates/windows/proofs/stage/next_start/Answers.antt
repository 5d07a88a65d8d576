use Rattle.windows.proofs.{Words.{rules, ◌≡◌, ◌+◌, ◌++◌, ◌∷◌, [], map, ap, sym, subst, ◌∙◌, take, min, take_more, map-append, Events, IsNextStart, Berth}, Agendas.{none_pending, one_empty, one_pending}}
use Rattle.windows.proofs.stage.next_start.Goals.{in-Some, in_default}
use Rattle.windows.proofs.stage.next_start.Goals as goal

pub loop-berth-init : goal.loop-berth-init
loop-berth-init g c = none_pending c.args.horizon

pub loop-berth-preserved : goal.loop-berth-preserved
loop-berth-preserved g c =
    let bs = c.args.berths.now in
    let i = c.loop-berth.berth-index in
    let f : Berth _ → Events = λ b. b.pending in
    let more : map f (take (i + 1) bs) ≡ map f (take i bs) ++ c.berth-item.result.pending ∷ [] =
    ap (λ xs. map f xs) (take_more bs i c.berth-item.result (search rules) ∙ ap (λ b. take i bs ++ b ∷ []) (sym c.berth-item.is)) ∙ map-append f (take i bs) (c.berth-item.result ∷ []) in
    let own = map (λ (b : Berth _). b.pending) (take i bs) in
    let m = c.berth-item.result.pending in
    elim c.match-least_tick.branch [
      | in-Some w ↦
          subst (IsNextStart c.args.horizon (map (λ (b : Berth _). b.pending) (take (i + 1) bs))) (sym (w.next-is ∙ w.min-next.ensures))
          (subst (λ ms. IsNextStart c.args.horizon ms (min c.loop-berth.next w.in-Some.tick)) (sym more) (one_pending c.args.horizon own m c.loop-berth.next w.in-Some.tick c.loop-berth.invariant w.in-Some.ensures))
      | in_default w ↦
          subst (IsNextStart c.args.horizon (map (λ (b : Berth _). b.pending) (take (i + 1) bs))) (sym w.next-is)
          (subst (λ ms. IsNextStart c.args.horizon ms c.loop-berth.next) (sym more) (one_empty c.args.horizon own m c.loop-berth.next c.loop-berth.invariant (search rules)))
    ]
