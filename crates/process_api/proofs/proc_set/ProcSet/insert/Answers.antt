use Rattle.process_api.proofs.{Basics.{◌≡◌, ◌-◌, ap, sym, ◌∙◌, arith, is_set, most_processes}, Told.{members-insert}}
use Rattle.std.specs.FinSet as set
use Rattle.process_api.proofs.proc_set.ProcSet.insert.Goals as goal

pub returns : goal.returns
returns c =
    let p = c.args.p in
    let at : c.from.result - 1 ≡ p - 1 = omega (arith, c.from.ensures, c.number.ensures.value) in
    members-insert most_processes (is_set c.self.inside.words) (is_set c.put.new.words) p
    (omega (arith, c.number.ensures.low, c.number.ensures.value)) (omega (arith, c.number.ensures.high, c.number.ensures.value))
    (λ i _ apart. c.put.ensures.others i (λ e. apart (e ∙ at)))
    (ap (is_set c.put.new.words) (sym at) ∙ c.put.ensures.own)
    ∙ ap (λ s. set.insert s p) c.self.view_is
