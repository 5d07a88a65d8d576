use Rattle.scenario.proofs.{Words.{◌≡◌, ◌∙◌, ◌*◌, ◌++◌, ◌∷◌, [], ap, replicate, arith, map-append, outages_in}, Cuts.{none_yet}}
use Rattle.std.proofs.lemmas.List.{replicate_more}
use Rattle.scenario.proofs.outages.no_outages.Goals as goal

pub loop-k-init : goal.loop-k-init
loop-k-init c = ap outages_in c.new-outages.ensures.items

pub loop-k-preserved : goal.loop-k-preserved
loop-k-preserved c =
    let made = c.new.result in
    ap outages_in c.in_ok-push.ensures.items
    ∙ (map-append (λ v. v.items) c.loop-k.outages.items (made ∷ []) ∙ ap (λ es. outages_in c.loop-k.outages.items ++ es ∷ []) c.new.ensures.items
    ∙ (ap (λ ls. ls ++ [] ∷ []) c.loop-k.invariant ∙ replicate_more c.loop-k._k []))

pub returns : goal.returns
returns c =
    let end : c.loop-k._k ≡ c.from.result * c.from-2.result = omega arith in
    let all : c.loop-k._k ≡ c.args.n * c.args.n = rw (c.from.ensures, c.from-2.ensures) at end in
    c.loop-k.invariant ∙ (ap (λ k. replicate k []) all ∙ none_yet c.args.n)
