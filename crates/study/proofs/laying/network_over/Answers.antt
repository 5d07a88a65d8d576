use Rattle.study.proofs.Basics.{◌≡◌, ◌∙◌, ◌||◌, not, true, false, refl, sym, subst, table_view, is_second, has_sources, CantBeLaid, refused, above, older}
use Rattle.network.specs.Above.{groups_of, AreWithin, HasAbove}
use Rattle.study.proofs.laying.network_over.Goals as goal

pub returns-in-Err-clause-err : goal.returns-in-Err-clause-err
returns-in-Err-clause-err c other =
    subst (CantBeLaid (table_view c.args.table.now) (table_view c.args.file.now)) (sym (c.of_network.ensures other))
    (refused c.in-Err.ensures.err)

pub returns-in-Some-clause-err : goal.returns-in-Some-clause-err
returns-in-Some-clause-err c other =
    let its = c.in-Ok.network in
    let found = c.in-Some.above in
    above its c.in-Ok.ensures.ok
    (subst (λ n. HasAbove n (groups_of its found.kind) found.number found.key.now found.process) c.requires c.in-Some.ensures.some)

pub returns-then-has_sources-clause-err : goal.returns-then-has_sources-clause-err
returns-then-has_sources-clause-err c other =
    let its = c.in-Ok.network in
    let first : is_second (table_view c.args.table.now) ≡ false = sym c.is_second.ensures ∙ c.if-not-is_second.true in
    let draws : has_sources its ≡ true = sym c.has_sources.ensures ∙ c.if-has_sources.true in
    older its c.in-Ok.ensures.ok (λ k. subst (λ n. AreWithin n (groups_of its k)) c.requires (c.in_default.ensures.none refl k))
    (λ i. first i || not (draws i))
