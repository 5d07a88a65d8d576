use Rattle.deques.proofs.{Words.{◌≡◌, [], ◌∷◌, ◌++◌, map, sym, ap, ◌∙◌, subst, add-one, rules, Vec, All, map-id, All-same, All-push, map-map, MayTell, many_out, one_out, blank}, Deals.{many_may, many_blank}}
use Rattle.deques.proofs.dealing.all_permits.Goals as goal

pub loop-init : goal.loop-init
loop-init g c = (sym (map-id c.args.owners.now.items), search rules, search rules, search rules)

pub permits_of-requires : goal.permits_of-requires
permits_of-requires g c = subst (All MayTell) (sym c.loop.invariant.0) (many_may c.loop.counter c.args.owners.now.items c.requires)

pub loop-preserved : goal.loop-preserved
loop-preserved g c =
    let hs = c.args.owners.now.items in
    let Blank : Vec _ → Type 0 = λ v. v.items ≡ map blank hs in
    rw add-one (
      c.in_ok-permits_of.ensures.owners ∙ ap (map one_out) c.loop.invariant.0 ∙ map-map one_out (many_out c.loop.counter) hs,
      All-same Blank c.push_reserved.new.self.items (c.loop.lists.items ++ c.in_ok-permits_of.field-0 ∷ []) c.push_reserved.ensures.items
          (All-push Blank c.loop.lists.items c.in_ok-permits_of.field-0 c.loop.invariant.1 (c.in_ok-permits_of.ensures.permits ∙ ap (map blank) c.loop.invariant.0 ∙ many_blank c.loop.counter hs)),
      search rules,
      search rules,
    )
