use Rattle.scenario.proofs.{Words.{◌∙◌, ◌∷◌, sym, ap, map, subst, rules, string_bytes, true, Contains, All-head, All-rest, All-same, table_view, keys_of, fields_of}, Elements.{keys_there}}
use Rattle.{scenario.proofs.FieldFacts.{any_unlisted, unlisted_view, unlisted_step}, std.specs.Map.Iter.{deref}}
use Rattle.std.proofs.lemmas.Map.Iter.{rest_more}
use Rattle.scenario.proofs.table.unlisted_key.Goals as goal

pub loop-key-init : goal.loop-key-init
loop-key-init c = record {
  test = unlisted_view (fields_of c.args.fields.now) c.args.table.now.entries ∙ ap (any_unlisted (fields_of c.args.fields.now)) (search rules);
  there = All-same (λ k. Contains (keys_of (table_view c.args.table.now)) (string_bytes k)) c.into_iter-key-iterator.result (map (λ e. e.0) c.args.table.now.entries) (search rules) (keys_there c.args.table.now.entries);
}

pub loop-key-preserved : goal.loop-key-preserved
loop-key-preserved c =
    let left = rest_more deref c.loop-key.key-iterator c.next.new.self c.next.result c.in-Some.key c.in-Some.is c.next.ensures.steps in
    record {
      test = c.loop-key.invariant.test ∙ unlisted_step (fields_of c.args.fields.now) c.loop-key.key-iterator c.in-Some.key.now c.next.new.self c.as_str.result.now true left c.as_str.ensures.value (sym c.if-not-is_listed_key.false ∙ c.is_listed_key.ensures);
      there = All-rest (λ k. Contains (keys_of (table_view c.args.table.now)) (string_bytes k)) c.in-Some.key.now c.next.new.self c.loop-key.key-iterator left c.loop-key.invariant.there;
    }

pub returns-then-not-is_listed_key-clause-there : goal.returns-then-not-is_listed_key-clause-there
returns-then-not-is_listed_key-clause-there c =
    let keys = keys_of (table_view c.args.table.now) in
    let left = rest_more deref c.loop-key.key-iterator c.next.new.self c.next.result c.in-Some.key c.in-Some.is
    c.next.ensures.steps in
    let all = All-same (λ k. Contains keys (string_bytes k)) (c.in-Some.key.now ∷ c.next.new.self)
    c.loop-key.key-iterator (sym left) c.loop-key.invariant.there in
    subst (Contains keys) (sym c.as_str-then-not-is_listed_key.ensures.value)
    (All-head (λ k. Contains keys (string_bytes k)) c.in-Some.key.now c.next.new.self all)
