use Rattle.study.proofs.{Basics.{◌≡◌, ◌≢◌, false, Some, ◌∙◌, sym, codes, rules, lit<, false≢true, split_parts, file_path_of}, KeyNames.{carried, dotted, no_network, network_parts, network_text}}
use Rattle.study.specs.{KeyWords.{is_name, is_memory}, Inside.Private.{IsOwner, IsNetworkText}}
use Rattle.study.specs.declared.error.KeyError.TheVariants as error
use Rattle.study.proofs.key_words.dotted_key.Goals as goal

pub returns-in_err-key-in-None-clause-no_network : goal.returns-in_err-key-in-None-clause-no_network
returns-in_err-key-in-None-clause-no_network c =
    carried (λ e. is_memory e ≡ false → c.args.owner.now ≡ codes "network" → IsNetworkText c.args.rest.now → ⊥)
    c.from_residual.result c.in_err-key-in-None.field-0.0 c.from_residual.ensures.1
    (λ other same is. no_network c.args.rest.now c.in-None.ensures.cases is)

pub returns-in_err-key-in-Some-clause-no_scenario : goal.returns-in_err-key-in-Some-clause-no_scenario
returns-in_err-key-in-Some-clause-no_scenario c =
    let split = split_parts 46 c.args.rest.now (Some (c.in-Some.array, c.in-Some.key)) c.in-Some.ensures.cases (lit< tt) in
    carried (λ e. is_memory e ≡ false → (e ≡ error.NoKey) × (IsOwner c.args.owner.now → is_name c.args.rest.now ≡ false))
    c.from_residual-in_err-key-in-Some.result c.in_err-key-in-Some.field-0.0 c.from_residual-in_err-key-in-Some.ensures.1
    (λ other. (
      (c.in_err-key-in-Some.ensures.err other).0,
      λ owner. dotted c.args.rest.now c.in-Some.array.now c.in-Some.key.now split.0,
    ))

pub returns-in_err-key-in-Some-clause-no_network : goal.returns-in_err-key-in-Some-clause-no_network
returns-in_err-key-in-Some-clause-no_network c =
    carried (λ e. is_memory e ≡ false → c.args.owner.now ≡ codes "network" → IsNetworkText c.args.rest.now → ⊥)
    c.from_residual-in_err-key-in-Some.result c.in_err-key-in-Some.field-0.0 c.from_residual-in_err-key-in-Some.ensures.1
    (λ other same is. let parts = network_parts c.args.rest.now c.in-Some.array c.in-Some.key c.in-Some.ensures.cases is in
    false≢true (sym ((c.in_err-key-in-Some.ensures.err other).1 parts.0) ∙ parts.1))

pub returns-in_ok-key-in-Some-clause-text : goal.returns-in_ok-key-in-Some-clause-text
returns-in_ok-key-in-Some-clause-text c =
    let split = split_parts 46 c.args.rest.now (Some (c.in-Some.array, c.in-Some.key)) c.in-Some.ensures.cases (lit< tt) in
    let same : c.args.owner.now ≡ codes "network" = search rules in
    network_text c.args.owner.now c.args.rest.now c.in-Some.array.now c.in-Some.key.now
    (file_path_of c.in_ok-key-in-Some.key) same split.0
    c.in_ok-key-in-Some.ensures.text
