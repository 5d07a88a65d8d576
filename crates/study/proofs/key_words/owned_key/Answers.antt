use Rattle.std.proofs.Common.{◌≡◌, false}
use Rattle.study.specs.{KeyWords.{is_name, is_memory}, Inside.Private.{IsOwner}}
use Rattle.study.specs.declared.error.KeyError.TheVariants as error
use Rattle.study.proofs.KeyNames.{carried, refused_by, no_table, in_owner}
use Rattle.study.proofs.key_words.owned_key.Goals as goal

pub returns-in_err-table-in-None-clause-err : goal.returns-in_err-table-in-None-clause-err
returns-in_err-table-in-None-clause-err c =
    carried (λ e. is_memory e ≡ false → (e ≡ error.NoKey) × (IsOwner c.args.owner.now → is_name c.args.key.now ≡ false))
    c.from_residual-in_err-table-in-None.result c.in_err-table-in-None.field-0.0 c.from_residual-in_err-table-in-None.ensures.1
    (λ other. let refused = c.in_err-table-in-None.ensures.err other in
    (refused.0, λ owner. absurd (no_table c.args.owner.now c.in-None.ensures.cases refused.1 owner)))

pub returns-in-Some-clause-err : goal.returns-in-Some-clause-err
returns-in-Some-clause-err c =
    refused_by c.listed_key.result (λ none owner. let is = in_owner c.args.owner.now c.in-Some.array c.in-Some.place
    c.in-Some.ensures.cases owner in none is.0 is.1) c.listed_key.ensures.err
