use Rattle.{std.proofs.Common.{refl}, study.proofs.KeyNames.{refused_by, no_list, in_list}}
use Rattle.study.proofs.key_words.network_key.Goals as goal

pub returns-in-None-clause-err : goal.returns-in-None-clause-err
returns-in-None-clause-err c other = (refl, λ is. absurd (no_list c.args.owner.now c.in-None.ensures.cases is))

pub returns-in-Some-clause-err : goal.returns-in-Some-clause-err
returns-in-Some-clause-err c =
    refused_by c.listed_key.result (λ none listed. let is = in_list c.args.owner.now c.in-Some.array c.in-Some.place
    c.in-Some.ensures.cases listed in none is.0 is.1) c.listed_key.ensures.err
