use Rattle.{std.proofs.Common.{None, refl, rules}, toml.specs.Errors.{span_start}}
use Rattle.{scenario.proofs.Reading.{refused_text}, diagnosis.specs.Text.{no_toml}}
use Rattle.diagnosis.proofs.answer.refused_bytes.Goals as goal

pub returns : goal.returns
returns c = record {
  refuses = refused_text c.args.bytes.now c.requires.document;
  document = None;
  is_document = c.requires.document;
  its = no_toml c.not_toml-fault.result;
  is_reason = refl;
  placed = (span_start c.args.error.now, c.not_toml-fault.ensures);
  told = search rules;
}
