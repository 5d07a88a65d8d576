use Rattle.study.specs.Sources.{sources_of}
use Rattle.study_commands.proofs.study_check.serve_study_check.Goals as goal

pub returns-clause-text : goal.returns-clause-text
returns-clause-text g c =
    let text = c.in_ok-text_of.ensures in
    record {
      sources = sources_of c.in_ok-said.said.sources;
      grid = c.in_ok-said.said.grid;
      shard = c.in_ok-said.said.shard;
      layout = c.in_ok-said.said.layout;
      said = c.in_ok-said.ensures.said;
      each = c.in_ok-said.ensures.ready;
      reckoned = text.0;
      text = rw c.into_bytes.ensures.value text.1;
    }

pub returns-clause-told : goal.returns-clause-told
returns-clause-told g c = record {
  sources = sources_of c.in_ok-said.said.sources;
  grid = c.in_ok-said.said.grid;
  shard = c.in_ok-said.said.shard;
  layout = c.in_ok-said.said.layout;
  said = c.in_ok-said.ensures.said;
  told = c.in_ok-said.ensures.told;
}
