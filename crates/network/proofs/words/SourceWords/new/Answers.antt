use Rattle.network.proofs.Coming.{to_come-start}
use Rattle.network.proofs.words.SourceWords.new.Goals as goal

pub returns : goal.returns
returns c = to_come-start c.args.seed c.args.stream c.generator_of-generator.result c.set_stream.new.self
    c.generator_of-generator.ensures.key c.generator_of-generator.ensures.start c.set_stream.ensures
