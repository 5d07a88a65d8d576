use Rattle.promised.proofs.{Words.{rules, links_to}, Linking.{each_more}}
use Rattle.promised.proofs.watching.watched_links.Goals as goal

pub loop-before-preserved : goal.loop-before-preserved
loop-before-preserved c = search (rules, each_more (links_to c.args.scenario.now) c.loop-before.before)
