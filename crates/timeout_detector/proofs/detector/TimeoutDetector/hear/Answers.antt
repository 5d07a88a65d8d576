use Rattle.{std.proofs.Common.{rules}, process_api.proofs.Contains.{fewer_after_remove}}
use Rattle.timeout_detector.proofs.detector.TimeoutDetector.hear.Goals as goal

pub invariant_of-self : goal.invariant_of-self
invariant_of-self c = record {
  kind = search rules;
  heard_places = search rules;
  bound_places = search rules;
  not_itself = fewer_after_remove c.args.self.now.suspects c.remove.new.self c.args.q c.args.self.now.opening.own c.remove.ensures c.args.self.now.not_itself;
}
