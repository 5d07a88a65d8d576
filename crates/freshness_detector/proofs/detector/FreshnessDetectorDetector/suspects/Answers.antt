use Rattle.freshness_detector.proofs.{Words.{◌∙◌, place_of, state_of}, Points.{same_suspects, not_itself}}
use Rattle.freshness_detector.proofs.detector.FreshnessDetectorDetector.suspects.Goals as goal

pub returns-clause-value : goal.returns-clause-value
returns-clause-value c =
    let d = c.args.self.now in
    c.copy.ensures ∙ same_suspects (place_of d.opening) d.numbers (state_of d) d.suspects d.current

pub returns-clause-not_itself : goal.returns-clause-not_itself
returns-clause-not_itself c = let d = c.args.self.now in not_itself (place_of d.opening) d.numbers (state_of d)
