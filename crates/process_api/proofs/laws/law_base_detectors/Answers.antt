use Rattle.process_api.proofs.DetectorLaws.{detector_opens, detector_laws}
use Rattle.process_api.proofs.laws.law_base_detectors.Goals as goal

pub returns-clause-opens : goal.returns-clause-opens
returns-clause-opens c place numbers = detector_opens place numbers

pub returns-clause-steps : goal.returns-clause-steps
returns-clause-steps c place s now input = detector_laws place s now input
