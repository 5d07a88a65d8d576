use Rattle.study_commands.proofs.Words.{◌≡◌, promised}
use Rattle.study_commands.proofs.bounds_lines.bounds_lines.Goals as goal

pub returns : goal.returns
returns c =
    let s = c.args.scenario.now in
    let bounds : c.in_ok-bounds.bounds ≡ promised s = c.in_ok-bounds.ensures.value in
    let detector : c.detector-detector.result ≡ s.detector = c.detector-detector.ensures.value in
    rw (
      c.in_ok-detection.ensures,
      c.in_ok-reliable.ensures,
      c.in_ok-lossy.ensures,
      c.in_ok-needed.ensures,
      bounds,
      detector,
    ) at c.format.ensures.ok
