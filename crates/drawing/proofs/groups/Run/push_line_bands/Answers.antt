use Rattle.drawing.proofs.Words.{rules, line_bands_in, link_bands, line_bands}
use Rattle.drawing.proofs.groups.Run.push_line_bands.Goals as goal

pub returns : goal.returns
unfolding line_bands_in line_bands link_bands
returns c = search rules
