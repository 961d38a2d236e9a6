use Rattle.links.proofs.Cuts.{never_cut}
use Rattle.links.proofs.laws.first_version_cuts_nothing.Goals as goal

pub returns : goal.returns
returns c = never_cut
