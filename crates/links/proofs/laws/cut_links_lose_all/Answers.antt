use Rattle.links.proofs.Cuts.{lost}
use Rattle.links.proofs.laws.cut_links_lose_all.Goals as goal

pub returns : goal.returns
returns c = lost
