use Rattle.incidents.proofs.Listing.{if_ok_more}
use Rattle.incidents.specs.Kept.{count_of}
use Rattle.incidents.proofs.incidents.Incidents.returns.Goals as goal

pub returns : goal.returns
returns c = if_ok_more c.returns.result (λ told is rows are. is (count_of c.args.self.now.cluster) rows are.lines) c.returns.ensures
