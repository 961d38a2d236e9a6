use Rattle.series.proofs.Dying.{stands}
use Rattle.series.proofs.standing.Standing.follow.Goals as goal

pub returns : goal.returns
returns c subject rows about numbered probed answered is =
    stands subject _ c.args.self.now _ _ _ _ _ _ rows c.args.row.now about numbered probed answered is
    c.is_new-anew.ensures c.accuses-accuses.ensures c.line_at-claim.ensures c.follow_accusers.ensures c.greatest-self.ensures c.greatest-self-2.ensures c.last_line-self.ensures c.heard-self.ensures c.refuted-self.ensures
