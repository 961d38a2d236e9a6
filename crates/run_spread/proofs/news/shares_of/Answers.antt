use Rattle.run_spread.proofs.Spreading.{shares_are}
use Rattle.run_spread.proofs.news.shares_of.Goals as goal

pub returns : goal.returns
returns c given moved =
    shares_are c.args.staying given _ _ _ _ _ (c.time_at.ensures given moved) (c.time_of_share.ensures given moved) (c.time_of_share-2.ensures given moved)
    (c.time_of_share-3.ensures given moved) (c.time_of_share-4.ensures given moved)
