use Rattle.series.proofs.Dying.{none_kept, one_kept}
use Rattle.series.proofs.deaths.keep.Goals as goal

pub returns-then-is_none : goal.returns-then-is_none
returns-then-is_none c rows row told are = none_kept _ _ c.args.death rows row c.if-is_none.ensures told are

pub returns : goal.returns
returns c rows row told are = one_kept _ _ _ c.args.death rows row c.if-is_none.ensures c.put_at.ensures told are
