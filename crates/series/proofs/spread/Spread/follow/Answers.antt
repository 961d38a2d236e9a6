use Rattle.std.proofs.Common.{refl}
use Rattle.series.proofs.Gathering.{spread_more, spread_over}
use Rattle.series.proofs.spread.Spread.follow.Goals as goal

pub returns-then-self : goal.returns-then-self
returns-then-self c s subject rows about no_crash no_return is = spread_over s subject c.args.self.now rows c.args.row.now no_crash no_return c.if-self.true is

pub returns : goal.returns
returns c s subject rows about no_crash no_return is =
    spread_more s subject c.args.self.now _ rows c.args.row.now about no_crash no_return c.if-self.false is refl refl refl c.note.ensures.all c.note-2.ensures.all c.note.ensures.noted c.note-2.ensures.noted
