use Rattle.std.proofs.Common.{sym, subst}
use Rattle.scenario.specs.Spells.{AreApart}
use Rattle.scenario.proofs.Apart.{appended_apart}
use Rattle.scenario.proofs.spells.append.Goals as goal

pub returns-in-Ok-clause-apart : goal.returns-in-Ok-clause-apart
returns-in-Ok-clause-apart c =
    subst AreApart (sym c.in-Ok.ensures.items) (appended_apart c.args.spells.now.items c.args.from c.args.until c.requires.lasts c.requires.over c.requires.apart)
