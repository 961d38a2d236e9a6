use Rattle.std.proofs.Common.{sym, ◌∙◌}
use Rattle.member.specs.StateOf.{effect_of}
use Rattle.member.proofs.KnownOnes.{known_alive_stays}
use Rattle.member.proofs.member.Member.merge_entry.Goals as goal

pub returns-then-is_known_alive : goal.returns-then-is_known_alive
returns-then-is_known_alive c = record {
  ok =
      sym (known_alive_stays c.args.here.now.scenario.now c.args.here.now.key c.args.entry.now (effect_of c.args.self.now c.args.effects.now)
      (sym c.is_known_alive.ensures ∙ c.if-is_known_alive.true));
  overflow = λ h. cc;
  kept = c.requires.known;
}
