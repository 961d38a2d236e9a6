use Rattle.std.proofs.Common.{ap}
use Rattle.streams.specs.Draw.{words_of}
use Rattle.member.specs.StateOf.{state_of}
use Rattle.member.proofs.Rebirths.{reborn_of}
use Rattle.member.proofs.member.Member.be_reborn.Goals as goal

pub returns-clause-made : goal.returns-clause-made
returns-clause-made c = record {
  ok = reborn_of c.args.here.now.scenario.now c.args.here.now.key.to c.args.contact (state_of c.args.self.now) (state_of c.in_ok-fresh.fresh) _ _ c.args.self.now.incarnation_within
      c.in_ok-fresh.ensures.state (ap words_of c.replace-fresh.ensures.value) c.in_ok-fresh-2.ensures;
  memory = tt;
}
