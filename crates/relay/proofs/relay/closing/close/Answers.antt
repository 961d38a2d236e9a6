use Rattle.std.proofs.Common.{ap}
use Rattle.crossbeam_channel.specs.Claims.{view}
use Rattle.relay.specs.declared.rule.Log.{Log}
use Rattle.relay.proofs.Keeps.{merges, tells, received}
use Rattle.relay.proofs.relay.closing.close.Goals as goal

pub absorb-requires-clause-rule : goal.absorb-requires-clause-rule
absorb-requires-clause-rule g c = merges _ _ _ _ _ _ _ c.requires.sender.may c.requires.taker.may

pub learn_as-requires-clause-rule : goal.learn_as-requires-clause-rule
learn_as-requires-clause-rule g c = let is = c.absorb.ensures.rule in tells _ _ _ _ _ (ap (λ (v : Log _ _). v.sends) is) (ap (λ (v : Log _ _). v.takes) is)

pub returns-clause-whole : goal.returns-clause-whole
returns-clause-whole g c has = let is = c.absorb.ensures.rule in let told = c.learn_as.ensures.rule in
    received g.S.BatchRule.stands_for g.S.BatchRule.is_last g.S.BatchRule.belongs (view c.absorb.new.pass) told.0 _ _ (ap (λ (v : Log _ _). v.sent) is) (ap (λ (v : Log _ _). v.taken) is) told.1 has
