use Rattle.std.proofs.Common.{ap}
use Rattle.relay.specs.declared.rule.Log.{Log}
use Rattle.relay.proofs.Keeps.{forks}
use Rattle.relay.proofs.roles.part.Goals as goal

pub another-requires-clause-rule : goal.another-requires-clause-rule
another-requires-clause-rule g c = let is = c.requires.fresh in
    forks _ _ _ _ _ _ (ap (λ (v : Log _ _). v.sends) is) (ap (λ (v : Log _ _). v.takes) is) (ap (λ (v : Log _ _). v.sent) is) (ap (λ (v : Log _ _). v.taken) is)
