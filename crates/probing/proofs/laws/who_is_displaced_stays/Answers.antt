use Rattle.std.proofs.Common.{refl, arith}
use Rattle.probing.specs.Displaced.{displaced_of}
use Rattle.probing.proofs.SoundLemmas.{one_if-same, one_if-other}
use Rattle.probing.proofs.DisplacedLemmas.{displaced_counted}
use Rattle.probing.proofs.laws.who_is_displaced_stays.Goals as goal

pub returns-clause-added : goal.returns-clause-added
returns-clause-added c words member order fit sound absent = omega (arith, displaced_counted words member member order fit sound, one_if-same member member refl, absent)

pub returns-clause-others : goal.returns-clause-others
returns-clause-others c words member other order fit sound apart = omega (arith, displaced_counted words member other order fit sound, one_if-other member other apart)

pub returns-clause-mark : goal.returns-clause-mark
unfolding displaced_of
returns-clause-mark c words member order = refl
