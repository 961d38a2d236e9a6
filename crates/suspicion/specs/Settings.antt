-- A scenario's settings of suspicions.
use Rattle.scenario.specs.Setup.{Setup}
use Rattle.scenario.specs.Profile.{profile_of}
use Rattle.suspicion.specs.declared.terms.Terms.{Terms}

abbrev pub terms_of : Setup → Terms
terms_of setup = record {
  period = setup.swim.period;
  alpha = setup.suspicion.alpha;
  beta = setup.suspicion.beta;
  shortens = setup.lifeguard.suspicion;
  profile = profile_of setup;
  accusers_wanted = setup.lifeguard.confirmations;
}
