-- By whose rules the members of a scenario go.
use Rattle.base.specs.declared.profile.Profile.{Profile}
use Rattle.base.specs.declared.profile.Profile.TheVariants.{Papers, Memberlist, Hashicorp}
use Rattle.schema.specs.declared.schema.Version.{Version}
use Rattle.schema.specs.declared.schema.Version.TheVariants.{One, Two, Three, Four}
use Rattle.scenario.specs.Setup.{Setup}

abbrev pub profile_of_version : Version → Profile
profile_of_version One = Papers
profile_of_version Two = Papers
profile_of_version Three = Memberlist
profile_of_version Four = Hashicorp

abbrev pub profile_of : Setup → Profile
profile_of s = profile_of_version s.version
