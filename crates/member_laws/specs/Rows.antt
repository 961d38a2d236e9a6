-- What the laws say of the rows that a step writes.
use Rattle.std.specs.Prelude.{◌≡◌, true}
use Rattle.scenario.specs.Setup.{Setup}
use Rattle.trace.specs.declared.row.What.{What}
use Rattle.trace.specs.declared.row.What.TheVariants.{Accuse, Health, Nack}

-- the mechanism of Lifeguard that such a row is about is switched on, if it is about one
abbrev pub IsOn : Setup → What → Type 0
IsOn s Accuse = s.lifeguard.suspicion ≡ true
IsOn s Nack = s.lifeguard.probe ≡ true
IsOn s Health = s.lifeguard.probe ≡ true
IsOn s _ = Unit {0}
