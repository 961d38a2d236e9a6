-- What `SlowTimes` stand for.
use Rattle.std.specs.Prelude.{◌≡◌, true, List}
use Rattle.links.specs.SlowTimes.{Rise}
use Rattle.links.specs.declared.spans.times.SlowSpan.{SlowSpan}
use Rattle.links.specs.declared.spans.times.SlowTimes.TheInside.{Inside}

abbrev pub times_of : Inside → List SlowSpan
times_of t = t.times.items

abbrev pub AreTimes : Inside → Type 0
AreTimes t = t.rise ≡ true → Rise t.times.items
