-- What is found in a scenario.
use Rattle.std.specs.Prelude.{◌≡◌, ◌↔◌, None, IfSome}
use Rattle.scenario.specs.Setup.{Setup, member_count, link_between}
use Rattle.links.specs.Least.{IsDelayOfAPair, IsNoGreater}
use Rattle.meaning.specs.Trips.{round_trip, IsGreatest}
use Rattle.warnings.specs.declared.findings.Findings.{Findings}
use Rattle.warnings.specs.Told.{warnings_of}

-- The window is as long as the least delay of a link, the round trip is the greatest of all pairs, and each warning is there exactly where its condition holds.
pub record AreFindings (s : Setup) (f : Findings) : Type 0 where
  pub alone : f.window ≡ None ↔ member_count s ≡ 1
  pub reached : IfSome f.window (IsDelayOfAPair (λ i j. (link_between s i j).delay) (member_count s))
  pub least : IfSome f.window (IsNoGreater (λ i j. (link_between s i j).delay) (member_count s))
  pub trip : IsGreatest (round_trip s) (member_count s) f.round_trip
  pub warnings : f.warnings.items ≡ warnings_of s f.round_trip
