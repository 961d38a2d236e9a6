-- What in the text each warning is about.
use Rattle.warnings.specs.declared.warning.Warning.{Warning}
use Rattle.warnings.specs.declared.warning.Warning.TheVariants as warning
use Rattle.warnings.specs.declared.about.About.{About}
use Rattle.warnings.specs.declared.about.About.TheVariants as about

-- a key, or the item of a list, by its place, or the crash of a member
abbrev pub about_of : Warning → About
about_of warning.LateAnswer = about.Timeout
about_of warning.LateRelay = about.Period
about_of warning.EarlyEnd = about.End
about_of warning.FewAccusers = about.Confirmations
about_of warning.ManyHelpers = about.Helpers
about_of warning.LostOnLink = about.LinkLoss
about_of warning.PartOfLifeguard = about.Lifeguard
about_of warning.LongSpread = about.Spread
about_of warning.NoGossip = about.Gossip
about_of warning.OddConfirmations = about.Confirmations
about_of warning.QuietRun = about.End
about_of (warning.HiddenPath k) = about.Path k
about_of (warning.LonelyPath k) = about.Path k
about_of (warning.LostOnPath k) = about.PathLoss k
about_of (warning.SlowPastEnd k) = about.Slow k
about_of (warning.SlowWhileDown k) = about.Slow k
about_of (warning.SlowAnswer k) = about.SlowExtra k
about_of (warning.CrashPastEnd k) = about.Crash k
about_of (warning.CrashUnconfirmed k) = about.Crash k
about_of (warning.LeavePastEnd k) = about.Leave k
about_of (warning.CutPastEnd k) = about.Cut k
about_of (warning.PausePastEnd k) = about.Pause k
about_of (warning.PauseWhileDown k) = about.Pause k
about_of (warning.LongPause k) = about.Pause k
