-- The two numbers that a warning compares: the one at the left is too large for the one at the right, or too small.
use Rattle.std.specs.Prelude.{ℕ, ◌+◌, ◌-◌, ◌*◌, nat_lt, if◌then◌else◌, Option, Some, None, unwrap_or, slice_get}
use Rattle.std.specs.Option.{option_map_or}
use Rattle.scenario.specs.Setup.{Setup, member_count, crash_of}
use Rattle.warnings.specs.Conditions.{least_suspicion}
use Rattle.warnings.specs.declared.warning.Warning.{Warning}
use Rattle.warnings.specs.declared.warning.Warning.TheVariants as warning
use Rattle.meaning_text.specs.declared.numbers.Pair.{Pair}

abbrev pub compared : ℕ → ℕ → Option Pair
compared left right = Some (record { left = left; right = right })

-- when a member crashes, 0 where it doesn't
abbrev pub crash_at : Setup → ℕ → ℕ
crash_at s m = if nat_lt m (member_count s) then unwrap_or (crash_of s m) 0 else 0

-- when and by how much the entry at a place says that somebody is slow
abbrev pub slow_from : Setup → ℕ → ℕ
slow_from s k = option_map_or (λ e. e.from) (slice_get s.slows k) 0

abbrev pub slow_extra : Setup → ℕ → ℕ
slow_extra s k = option_map_or (λ e. e.extra) (slice_get s.slows k) 0

-- when the leave, or the cut, at a place is
abbrev pub leave_at : Setup → ℕ → ℕ
leave_at s k = option_map_or (λ l. l.at) (slice_get s.leaves k) 0

abbrev pub cut_at : Setup → ℕ → ℕ
cut_at s k = option_map_or (λ c. c.at) (slice_get s.cuts k) 0

-- when the pause at a place begins
abbrev pub pause_from : Setup → ℕ → ℕ
pause_from s k = option_map_or (λ p. p.from) (slice_get s.pauses k) 0

-- how long that pause lasts
abbrev pub pause_length : Setup → ℕ → ℕ
pause_length s k = option_map_or (λ p. p.until - p.from) (slice_get s.pauses k) 0

unfoldable pub numbers_of : Setup → ℕ → Warning → Option Pair
numbers_of s trip warning.LateAnswer = compared trip s.swim.timeout
numbers_of s trip warning.LateRelay = compared (s.swim.timeout + 2 * trip) s.swim.period
numbers_of s trip warning.EarlyEnd = compared (1 + s.swim.period + least_suspicion s) s.end
numbers_of s trip warning.FewAccusers = compared (member_count s - 2) s.lifeguard.confirmations
numbers_of s trip warning.ManyHelpers = compared s.swim.helpers (member_count s - 2)
numbers_of s trip warning.LostOnLink = None
numbers_of s trip warning.PartOfLifeguard = None
numbers_of s trip warning.LongSpread = compared s.swim.spread s.end
numbers_of s trip warning.NoGossip = None
numbers_of s trip warning.OddConfirmations = compared s.lifeguard.confirmations (s.suspicion.alpha - 2)
numbers_of s trip warning.QuietRun = None
numbers_of s trip (warning.HiddenPath k) = None
numbers_of s trip (warning.LonelyPath k) = None
numbers_of s trip (warning.LostOnPath k) = None
numbers_of s trip (warning.SlowPastEnd k) = compared (slow_from s k) s.end
numbers_of s trip (warning.SlowWhileDown k) = None
numbers_of s trip (warning.SlowAnswer k) = compared (trip + 2 * slow_extra s k) s.swim.timeout
numbers_of s trip (warning.CrashPastEnd m) = compared (crash_at s m) s.end
numbers_of s trip (warning.CrashUnconfirmed m) = compared (crash_at s m + least_suspicion s) s.end
numbers_of s trip (warning.LeavePastEnd k) = compared (leave_at s k) s.end
numbers_of s trip (warning.CutPastEnd k) = compared (cut_at s k) s.end
numbers_of s trip (warning.PausePastEnd k) = compared (pause_from s k) s.end
numbers_of s trip (warning.PauseWhileDown k) = None
numbers_of s trip (warning.LongPause k) = compared (pause_length s k) (least_suspicion s)
