-- The list of warnings, in its order.
use Rattle.std.specs.Prelude.{ℕ, Bool, not, ◌&&◌, if◌then◌else◌, List, [], ◌∷◌, ◌++◌, flat_map, Option}
use Rattle.std.specs.List.{range_with_len}
use Rattle.std.specs.Option.{option_map_or}
use Rattle.scenario.specs.Setup.{Setup, member_count, crash_of}
use Rattle.scenario.specs.declared.settings.Path.{Path}
use Rattle.scenario.specs.declared.settings.Slow.{Slow}
use Rattle.scenario.specs.declared.settings.Leave.{Leave}
use Rattle.scenario.specs.declared.settings.Cut.{Cut}
use Rattle.scenario.specs.declared.settings.Pause.{Pause}
use Rattle.meaning.specs.Each.{made_of_each}
use Rattle.meaning.specs.Groups.{groups_of, is_hidden}
use Rattle.warnings.specs.declared.warning.Warning.{Warning}
use Rattle.warnings.specs.declared.warning.Warning.TheVariants as warning
use Rattle.warnings.specs.Conditions.{is_answer_late, is_relay_late, is_end_early, are_accusers_few, are_helpers_many, is_lost, is_in_part, is_spread_long, is_lonely, is_past, is_down, is_slow_answer_late, is_unconfirmed, is_without_gossip, are_confirmations_odd, is_run_quiet, is_pause_long}

-- a warning where its condition holds
abbrev pub told_if : Bool → Warning → List Warning
told_if b w = if b then w ∷ [] else []

unfoldable pub told_of_settings : Setup → ℕ → List Warning
told_of_settings s trip =
    told_if (is_answer_late s trip) warning.LateAnswer
    ++ told_if (is_relay_late s trip) warning.LateRelay
    ++ told_if (is_end_early s) warning.EarlyEnd
    ++ told_if (are_accusers_few s) warning.FewAccusers
    ++ told_if (are_helpers_many s) warning.ManyHelpers
    ++ told_if (is_lost s s.link) warning.LostOnLink
    ++ told_if (is_in_part s.lifeguard) warning.PartOfLifeguard
    ++ told_if (is_spread_long s) warning.LongSpread

-- of the version's rules, and of the run as a whole
unfoldable pub told_of_run : Setup → ℕ → List Warning
told_of_run s trip =
    told_if (is_without_gossip s) warning.NoGossip
    ++ told_if (are_confirmations_odd s) warning.OddConfirmations
    ++ told_if (is_run_quiet s trip) warning.QuietRun

unfoldable pub told_of_path : Setup → ℕ → Path → List Warning
told_of_path s k p =
    told_if (is_hidden s.paths k p) (warning.HiddenPath k)
    ++ told_if (is_lonely (groups_of s) p) (warning.LonelyPath k)
    ++ told_if (not (is_hidden s.paths k p) && is_lost s p.link) (warning.LostOnPath k)

unfoldable pub told_of_slow : Setup → ℕ → ℕ → Slow → List Warning
told_of_slow s trip k e =
    told_if (is_past s e.from) (warning.SlowPastEnd k)
    ++ told_if (is_down s e.member e.from) (warning.SlowWhileDown k)
    ++ told_if (is_slow_answer_late s trip e) (warning.SlowAnswer k)

-- of the crash of a member, if it crashes
unfoldable pub told_of_crash : Setup → ℕ → Option ℕ → List Warning
told_of_crash s m at =
    option_map_or (λ t. told_if (is_past s t) (warning.CrashPastEnd m) ++ told_if (is_unconfirmed s t) (warning.CrashUnconfirmed m)) at []

unfoldable pub told_of_leave : Setup → ℕ → Leave → List Warning
told_of_leave s k l = told_if (is_past s l.at) (warning.LeavePastEnd k)

unfoldable pub told_of_cut : Setup → ℕ → Cut → List Warning
told_of_cut s k c = told_if (is_past s c.at) (warning.CutPastEnd k)

unfoldable pub told_of_pause : Setup → ℕ → Pause → List Warning
told_of_pause s k p =
    told_if (is_past s p.from) (warning.PausePastEnd k)
    ++ told_if (is_down s p.member p.from) (warning.PauseWhileDown k)
    ++ told_if (is_pause_long s p) (warning.LongPause k)

-- the warnings about the crashes of the first n members
abbrev pub crashes_below : Setup → ℕ → List Warning
crashes_below s n = flat_map (λ m. told_of_crash s m (crash_of s m)) (range_with_len 0 n)

abbrev pub told_of_crashes : Setup → List Warning
told_of_crashes s = crashes_below s (member_count s)

-- First those of single settings and of the whole run, then those of the items of lists: paths, slow times, crashes, leaves, cuts and pauses, each in the order of the text, crashes in that of the members.
abbrev pub warnings_of : Setup → ℕ → List Warning
warnings_of s trip =
    told_of_settings s trip ++ told_of_run s trip ++ made_of_each (told_of_path s) s.paths ++ made_of_each (told_of_slow s trip) s.slows
    ++ told_of_crashes s ++ made_of_each (told_of_leave s) s.leaves ++ made_of_each (told_of_cut s) s.cuts
    ++ made_of_each (told_of_pause s) s.pauses
