use Rattle.std.proofs.Common.{◌≡◌, ◌++◌, string_bytes, take}
use Rattle.std.specs.List.{flat_map, zip}
use Rattle.sweep_plan.specs.Settings.{settings_of}
use Rattle.goals.specs.Answers.{setting_told}
use Rattle.goals.proofs.telling.push_settings.Given as goal

-- the lines of the settings so far
abbrev pub invariant-loop-number : goal.invariant-loop-number
invariant-loop-number l =
    string_bytes l.text ≡ string_bytes l.fn.text ++ flat_map (λ told. setting_told l.wants told.0 told.1) (zip (take l.number (settings_of l.plan.swept_keys)) (take l.number l.settings))
