use Rattle.std.proofs.Common.{◌≡◌, ◌++◌, take}
use Rattle.std.specs.Prelude.{string_bytes}
use Rattle.sweep_plan.specs.Settings.{settings_of}
use Rattle.sweep.specs.Texts.{lines_of_settings, marked_header, widths_of}
use Rattle.sweep.proofs.texts.lines_of_settings.Given as goal

-- the header, and the lines of the settings so far
abbrev pub invariant-loop-number : goal.invariant-loop-number
invariant-loop-number l =
    string_bytes l.text
    ≡ marked_header l.columns l.plan.swept_keys ++ lines_of_settings l.columns (widths_of l.plan.swept_keys) l.settings (take l.number (settings_of l.plan.swept_keys)) (take l.number l.settings)
