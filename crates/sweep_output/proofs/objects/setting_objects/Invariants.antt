use Rattle.std.proofs.Common.{◌≡◌, string_bytes}
use Rattle.sweep_plan.specs.Settings.{settings_of}
use Rattle.sweep_output.specs.Objects.{setting_object, objects_text}
use Rattle.sweep_output.proofs.Lines.{with_rest}
use Rattle.sweep_output.proofs.objects.setting_objects.Given as goal

-- with the lines of the settings that are left these are all
abbrev pub invariant-loop-place : goal.invariant-loop-place
invariant-loop-place l =
    with_rest (setting_object l.columns l.wants l.settings l.best) (settings_of l.plan.swept_keys) l.settings (string_bytes l.text) l.place
    ≡ objects_text l.columns l.plan.swept_keys l.wants l.settings l.best
