use Rattle.std.proofs.Common.{◌≡◌, ◌≤◌, ◌-◌, ◌^◌, ◌*◌, min, drop}
use Rattle.sweep_plan.specs.Sweep.{setting_count}
use Rattle.sweep_plan.proofs.plan.setting_count.Given as goal

abbrev pub invariant-loop-swept : goal.invariant-loop-swept
invariant-loop-swept l =
    record { so_far : min (l.settings * setting_count (drop l.swept-index l.swept_keys)) (2 ^ 64 - 1) ≡ min (setting_count l.swept_keys) (2 ^ 64 - 1); fits : l.settings ≤ 2 ^ 64 - 1 }
