use Rattle.std.proofs.Common.{◌≡◌, ◌≤◌, ◌++◌, ◌-◌, ◌∷◌, drop, length, string_bytes}
use Rattle.std.specs.List.{flat_map}
use Rattle.sweep_plan.specs.Axes.{axes_of}
use Rattle.sweep_plan.specs.Asked.{axis_text}
use Rattle.sweep_plan.specs.Sweep.{KeyValues}
use Rattle.shards.proofs.words.push_swept_keys.Given as goal

abbrev pub invariant-loop-from : goal.invariant-loop-from
invariant-loop-from l =
    record {
      so_far : string_bytes l.text ++ flat_map (λ axis. 32 ∷ axis_text axis) (axes_of (drop l.from l.swept_keys)) ≡ string_bytes l.fn.text ++ flat_map (λ axis. 32 ∷ axis_text axis) (axes_of l.swept_keys);
      within : l.from ≤ length l.swept_keys;
    }

abbrev pub decreases-loop-from : goal.decreases-loop-from
decreases-loop-from l = length l.swept_keys - l.from
