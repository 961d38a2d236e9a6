use Rattle.std.proofs.Common.{◌≡◌, ◌++◌, slice_index}
use Rattle.std.specs.List.{flat_map, range_with_len}
use Rattle.std.specs.String.{string_bytes}
use Rattle.drawing.specs.Shapes.{area_step}
use Rattle.drawing.proofs.shapes.push_area_steps.Given as goal

-- the steps so far
abbrev pub invariant-loop-place : goal.invariant-loop-place
invariant-loop-place l =
    string_bytes l.text
    ≡ string_bytes l.initial.text ++ flat_map (λ place. area_step l.step l.width l.most place (slice_index l.bases place) (slice_index l.tops place)) (range_with_len 0 l.place)
