use Rattle.std.proofs.Common.{◌≡◌, ◌++◌, ◌∷◌, slice_index}
use Rattle.std.specs.List.{flat_map, range_with_len}
use Rattle.std.specs.String.{string_bytes}
use Rattle.drawing.specs.Shapes.{turn}
use Rattle.drawing.proofs.shapes.push_turns.Given as goal

-- the turns so far, and the height before the next
abbrev pub invariant-loop-place : goal.invariant-loop-place
invariant-loop-place l =
    (string_bytes l.text
    ≡ string_bytes l.initial.text ++ flat_map (λ place. turn l.step l.most place (slice_index (0 ∷ l.heights) place) (slice_index l.heights place)) (range_with_len 0 l.place))
    × (l.last ≡ slice_index (0 ∷ l.heights) l.place)
