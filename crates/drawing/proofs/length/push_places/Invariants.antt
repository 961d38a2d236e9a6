use Rattle.std.proofs.Common.{◌≡◌, ◌-◌, ◌<◌, ◌++◌}
use Rattle.std.specs.String.{string_bytes}
use Rattle.drawing.specs.Lengths.{places_within}
use Rattle.drawing.proofs.length.push_places.Given as goal

-- the places so far, with those of what is left, are all
abbrev pub invariant-loop-place : goal.invariant-loop-place
invariant-loop-place l = record {
  all : string_bytes l.text ++ places_within (6 - l.place) l.part l.unit ≡ string_bytes l.initial.text ++ places_within 6 l.fn.part l.unit;
  below : l.part < l.unit;
}
