use Rattle.std.proofs.Common.{◌≡◌, string_bytes, take, map}
use Rattle.std.specs.List.{join_with_byte}
use Rattle.reports.specs.Text.{figure}
use Rattle.figures.proofs.note_text.joined_figures.Given as goal

abbrev pub invariant-loop-place : goal.invariant-loop-place
invariant-loop-place l = string_bytes l.text ≡ join_with_byte 32 (map figure (take l.place l.figures))
