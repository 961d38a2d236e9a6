use Rattle.std.proofs.Common.{◌≡◌, ◌≤◌, ◌++◌, drop}
use Rattle.drive_answers.specs.Modes.{mode_of, begun_at, texts_of}
use Rattle.drive_answers.specs.Pieces.{pieces, pieces_from}
use Rattle.drive_answers.proofs.pieces.pieces_of.Given as goal

-- the tokens so far, and those that are still to come
abbrev pub invariant-loop-place : goal.invariant-loop-place
invariant-loop-place l = record {
  order : l.begun ≤ l.place;
  all : texts_of l.pieces.items ++ pieces_from (mode_of l.mode) (begun_at l.mode l.begun l.place l.text) (drop l.place l.text) ≡ pieces l.text;
}
