use Rattle.std.proofs.Common.{◌≡◌, ◌+◌, drop}
use Rattle.std.specs.List.{prefix_len}
use Rattle.lengths.specs.Numerals.{is_number_byte}
use Rattle.lengths.proofs.numeral.number_bytes_first.Given as goal

abbrev pub invariant-loop-place : goal.invariant-loop-place
invariant-loop-place l = l.place + prefix_len is_number_byte (drop l.place l.text) ≡ prefix_len is_number_byte l.text
