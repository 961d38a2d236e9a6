-- What a harness behind two pipes was sent, and which lines it gave.
use Rattle.std.specs.Prelude.{ℕ, List, flat_map}
use Rattle.drive_command.specs.declared.pipe_harness.PipeHarness.{PipeHarness}

-- all that it was sent, in order
abbrev pub text_told : {E : Type 0} → PipeHarness E → List ℕ
text_told harness = flat_map (λ (chunk : List ℕ). chunk) harness.told

-- the lines that it gave, in order, without their line feeds
abbrev pub lines_given : {E : Type 0} → PipeHarness E → List (List ℕ)
lines_given harness = harness.gave
