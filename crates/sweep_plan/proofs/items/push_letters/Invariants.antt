use Rattle.std.proofs.Common.{◌≡◌, ◌++◌, filter, string_bytes, take}
use Rattle.sweep_plan.specs.Items.{is_letter}
use Rattle.sweep_plan.proofs.items.push_letters.Given as goal

abbrev pub invariant-loop-byte : goal.invariant-loop-byte
invariant-loop-byte l = string_bytes l.text ≡ string_bytes l.fn.text ++ filter is_letter (take l.byte-index l.bytes)
