use Rattle.std.proofs.Common.{◌≡◌, ◌++◌, take, flat_map}
use Rattle.std.specs.String.{string_bytes}
use Rattle.run_settings.specs.Events.{block_entry}
use Rattle.run_settings.proofs.events.push_blocks.Given as goal

-- those so far
abbrev pub invariant-loop-block : goal.invariant-loop-block
invariant-loop-block l = string_bytes l.text ≡ string_bytes l.initial.text ++ flat_map (block_entry l.name l.member) (take l.block-index l.blocks)
