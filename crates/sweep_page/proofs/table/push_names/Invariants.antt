use Rattle.std.proofs.Common.{◌≡◌, ◌++◌, string_bytes, take}
use Rattle.std.specs.List.{flat_map}
use Rattle.sweep_page.specs.Table.{key_head}
use Rattle.sweep_page.proofs.table.push_names.Given as goal

abbrev pub invariant-loop-swept : goal.invariant-loop-swept
invariant-loop-swept l = string_bytes l.text ≡ string_bytes l.fn.text ++ flat_map (key_head) (take l.swept-index l.swept_keys)
