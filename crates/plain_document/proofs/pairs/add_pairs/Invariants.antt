use Rattle.std.proofs.Common.{map, take, string_bytes}
use Rattle.toml.specs.View.{view}
use Rattle.plain_text.specs.Document.{expression_of}
use Rattle.plain_document.specs.Pairs.{AddsPairs}
use Rattle.plain_document.proofs.pairs.add_pairs.Given as goal

-- the lines of the keys so far are there
abbrev pub invariant-loop-key : goal.invariant-loop-key
invariant-loop-key l = AddsPairs l.tick l.section l.way (view l.table) (map string_bytes (take l.key-index l.keys)) (map expression_of l.fn.lines.items) (map expression_of l.lines.items)
