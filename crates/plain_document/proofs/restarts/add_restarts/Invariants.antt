use Rattle.std.proofs.Common.{◌≡◌, ◌++◌, map, take}
use Rattle.std.specs.List.{flat_map}
use Rattle.plain_text.specs.Document.{expression_of}
use Rattle.plain_document.specs.Entries.{restart_lines}
use Rattle.plain_document.proofs.restarts.add_restarts.Given as goal

-- the lines of those so far are there
abbrev pub invariant-loop-it : goal.invariant-loop-it
invariant-loop-it l = map expression_of l.lines.items ≡ map expression_of l.fn.lines.items ++ flat_map (restart_lines l.names) (take l.it-index l.entries)
