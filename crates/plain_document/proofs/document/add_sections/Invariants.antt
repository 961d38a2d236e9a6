use Rattle.std.proofs.Common.{map, take}
use Rattle.toml.specs.View.{view}
use Rattle.plain_text.specs.Document.{expression_of}
use Rattle.plain_document.specs.Document.{AddsSections}
use Rattle.plain_document.specs.Order.{section_of}
use Rattle.plain_document.proofs.document.add_sections.Given as goal

-- the lines of the sections so far are there
abbrev pub invariant-loop-section : goal.invariant-loop-section
invariant-loop-section l =
    AddsSections l.tick (view l.document) l.parts (map section_of (take l.section-index l.sections)) (map expression_of l.fn.lines.items) (map expression_of l.lines.items)
