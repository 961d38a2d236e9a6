use Rattle.std.proofs.Common.{[], map, take, string_bytes}
use Rattle.toml.specs.View.{view}
use Rattle.plain_text.specs.Document.{expression_of}
use Rattle.plain_document.specs.Pairs.{AddsPairs}
use Rattle.plain_document.specs.declared.keys.Way.TheVariants.{Straight}
use Rattle.plain_document.proofs.document.add_top.Given as goal

-- the lines of the keys so far are there
abbrev pub invariant-loop-section : goal.invariant-loop-section
invariant-loop-section l =
    AddsPairs l.tick [] Straight (view l.document) (map (λ s. string_bytes s.name) (take l.section-index l.sections)) (map expression_of l.fn.lines.items) (map expression_of l.lines.items)
