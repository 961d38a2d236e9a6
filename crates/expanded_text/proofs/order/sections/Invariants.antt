use Rattle.std.proofs.Common.{◌≡◌, ◌++◌, map}
use Rattle.toml.specs.View.{view}
use Rattle.plain_document.specs.Order.{section_of, words}
use Rattle.expanded_text.specs.Order.{tree_section}
use Rattle.expanded_text.proofs.order.sections.Given as goal

-- those so far are in order, and the others are left
abbrev pub invariant-loop-name : goal.invariant-loop-name
invariant-loop-name l =
    map section_of l.sections.items ++ map (tree_section (view l.document)) (words l.name-iterator.rest.items) ≡ map (tree_section (view l.document)) (words l.fn.names.items)
