use Rattle.std.proofs.Common.{◌≡◌, ◌++◌, map}
use Rattle.std.specs.List.{AllByRecursion}
use Rattle.toml.specs.View.{view}
use Rattle.plain_document.specs.Order.{names_of, section_of, words, IsSectionOrdered}
use Rattle.plain_document.proofs.order.sections.Given as goal

-- those so far are in order, and the others are left
abbrev pub invariant-loop-name : goal.invariant-loop-name
invariant-loop-name l = record {
  same : names_of (map section_of l.sections.items) ++ words l.name-iterator.rest.items ≡ words l.fn.names.items;
  below : AllByRecursion (IsSectionOrdered l.places (view l.document)) (map section_of l.sections.items);
}
