use Rattle.std.proofs.Common.{List, map, drop}
use Rattle.toml.specs.Tables.{Expression}
use Rattle.toml.specs.View.{view}
use Rattle.plain_text.specs.Document.{expression_of}
use Rattle.plain_document.specs.Document.{AddsItems}
use Rattle.plain_document.specs.Order.{words}
use Rattle.plain_document.proofs.document.add_items.Given as goal

-- what the items from here on add makes the lines of all
abbrev pub invariant-loop-place : goal.invariant-loop-place
invariant-loop-place l =
    (after : List Expression)
    → AddsItems l.tick l.name (map view (drop l.place l.items)) (map (λ keys. words keys.items) (drop l.place l.key_lists)) (map expression_of l.lines.items) after
    → AddsItems l.tick l.name (map view l.items) (map (λ keys. words keys.items) l.key_lists) (map expression_of l.fn.lines.items) after
