use Rattle.std.proofs.Common.{map, ap}
use Rattle.plain_text.specs.Document.{expression_of}
use Rattle.toml.specs.View.{view}
use Rattle.plain_document.proofs.Walks.{whole_lines}
use Rattle.plain_document.proofs.document.plain_lines.Goals as goal

pub returns : goal.returns
returns c =
    whole_lines c.args.tick (view c.args.document.now) c.args.parts.now c.args.order.now.sections.items c.as_slice-sections.result.now _ _ _ _ c.as_slice-sections.ensures.value
    (ap (map expression_of) c.new-lines.ensures.items) c.in_ok-add_top.ensures c.in_ok-add_sections.ensures c.in_ok-add_last.ensures
