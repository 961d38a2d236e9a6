use Rattle.toml.specs.View.{view}
use Rattle.plain_document.specs.Order.{sections_of}
use Rattle.expanded_text.proofs.Texts.{text_in_order}
use Rattle.expanded_text.proofs.text.text_of_entries.Goals as goal

pub returns : goal.returns
returns c =
    text_in_order (sections_of c.in_ok-order.order) (view c.args.document.now) c.in_ok-places.places c.text_in_order.result c.in_ok-order.ensures c.text_in_order.ensures
