use Rattle.toml.specs.View.{view}
use Rattle.plain_document.specs.Order.{sections_of}
use Rattle.expanded_text.specs.Order.{tree_order}
use Rattle.expanded_text.proofs.Texts.{text_in_tree}
use Rattle.expanded_text.proofs.text.text_of_tree.Goals as goal

pub returns : goal.returns
returns c =
    let d = view c.args.document.now in
    text_in_tree (sections_of c.in_ok-order.order) (tree_order d) d c.text_in_order.result c.in_ok-order.ensures c.text_in_order.ensures
