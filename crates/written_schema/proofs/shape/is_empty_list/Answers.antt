use Rattle.std.proofs.Common.{ap, sym, ◌∙◌, ◌==◌}
use Rattle.toml.specs.View.{view}
use Rattle.toml.proofs.Views.{view-Array}
use Rattle.schema.specs.Shape.{is_empty_list}
use Rattle.schema.proofs.Trees.{empty_list}
use Rattle.written_schema.proofs.shape.is_empty_list.Goals as goal

pub returns-in-Array : goal.returns-in-Array
returns-in-Array c =
    c.is_empty.ensures ∙ ap (λ n. n == 0) c.in-Array.items.ok.0 ∙ sym (ap (λ v. is_empty_list (view v)) c.in-Array.is ∙ ap is_empty_list (view-Array c.in-Array.items) ∙ empty_list c.in-Array.items.items)
