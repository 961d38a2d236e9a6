use Rattle.std.proofs.Common.{ap, sym, ◌∙◌}
use Rattle.std.specs.List.{list_any}
use Rattle.toml.specs.View.{view}
use Rattle.schema.proofs.Trees.{any-map}
use Rattle.script_reader.specs.Values.{is_other_value}
use Rattle.script_reader.proofs.values.has_other.Goals as goal

pub returns : goal.returns
returns c = c.has_other_among.ensures ∙ sym (any-map is_other_value view c.items.result.now) ∙ ap (list_any is_other_value) c.items.ensures
