use Rattle.std.proofs.Common.{ap, sym, ◌∙◌}
use Rattle.std.specs.List.{list_any}
use Rattle.toml.specs.Data.{Data, as_str}
use Rattle.toml.specs.View.{view}
use Rattle.schema.proofs.Trees.{any-map}
use Rattle.script_reader.specs.Rules.{is_nobody}
use Rattle.script_reader.proofs.names.has_nobody.Goals as goal

pub returns : goal.returns
returns c =
    c.has_nobody_among.ensures ∙ sym (any-map (λ (d : Data). is_nobody c.args.roster.now (as_str d)) view c.members_of.result.now)
    ∙ ap (list_any (λ (d : Data). is_nobody c.args.roster.now (as_str d))) c.members_of.ensures
