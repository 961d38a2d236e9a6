-- What was read and counted, beside what the document says.
use Rattle.std.proofs.Common.{◌≡◌, map, nat_lt, List, ap, sym, ◌∙◌}
use Rattle.std.specs.List.{sum_by}
use Rattle.toml.specs.Data.{Data}
use Rattle.toml.specs.View.{view}
use Rattle.toml.specs.declared.value.Value.{Value}
use Rattle.schema.specs.Schema.{most_members}
use Rattle.schema.specs.Tree.{items_at}
use Rattle.schema.specs.declared.schema.Version.{Version}
use Rattle.schema.specs.declared.schema.FormatKey.TheVariants as key
use Rattle.scenario.specs.Setup.{member_count}
use Rattle.scenario_reader.specs.Reading.{version_of, plain_group, plain_groups, setup_of_tree}
use Rattle.scenario_reader.specs.Rules.{breaks_size}
use Rattle.scenario_reader.proofs.Chain.{version_is}
use Rattle.scenario_reader.proofs.Groups.{total_of}
use Rattle.scenario_reader.proofs.Sound.{counts_same}
use Rattle.scenario_reader.proofs.Trees.{map_items}

-- the groups that were read are the document's
pub groups_are : (tree : Data) (list : List Value) → map view list ≡ items_at key.Group tree → map (λ v. plain_group (view v)) list ≡ plain_groups tree
unfolding plain_groups
groups_are tree list items = map_items plain_group (items_at key.Group tree) list items

-- more members than the version allows, as they were counted
pub many_are : (tree : Data) (list : List Value) (v : Version) → map (λ d. plain_group (view d)) list ≡ plain_groups tree → v ≡ version_of tree
    → breaks_size (setup_of_tree tree) ≡ nat_lt (most_members v) (sum_by (λ d. (plain_group (view d)).count) list)
many_are tree list v are version =
    ap (λ w. nat_lt (most_members w) (member_count (setup_of_tree tree))) (version_is tree ∙ sym version)
    ∙ ap (nat_lt (most_members v)) (counts_same tree ∙ total_of (λ d. plain_group (view d)) list (plain_groups tree) are)
