use Rattle.std.proofs.Common.{◌≡◌, ◌≤◌, List, map, subst, ap, sym, ◌∙◌, arith}
use Rattle.std.specs.List.{flat_map, sum_by}
use Rattle.std.proofs.lemmas.Result.{IfOk-weaker}
use Rattle.std.proofs.lemmas.List.Folds.{flat_map-map}
use Rattle.toml.specs.Data.{Data}
use Rattle.toml.specs.View.{view}
use Rattle.toml.specs.declared.value.Value.{Value}
use Rattle.schema.specs.Tree.{items_at}
use Rattle.schema.specs.declared.schema.Version.{Version}
use Rattle.schema.specs.declared.schema.FormatKey.TheVariants as key
use Rattle.scenario.specs.Setup.{Setup, Group, names_in, member_count, IsSound}
use Rattle.scenario_reader.specs.Reading.{version_of, plain_groups, group_in, path_in, slows_in, crashes_in, leaves_in, cuts_in, pauses_in, restarts_in, blocks_in, setup_of_tree}
use Rattle.scenario.specs.SetupOf.{group_of}
use Rattle.scenario.specs.declared.settings.Link.{Link}
use Rattle.scenario_reader.proofs.Groups.{same_setup}
use Rattle.scenario_reader.proofs.Sound.{counts_same}
use Rattle.scenario_reader.proofs.Trees.{map_items}
use Rattle.scenario_reader.proofs.reader.decide.Goals as goal

few_members : (tree : Data) (gs : List Group) → gs ≡ plain_groups tree → IsSound (setup_of_tree tree) → sum_by (λ (g : Group). g.count) gs ≤ 16384
few_members tree gs same sound =
    let few = sound.members.1 in
    let total : sum_by (λ (g : Group). g.count) gs ≡ member_count (setup_of_tree tree) = ap (sum_by (λ (g : Group). g.count)) same ∙ sym (counts_same tree) in
    omega (arith, few, total)

module _ (tree : Data) (gs : List Group) (same : gs ≡ plain_groups tree) (list : List Value) where
  groups_are : map view list ≡ items_at key.Group tree → map (λ v. group_in gs (view v)) list ≡ (setup_of_tree tree).groups
  unfolding setup_of_tree
  groups_are items = map_items (group_in gs) (items_at key.Group tree) list items ∙ ap (λ hs. map (group_in hs) (items_at key.Group tree)) same

  paths_are : (link : Link) → link ≡ (setup_of_tree tree).link → map view list ≡ items_at key.Path tree → map (λ v. path_in gs link (view v)) list ≡ (setup_of_tree tree).paths
  unfolding setup_of_tree
  paths_are link linked items =
      map_items (path_in gs link) (items_at key.Path tree) list items ∙ ap (λ hs. map (path_in hs link) (items_at key.Path tree)) same
      ∙ ap (λ l. map (path_in (plain_groups tree) l) (items_at key.Path tree)) linked

module _ (tree : Data) (gs : List Group) (same : gs ≡ plain_groups tree) where
  slows_are : slows_in gs tree ≡ (setup_of_tree tree).slows
  unfolding setup_of_tree
  slows_are = ap (λ hs. slows_in hs tree) same

  crashes_are : crashes_in gs tree ≡ (setup_of_tree tree).crashes
  unfolding setup_of_tree
  crashes_are = ap (λ hs. crashes_in hs tree) same

  leaves_are : (v : Version) → v ≡ version_of tree → leaves_in v gs tree ≡ (setup_of_tree tree).leaves
  unfolding setup_of_tree
  leaves_are v version = ap (λ w. leaves_in w gs tree) version ∙ ap (λ hs. leaves_in (version_of tree) hs tree) same

  cuts_are : (v : Version) → v ≡ version_of tree → cuts_in v gs tree ≡ (setup_of_tree tree).cuts
  unfolding setup_of_tree
  cuts_are v version = ap (λ w. cuts_in w gs tree) version ∙ ap (λ hs. cuts_in (version_of tree) hs tree) same

  pauses_are : (v : Version) → v ≡ version_of tree → pauses_in v gs tree ≡ (setup_of_tree tree).pauses
  unfolding setup_of_tree
  pauses_are v version = ap (λ w. pauses_in w gs tree) version ∙ ap (λ hs. pauses_in (version_of tree) hs tree) same

  restarts_are : (v : Version) → v ≡ version_of tree → restarts_in v gs tree ≡ (setup_of_tree tree).restarts
  unfolding setup_of_tree
  restarts_are v version = ap (λ w. restarts_in w gs tree) version ∙ ap (λ hs. restarts_in (version_of tree) hs tree) same

  blocks_are : (v : Version) → v ≡ version_of tree → blocks_in v gs tree ≡ (setup_of_tree tree).blocks
  unfolding setup_of_tree
  blocks_are v version = ap (λ w. blocks_in w gs tree) version ∙ ap (λ hs. blocks_in (version_of tree) hs tree) same

pub read_groups-requires : goal.read_groups-requires
read_groups-requires c = record { at_most_16384 = few_members (view c.args.tree.now) c.args.roster.now c.requires.groups c.requires.sound }

pub read_script-requires : goal.read_script-requires
read_script-requires c = record { at_most_16384 = few_members (view c.args.tree.now) c.args.roster.now c.requires.groups c.requires.sound }

pub read_fourth_script-requires : goal.read_fourth_script-requires
read_fourth_script-requires c = record { at_most_16384 = few_members (view c.args.tree.now) c.args.roster.now c.requires.groups c.requires.sound }

pub of-requires : goal.of-requires
unfolding setup_of_tree
of-requires c =
    let tree = view c.args.tree.now in
    let gs = c.args.roster.now in
    let link = c.read_link-link.result in
    let same = same_setup (setup_of_tree tree) c.version_of-version.result c.number.result c.number-2.result c.read_swim.result c.read_suspicion.result c.read_lifeguard.result link
    (map group_of c.in-Ok.groups.items) c.in-Ok-read_paths.paths.items c.in-Ok-read_script.script.slows.items c.in-Ok-read_script.script.crashes.items
    c.in-Ok-read_script.script.leaves.items c.in-Ok-read_script.script.cuts.items c.read_gossip.result c.read_stream.result c.in-Ok-read_script.script.pauses.items
    c.in-Ok-read_fourth_script.added.restarts.items c.in-Ok-read_fourth_script.added.blocks.items c.read_queue.result c.read_dial.result c.read_serf.result
    c.version_of-version.ensures c.number.ensures c.number-2.ensures c.read_swim.ensures c.read_suspicion.ensures c.read_lifeguard.ensures c.read_link-link.ensures
    (c.in-Ok.ensures ∙ groups_are tree gs c.requires.groups c.items_at-list.result.now c.items_at-list.ensures)
    (c.in-Ok-read_paths.ensures ∙ paths_are tree gs c.requires.groups c.items_at.result.now link c.read_link-link.ensures c.items_at.ensures)
    (c.in-Ok-read_script.ensures.slows ∙ slows_are tree gs c.requires.groups) (c.in-Ok-read_script.ensures.crashes ∙ crashes_are tree gs c.requires.groups)
    (c.in-Ok-read_script.ensures.leaves ∙ leaves_are tree gs c.requires.groups c.version_of-version.result c.version_of-version.ensures)
    (c.in-Ok-read_script.ensures.cuts ∙ cuts_are tree gs c.requires.groups c.version_of-version.result c.version_of-version.ensures)
    c.read_gossip.ensures c.read_stream.ensures (c.in-Ok-read_script.ensures.pauses ∙ pauses_are tree gs c.requires.groups c.version_of-version.result c.version_of-version.ensures)
    (c.in-Ok-read_fourth_script.ensures.restarts ∙ restarts_are tree gs c.requires.groups c.version_of-version.result c.version_of-version.ensures)
    (c.in-Ok-read_fourth_script.ensures.blocks ∙ blocks_are tree gs c.requires.groups c.version_of-version.result c.version_of-version.ensures)
    c.read_queue.ensures c.read_dial.ensures c.read_serf.ensures in
    record {
      named = c.in-Ok-list_names.ensures ∙ sym (flat_map-map names_in (λ v. group_in gs (view v)) c.items_at-list.result.now) ∙ ap (flat_map names_in) (sym c.in-Ok.ensures);
      sound = subst IsSound (sym same) c.requires.sound;
    }

pub returns : goal.returns
unfolding setup_of_tree
returns c =
    let tree = view c.args.tree.now in
    let gs = c.args.roster.now in
    let link = c.read_link-link.result in
    let same = same_setup (setup_of_tree tree) c.version_of-version.result c.number.result c.number-2.result c.read_swim.result c.read_suspicion.result c.read_lifeguard.result link
    (map group_of c.in-Ok.groups.items) c.in-Ok-read_paths.paths.items c.in-Ok-read_script.script.slows.items c.in-Ok-read_script.script.crashes.items
    c.in-Ok-read_script.script.leaves.items c.in-Ok-read_script.script.cuts.items c.read_gossip.result c.read_stream.result c.in-Ok-read_script.script.pauses.items
    c.in-Ok-read_fourth_script.added.restarts.items c.in-Ok-read_fourth_script.added.blocks.items c.read_queue.result c.read_dial.result c.read_serf.result
    c.version_of-version.ensures c.number.ensures c.number-2.ensures c.read_swim.ensures c.read_suspicion.ensures c.read_lifeguard.ensures c.read_link-link.ensures
    (c.in-Ok.ensures ∙ groups_are tree gs c.requires.groups c.items_at-list.result.now c.items_at-list.ensures)
    (c.in-Ok-read_paths.ensures ∙ paths_are tree gs c.requires.groups c.items_at.result.now link c.read_link-link.ensures c.items_at.ensures)
    (c.in-Ok-read_script.ensures.slows ∙ slows_are tree gs c.requires.groups) (c.in-Ok-read_script.ensures.crashes ∙ crashes_are tree gs c.requires.groups)
    (c.in-Ok-read_script.ensures.leaves ∙ leaves_are tree gs c.requires.groups c.version_of-version.result c.version_of-version.ensures)
    (c.in-Ok-read_script.ensures.cuts ∙ cuts_are tree gs c.requires.groups c.version_of-version.result c.version_of-version.ensures)
    c.read_gossip.ensures c.read_stream.ensures (c.in-Ok-read_script.ensures.pauses ∙ pauses_are tree gs c.requires.groups c.version_of-version.result c.version_of-version.ensures)
    (c.in-Ok-read_fourth_script.ensures.restarts ∙ restarts_are tree gs c.requires.groups c.version_of-version.result c.version_of-version.ensures)
    (c.in-Ok-read_fourth_script.ensures.blocks ∙ blocks_are tree gs c.requires.groups c.version_of-version.result c.version_of-version.ensures)
    c.read_queue.ensures c.read_dial.ensures c.read_serf.ensures in
    IfOk-weaker c.of.result (λ (s : Setup). s ≡ _) (λ (s : Setup). s ≡ setup_of_tree tree) (λ s is. is ∙ same) c.of.ensures
