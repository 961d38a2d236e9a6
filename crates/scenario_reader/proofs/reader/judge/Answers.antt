use Rattle.std.proofs.Common.{◌≡◌, Some, true, false, map, nat_lt, List, ap, sym, ◌∙◌}
use Rattle.std.specs.List.{sum_by}
use Rattle.toml.specs.Data.{Data}
use Rattle.toml.specs.View.{view}
use Rattle.toml.specs.declared.value.Value.{Value}
use Rattle.schema.specs.Schema.{most_members}
use Rattle.schema.specs.Tree.{items_at}
use Rattle.schema.specs.declared.schema.Version.{Version}
use Rattle.schema.specs.declared.schema.FormatKey.TheVariants as key
use Rattle.scenario.specs.Setup.{Setup, Group, member_count}
use Rattle.scenario_reader.specs.Reading.{version_of, plain_group, plain_groups, slows_in, crashes_in, leaves_in, pauses_in, setup_of_tree}
use Rattle.scenario_reader.specs.Rules.{breaks_names, breaks_references, breaks_added_references, breaks_pairs, breaks_departures, breaks_pauses, breaks_times, breaks_added_times, breaks_size, least_broken_by, KeepsValues}
use Rattle.scenario_reader.proofs.Chain.{version_is, names_least, references_least, added_references_least, pairs_least, departures_least, pauses_least, times_least, added_times_least, size_least}
use Rattle.scenario_reader.proofs.Groups.{names_before}
use Rattle.scenario_reader.proofs.Judging.{groups_are, many_are}
use Rattle.scenario_reader.proofs.reader.judge.Goals as goal

-- two crashes or slow times as the scenario has them
pairs_are : (tree : Data) (gs : List Group) → gs ≡ plain_groups tree → breaks_pairs (setup_of_tree tree).crashes (setup_of_tree tree).slows ≡ breaks_pairs (crashes_in gs tree) (slows_in gs tree)
unfolding setup_of_tree
pairs_are tree gs same = ap (λ hs. breaks_pairs (crashes_in hs tree) (slows_in hs tree)) (sym same)

references_are : (tree : Data) (gs : List Group) (v : Version) → gs ≡ plain_groups tree → v ≡ version_of tree
    → breaks_added_references (setup_of_tree tree).version tree (plain_groups tree) ≡ breaks_added_references v tree gs
references_are tree gs v same version = ap (λ w. breaks_added_references w tree (plain_groups tree)) (version_is tree ∙ sym version) ∙ ap (breaks_added_references v tree) (sym same)

-- crashes and leaves as the scenario has them
departures_are : (tree : Data) (gs : List Group) (v : Version) → gs ≡ plain_groups tree → v ≡ version_of tree
    → breaks_departures (setup_of_tree tree).crashes (setup_of_tree tree).leaves ≡ breaks_departures (crashes_in gs tree) (leaves_in v gs tree)
unfolding setup_of_tree
departures_are tree gs v same version =
    ap (λ hs. breaks_departures (crashes_in hs tree) (leaves_in (version_of tree) hs tree)) (sym same) ∙ ap (λ w. breaks_departures (crashes_in gs tree) (leaves_in w gs tree)) (sym version)

-- pauses as the scenario has them
pauses_are : (tree : Data) (gs : List Group) (v : Version) → gs ≡ plain_groups tree → v ≡ version_of tree
    → breaks_pauses (setup_of_tree tree).pauses ≡ breaks_pauses (pauses_in v gs tree)
unfolding setup_of_tree
pauses_are tree gs v same version =
    ap (λ hs. breaks_pauses (pauses_in (version_of tree) hs tree)) (sym same) ∙ ap (λ w. breaks_pauses (pauses_in w gs tree)) (sym version)

-- What the checks say of the scenario of a document: of the list of its groups, of the groups that were read from that, and of its
-- version. Each check comes after those that passed.
module _ (tree : Data) (list : List Value) (items : map view list ≡ items_at key.Group tree) where
  abbrev s : Setup
  s = setup_of_tree tree

  abbrev read_groups : List Group
  read_groups = map (λ d. plain_group (view d)) list

  are : read_groups ≡ plain_groups tree
  are = groups_are tree list items

  names_broken : breaks_names read_groups ≡ true → least_broken_by tree s ≡ Some 6
  names_broken broken = names_least tree s (ap breaks_names (sym are) ∙ broken)

  module _ (gs : List Group) (read : gs ≡ read_groups) (v : Version) (version : v ≡ version_of tree) (fine : breaks_names read_groups ≡ false) where
    same : gs ≡ plain_groups tree
    same = read ∙ are

    named : breaks_names (plain_groups tree) ≡ false
    named = ap breaks_names (sym are) ∙ fine

    known_are : breaks_references tree (plain_groups tree) ≡ breaks_references tree gs
    known_are = ap (breaks_references tree) (sym same)

    references_broken : breaks_references tree gs ≡ true → least_broken_by tree s ≡ Some 7
    references_broken broken = references_least tree s named (known_are ∙ broken)

    module _ (known : breaks_references tree gs ≡ false) where
      added_references_broken : breaks_added_references v tree gs ≡ true → least_broken_by tree s ≡ Some 7
      added_references_broken broken = added_references_least tree s named (known_are ∙ known) (references_are tree gs v same version ∙ broken)

      module _ (known_too : breaks_added_references v tree gs ≡ false) where
        pairs_broken : breaks_pairs (crashes_in gs tree) (slows_in gs tree) ≡ true → least_broken_by tree s ≡ Some 8
        pairs_broken broken = pairs_least tree s named (known_are ∙ known) (references_are tree gs v same version ∙ known_too) (pairs_are tree gs same ∙ broken)

        module _ (once : breaks_pairs (crashes_in gs tree) (slows_in gs tree) ≡ false) where
          departures_broken : breaks_departures (crashes_in gs tree) (leaves_in v gs tree) ≡ true → least_broken_by tree s ≡ Some 8
          departures_broken broken =
              departures_least tree s named (known_are ∙ known) (references_are tree gs v same version ∙ known_too) (pairs_are tree gs same ∙ once)
              (departures_are tree gs v same version ∙ broken)

          module _ (once_too : breaks_departures (crashes_in gs tree) (leaves_in v gs tree) ≡ false) where
            pauses_broken : breaks_pauses (pauses_in v gs tree) ≡ true → least_broken_by tree s ≡ Some 8
            pauses_broken broken =
                pauses_least tree s named (known_are ∙ known) (references_are tree gs v same version ∙ known_too) (pairs_are tree gs same ∙ once)
                (departures_are tree gs v same version ∙ once_too) (pauses_are tree gs v same version ∙ broken)

            module _ (apart : breaks_pauses (pauses_in v gs tree) ≡ false) where
              times_broken : breaks_times s ≡ true → least_broken_by tree s ≡ Some 9
              times_broken =
                  times_least tree s named (known_are ∙ known) (references_are tree gs v same version ∙ known_too) (pairs_are tree gs same ∙ once)
                  (departures_are tree gs v same version ∙ once_too) (pauses_are tree gs v same version ∙ apart)

              module _ (timely : breaks_times s ≡ false) where
                added_times_broken : breaks_added_times s ≡ true → least_broken_by tree s ≡ Some 9
                added_times_broken =
                    added_times_least tree s named (known_are ∙ known) (references_are tree gs v same version ∙ known_too) (pairs_are tree gs same ∙ once)
                    (departures_are tree gs v same version ∙ once_too) (pauses_are tree gs v same version ∙ apart) timely

                module _ (timely_too : breaks_added_times s ≡ false) where
                  size_broken : nat_lt (most_members v) (sum_by (λ d. (plain_group (view d)).count) list) ≡ true → least_broken_by tree s ≡ Some 10
                  size_broken many =
                      size_least tree s named (known_are ∙ known) (references_are tree gs v same version ∙ known_too) (pairs_are tree gs same ∙ once)
                      (departures_are tree gs v same version ∙ once_too) (pauses_are tree gs v same version ∙ apart) timely timely_too (many_are tree list v are version ∙ many)

                  all_kept : nat_lt (most_members v) (sum_by (λ d. (plain_group (view d)).count) list) ≡ false → KeepsValues tree
                  all_kept few = record {
                    names = named;
                    references = known_are ∙ known;
                    added_references = ap (λ w. breaks_added_references w tree (plain_groups tree)) (sym version) ∙ ap (breaks_added_references v tree) (sym same) ∙ known_too;
                    pairs = pairs_are tree gs same ∙ once;
                    departures = departures_are tree gs v same version ∙ once_too;
                    pauses = pauses_are tree gs v same version ∙ apart;
                    times = timely;
                    added_times = timely_too;
                    size = many_are tree list v are version ∙ few;
                  }

pub returns-in-Err-clause-err : goal.returns-in-Err-clause-err
returns-in-Err-clause-err c = λ other.
    let broken = c.in-Err.ensures.err other in
    names_broken (view c.args.tree.now) c.items_at-list.result.now c.items_at-list.ensures (sym (names_before (map (λ d. plain_group (view d)) c.items_at-list.result.now)) ∙ broken.1)
    ∙ ap Some (sym broken.0)

pub returns-in-Err-check_references-clause-err : goal.returns-in-Err-check_references-clause-err
returns-in-Err-check_references-clause-err c = λ other.
    let broken = c.in-Err-check_references.ensures.err in
    references_broken (view c.args.tree.now) c.items_at-list.result.now c.items_at-list.ensures
    c.in-Ok.roster c.in-Ok.ensures.ok c.version_of-version.result c.version_of-version.ensures (sym (names_before (map (λ d. plain_group (view d)) c.items_at-list.result.now)) ∙ c.in-Ok.ensures.fine) broken.1
    ∙ ap Some (sym broken.0)

pub returns-in-Err-check_added_references-clause-err : goal.returns-in-Err-check_added_references-clause-err
returns-in-Err-check_added_references-clause-err c = λ other.
    let broken = c.in-Err-check_added_references.ensures.err in
    added_references_broken (view c.args.tree.now) c.items_at-list.result.now c.items_at-list.ensures
    c.in-Ok.roster c.in-Ok.ensures.ok c.version_of-version.result c.version_of-version.ensures (sym (names_before (map (λ d. plain_group (view d)) c.items_at-list.result.now)) ∙ c.in-Ok.ensures.fine)
    c.in_default.ensures.ok broken.1
    ∙ ap Some (sym broken.0)

pub returns-in-Err-check_pairs-clause-err : goal.returns-in-Err-check_pairs-clause-err
returns-in-Err-check_pairs-clause-err c = λ other.
    let broken = c.in-Err-check_pairs.ensures.err other in
    pairs_broken (view c.args.tree.now) c.items_at-list.result.now c.items_at-list.ensures
    c.in-Ok.roster c.in-Ok.ensures.ok c.version_of-version.result c.version_of-version.ensures (sym (names_before (map (λ d. plain_group (view d)) c.items_at-list.result.now)) ∙ c.in-Ok.ensures.fine)
    c.in_default.ensures.ok c.in_default-check_added_references.ensures.ok broken.1
    ∙ ap Some (sym broken.0)

pub returns-in-Err-check_departures-clause-err : goal.returns-in-Err-check_departures-clause-err
returns-in-Err-check_departures-clause-err c = λ other.
    let broken = c.in-Err-check_departures.ensures.err other in
    departures_broken (view c.args.tree.now) c.items_at-list.result.now c.items_at-list.ensures
    c.in-Ok.roster c.in-Ok.ensures.ok c.version_of-version.result c.version_of-version.ensures (sym (names_before (map (λ d. plain_group (view d)) c.items_at-list.result.now)) ∙ c.in-Ok.ensures.fine)
    c.in_default.ensures.ok c.in_default-check_added_references.ensures.ok c.in_default-check_pairs.ensures.ok broken.1
    ∙ ap Some (sym broken.0)

pub returns-in-Err-check_pauses-clause-err : goal.returns-in-Err-check_pauses-clause-err
returns-in-Err-check_pauses-clause-err c = λ other.
    let broken = c.in-Err-check_pauses.ensures.err other in
    pauses_broken (view c.args.tree.now) c.items_at-list.result.now c.items_at-list.ensures
    c.in-Ok.roster c.in-Ok.ensures.ok c.version_of-version.result c.version_of-version.ensures (sym (names_before (map (λ d. plain_group (view d)) c.items_at-list.result.now)) ∙ c.in-Ok.ensures.fine)
    c.in_default.ensures.ok c.in_default-check_added_references.ensures.ok c.in_default-check_pairs.ensures.ok c.in_default-check_departures.ensures.ok broken.1
    ∙ ap Some (sym broken.0)

pub check_times-requires-clause-groups : goal.check_times-requires-clause-groups
check_times-requires-clause-groups c = c.in-Ok.ensures.ok ∙ groups_are (view c.args.tree.now) c.items_at-list.result.now c.items_at-list.ensures

pub returns-in-Err-check_times-clause-err : goal.returns-in-Err-check_times-clause-err
returns-in-Err-check_times-clause-err c = λ other.
    let broken = c.in-Err-check_times.ensures.err in
    times_broken (view c.args.tree.now) c.items_at-list.result.now c.items_at-list.ensures
    c.in-Ok.roster c.in-Ok.ensures.ok c.version_of-version.result c.version_of-version.ensures (sym (names_before (map (λ d. plain_group (view d)) c.items_at-list.result.now)) ∙ c.in-Ok.ensures.fine)
    c.in_default.ensures.ok c.in_default-check_added_references.ensures.ok c.in_default-check_pairs.ensures.ok c.in_default-check_departures.ensures.ok c.in_default-check_pauses.ensures.ok broken.1
    ∙ ap Some (sym broken.0)

pub check_added_times-requires-clause-groups : goal.check_added_times-requires-clause-groups
check_added_times-requires-clause-groups c = c.in-Ok.ensures.ok ∙ groups_are (view c.args.tree.now) c.items_at-list.result.now c.items_at-list.ensures

pub returns-in-Err-check_added_times-clause-err : goal.returns-in-Err-check_added_times-clause-err
returns-in-Err-check_added_times-clause-err c = λ other.
    let broken = c.in-Err-check_added_times.ensures.err in
    added_times_broken (view c.args.tree.now) c.items_at-list.result.now c.items_at-list.ensures
    c.in-Ok.roster c.in-Ok.ensures.ok c.version_of-version.result c.version_of-version.ensures (sym (names_before (map (λ d. plain_group (view d)) c.items_at-list.result.now)) ∙ c.in-Ok.ensures.fine)
    c.in_default.ensures.ok c.in_default-check_added_references.ensures.ok c.in_default-check_pairs.ensures.ok c.in_default-check_departures.ensures.ok c.in_default-check_pauses.ensures.ok c.in_default-check_times.ensures.ok broken.1
    ∙ ap Some (sym broken.0)

pub returns-then-are_too_many-clause-err : goal.returns-then-are_too_many-clause-err
returns-then-are_too_many-clause-err c = λ other.
    size_broken (view c.args.tree.now) c.items_at-list.result.now c.items_at-list.ensures
    c.in-Ok.roster c.in-Ok.ensures.ok c.version_of-version.result c.version_of-version.ensures (sym (names_before (map (λ d. plain_group (view d)) c.items_at-list.result.now)) ∙ c.in-Ok.ensures.fine)
    c.in_default.ensures.ok c.in_default-check_added_references.ensures.ok c.in_default-check_pairs.ensures.ok c.in_default-check_departures.ensures.ok c.in_default-check_pauses.ensures.ok c.in_default-check_times.ensures.ok c.in_default-check_added_times.ensures.ok (sym c.are_too_many.ensures ∙ c.if-are_too_many.true)

pub returns-clause-groups : goal.returns-clause-groups
returns-clause-groups c = c.in-Ok.ensures.ok ∙ groups_are (view c.args.tree.now) c.items_at-list.result.now c.items_at-list.ensures

pub returns-clause-kept : goal.returns-clause-kept
returns-clause-kept c =
    all_kept (view c.args.tree.now) c.items_at-list.result.now c.items_at-list.ensures
    c.in-Ok.roster c.in-Ok.ensures.ok c.version_of-version.result c.version_of-version.ensures (sym (names_before (map (λ d. plain_group (view d)) c.items_at-list.result.now)) ∙ c.in-Ok.ensures.fine)
    c.in_default.ensures.ok c.in_default-check_added_references.ensures.ok c.in_default-check_pairs.ensures.ok c.in_default-check_departures.ensures.ok c.in_default-check_pauses.ensures.ok c.in_default-check_times.ensures.ok c.in_default-check_added_times.ensures.ok (sym c.are_too_many.ensures ∙ c.if-are_too_many.false)
