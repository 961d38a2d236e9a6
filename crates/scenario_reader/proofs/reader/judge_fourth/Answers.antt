use Rattle.std.proofs.Common.{◌≡◌, Some, None, true, false, map, nat_lt, if◌then◌else◌, List, ap, sym, ◌∙◌}
use Rattle.std.specs.List.{sum_by}
use Rattle.toml.specs.Data.{Data}
use Rattle.toml.specs.View.{view}
use Rattle.toml.specs.declared.value.Value.{Value}
use Rattle.schema.specs.Schema.{most_members}
use Rattle.schema.specs.Tree.{items_at}
use Rattle.schema.specs.declared.schema.Version.TheVariants.{Four}
use Rattle.schema.specs.declared.schema.FormatKey.TheVariants as key
use Rattle.scenario.specs.Setup.{Setup, Group}
use Rattle.scenario_reader.specs.Reading.{version_of, plain_group, plain_groups, setup_of_tree}
use Rattle.scenario_reader.specs.Rules.{breaks_names_in, breaks_references, breaks_added_references, fourth_breaks_references, breaks_times, breaks_added_times, fourth_breaks_times, breaks_size, fourth_least_broken_by, KeepsFourth}
use Rattle.scenario_reader.proofs.Chain.{fourth_names_least, fourth_references_least, fourth_added_references_least, own_references_least, fourth_times_least, fourth_added_times_least, own_times_least, fourth_size_least}
use Rattle.scenario_reader.proofs.Judging.{groups_are, many_are}
use Rattle.scenario_reader.proofs.reader.judge_fourth.Goals as goal

-- What the checks say of the scenario of a document, each after those that passed.
module _ (tree : Data) (list : List Value) (items : map view list ≡ items_at key.Group tree) where
  abbrev s : Setup
  s = setup_of_tree tree

  abbrev read_groups : List Group
  read_groups = map (λ d. plain_group (view d)) list

  are : read_groups ≡ plain_groups tree
  are = groups_are tree list items

  names_broken : breaks_names_in Four read_groups ≡ true → fourth_least_broken_by tree s ≡ Some 6
  names_broken broken = fourth_names_least tree s (ap (breaks_names_in Four) (sym are) ∙ broken)

  module _ (version : version_of tree ≡ Four) (gs : List Group) (read : gs ≡ read_groups) (fine : breaks_names_in Four read_groups ≡ false) where
    same : gs ≡ plain_groups tree
    same = read ∙ are

    named : breaks_names_in Four (plain_groups tree) ≡ false
    named = ap (breaks_names_in Four) (sym are) ∙ fine

    known_are : breaks_references tree (plain_groups tree) ≡ breaks_references tree gs
    known_are = ap (breaks_references tree) (sym same)

    added_are : breaks_added_references Four tree (plain_groups tree) ≡ breaks_added_references Four tree gs
    added_are = ap (breaks_added_references Four tree) (sym same)

    own_are : fourth_breaks_references tree (plain_groups tree) ≡ fourth_breaks_references tree gs
    own_are = ap (fourth_breaks_references tree) (sym same)

    references_broken : breaks_references tree gs ≡ true → fourth_least_broken_by tree s ≡ Some 7
    references_broken broken = fourth_references_least tree s named (known_are ∙ broken)

    module _ (known : breaks_references tree gs ≡ false) where
      added_references_broken : breaks_added_references Four tree gs ≡ true → fourth_least_broken_by tree s ≡ Some 7
      added_references_broken broken = fourth_added_references_least tree s named (known_are ∙ known) (added_are ∙ broken)

      module _ (known_too : breaks_added_references Four tree gs ≡ false) where
        own_references_broken : fourth_breaks_references tree gs ≡ true → fourth_least_broken_by tree s ≡ Some 7
        own_references_broken broken = own_references_least tree s named (known_are ∙ known) (added_are ∙ known_too) (own_are ∙ broken)

        module _ (all_known : fourth_breaks_references tree gs ≡ false) where
          times_broken : breaks_times s ≡ true → fourth_least_broken_by tree s ≡ Some 9
          times_broken broken = fourth_times_least tree s named (known_are ∙ known) (added_are ∙ known_too) (own_are ∙ all_known) broken

          module _ (timely : breaks_times s ≡ false) where
            added_times_broken : breaks_added_times s ≡ true → fourth_least_broken_by tree s ≡ Some 9
            added_times_broken broken = fourth_added_times_least tree s named (known_are ∙ known) (added_are ∙ known_too) (own_are ∙ all_known) timely broken

            module _ (timely_too : breaks_added_times s ≡ false) where
              own_times_broken : fourth_breaks_times s ≡ true → fourth_least_broken_by tree s ≡ Some 9
              own_times_broken broken = own_times_least tree s named (known_are ∙ known) (added_are ∙ known_too) (own_are ∙ all_known) timely timely_too broken

              module _ (all_timely : fourth_breaks_times s ≡ false) where
                size_broken : nat_lt (most_members Four) (sum_by (λ d. (plain_group (view d)).count) list) ≡ true → fourth_least_broken_by tree s ≡ Some 10
                size_broken many =
                    fourth_size_least tree s named (known_are ∙ known) (added_are ∙ known_too) (own_are ∙ all_known) timely timely_too all_timely true (many_are tree list Four are (sym version) ∙ many)

                all_kept : nat_lt (most_members Four) (sum_by (λ d. (plain_group (view d)).count) list) ≡ false → KeepsFourth tree
                all_kept few = record {
                  names = named;
                  references = known_are ∙ known;
                  added_references = added_are ∙ known_too;
                  fourth_references = own_are ∙ all_known;
                  times = timely;
                  added_times = timely_too;
                  fourth_times = all_timely;
                  size = many_are tree list Four are (sym version) ∙ few;
                }

pub returns-in-Err-clause-err : goal.returns-in-Err-clause-err
returns-in-Err-clause-err c = λ other.
    let broken = c.in-Err.ensures.err other in
    names_broken (view c.args.tree.now) c.items_at-list.result.now c.items_at-list.ensures broken.1 ∙ ap Some (sym broken.0)

pub returns-in-Err-check_references-clause-err : goal.returns-in-Err-check_references-clause-err
returns-in-Err-check_references-clause-err c = λ other.
    let broken = c.in-Err-check_references.ensures.err in
    references_broken (view c.args.tree.now) c.items_at-list.result.now c.items_at-list.ensures c.requires.version c.in-Ok.roster c.in-Ok.ensures.ok c.in-Ok.ensures.fine
    broken.1 ∙ ap Some (sym broken.0)

pub returns-in-Err-check_added_references-clause-err : goal.returns-in-Err-check_added_references-clause-err
returns-in-Err-check_added_references-clause-err c = λ other.
    let broken = c.in-Err-check_added_references.ensures.err in
    added_references_broken (view c.args.tree.now) c.items_at-list.result.now c.items_at-list.ensures c.requires.version c.in-Ok.roster c.in-Ok.ensures.ok c.in-Ok.ensures.fine
    c.in_default.ensures.ok broken.1 ∙ ap Some (sym broken.0)

pub returns-in-Err-check_fourth_references-clause-err : goal.returns-in-Err-check_fourth_references-clause-err
returns-in-Err-check_fourth_references-clause-err c = λ other.
    let broken = c.in-Err-check_fourth_references.ensures.err in
    own_references_broken (view c.args.tree.now) c.items_at-list.result.now c.items_at-list.ensures c.requires.version c.in-Ok.roster c.in-Ok.ensures.ok c.in-Ok.ensures.fine
    c.in_default.ensures.ok c.in_default-check_added_references.ensures.ok broken.1 ∙ ap Some (sym broken.0)

pub check_times-requires-clause-groups : goal.check_times-requires-clause-groups
check_times-requires-clause-groups c = c.in-Ok.ensures.ok ∙ groups_are (view c.args.tree.now) c.items_at-list.result.now c.items_at-list.ensures

pub returns-in-Err-check_times-clause-err : goal.returns-in-Err-check_times-clause-err
returns-in-Err-check_times-clause-err c = λ other.
    let broken = c.in-Err-check_times.ensures.err in
    times_broken (view c.args.tree.now) c.items_at-list.result.now c.items_at-list.ensures c.requires.version c.in-Ok.roster c.in-Ok.ensures.ok c.in-Ok.ensures.fine
    c.in_default.ensures.ok c.in_default-check_added_references.ensures.ok c.in_default-check_fourth_references.ensures.ok broken.1 ∙ ap Some (sym broken.0)

pub check_added_times-requires-clause-groups : goal.check_added_times-requires-clause-groups
check_added_times-requires-clause-groups c = c.in-Ok.ensures.ok ∙ groups_are (view c.args.tree.now) c.items_at-list.result.now c.items_at-list.ensures

pub check_added_times-requires-clause-version : goal.check_added_times-requires-clause-version
check_added_times-requires-clause-version c = sym c.requires.version

pub returns-in-Err-check_added_times-clause-err : goal.returns-in-Err-check_added_times-clause-err
returns-in-Err-check_added_times-clause-err c = λ other.
    let broken = c.in-Err-check_added_times.ensures.err in
    added_times_broken (view c.args.tree.now) c.items_at-list.result.now c.items_at-list.ensures c.requires.version c.in-Ok.roster c.in-Ok.ensures.ok c.in-Ok.ensures.fine
    c.in_default.ensures.ok c.in_default-check_added_references.ensures.ok c.in_default-check_fourth_references.ensures.ok c.in_default-check_times.ensures.ok broken.1 ∙ ap Some (sym broken.0)

pub check_fourth_times-requires-clause-groups : goal.check_fourth_times-requires-clause-groups
check_fourth_times-requires-clause-groups c = c.in-Ok.ensures.ok ∙ groups_are (view c.args.tree.now) c.items_at-list.result.now c.items_at-list.ensures

pub returns-in-Err-check_fourth_times-clause-err : goal.returns-in-Err-check_fourth_times-clause-err
returns-in-Err-check_fourth_times-clause-err c = λ other.
    let broken = c.in-Err-check_fourth_times.ensures.err in
    own_times_broken (view c.args.tree.now) c.items_at-list.result.now c.items_at-list.ensures c.requires.version c.in-Ok.roster c.in-Ok.ensures.ok c.in-Ok.ensures.fine
    c.in_default.ensures.ok c.in_default-check_added_references.ensures.ok c.in_default-check_fourth_references.ensures.ok c.in_default-check_times.ensures.ok c.in_default-check_added_times.ensures.ok broken.1 ∙ ap Some (sym broken.0)

pub returns-then-are_too_many-clause-err : goal.returns-then-are_too_many-clause-err
returns-then-are_too_many-clause-err c = λ other.
    size_broken (view c.args.tree.now) c.items_at-list.result.now c.items_at-list.ensures c.requires.version c.in-Ok.roster c.in-Ok.ensures.ok c.in-Ok.ensures.fine
    c.in_default.ensures.ok c.in_default-check_added_references.ensures.ok c.in_default-check_fourth_references.ensures.ok c.in_default-check_times.ensures.ok c.in_default-check_added_times.ensures.ok c.in_default-check_fourth_times.ensures.ok (sym c.are_too_many.ensures ∙ c.if-are_too_many.true)

pub returns-clause-groups : goal.returns-clause-groups
returns-clause-groups c = c.in-Ok.ensures.ok ∙ groups_are (view c.args.tree.now) c.items_at-list.result.now c.items_at-list.ensures

pub returns-clause-kept : goal.returns-clause-kept
returns-clause-kept c =
    all_kept (view c.args.tree.now) c.items_at-list.result.now c.items_at-list.ensures c.requires.version c.in-Ok.roster c.in-Ok.ensures.ok c.in-Ok.ensures.fine
    c.in_default.ensures.ok c.in_default-check_added_references.ensures.ok c.in_default-check_fourth_references.ensures.ok c.in_default-check_times.ensures.ok c.in_default-check_added_times.ensures.ok c.in_default-check_fourth_times.ensures.ok (sym c.are_too_many.ensures ∙ c.if-are_too_many.false)
