use Rattle.std.proofs.Common.{◌≡◌, nat_le, is_some, true, false, refl, ap, sym, ◌∙◌, arith}
use Rattle.std.proofs.lemmas.Bool.Decides.{nat_tests}
use Rattle.std.specs.List.{list_any}
use Rattle.toml.specs.View.{view}
use Rattle.schema.specs.Tree.{items_at}
use Rattle.schema.specs.declared.schema.FormatKey.TheVariants as key
use Rattle.schema.specs.declared.schema.Section.TheVariants as section
use Rattle.scenario_reader.specs.Reading.{plain_groups, setup_of_tree}
use Rattle.scenario_reader.specs.Rules.{breaks_references}
use Rattle.scenario_reader.specs.Times.{is_bad_contact_in, is_over_in, is_early_in}
use Rattle.scenario_reader.proofs.Trees.{any_items}
use Rattle.scenario_reader.proofs.Chain.{late_timeout, bad_contact, slow_over, early_crash}
use Rattle.scenario_reader.proofs.Moments.{contacts_same, overs_same, earlies_same}
use Rattle.scenario_reader.proofs.times.check_times.Goals as goal

pub returns-then-swim-clause-err : goal.returns-then-swim-clause-err
returns-then-swim-clause-err c =
    let s = setup_of_tree (view c.args.tree.now) in
    let late : nat_le c.read_swim-swim.result.period c.read_swim-swim.result.timeout ≡ true = grind (arith, nat_tests) in
    (refl, late_timeout s (ap (λ w. nat_le w.period w.timeout) (sym c.read_swim-swim.ensures) ∙ late))

pub returns-in-Some-clause-err : goal.returns-in-Some-clause-err
returns-in-Some-clause-err c =
    let tree = view c.args.tree.now in
    let s = setup_of_tree tree in
    let gs = c.args.roster.now in
    let early : nat_le c.read_swim-swim.result.period c.read_swim-swim.result.timeout ≡ false = grind (arith, nat_tests) in
    let timeout : nat_le s.swim.period s.swim.timeout ≡ false = ap (λ w. nat_le w.period w.timeout) (sym c.read_swim-swim.ensures) ∙ early in
    let contacts = contacts_same tree ∙ ap (λ hs. list_any (is_bad_contact_in hs) (items_at key.Group tree)) (sym c.requires.groups)
    ∙ any_items (is_bad_contact_in gs) (items_at key.Group tree) c.items_at.result.now c.first_bad_contact.result c.items_at.ensures c.first_bad_contact.ensures in
    (c.in_item.ensures, bad_contact s timeout (contacts ∙ ap is_some c.in-Some.is))

pub returns-in-Some-first_over-clause-err : goal.returns-in-Some-first_over-clause-err
returns-in-Some-first_over-clause-err c =
    let tree = view c.args.tree.now in
    let s = setup_of_tree tree in
    let gs = c.args.roster.now in
    let early : nat_le c.read_swim-swim.result.period c.read_swim-swim.result.timeout ≡ false = grind (arith, nat_tests) in
    let timeout : nat_le s.swim.period s.swim.timeout ≡ false = ap (λ w. nat_le w.period w.timeout) (sym c.read_swim-swim.ensures) ∙ early in
    let contacts = contacts_same tree ∙ ap (λ hs. list_any (is_bad_contact_in hs) (items_at key.Group tree)) (sym c.requires.groups)
    ∙ any_items (is_bad_contact_in gs) (items_at key.Group tree) c.items_at.result.now c.first_bad_contact.result c.items_at.ensures c.first_bad_contact.ensures in
    let overs = overs_same tree ∙ any_items (is_over_in section.Slow) (items_at key.Slow tree) c.items_at-2.result.now c.first_over.result c.items_at-2.ensures c.first_over.ensures in
    (c.in_item-in-Some-first_over.ensures, slow_over s timeout (contacts ∙ ap is_some c.in_default.is) (overs ∙ ap is_some c.in-Some-first_over.is))

pub returns-in-Some-first_early-clause-err : goal.returns-in-Some-first_early-clause-err
returns-in-Some-first_early-clause-err c =
    let tree = view c.args.tree.now in
    let s = setup_of_tree tree in
    let gs = c.args.roster.now in
    let early : nat_le c.read_swim-swim.result.period c.read_swim-swim.result.timeout ≡ false = grind (arith, nat_tests) in
    let timeout : nat_le s.swim.period s.swim.timeout ≡ false = ap (λ w. nat_le w.period w.timeout) (sym c.read_swim-swim.ensures) ∙ early in
    let contacts = contacts_same tree ∙ ap (λ hs. list_any (is_bad_contact_in hs) (items_at key.Group tree)) (sym c.requires.groups)
    ∙ any_items (is_bad_contact_in gs) (items_at key.Group tree) c.items_at.result.now c.first_bad_contact.result c.items_at.ensures c.first_bad_contact.ensures in
    let overs = overs_same tree ∙ any_items (is_over_in section.Slow) (items_at key.Slow tree) c.items_at-2.result.now c.first_over.result c.items_at-2.ensures c.first_over.ensures in
    let known : breaks_references tree (plain_groups tree) ≡ false = ap (breaks_references tree) (sym c.requires.groups) ∙ c.requires.known in
    let earlies = earlies_same tree known ∙ ap (λ hs. list_any (is_early_in hs) (items_at key.Crash tree)) (sym c.requires.groups)
    ∙ any_items (is_early_in gs) (items_at key.Crash tree) c.items_at-3.result.now c.first_early.result c.items_at-3.ensures c.first_early.ensures in
    (c.in_item-in-Some-first_early.ensures, early_crash s _ timeout (contacts ∙ ap is_some c.in_default.is) (overs ∙ ap is_some c.in_default-first_over.is) (earlies ∙ ap is_some c.in-Some-first_early.is))

pub returns-in-None-clause-ok : goal.returns-in-None-clause-ok
returns-in-None-clause-ok c =
    let tree = view c.args.tree.now in
    let s = setup_of_tree tree in
    let gs = c.args.roster.now in
    let early : nat_le c.read_swim-swim.result.period c.read_swim-swim.result.timeout ≡ false = grind (arith, nat_tests) in
    let timeout : nat_le s.swim.period s.swim.timeout ≡ false = ap (λ w. nat_le w.period w.timeout) (sym c.read_swim-swim.ensures) ∙ early in
    let contacts = contacts_same tree ∙ ap (λ hs. list_any (is_bad_contact_in hs) (items_at key.Group tree)) (sym c.requires.groups)
    ∙ any_items (is_bad_contact_in gs) (items_at key.Group tree) c.items_at.result.now c.first_bad_contact.result c.items_at.ensures c.first_bad_contact.ensures in
    let overs = overs_same tree ∙ any_items (is_over_in section.Slow) (items_at key.Slow tree) c.items_at-2.result.now c.first_over.result c.items_at-2.ensures c.first_over.ensures in
    let known : breaks_references tree (plain_groups tree) ≡ false = ap (breaks_references tree) (sym c.requires.groups) ∙ c.requires.known in
    let earlies = earlies_same tree known ∙ ap (λ hs. list_any (is_early_in hs) (items_at key.Crash tree)) (sym c.requires.groups)
    ∙ any_items (is_early_in gs) (items_at key.Crash tree) c.items_at-3.result.now c.first_early.result c.items_at-3.ensures c.first_early.ensures in
    early_crash s _ timeout (contacts ∙ ap is_some c.in_default.is) (overs ∙ ap is_some c.in_default-first_over.is) (earlies ∙ ap is_some c.in-None.is)
