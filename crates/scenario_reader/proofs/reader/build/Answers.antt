use Rattle.std.proofs.Common.{◌≡◌, ◌≢◌, Some, None, true, false, ap, sym, ◌∙◌}
use Rattle.toml.specs.View.{view}
use Rattle.schema.specs.declared.schema.Version.TheVariants.{Four}
use Rattle.scenario.specs.Setup.{is_fourth}
use Rattle.scenario_reader.specs.Reading.{version_of, setup_of_tree}
use Rattle.scenario_reader.specs.Rules.{least_broken_by, fourth_least_broken_by, least_broken_in}
use Rattle.scenario_reader.proofs.Chain.{earlier_least, fourth_least, the_fourth, ok_so, err_so}
use Rattle.scenario_reader.proofs.reader.build.Goals as goal

pub build_fourth-requires-clause-version : goal.build_fourth-requires-clause-version
build_fourth-requires-clause-version c =
    the_fourth (version_of (view c.args.tree.now)) (ap is_fourth (sym c.version_of.ensures) ∙ sym c.is_fourth.ensures ∙ c.if-is_fourth.true)

pub build_earlier-requires-clause-earlier : goal.build_earlier-requires-clause-earlier
build_earlier-requires-clause-earlier c = ap is_fourth (sym c.version_of.ensures) ∙ sym c.is_fourth.ensures ∙ c.if-is_fourth.false

pub returns-then-is_fourth-clause-ok : goal.returns-then-is_fourth-clause-ok
returns-then-is_fourth-clause-ok c =
    let tree = view c.args.tree.now in
    let s = setup_of_tree tree in
    let fourth : version_of tree ≡ Four = the_fourth (version_of tree) (ap is_fourth (sym c.version_of.ensures) ∙ sym c.is_fourth.ensures ∙ c.if-is_fourth.true) in
    ok_so (λ made. (fourth_least_broken_by tree s ≡ None) × (made ≡ s)) (λ made. (least_broken_in (version_of tree) tree s ≡ None) × (made ≡ s)) c.build_fourth.result c.build_fourth.ensures.ok
    (λ made is. (fourth_least (version_of tree) tree s fourth ∙ is.0, is.1))

pub returns-then-is_fourth-clause-err : goal.returns-then-is_fourth-clause-err
returns-then-is_fourth-clause-err c =
    let tree = view c.args.tree.now in
    let s = setup_of_tree tree in
    let fourth : version_of tree ≡ Four = the_fourth (version_of tree) (ap is_fourth (sym c.version_of.ensures) ∙ sym c.is_fourth.ensures ∙ c.if-is_fourth.true) in
    err_so (λ r. r.rule ≢ 11 → fourth_least_broken_by tree s ≡ Some r.rule) (λ r. r.rule ≢ 11 → least_broken_in (version_of tree) tree s ≡ Some r.rule) c.build_fourth.result c.build_fourth.ensures.err
    (λ r broken other. fourth_least (version_of tree) tree s fourth ∙ broken other)

pub returns-clause-ok : goal.returns-clause-ok
returns-clause-ok c =
    let tree = view c.args.tree.now in
    let s = setup_of_tree tree in
    let earlier : is_fourth (version_of tree) ≡ false = ap is_fourth (sym c.version_of.ensures) ∙ sym c.is_fourth.ensures ∙ c.if-is_fourth.false in
    ok_so (λ made. (least_broken_by tree s ≡ None) × (made ≡ s)) (λ made. (least_broken_in (version_of tree) tree s ≡ None) × (made ≡ s)) c.build_earlier.result c.build_earlier.ensures.ok
    (λ made is. (earlier_least (version_of tree) tree s earlier ∙ is.0, is.1))

pub returns-clause-err : goal.returns-clause-err
returns-clause-err c =
    let tree = view c.args.tree.now in
    let s = setup_of_tree tree in
    let earlier : is_fourth (version_of tree) ≡ false = ap is_fourth (sym c.version_of.ensures) ∙ sym c.is_fourth.ensures ∙ c.if-is_fourth.false in
    err_so (λ r. r.rule ≢ 11 → least_broken_by tree s ≡ Some r.rule) (λ r. r.rule ≢ 11 → least_broken_in (version_of tree) tree s ≡ Some r.rule) c.build_earlier.result c.build_earlier.ensures.err
    (λ r broken other. earlier_least (version_of tree) tree s earlier ∙ broken other)
