use Rattle.std.proofs.Common.{◌≡◌, ◌≢◌, ℕ, None, Some, Ok, Err, subst, ap, sym, ◌∙◌}
use Rattle.toml.specs.Data.{Data}
use Rattle.toml.specs.View.{view}
use Rattle.schema.specs.Shape.{rule_of, least_broken_of_shape, KeepsShape}
use Rattle.schema.specs.declared.schema.Version.{Version}
use Rattle.scenario.specs.Setup.{Setup}
use Rattle.scenario_reader.specs.Reading.{version_of, setup_of_tree}
use Rattle.scenario_reader.specs.Rules.{least_broken_in, document_verdict}
use Rattle.scenario_reader.proofs.Chain.{rule_broken, accepted, shape_least, values_least, ok_so, err_so}
use Rattle.scenario_reader.proofs.reader.read_document.Goals as goal

-- a rule on the shape is broken
unshaped : (tree : Data) (v : Version) (rule told : ℕ) → v ≡ version_of tree → least_broken_of_shape v tree ≡ Some rule → told ≡ rule → document_verdict tree ≡ Err told
unshaped tree v rule told version broken same =
    rule_broken tree rule (shape_least tree rule (ap (λ w. least_broken_of_shape w tree) (sym version) ∙ broken)) ∙ ap Err (sym same)

module _ (tree : Data) (v : Version) (version : v ≡ version_of tree) (kept : KeepsShape v tree) where
  values : KeepsShape (version_of tree) tree
  values = subst (λ w. KeepsShape w tree) version kept

  built : (s : Setup) → (least_broken_in (version_of tree) tree (setup_of_tree tree) ≡ None) × (s ≡ setup_of_tree tree) → document_verdict tree ≡ Ok s
  built s is = accepted tree (values_least tree values ∙ is.0) ∙ ap Ok (sym is.1)

  unbuilt : (rule : ℕ) → least_broken_in (version_of tree) tree (setup_of_tree tree) ≡ Some rule → document_verdict tree ≡ Err rule
  unbuilt rule broken = rule_broken tree rule (values_least tree values ∙ broken)

pub build-requires : goal.build-requires
build-requires c = subst (λ v. KeepsShape v (view c.args.tree.now)) c.version_of.ensures c.in-Ok.ensures.kept

pub returns-in-Ok-clause-accepted : goal.returns-in-Ok-clause-accepted
returns-in-Ok-clause-accepted c =
    let tree = view c.args.tree.now in
    ok_so (λ s. (least_broken_in (version_of tree) tree (setup_of_tree tree) ≡ None) × (s ≡ setup_of_tree tree)) (λ s. document_verdict tree ≡ Ok s) c.build.result c.build.ensures.ok
    (built tree c.version_of.result c.version_of.ensures c.in-Ok.ensures.kept)

pub returns-in-Ok-clause-refused : goal.returns-in-Ok-clause-refused
returns-in-Ok-clause-refused c =
    let tree = view c.args.tree.now in
    err_so (λ r. r.rule ≢ 11 → least_broken_in (version_of tree) tree (setup_of_tree tree) ≡ Some r.rule) (λ r. r.rule ≢ 11 → document_verdict tree ≡ Err r.rule) c.build.result c.build.ensures.err
    (λ r broken other. unbuilt tree c.version_of.result c.version_of.ensures c.in-Ok.ensures.kept r.rule (broken other))

pub returns-in-Err-clause-refused : goal.returns-in-Err-clause-refused
returns-in-Err-clause-refused c = λ _.
    unshaped (view c.args.tree.now) c.version_of.result (rule_of c.in-Err.fault.check) c.of_shape.result.rule c.version_of.ensures c.in-Err.ensures.err c.of_shape.ensures.rule
