use Rattle.std.proofs.Common.{◌≡◌, ◌≢◌, Ok, Err, ap, sym, ◌∙◌}
use Rattle.toml.specs.View.{view}
use Rattle.scenario_reader.specs.Rules.{document_verdict, verdict, first_verdict, second_verdict, third_verdict}
use Rattle.scenario_reader.proofs.Chain.{answered_as_document, answered_without, ok_so, err_so, handed_on}
use Rattle.scenario_reader.proofs.First.{as_before, as_second, as_third}
use Rattle.scenario_reader.proofs.reader.read.Goals as goal

pub returns-clause-accepted : goal.returns-clause-accepted
returns-clause-accepted c =
    let bytes = c.args.bytes.now in
    let tree = view c.in_ok-tree.tree in
    ok_so (λ s. document_verdict tree ≡ Ok s) (λ s. verdict bytes ≡ Ok s) c.read_document.result c.read_document.ensures.accepted
    (λ s is. answered_as_document bytes tree c.in_ok-tree.ensures.read ∙ is)

pub returns-clause-refused : goal.returns-clause-refused
returns-clause-refused c =
    let bytes = c.args.bytes.now in
    let tree = view c.in_ok-tree.tree in
    err_so (λ r. r.rule ≢ 11 → document_verdict tree ≡ Err r.rule) (λ r. r.rule ≢ 11 → verdict bytes ≡ Err r.rule) c.read_document.result c.read_document.ensures.refused
    (λ r is other. answered_as_document bytes tree c.in_ok-tree.ensures.read ∙ is other)

pub returns-clause-accepted_first : goal.returns-clause-accepted_first
returns-clause-accepted_first c = λ first.
    let bytes = c.args.bytes.now in
    let tree = view c.in_ok-tree.tree in
    ok_so (λ s. document_verdict tree ≡ Ok s) (λ s. first_verdict bytes ≡ Ok s) c.read_document.result c.read_document.ensures.accepted
    (λ s is. as_before bytes first ∙ (answered_as_document bytes tree c.in_ok-tree.ensures.read ∙ is))

pub returns-clause-refused_first : goal.returns-clause-refused_first
returns-clause-refused_first c = λ first.
    let bytes = c.args.bytes.now in
    let tree = view c.in_ok-tree.tree in
    err_so (λ r. r.rule ≢ 11 → document_verdict tree ≡ Err r.rule) (λ r. r.rule ≢ 11 → first_verdict bytes ≡ Err r.rule) c.read_document.result c.read_document.ensures.refused
    (λ r is other. as_before bytes first ∙ (answered_as_document bytes tree c.in_ok-tree.ensures.read ∙ is other))

pub returns-in_err-tree-clause-refused : goal.returns-in_err-tree-clause-refused
returns-in_err-tree-clause-refused c =
    let bytes = c.args.bytes.now in
    let told = c.in_err-tree.ensures.refused in
    handed_on (λ r. r.rule ≢ 11 → verdict bytes ≡ Err r.rule) c.from_residual.result _ c.from_residual.ensures.1
    (λ other. let none = told other in answered_without bytes none.0 ∙ ap Err (sym none.1))

pub returns-in_err-tree-clause-refused_first : goal.returns-in_err-tree-clause-refused_first
returns-in_err-tree-clause-refused_first c = λ first.
    let bytes = c.args.bytes.now in
    let told = c.in_err-tree.ensures.refused in
    handed_on (λ r. r.rule ≢ 11 → first_verdict bytes ≡ Err r.rule) c.from_residual.result _ c.from_residual.ensures.1
    (λ other. let none = told other in as_before bytes first ∙ (answered_without bytes none.0 ∙ ap Err (sym none.1)))

pub returns-clause-accepted_second : goal.returns-clause-accepted_second
returns-clause-accepted_second c = λ second.
    let bytes = c.args.bytes.now in
    let tree = view c.in_ok-tree.tree in
    ok_so (λ s. document_verdict tree ≡ Ok s) (λ s. second_verdict bytes ≡ Ok s) c.read_document.result c.read_document.ensures.accepted
    (λ s is. as_second bytes second ∙ (answered_as_document bytes tree c.in_ok-tree.ensures.read ∙ is))

pub returns-clause-refused_second : goal.returns-clause-refused_second
returns-clause-refused_second c = λ second.
    let bytes = c.args.bytes.now in
    let tree = view c.in_ok-tree.tree in
    err_so (λ r. r.rule ≢ 11 → document_verdict tree ≡ Err r.rule) (λ r. r.rule ≢ 11 → second_verdict bytes ≡ Err r.rule) c.read_document.result c.read_document.ensures.refused
    (λ r is other. as_second bytes second ∙ (answered_as_document bytes tree c.in_ok-tree.ensures.read ∙ is other))

pub returns-in_err-tree-clause-refused_second : goal.returns-in_err-tree-clause-refused_second
returns-in_err-tree-clause-refused_second c = λ second.
    let bytes = c.args.bytes.now in
    let told = c.in_err-tree.ensures.refused in
    handed_on (λ r. r.rule ≢ 11 → second_verdict bytes ≡ Err r.rule) c.from_residual.result _ c.from_residual.ensures.1
    (λ other. let none = told other in as_second bytes second ∙ (answered_without bytes none.0 ∙ ap Err (sym none.1)))

pub returns-clause-accepted_third : goal.returns-clause-accepted_third
returns-clause-accepted_third c = λ third.
    let bytes = c.args.bytes.now in
    let tree = view c.in_ok-tree.tree in
    ok_so (λ s. document_verdict tree ≡ Ok s) (λ s. third_verdict bytes ≡ Ok s) c.read_document.result c.read_document.ensures.accepted
    (λ s is. as_third bytes third ∙ (answered_as_document bytes tree c.in_ok-tree.ensures.read ∙ is))

pub returns-clause-refused_third : goal.returns-clause-refused_third
returns-clause-refused_third c = λ third.
    let bytes = c.args.bytes.now in
    let tree = view c.in_ok-tree.tree in
    err_so (λ r. r.rule ≢ 11 → document_verdict tree ≡ Err r.rule) (λ r. r.rule ≢ 11 → third_verdict bytes ≡ Err r.rule) c.read_document.result c.read_document.ensures.refused
    (λ r is other. as_third bytes third ∙ (answered_as_document bytes tree c.in_ok-tree.ensures.read ∙ is other))

pub returns-in_err-tree-clause-refused_third : goal.returns-in_err-tree-clause-refused_third
returns-in_err-tree-clause-refused_third c = λ third.
    let bytes = c.args.bytes.now in
    let told = c.in_err-tree.ensures.refused in
    handed_on (λ r. r.rule ≢ 11 → third_verdict bytes ≡ Err r.rule) c.from_residual.result _ c.from_residual.ensures.1
    (λ other. let none = told other in as_third bytes third ∙ (answered_without bytes none.0 ∙ ap Err (sym none.1)))
