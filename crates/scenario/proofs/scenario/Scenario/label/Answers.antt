use Rattle.std.proofs.Common.{◌≡◌, vec_len, get_or, subst, sym, ap, ◌∙◌, arith}
use Rattle.std.proofs.lemmas.List.Elements.{length_all_zip}
use Rattle.scenario.specs.Labels.{IsLabelOf}
use Rattle.scenario.specs.Setup.{member_names, member_count, name_of}
use Rattle.scenario.specs.SetupOf.{setup_of}
use Rattle.scenario.proofs.Names.{length-member_names, label_at}
use Rattle.scenario.proofs.scenario.Scenario.label.Goals as goal

pub index-requires-2 : goal.index-requires-2
index-requires-2 c =
    let s = setup_of c.self.inside in
    let counted : vec_len c.self.inside.labels ≡ member_count c.args.self.now =
    c.self.inside.labels.ok.0 ∙ sym (length_all_zip IsLabelOf (member_names s) c.self.inside.labels.items c.self.invariant.labels) ∙ length-member_names s ∙ ap member_count c.self.view_is in
    omega arith

pub returns : goal.returns
returns c =
    let s = setup_of c.self.inside in
    let label = c.index-2.result.now in
    subst (λ t. IsLabelOf (name_of t c.args.member) label) c.self.view_is
    (label_at s c.self.inside.labels.items c.args.member label c.self.invariant.labels (omega (arith, ap member_count c.self.view_is))
    (c.index-2.ensures ∙ ap (λ i. get_or c.self.inside.labels.items i label) c.index.ensures))
