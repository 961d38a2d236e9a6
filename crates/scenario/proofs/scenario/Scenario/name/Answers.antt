use Rattle.std.proofs.Common.{◌≡◌, subst, ap, ◌∙◌, sym, arith, vec_len, length, ◌<◌, Some, get_or}
use Rattle.std.specs.List.{slice_get}
use Rattle.std.proofs.lemmas.Option.{slice_get-get_or}
use Rattle.scenario.specs.Setup.{member_count, name_of, IsSound}
use Rattle.scenario.specs.SetupOf.{setup_of}
use Rattle.scenario.proofs.Names.{length-names, name_at}
use Rattle.scenario.proofs.scenario.Scenario.name.Goals as goal

pub index-requires-2 : goal.index-requires-2
index-requires-2 c =
    let counted : vec_len c.self.inside.contents.names ≡ member_count c.args.self.now = c.self.inside.contents.names.ok.0 ∙ length-names c.self.inside.contents.names.items (setup_of c.self.inside) c.self.invariant.names ∙ ap member_count c.self.view_is in
    omega arith

pub returns-clause-value : goal.returns-clause-value
returns-clause-value c =
    let items = c.self.inside.contents.names.items in
    let key = c.index-2.result.now in
    let within : c.args.member < length items = omega (arith, c.self.inside.contents.names.ok.0, length-names items (setup_of c.self.inside) c.self.invariant.names, ap member_count c.self.view_is) in
    let found : slice_get items c.args.member ≡ Some key = slice_get-get_or items c.args.member key within ∙ ap (λ i. Some (get_or items i key)) (sym c.index.ensures) ∙ ap Some (sym c.index-2.ensures) in
    c.as_str.ensures.value ∙ name_at items (setup_of c.self.inside) c.args.member key c.self.invariant.names found
    ∙ ap (λ s. name_of s c.args.member) c.self.view_is

pub returns-clause-sound : goal.returns-clause-sound
returns-clause-sound c = subst IsSound c.self.view_is c.self.invariant.sound
