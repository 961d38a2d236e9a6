use Rattle.std.proofs.Common.{◌≡◌, subst, ap, ◌∙◌, arith, vec_len}
use Rattle.scenario.specs.Setup.{member_count, IsSound}
use Rattle.scenario.specs.SetupOf.{setup_of}
use Rattle.scenario.proofs.Names.{length-names}
use Rattle.scenario.proofs.scenario.Scenario.members.Goals as goal

pub returns-clause-count : goal.returns-clause-count
returns-clause-count c =
    let counted : vec_len c.self.inside.contents.names ≡ member_count (setup_of c.self.inside) = c.self.inside.contents.names.ok.0 ∙ length-names c.self.inside.contents.names.items (setup_of c.self.inside) c.self.invariant.names in
    c.len.ensures ∙ counted ∙ ap member_count c.self.view_is

pub returns-clause-at_most_16384 : goal.returns-clause-at_most_16384
returns-clause-at_most_16384 c =
    let counted : vec_len c.self.inside.contents.names ≡ member_count (setup_of c.self.inside) = c.self.inside.contents.names.ok.0 ∙ length-names c.self.inside.contents.names.items (setup_of c.self.inside) c.self.invariant.names in
    omega (arith, c.self.invariant.sound.members)

pub returns-clause-sound : goal.returns-clause-sound
returns-clause-sound c = subst IsSound c.self.view_is c.self.invariant.sound
