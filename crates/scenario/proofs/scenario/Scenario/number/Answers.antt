use Rattle.std.proofs.Common.{◌≡◌, vec_len, ap, ◌∙◌, arith}
use Rattle.scenario.specs.Setup.{Setup, group_at, member_count}
use Rattle.scenario.specs.SetupOf.{setup_of}
use Rattle.scenario.proofs.Between.{length-numbers, number_at}
use Rattle.scenario.proofs.scenario.Scenario.number.Goals as goal

pub index-requires : goal.index-requires
index-requires c =
    let counted : vec_len c.self.inside.numbers ≡ member_count c.args.self.now =
    c.self.inside.numbers.ok.0 ∙ length-numbers (setup_of c.self.inside).groups (member_count (setup_of c.self.inside)) c.self.inside.numbers.items c.self.invariant.numbers ∙ ap member_count c.self.view_is in
    omega (arith, counted)

pub returns : goal.returns
returns c =
    let s = setup_of c.self.inside in
    let counted = ap member_count c.self.view_is in
    number_at s.groups (member_count s) c.args.member c.index.result.now c.self.inside.numbers.items c.self.invariant.numbers (omega (arith, counted)) c.index.ensures
    ∙ ap (λ (t : Setup). group_at t.groups c.args.member) c.self.view_is
