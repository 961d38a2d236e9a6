use Rattle.std.proofs.Common.{◌+◌, ◌∙◌, sym, subst, arith}
use Rattle.drive_world.specs.DriveOf.{IsSafeBound, world_of}
use Rattle.drive_world.proofs.Bounds.{bound_of_none, bound_of_least}
use Rattle.drive_world.proofs.world.World.safe_bound.Goals as goal

pub returns-in_default : goal.returns-in_default
returns-in_default c =
    let s = c.args.setting.now.scenario.now in
    let w = world_of c.args.self.now in
    subst (λ n. IsSafeBound s.end c.args.setting.now.least_delay w (n + 1)) (sym (c.ticks-past.ensures ∙ c.end.ensures.value))
    (bound_of_none s.end w c.args.setting.now.least_delay c.in_default.ensures.none)

pub returns : goal.returns
returns c =
    let s = c.args.setting.now.scenario.now in
    let w = world_of c.args.self.now in
    let a = c.min.ensures in
    let b = c.saturating_add-near.ensures in
    let t = c.ticks.ensures in
    let p = c.ticks-past.ensures in
    let e = c.end.ensures.value in
    let limit = c.end.ensures.sound.end in
    subst (λ d. IsSafeBound s.end d w c.min.result) (sym c.in-Some-least_delay.is)
    (bound_of_least s.end w c.in-Some-least_delay.delay c.in-Some.least c.min.result c.in-Some.ensures.least
    (omega (arith, a, b, t, p, e)) (omega (arith, a, b, t, p, e)) (λ at low far. omega (arith, a, b, t, p, e, limit, low, far)))
