use Rattle.std.proofs.Common.{◌≡◌, ◌++◌, vec_len, eqb-true, arith, [], inr, ap, append-nil, ◌∙◌, sym, subst}
use Rattle.drive_world.specs.Turns.{Turns}
use Rattle.drive_world.proofs.Turning.{no_items}
use Rattle.drive_world.proofs.turn.tell.Goals as goal

pub returns-then-is_empty-clause-comes : goal.returns-then-is_empty-clause-comes
returns-then-is_empty-clause-comes g c =
    let told = g.H.Harness.told c.args.harness.now in
    let gave = g.H.Harness.gave c.args.harness.now in
    let zero : vec_len c.in_ok-line.line ≡ 0 = eqb-true (vec_len c.in_ok-line.line) 0 (sym c.if-is_empty.ensures) in
    let none : c.in_ok-line.line.items ≡ [] = no_items c.in_ok-line.line.items (omega (arith, zero)) in
    subst (λ t. Turns c.args.setting.now.scenario.now c.args.setting.now.least_delay c.args.world.now c.advance.new.world told t gave gave) (ap (λ l. told ++ l) none ∙ append-nil told)
    (c.in_ok-line.ensures.turns told gave)

pub returns-in-Ok-clause-comes : goal.returns-in-Ok-clause-comes
returns-in-Ok-clause-comes g c =
    let told = g.H.Harness.told c.args.harness.now in
    let gave = g.H.Harness.gave c.args.harness.now in
    subst (λ t. Turns c.args.setting.now.scenario.now c.args.setting.now.least_delay c.args.world.now c.advance.new.world told t gave (g.H.Harness.gave c.tell.new.self))
    (sym (c.in-Ok.ensures.told ∙ ap (λ l. told ++ l) c.as_slice.ensures.value))
    (subst (Turns c.args.setting.now.scenario.now c.args.setting.now.least_delay c.args.world.now c.advance.new.world told (told ++ c.in_ok-line.line.items) gave) (sym c.in-Ok.ensures.gave)
    (c.in_ok-line.ensures.turns told gave))

pub returns-in-Err-Closed-clause-comes : goal.returns-in-Err-Closed-clause-comes
returns-in-Err-Closed-clause-comes g c =
    let told = g.H.Harness.told c.args.harness.now in
    let gave = g.H.Harness.gave c.args.harness.now in
    inr (
      told ++ c.in_ok-line.line.items,
      subst (Turns c.args.setting.now.scenario.now c.args.setting.now.least_delay c.args.world.now c.advance.new.world told (told ++ c.in_ok-line.line.items) gave) (sym c.tell.ensures.gave)
          (c.in_ok-line.ensures.turns told gave),
    )
