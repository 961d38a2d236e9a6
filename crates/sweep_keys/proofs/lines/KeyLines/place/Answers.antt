use Rattle.std.proofs.Common.{◌+◌, ◌*◌, ◌/◌, ◌%◌, ◌∙◌, ap}
use Rattle.sweep_keys.specs.Lines.{held, setting_place}
use Rattle.sweep_keys.proofs.Held.{held_place}
use Rattle.sweep_keys.proofs.lines.KeyLines.place.Goals as goal

pub returns : goal.returns
unfolding setting_place
returns c =
    held_place (c.args.line / c.max-after.result) (c.max-after.result * c.args.self.now.values) (c.args.value * c.max-after.result) (c.args.line % c.max-after.result) _ _ _ _ _
    c.saturating_mul-round.ensures c.saturating_mul-start.ensures c.saturating_mul.ensures c.saturating_add.ensures c.saturating_add-2.ensures
    ∙ ap (λ after. held (c.args.line / after * (after * c.args.self.now.values) + c.args.value * after + c.args.line % after)) c.max-after.ensures
