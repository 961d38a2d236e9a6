use Rattle.std.proofs.Common.{◌≡◌, true, ◌++◌, drop, length, replicate, rules, ap, ◌∙◌}
use Rattle.sweep_plan.specs.Items.{is_item_name}
use Rattle.sweep_plan.proofs.Kept.{filled, few_bytes}
use Rattle.sweep_plan.proofs.items.ItemName.read.Goals as goal

pub returns-clause-some : goal.returns-clause-some
returns-clause-some c =
    let name = c.args.name.now in
    let sound : is_item_name name ≡ true = search rules in
    let bytes = ap (λ l. l ++ drop (length name) (replicate 76 0)) c.copy_from_slice.ensures.after ∙ filled name (few_bytes name sound) in
    (sound, (λ i. record { bytes = bytes i }))
