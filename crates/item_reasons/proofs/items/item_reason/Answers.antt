use Rattle.std.proofs.Common.{rules, ◌≡◌, ◌∷◌, ◌++◌}
use Rattle.item_reasons.proofs.items.item_reason.Goals as goal

pub returns-in-Some-2 : goal.returns-in-Some-2
returns-in-Some-2 c =
    let written : c.args.word.now ≡ c.in-Some.name.now ++ 46 ∷ c.in-Some.own.now = search rules in
    let told = rw c.in-Some-2.is at c.in_ok-reason.ensures in
    told c.args.word.now written
