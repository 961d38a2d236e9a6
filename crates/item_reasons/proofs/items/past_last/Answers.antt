use Rattle.std.proofs.Common.{rules, ◌≡◌, ◌≤◌, ◌∷◌, ◌++◌, string_bytes, subst, ◌∙◌, arith}
use Rattle.toml.specs.View.{view}
use Rattle.std.proofs.lemmas.Grind.{common_steps}
use Rattle.item_reasons.specs.Items.{Means}
use Rattle.item_reasons.proofs.items.past_last.Goals as goal

pub returns : goal.returns
returns c word written =
    let tree = view c.args.document.now in
    let count = c.in_ok-count.count in
    let some : 1 ≤ count = omega arith in
    let key_is : string_bytes c.in_ok-key.key ≡ c.in-Some.stem.now ++ 46 ∷ c.args.own.now = first_of (search rules, grind (arith, common_steps)) in
    let means : Means tree (c.in-Some.stem.now ++ 46 ∷ c.args.own.now) count =
    subst (λ w. Means tree w count) (c.as_str.ensures.value ∙ key_is) (c.in_ok-count.ensures some) in
    c.in_ok-past.ensures tree word c.in-Some.ensures.0 written c.in-Some.ensures.1 means
