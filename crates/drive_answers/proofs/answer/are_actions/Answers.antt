use Rattle.std.proofs.Common.{◌≡◌, true, false, ◌∙◌, subst, sym, arith, rules}
use Rattle.std.proofs.lemmas.Bool.{false≢true}
use Rattle.drive_answers.specs.Answer.{AreActions}
use Rattle.drive_answers.proofs.Walking.{items_here}
use Rattle.drive_answers.proofs.answer.are_actions.Goals as goal

pub returns-then-not-is_action : goal.returns-then-not-is_action
returns-then-not-is_action c =
    let here = items_here c.args.items.now c.loop-item.item-index c.item-item.result (omega arith) c.item-item.is in
    let isnt : c.is_action.result ≡ false = first_of (search rules, grind arith) in
    (λ f. absurd (false≢true f), λ all. sym isnt ∙ c.is_action.ensures.1 (subst AreActions here (c.loop-item.invariant.1 all)).0)

pub loop-item-preserved : goal.loop-item-preserved
loop-item-preserved c =
    let so_far = c.loop-item.invariant in
    let here = items_here c.args.items.now c.loop-item.item-index c.item-item.result (omega arith) c.item-item.is in
    let is : c.is_action.result ≡ true = first_of (search rules, grind arith) in
    let mine = c.is_action.ensures.0 is in
    (λ later. so_far.0 (subst AreActions (sym here) (mine, later)), λ all. (subst AreActions here (so_far.1 all)).1)
