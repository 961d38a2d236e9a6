use Rattle.std.proofs.Common.{◌≡◌, ◌-◌, true, false, ◌∙◌, subst, sym, arith, rules}
use Rattle.std.proofs.lemmas.Bool.{false≢true}
use Rattle.json.specs.Value.{value_view}
use Rattle.drive_answers.specs.Answer.{ExitsLast, MayStand}
use Rattle.drive_answers.proofs.Judged.{items_left}
use Rattle.drive_answers.proofs.Walking.{items_here}
use Rattle.drive_answers.proofs.answer.exits_last.Goals as goal

pub returns-then-not-may_stand : goal.returns-then-not-may_stand
returns-then-not-may_stand c =
    let l = c.loop-item in
    let here = items_here c.args.items.now l.item-index c.item-item.result (omega arith) c.item-item.is in
    let left = items_left c.args.items.now l.item-index (l.left - 1) (omega (arith, l.invariant.count)) in
    let isnt : c.may_stand.result ≡ false = first_of (search rules, grind arith) in (
      λ f. absurd (false≢true f),
      λ all. sym isnt ∙ c.may_stand.ensures.1 (subst (λ n. MayStand c.args.exits n (value_view c.item-item.result)) left (subst (ExitsLast c.args.exits) here (l.invariant.all.1 all)).0),
    )

pub loop-item-preserved : goal.loop-item-preserved
loop-item-preserved c =
    let l = c.loop-item in
    let here = items_here c.args.items.now l.item-index c.item-item.result (omega arith) c.item-item.is in
    let left = items_left c.args.items.now l.item-index (l.left - 1) (omega (arith, l.invariant.count)) in
    let is : c.may_stand.result ≡ true = first_of (search rules, grind arith) in
    let mine = subst (λ n. MayStand c.args.exits n (value_view c.item-item.result)) (sym left) (c.may_stand.ensures.0 is) in
    record {
      all = (λ later. l.invariant.all.0 (subst (ExitsLast c.args.exits) (sym here) (mine, later)), λ all. (subst (ExitsLast c.args.exits) here (l.invariant.all.1 all)).1);
      count = omega (arith, l.invariant.count);
    }
