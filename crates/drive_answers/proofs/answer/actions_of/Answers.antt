use Rattle.std.proofs.Common.{[], append-nil, ap, subst, sym, arith, inr}
use Rattle.std.proofs.lemmas.List.{drop_all}
use Rattle.json.specs.Value.{value_view, items_view}
use Rattle.drive_answers.specs.Modes.{texts_of}
use Rattle.drive_answers.specs.Answer.{AreActions, NamesNobody, OneOf, SaysActions}
use Rattle.drive_answers.proofs.Walking.{items_here}
use Rattle.drive_answers.proofs.Judged.{said_more, refused_here}
use Rattle.drive_answers.proofs.answer.actions_of.Goals as goal

pub loop-item-preserved : goal.loop-item-preserved
loop-item-preserved c =
    let l = c.loop-item in
    let s = c.args.scenario.now in
    let xs = c.args.items.now in
    let x = c.item-item.result in
    let here = items_here xs l.item-index x (omega arith) c.item-item.is in
    let done = c.in-Ok.ensures.said in
    record {
      said = said_more s c.args.member (items_view xs) _ _ (value_view x) (texts_of c.args.pieces.now) (texts_of l.rest.now) _ l.actions.items _ done.0
          here c.behind-rest.ensures done.1 done.2 l.invariant.said;
      left = (subst AreActions here l.invariant.left).1;
      one = λ h. l.invariant.one (subst (OneOf (NamesNobody s c.args.member)) (sym here) (inr h));
    }

pub returns-in-Err-clause-refused : goal.returns-in-Err-clause-refused
returns-in-Err-clause-refused c =
    let l = c.loop-item in
    let here = items_here c.args.items.now l.item-index c.item-item.result (omega arith) c.item-item.is in
    refused_here c.args.scenario.now c.args.member (items_view c.args.items.now) _ _ (value_view c.item-item.result) _ here l.invariant.one c.in-Err.ensures.refused

pub push_action-requires-clause-action : goal.push_action-requires-clause-action
push_action-requires-clause-action c =
    let l = c.loop-item in
    (subst AreActions (items_here c.args.items.now l.item-index c.item-item.result (omega arith) c.item-item.is) l.invariant.left).0

pub returns-clause-said : goal.returns-clause-said
returns-clause-said c =
    let l = c.loop-item in
    let s = c.args.scenario.now in
    let xs = c.args.items.now in
    let none = ap items_view (drop_all l.item-index xs (omega (arith, c.loop-item-test.false))) in
    subst (λ made. SaysActions s c.args.member (items_view xs) (texts_of c.args.pieces.now) made) (append-nil l.actions.items)
    (l.invariant.said [] (subst (λ js. SaysActions s c.args.member js (texts_of l.rest.now) []) (sym none) tt))
