use Rattle.std.proofs.Common.{Result, IfOk, refl, subst}
use Rattle.member.specs.declared.step_error.StepError.{StepError}
use Rattle.trace.specs.contracts.row.RowOrd.TheImpl.Laws.{total-law}
use Rattle.windows.specs.Play.{IsPlayOf}
use Rattle.windows.specs.declared.choices.Played.{Played}
use Rattle.windows.proofs.Order.{by_place}
use Rattle.windows.proofs.PlayEnds.{play_sorted, ordered_by, each_member, whole_run}
use Rattle.windows.proofs.choices.play.Goals as goal

pub returns-in-Ok-sort-clause-played : goal.returns-in-Ok-sort-clause-played
returns-in-Ok-sort-clause-played c =
    let s = c.args.scenario.now in
    let choices = c.args.choices.now in
    let is : IsPlayOf s choices c.in-Ok.played = subst (λ (r : Result Played StepError). IfOk r (IsPlayOf s choices)) c.in-Ok.ensures.ok c.play_out.ensures.played in
    play_sorted s choices c.in-Ok.played _ is c.in-Ok-sort.ensures.permutation refl refl refl

pub returns-in-Ok-sort-clause-of_each_member : goal.returns-in-Ok-sort-clause-of_each_member
returns-in-Ok-sort-clause-of_each_member c =
    let s = c.args.scenario.now in
    let choices = c.args.choices.now in
    let is : IsPlayOf s choices c.in-Ok.played = subst (λ (r : Result Played StepError). IfOk r (IsPlayOf s choices)) c.in-Ok.ensures.ok c.play_out.ensures.played in
    let after : Played = record { rows = c.sort.new.self; handled = c.in-Ok.played.handled; skipped = c.in-Ok.played.skipped; left = c.in-Ok.played.left } in
    each_member s c.play_out.ensures.sound choices after (play_sorted s choices c.in-Ok.played after is c.in-Ok-sort.ensures.permutation refl refl refl) _
    (ordered_by total-law (λ a b before. by_place a b _ before)) c.in-Ok-sort.ensures.sorted

pub returns-in-Ok-sort-clause-whole : goal.returns-in-Ok-sort-clause-whole
returns-in-Ok-sort-clause-whole c =
    let s = c.args.scenario.now in
    let choices = c.args.choices.now in
    let is : IsPlayOf s choices c.in-Ok.played = subst (λ (r : Result Played StepError). IfOk r (IsPlayOf s choices)) c.in-Ok.ensures.ok c.play_out.ensures.played in
    let after : Played = record { rows = c.sort.new.self; handled = c.in-Ok.played.handled; skipped = c.in-Ok.played.skipped; left = c.in-Ok.played.left } in
    whole_run s c.play_out.ensures.sound choices after (play_sorted s choices c.in-Ok.played after is c.in-Ok-sort.ensures.permutation refl refl refl) _
    (ordered_by total-law (λ a b before. by_place a b _ before)) c.in-Ok-sort.ensures.sorted
