use Rattle.std.proofs.Common.{◌∷◌, [], length, ap, append-nil, ◌∙◌, sym, subst, refl}
use Rattle.std.specs.FinMap.{get}
use Rattle.std.proofs.lemmas.Result.{IfOk-weaker}
use Rattle.std.specs.List.{AllByRecursion}
use Rattle.drive_answers.specs.Answer.{IsAnswer, IsCause, IsNoJson, IsNoList, IsNobodys}
use Rattle.drive_world.specs.declared.ends.Stop.TheVariants as stop
use Rattle.drive_world.specs.declared.waiting.Waiting.{Waiting}
use Rattle.drive_world.specs.Next.{are_of_different}
use Rattle.drive_world.specs.WorldOf.{events_in}
use Rattle.drive_world.specs.DriveOf.{world_of, Settles}
use Rattle.drive_world.specs.Turns.{Waits}
use Rattle.drive_world.proofs.Busy.{Agrees, free_rest}
use Rattle.drive_world.proofs.Nexts.{free_by}
use Rattle.drive_world.proofs.Sounds.{sound_answer}
use Rattle.drive_world.proofs.Turning.{never_stuck, taken_turn, there_is, popped_rest, no_line_comes, stops_with}
use Rattle.drive_world.proofs.Way.{way_settled}
use Rattle.drive_world.proofs.turn.take.Goals as goal

pub returns-in_default-clause-comes : goal.returns-in_default-clause-comes
returns-in_default-clause-comes g c =
    absurd (never_stuck c.args.setting.now.scenario.now c.args.setting.now.least_delay c.args.world.now c.requires.goes_on.key c.requires.setting.sound c.requires.setting.least
    c.requires.goes_on.least c.requires.goes_on.in_time c.in_default.ensures.none c.requires.none)

pub settle-requires-clause-sound : goal.settle-requires-clause-sound
settle-requires-clause-sound g c =
    sound_answer c.args.setting.now.scenario.now c.in-Some.key.to c.exits-exits.result c.as_slice.result.now c.in-Ok-read_answer.actions.items c.in-Ok-read_answer.ensures.said

pub returns-clause-comes : goal.returns-clause-comes
returns-clause-comes g c =
    let s = c.args.setting.now.scenario.now in
    let w = c.args.world.now in
    let k = c.in-Some.key in
    let new = c.settle.new.self in
    let actions = c.in-Ok-read_answer.actions.items in
    let waits = subst (AllByRecursion (Waits s.end (world_of w))) c.in-Some.ensures.first.1 c.requires.way.waits in
    let asks = there_is (get (events_in w.pending) k) waits.0.0 in
    let there = c.in_ok-settle.ensures.settles asks.0 asks.1 in
    let settles : Settles s k asks.0 actions w new = record { world = there.world; rows = there.rows } in
    taken_turn s c.args.setting.now.least_delay k asks.0 w new _ _ _ _ c.requires.none c.in-Some.ensures.first.0 c.in-Some.ensures.first.1 asks.1 c.in-Ok.line.items actions
    (subst (λ e. IsAnswer s k.to e c.in-Ok.line.items actions) (c.exits-exits.ensures asks.0 asks.1) (subst (λ l. IsAnswer s k.to c.exits-exits.result l actions) c.as_slice.ensures.value c.in-Ok-read_answer.ensures.said)) settles
    (ap (λ (x : Waiting). x.keys.items) c.in_ok-settle.ensures.waiting
    ∙ popped_rest c.pop.result w.waiting.keys.items c.in-Some.ensures.first.0 c.pop.new.self.keys.items k c.in-Some.ensures.first.1 c.pop.ensures.first c.pop.ensures.none)
    c.in_ok-settle.ensures.begun (c.settle.ensures.answers ∙ c.saturating_add-place.ensures) c.in-Ok.ensures.told c.in-Ok.ensures.gave

pub returns-clause-way : goal.returns-clause-way
returns-clause-way g c =
    let s = c.args.setting.now.scenario.now in
    let w = c.args.world.now in
    let k = c.in-Some.key in
    let others = c.in-Some.ensures.first.0 in
    let new = c.settle.new.self in
    let actions = c.in-Ok-read_answer.actions.items in
    let waits = subst (AllByRecursion (Waits s.end (world_of w))) c.in-Some.ensures.first.1 c.requires.way.waits in
    let asks = there_is (get (events_in w.pending) k) waits.0.0 in
    let there = c.in_ok-settle.ensures.settles asks.0 asks.1 in
    let settles : Settles s k asks.0 actions w new = record { world = there.world; rows = there.rows } in
    let agrees = subst (Agrees w.waiting.busy.items) c.in-Some.ensures.first.1 w.waiting.agrees in
    let apart = ap are_of_different (sym c.in-Some.ensures.first.1) ∙ w.waiting.apart in
    way_settled s c.requires.setting.sound w new k asks.0 actions
    (sound_answer s k.to c.exits-exits.result c.as_slice.result.now actions c.in-Ok-read_answer.ensures.said) c.requires.way waits.0.0 settles others
    (ap (λ (x : Waiting). x.keys.items) c.in_ok-settle.ensures.waiting
    ∙ popped_rest c.pop.result w.waiting.keys.items others c.pop.new.self.keys.items k c.in-Some.ensures.first.1 c.pop.ensures.first c.pop.ensures.none)
    (ap (λ (x : Waiting). length x.busy.items) c.in_ok-settle.ensures.waiting ∙ c.pop.ensures.members)
    (free_by k.to others (free_rest w.waiting.busy.items k others agrees apart)) waits.1

pub returns-in-Err-clause-comes : goal.returns-in-Err-clause-comes
returns-in-Err-clause-comes g c =
    let s = c.args.setting.now.scenario.now in
    let w = c.args.world.now in
    let k = c.in-Some.key in
    let waits = subst (AllByRecursion (Waits s.end (world_of w))) c.in-Some.ensures.first.1 c.requires.way.waits in
    let asks = there_is (get (events_in w.pending) k) waits.0.0 in
    IfOk-weaker c.no_line.result _ _
    (λ halt halts.
    no_line_comes s c.args.setting.now.least_delay w k c.in-Some.ensures.first.0 asks.0 c.saturating_add-place.result c.in-Some.ensures.first.1 asks.1 c.saturating_add-place.ensures c.requires.none _ _
    (g.H.Harness.gave c.args.harness.now) _ [] c.in-Err.ensures.told (c.in-Err.ensures.none ∙ sym (append-nil (g.H.Harness.gave c.args.harness.now))) c.in-Err.none halt halts refl)
    c.no_line.ensures

pub returns-in-Err-read_answer-clause-comes : goal.returns-in-Err-read_answer-clause-comes
returns-in-Err-read_answer-clause-comes g c =
    let s = c.args.setting.now.scenario.now in
    let w = c.args.world.now in
    let k = c.in-Some.key in
    let line = c.in-Ok.line.items in
    let waits = subst (AllByRecursion (Waits s.end (world_of w))) c.in-Some.ensures.first.1 c.requires.way.waits in
    let asks = there_is (get (events_in w.pending) k) waits.0.0 in
    let error = c.in-Err-read_answer.error in
    let refused_by = subst (λ l. IsCause (IsNoJson l) (IsNoList c.exits-exits.result l) (IsNobodys s k.to c.exits-exits.result l) error) c.as_slice.ensures.value c.in-Err-read_answer.ensures.refused in
    let refused = subst (λ e. IsCause (IsNoJson line) (IsNoList e line) (IsNobodys s k.to e line) error) (c.exits-exits.ensures asks.0 asks.1) refused_by in
    IfOk-weaker c.no_answer.result _ _
    (λ halt stops.
    stops_with s c.args.setting.now.least_delay w k c.in-Some.ensures.first.0 asks.0 c.saturating_add-place.result c.in-Some.ensures.first.1 asks.1 c.saturating_add-place.ensures c.requires.none _ _
    (g.H.Harness.gave c.args.harness.now) _ (line ∷ []) c.in-Ok.ensures.told c.in-Ok.ensures.gave halt (stop.Answer error) stops.1 (line, refl, stops.0, refused))
    c.no_answer.ensures
