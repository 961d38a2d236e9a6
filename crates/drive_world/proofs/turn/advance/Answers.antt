use Rattle.std.proofs.Common.{◌++◌, [], true, length, ap, append-nil, ◌∙◌, sym, subst, refl}
use Rattle.std.proofs.lemmas.Bool.{false≢true}
use Rattle.std.specs.Option.{is_some}
use Rattle.drive_world.specs.declared.fate.Fate.TheVariants.{Untold, Told, Asked}
use Rattle.drive_world.specs.declared.waiting.Waiting.{Waiting}
use Rattle.drive_world.specs.DriveOf.{Settles}
use Rattle.drive_world.proofs.Nexts.{none_for}
use Rattle.drive_world.proofs.Turning.{turn_by, untold_comes, told_comes, asked_comes, from_begun}
use Rattle.drive_world.proofs.Way.{way_settled}
use Rattle.drive_world.proofs.turn.advance.Goals as goal

pub push-requires-clause-free : goal.push-requires-clause-free
push-requires-clause-free c = none_for c.args.key.now.to c.args.world.now.waiting.keys.items c.requires.next.may.free

pub returns-in_default-clause-turns : goal.returns-in_default-clause-turns
returns-in_default-clause-turns c = λ told gave. absurd (false≢true (sym (ap is_some c.in_default.ensures.none) ∙ c.requires.next.may.safe.first.here))

pub returns-in_ok-settle-in-Untold-clause-turns : goal.returns-in_ok-settle-in-Untold-clause-turns
returns-in_ok-settle-in-Untold-clause-turns c = λ told gave.
    let s = c.args.setting.now.scenario.now in
    let d = c.args.setting.now.least_delay in
    let w = c.args.world.now in
    let k = c.args.key.now in
    let has = c.in-Some.ensures.fate in
    let new = c.settle.new.self in
    let settles = subst (λ a. Settles s k has.content a w new) c.new-in-Untold.ensures.items (c.in_ok-settle-in-Untold.ensures.settles has.content has.here) in
    turn_by s d k has.content w new told _ gave gave c.requires.next has.here Untold (sym c.in-Untold.is ∙ has.is)
    (untold_comes s d k has.content w new told _ gave gave settles (ap (λ (x : Waiting). x.keys.items) c.in_ok-settle-in-Untold.ensures.waiting) c.in_ok-settle-in-Untold.ensures.begun c.settle.ensures.answers
    (ap (λ l. told ++ l) c.new-in-Untold-2.ensures.items ∙ append-nil told) refl)

pub returns-in_ok-settle-in-Untold-clause-way : goal.returns-in_ok-settle-in-Untold-clause-way
returns-in_ok-settle-in-Untold-clause-way c =
    let s = c.args.setting.now.scenario.now in
    let w = c.args.world.now in
    let k = c.args.key.now in
    let has = c.in-Some.ensures.fate in
    let new = c.settle.new.self in
    let settles = subst (λ a. Settles s k has.content a w new) c.new-in-Untold.ensures.items (c.in_ok-settle-in-Untold.ensures.settles has.content has.here) in
    way_settled s c.requires.setting.sound w new k has.content [] tt c.requires.way (ap is_some has.here) settles w.waiting.keys.items (ap (λ (x : Waiting). x.keys.items) c.in_ok-settle-in-Untold.ensures.waiting)
    (ap (λ (x : Waiting). length x.busy.items) c.in_ok-settle-in-Untold.ensures.waiting) c.requires.next.may.free c.requires.way.waits

pub returns-in_ok-settle-in-Told-clause-turns : goal.returns-in_ok-settle-in-Told-clause-turns
returns-in_ok-settle-in-Told-clause-turns c = λ told gave.
    let s = c.args.setting.now.scenario.now in
    let d = c.args.setting.now.least_delay in
    let w = c.args.world.now in
    let k = c.args.key.now in
    let has = c.in-Some.ensures.fate in
    let mid = record w { begun = true } in
    let new = c.settle-in-Told.new.self in
    let settles = from_begun s k has.content [] w mid new refl (subst (λ a. Settles s k has.content a mid new) c.new-in-Told.ensures.items (c.in_ok-settle-in-Told.ensures.settles has.content has.here)) in
    turn_by s d k has.content w new told _ gave gave c.requires.next has.here Told (sym c.in-Told.is ∙ has.is)
    (told_comes s d k has.content w new told _ gave gave settles (ap (λ (x : Waiting). x.keys.items) c.in_ok-settle-in-Told.ensures.waiting) c.in_ok-settle-in-Told.ensures.begun c.settle-in-Told.ensures.answers
    (ap (λ l. told ++ l) (c.in_ok-line-in-Told.ensures has.content has.here)) refl)

pub returns-in_ok-settle-in-Told-clause-way : goal.returns-in_ok-settle-in-Told-clause-way
returns-in_ok-settle-in-Told-clause-way c =
    let s = c.args.setting.now.scenario.now in
    let w = c.args.world.now in
    let k = c.args.key.now in
    let has = c.in-Some.ensures.fate in
    let mid = record w { begun = true } in
    let new = c.settle-in-Told.new.self in
    let settles = from_begun s k has.content [] w mid new refl (subst (λ a. Settles s k has.content a mid new) c.new-in-Told.ensures.items (c.in_ok-settle-in-Told.ensures.settles has.content has.here)) in
    way_settled s c.requires.setting.sound w new k has.content [] tt c.requires.way (ap is_some has.here) settles w.waiting.keys.items (ap (λ (x : Waiting). x.keys.items) c.in_ok-settle-in-Told.ensures.waiting)
    (ap (λ (x : Waiting). length x.busy.items) c.in_ok-settle-in-Told.ensures.waiting) c.requires.next.may.free c.requires.way.waits

pub returns-in_ok-push-in-Asked-clause-turns : goal.returns-in_ok-push-in-Asked-clause-turns
returns-in_ok-push-in-Asked-clause-turns c = λ told gave.
    let s = c.args.setting.now.scenario.now in
    let d = c.args.setting.now.least_delay in
    let w = c.args.world.now in
    let k = c.args.key.now in
    let has = c.in-Some.ensures.fate in
    turn_by s d k has.content w _ told _ gave gave c.requires.next has.here Asked (sym c.in-Asked.is ∙ has.is)
    (asked_comes s d k has.content w _ told _ gave gave refl refl c.in_ok-push-in-Asked.ensures.keys refl refl (ap (λ l. told ++ l) (c.in_ok-line-in-Asked.ensures has.content has.here)) refl)
