use Rattle.std.proofs.Common.{◌≤◌, subst, rules}
use Rattle.std.proofs.lemmas.List.Elements.{All-from_recursion}
use Rattle.base.specs.World.{IsOver}
use Rattle.trace.specs.Text.{NamesMembers}
use Rattle.run_output.proofs.Faults.{on_err}
use Rattle.drive_world.specs.DriveOf.{world_of}
use Rattle.drive_world.specs.Ends.{HandsOn}
use Rattle.drive_world.proofs.RowOrder.{cmp, row_order}
use Rattle.drive_world.proofs.Handed.{begun}
use Rattle.drive_world.proofs.Resting.{named_before, takes, rests_under, stops_on, part_on, stops_end, part_end}
use Rattle.drive_world.proofs.early.hand_on_last.Goals as goal

pub hand_on-requires-clause-named : goal.hand_on-requires-clause-named
hand_on-requires-clause-named g c =
    let s = c.args.setting.now.scenario.now in
    let rest = rests_under cmp row_order s c.args.setting.now.least_delay c.requires.setting.sound c.requires.setting.least c.args.halt.now c.args.world c.requires.rests.0 c.requires.rests.1 c.args.tallies.now c.requires.rests.2 in
    let named = named_before s c.in-Some.least c.args.world.rows.items c.in_ok-rows-in-Some.rows.items c.in_ok-rows-in-Some.ensures.taken rest.2.named in
    search (rules, named)

pub returns-in_err-rows-in-Some-clause-part : goal.returns-in_err-rows-in-Some-clause-part
returns-in_err-rows-in-Some-clause-part g c = λ first taken.
    let s = c.args.setting.now.scenario.now in
    let rest = rests_under cmp row_order s c.args.setting.now.least_delay c.requires.setting.sound c.requires.setting.least c.args.halt.now c.args.world c.requires.rests.0 c.requires.rests.1 c.args.tallies.now c.requires.rests.2 in
    on_err c.from_residual.result
    (takes s first (g.T.RowSink.held c.args.place.now) c.args.tallies.now taken
    (begun cmp row_order s c.args.setting.now.least_delay c.args.world rest.0 rest.1 c.args.tallies.now c.requires.setting.sound c.requires.setting.least rest.2))

pub returns-in_ok-rows-in-Some-clause-stops : goal.returns-in_ok-rows-in-Some-clause-stops
returns-in_ok-rows-in-Some-clause-stops g c = λ told gave first rests taken.
    let s = c.args.setting.now.scenario.now in
    let w = c.args.world in
    let v = c.take_before.new.self in
    let in_time = subst (λ e. c.in-Some.least.at ≤ e) c.end.ensures.value c.in-Some.ensures.in_time in
    stops_on cmp row_order s c.args.setting.now.least_delay c.requires.setting.sound c.requires.setting.least w v c.in-Some.least c.in_ok-rows-in-Some.ensures.same c.in_ok-rows-in-Some.ensures.left in_time
    c.in-Some.ensures.least c.args.tallies.now c.hand_on.new.tallies (g.T.RowSink.held c.args.place.now) (g.T.RowSink.held c.hand_on.new.place) c.hand_on.result
    (subst (λ l. HandsOn cmp s l c.args.tallies.now c.hand_on.new.tallies (g.T.RowSink.held c.args.place.now) (g.T.RowSink.held c.hand_on.new.place) c.hand_on.result) c.in_ok-rows-in-Some.ensures.taken c.hand_on.ensures.handed)
    c.args.halt.now told gave first rests taken

pub returns-in_ok-rows-in-Some-clause-part : goal.returns-in_ok-rows-in-Some-clause-part
returns-in_ok-rows-in-Some-clause-part g c = λ first taken.
    let s = c.args.setting.now.scenario.now in
    let w = c.args.world in
    let v = c.take_before.new.self in
    let in_time = subst (λ e. c.in-Some.least.at ≤ e) c.end.ensures.value c.in-Some.ensures.in_time in
    let rest = rests_under cmp row_order s c.args.setting.now.least_delay c.requires.setting.sound c.requires.setting.least c.args.halt.now w c.requires.rests.0 c.requires.rests.1 c.args.tallies.now c.requires.rests.2 in
    part_on cmp row_order s c.args.setting.now.least_delay c.requires.setting.sound c.requires.setting.least w v c.in-Some.least c.in_ok-rows-in-Some.ensures.same c.in_ok-rows-in-Some.ensures.left in_time
    c.in-Some.ensures.least c.args.tallies.now c.hand_on.new.tallies (g.T.RowSink.held c.args.place.now) (g.T.RowSink.held c.hand_on.new.place) c.hand_on.result
    (subst (λ l. HandsOn cmp s l c.args.tallies.now c.hand_on.new.tallies (g.T.RowSink.held c.args.place.now) (g.T.RowSink.held c.hand_on.new.place) c.hand_on.result) c.in_ok-rows-in-Some.ensures.taken c.hand_on.ensures.handed)
    rest.0 rest.1 rest.2 first taken

pub hand_on-requires-in-None-clause-named : goal.hand_on-requires-in-None-clause-named
hand_on-requires-in-None-clause-named g c =
    let s = c.args.setting.now.scenario.now in
    let rest = rests_under cmp row_order s c.args.setting.now.least_delay c.requires.setting.sound c.requires.setting.least c.args.halt.now c.args.world c.requires.rests.0 c.requires.rests.1 c.args.tallies.now c.requires.rests.2 in
    let named = All-from_recursion (NamesMembers s) c.args.world.rows.items rest.2.named in
    search (rules, named)

pub returns-in-None-clause-stops : goal.returns-in-None-clause-stops
returns-in-None-clause-stops g c = λ told gave first rests taken.
    let s = c.args.setting.now.scenario.now in
    let over = subst (λ e. IsOver e (world_of c.args.world)) c.end.ensures.value c.in-None.ensures.over in
    stops_end cmp row_order s c.args.setting.now.least_delay c.requires.setting.sound c.requires.setting.least c.args.world over c.args.tallies.now c.hand_on-in-None.new.tallies
    (g.T.RowSink.held c.args.place.now) (g.T.RowSink.held c.hand_on-in-None.new.place) c.hand_on-in-None.result c.hand_on-in-None.ensures.handed c.args.halt.now told gave first rests taken

pub returns-in-None-clause-part : goal.returns-in-None-clause-part
returns-in-None-clause-part g c = λ first taken.
    let s = c.args.setting.now.scenario.now in
    let over = subst (λ e. IsOver e (world_of c.args.world)) c.end.ensures.value c.in-None.ensures.over in
    let rest = rests_under cmp row_order s c.args.setting.now.least_delay c.requires.setting.sound c.requires.setting.least c.args.halt.now c.args.world c.requires.rests.0 c.requires.rests.1 c.args.tallies.now c.requires.rests.2 in
    part_end cmp row_order s c.args.setting.now.least_delay c.requires.setting.sound c.requires.setting.least c.args.world over c.args.tallies.now c.hand_on-in-None.new.tallies
    (g.T.RowSink.held c.args.place.now) (g.T.RowSink.held c.hand_on-in-None.new.place) c.hand_on-in-None.result c.hand_on-in-None.ensures.handed rest.0 rest.1 rest.2 first taken
