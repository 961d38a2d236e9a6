use Rattle.std.proofs.Common.{ap, subst, rules}
use Rattle.run_output.proofs.Faults.{on_any, on_err}
use Rattle.drive_world.specs.declared.world.World.{World}
use Rattle.drive_world.specs.Ends.{HandsOn}
use Rattle.drive_world.proofs.RowOrder.{cmp, row_order}
use Rattle.drive_world.proofs.Handed.{begun}
use Rattle.drive_world.proofs.Resting.{named_before, takes, under_on, taken_on, part_on}
use Rattle.drive_world.proofs.handing.hand_on_before.Goals as goal

pub hand_on-requires-clause-named : goal.hand_on-requires-clause-named
hand_on-requires-clause-named g c =
    let s = c.args.setting.now.scenario.now in
    let named = named_before s c.args.least.now c.args.world.now.rows.items c.in_ok-rows.rows.items c.in_ok-rows.ensures.taken c.requires.under.2.named in
    search (rules, named)

pub returns-in_err-rows-clause-part : goal.returns-in_err-rows-clause-part
returns-in_err-rows-clause-part g c = λ first taken.
    let s = c.args.setting.now.scenario.now in
    on_err c.from_residual.result
    (takes s first (g.T.RowSink.held c.args.place.now) c.args.tallies.now taken
    (begun cmp row_order s c.args.setting.now.least_delay c.args.world.now c.requires.under.0 c.requires.under.1 c.args.tallies.now c.requires.setting.sound c.requires.setting.least c.requires.under.2))

pub returns-clause-under : goal.returns-clause-under
returns-clause-under g c = λ told gave under.
    let s = c.args.setting.now.scenario.now in
    let w = c.args.world.now in
    let v = c.take_before.new.self in
    under_on cmp row_order s c.args.setting.now.least_delay c.requires.setting.sound c.requires.setting.least w v c.args.least.now c.in_ok-rows.ensures.same c.in_ok-rows.ensures.left c.requires.in_time
    c.requires.least c.args.tallies.now c.hand_on.new.tallies (g.T.RowSink.held c.args.place.now) (g.T.RowSink.held c.hand_on.new.place) c.hand_on.result
    (subst (λ l. HandsOn cmp s l c.args.tallies.now c.hand_on.new.tallies (g.T.RowSink.held c.args.place.now) (g.T.RowSink.held c.hand_on.new.place) c.hand_on.result) c.in_ok-rows.ensures.taken c.hand_on.ensures.handed)
    told gave under

pub returns-clause-pending : goal.returns-clause-pending
returns-clause-pending g c = on_any c.hand_on.result (ap (λ (m : World). m.pending) c.in_ok-rows.ensures.same)

pub returns-clause-taken : goal.returns-clause-taken
returns-clause-taken g c = λ first taken.
    let s = c.args.setting.now.scenario.now in
    let w = c.args.world.now in
    let v = c.take_before.new.self in
    taken_on cmp row_order s c.args.setting.now.least_delay c.requires.setting.sound c.requires.setting.least w v c.args.least.now c.in_ok-rows.ensures.same c.in_ok-rows.ensures.left c.requires.in_time
    c.requires.least c.args.tallies.now c.hand_on.new.tallies (g.T.RowSink.held c.args.place.now) (g.T.RowSink.held c.hand_on.new.place) c.hand_on.result
    (subst (λ l. HandsOn cmp s l c.args.tallies.now c.hand_on.new.tallies (g.T.RowSink.held c.args.place.now) (g.T.RowSink.held c.hand_on.new.place) c.hand_on.result) c.in_ok-rows.ensures.taken c.hand_on.ensures.handed)
    first taken

pub returns-clause-part : goal.returns-clause-part
returns-clause-part g c = λ first taken.
    let s = c.args.setting.now.scenario.now in
    let w = c.args.world.now in
    let v = c.take_before.new.self in
    part_on cmp row_order s c.args.setting.now.least_delay c.requires.setting.sound c.requires.setting.least w v c.args.least.now c.in_ok-rows.ensures.same c.in_ok-rows.ensures.left c.requires.in_time
    c.requires.least c.args.tallies.now c.hand_on.new.tallies (g.T.RowSink.held c.args.place.now) (g.T.RowSink.held c.hand_on.new.place) c.hand_on.result
    (subst (λ l. HandsOn cmp s l c.args.tallies.now c.hand_on.new.tallies (g.T.RowSink.held c.args.place.now) (g.T.RowSink.held c.hand_on.new.place) c.hand_on.result) c.in_ok-rows.ensures.taken c.hand_on.ensures.handed)
    c.requires.under.0 c.requires.under.1 c.requires.under.2 first taken
