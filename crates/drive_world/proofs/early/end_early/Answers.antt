use Rattle.run_output.proofs.Faults.{on_err}
use Rattle.drive_world.proofs.RowOrder.{cmp, row_order}
use Rattle.drive_world.proofs.Handed.{begun}
use Rattle.drive_world.proofs.Resting.{takes}
use Rattle.drive_world.proofs.Ending.{pauses_under}
use Rattle.drive_world.proofs.early.end_early.Goals as goal

pub come_to_rest-requires-clause-pauses : goal.come_to_rest-requires-clause-pauses
come_to_rest-requires-clause-pauses g c = (c.requires.pauses.0, c.requires.pauses.1, c.args.tallies.now, c.requires.pauses.2)

pub returns-in_err-come_to_rest-clause-part : goal.returns-in_err-come_to_rest-clause-part
returns-in_err-come_to_rest-clause-part g c = λ first taken.
    let s = c.args.setting.now.scenario.now in
    let rest = pauses_under cmp row_order s c.args.setting.now.least_delay c.args.halt.now c.args.world c.requires.pauses.0 c.requires.pauses.1 c.args.tallies.now c.requires.pauses.2 in
    on_err c.from_residual.result
    (takes s first (g.T.RowSink.held c.args.place.now) c.args.tallies.now taken
    (begun cmp row_order s c.args.setting.now.least_delay c.args.world rest.0 rest.1 c.args.tallies.now c.requires.setting.sound c.requires.setting.least rest.2))

pub hand_on_last-requires-clause-rests : goal.hand_on_last-requires-clause-rests
hand_on_last-requires-clause-rests g c =
    (c.requires.pauses.0, c.requires.pauses.1, c.in_ok-come_to_rest.ensures.rests c.requires.pauses.0 c.requires.pauses.1 c.args.tallies.now c.requires.pauses.2)

pub returns-clause-stops : goal.returns-clause-stops
returns-clause-stops g c = λ told gave first paused taken.
    c.hand_on_last.ensures.stops told gave first (c.in_ok-come_to_rest.ensures.rests told gave c.args.tallies.now paused) taken
