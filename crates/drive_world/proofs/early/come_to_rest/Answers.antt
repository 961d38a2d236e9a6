use Rattle.drive_world.proofs.Ending.{closed_way, rests_stopped, rests_closed}
use Rattle.drive_world.proofs.RowOrder.{cmp, row_order}
use Rattle.drive_world.proofs.early.come_to_rest.Goals as goal

pub go_on_untold-requires-clause-way : goal.go_on_untold-requires-clause-way
go_on_untold-requires-clause-way c =
    closed_way cmp row_order c.args.setting.now.scenario.now c.args.setting.now.least_delay c.args.halt.now c.args.world.now c.requires.pauses.0 c.requires.pauses.1 c.requires.pauses.2 c.requires.pauses.3

pub returns-in-Closed-clause-rests : goal.returns-in-Closed-clause-rests
returns-in-Closed-clause-rests c =
    rests_closed cmp row_order c.args.setting.now.scenario.now c.args.setting.now.least_delay c.args.halt.now c.in-Closed.is c.args.world.now c.go_on_untold.new.world c.go_on_untold.result
    c.go_on_untold.ensures.under_way c.go_on_untold.ensures.none

pub returns-in-Stopped-clause-rests : goal.returns-in-Stopped-clause-rests
returns-in-Stopped-clause-rests c = λ told gave written paused.
    rests_stopped cmp row_order c.args.setting.now.scenario.now c.args.setting.now.least_delay c.args.halt.now _ _ _ c.in-Stopped.is c.args.world.now told gave written paused
