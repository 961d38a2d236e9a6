use Rattle.windows.proofs.PlayEnds.{least_of_links}
use Rattle.drive_command.proofs.driving.setting_of.Goals as goal

pub returns-clause-setting : goal.returns-clause-setting
returns-clause-setting c =
    let s = c.args.scenario.now in
    let d = c.least_delay-least_delay in
    record {
      sound = c.end-end.ensures.sound;
      links_are = c.requires;
      least = least_of_links s d.result (d.ensures.reached s c.requires) (d.ensures.least s c.requires) (d.ensures.alone s c.requires);
    }
