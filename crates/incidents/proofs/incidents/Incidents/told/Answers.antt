use Rattle.std.proofs.Common.{◌∙◌, ◌&&◌, ap}
use Rattle.incidents.specs.Incidents.{is_well}
use Rattle.incidents.proofs.incidents.Incidents.told.Goals as goal

pub returns : goal.returns
returns c rows are =
    let cluster = c.args.self.now.cluster in
    let death = c.is_death-is_death.ensures rows are in
    record {
      alarm = c.is_alarm.ensures rows are;
      death = death;
      well = c.dies_well.ensures ∙ ap (λ d. d && is_well cluster.troubles.items cluster.reach c.args.row.now) death;
    }
