use Rattle.std.proofs.Common.{◌*◌, ◌/◌, length, ap, ◌∙◌}
use Rattle.incident_figures.proofs.setting.SettingIncidents.summary.Goals as goal

pub returns : goal.returns
returns c runs are =
    let self = c.args.self.now in
    record {
      alarms = ap (λ n. self.alarms * 100 / n) (c.from.ensures ∙ are.all) ∙ ap (λ a. a * 100 / length runs) are.alarms;
      deaths = are.deaths;
      well = are.well;
      day = c.day.ensures runs are;
    }
