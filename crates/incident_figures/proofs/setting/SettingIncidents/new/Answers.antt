use Rattle.std.proofs.Common.{refl}
use Rattle.incident_figures.proofs.setting.SettingIncidents.new.Goals as goal

pub returns : goal.returns
returns c = record {
  all = refl;
  alarms = refl;
  deaths = refl;
  well = refl;
  deaths_counted = refl;
  squares = refl;
  lasting = refl;
}
