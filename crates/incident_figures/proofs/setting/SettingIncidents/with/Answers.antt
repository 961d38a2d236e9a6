use Rattle.std.proofs.Common.{◌+◌, ◌*◌, ◌∷◌, [], sym, ap, ◌∙◌, length-append}
use Rattle.incident_figures.specs.Settings.{counted}
use Rattle.incident_figures.specs.declared.run.RunCounts.{RunCounts}
use Rattle.incident_figures.proofs.Gathering.{with_run}
use Rattle.incident_figures.proofs.setting.SettingIncidents.with.Goals as goal

pub returns-clause-all : goal.returns-clause-all
returns-clause-all c runs are =
    let run = c.args.run.now in
    record {
      all = ap (λ n. n + 1) are.all ∙ sym (length-append runs (run ∷ []));
      alarms = with_run (λ (r : RunCounts). r.alarms) runs run _ _ are.alarms c.from.ensures;
      deaths = with_run (λ (r : RunCounts). r.deaths) runs run _ _ are.deaths c.from-2.ensures;
      well = with_run (λ (r : RunCounts). r.deaths_well) runs run _ _ are.well c.from-3.ensures;
      deaths_counted = with_run counted runs run _ _ are.deaths_counted c.counted-deaths.ensures.value;
      squares = with_run (λ r. counted r * counted r) runs run _ _ are.squares (c.square.ensures.value ∙ ap (λ d. d * d) c.counted-deaths.ensures.value);
      lasting = with_run (λ (r : RunCounts). r.time) runs run _ _ are.lasting c.from-4.ensures;
    }
