-- What a setting's line has of the incidents of its runs.
use Rattle.std.specs.Prelude.{◌≡◌, ℕ, ◌*◌, ◌/◌, ◌==◌, Option, Some, None, List, [], ◌∷◌, codes, length, sum_by, min, if◌then◌else◌}
use Rattle.day_rates.specs.declared.rates.RunDeaths.{RunDeaths}
use Rattle.day_rates.specs.Rates.{day_rate, day_low, day_high}
use Rattle.incident_figures.specs.declared.run.RunCounts.{RunCounts}
use Rattle.incident_figures.specs.declared.setting.SettingIncidents.{SettingIncidents}
use Rattle.incident_figures.specs.declared.setting.DayRates.{DayRates}
use Rattle.incident_figures.specs.declared.setting.IncidentSummary.{IncidentSummary}

-- The false deaths of a run, as many as its setting's interval counts: all of them, since no run has 100,000,000.
abbrev pub counted : RunCounts → ℕ
counted run = min run.deaths 100000000

-- what the runs have of false deaths
abbrev pub deaths_in : List RunCounts → RunDeaths
deaths_in runs =
    record {
      runs = length runs;
      deaths = sum_by counted runs;
      squares = sum_by (λ run. counted run * counted run) runs;
      time = sum_by (λ run. run.time) runs;
    }

-- the false deaths of a day, where the runs last at all
abbrev pub day_of : List RunCounts → Option DayRates
day_of runs =
    if sum_by (λ run. run.time) runs == 0 then None else Some (record {
      rate = day_rate (deaths_in runs);
      low = day_low (deaths_in runs);
      high = day_high (deaths_in runs);
    })

-- these are the incidents of a setting with these runs: false alarms a run in hundredths, rounded down
pub record IsSummaryOf (summary : IncidentSummary) (runs : List RunCounts) : Type 0 where
  pub alarms : summary.alarms ≡ sum_by (λ run. run.alarms) runs * 100 / length runs
  pub deaths : summary.deaths ≡ sum_by (λ run. run.deaths) runs
  pub well : summary.deaths_well ≡ sum_by (λ run. run.deaths_well) runs
  pub day : summary.day ≡ day_of runs

-- what is kept of the runs so far
pub record AreIncidentsOf (c : SettingIncidents) (runs : List RunCounts) : Type 0 where
  pub all : c.runs ≡ length runs
  pub alarms : c.alarms ≡ sum_by (λ run. run.alarms) runs
  pub deaths : c.deaths ≡ sum_by (λ run. run.deaths) runs
  pub well : c.deaths_well ≡ sum_by (λ run. run.deaths_well) runs
  pub deaths_counted : c.counted ≡ sum_by counted runs
  pub squares : c.squares ≡ sum_by (λ run. counted run * counted run) runs
  pub lasting : c.time ≡ sum_by (λ run. run.time) runs

-- how many runs there are
abbrev pub runs_kept : SettingIncidents → ℕ
runs_kept c = c.runs

-- the words over the figures of a setting
abbrev pub setting_names : List (List ℕ)
setting_names = codes "alarms" ∷ codes "deaths" ∷ codes "deaths_well" ∷ codes "deaths_day" ∷ codes "day_low" ∷ codes "day_high" ∷ []
