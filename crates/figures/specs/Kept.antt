-- What is kept of the runs of a setting.
use Rattle.std.specs.Prelude.{◌≡◌, ℕ, List, length}
use Rattle.std.specs.List.{filter_map}
use Rattle.incident_figures.specs.Settings.{AreIncidentsOf}
use Rattle.figures.specs.declared.setting.SettingFigures.{SettingFigures}
use Rattle.figures.specs.Notes.{Note}
use Rattle.figures.specs.Settings.{crashes_in, suspected_in, confirmed_in, last_in, false_suspicions_in, thrown_out_in, revived_in, runs_with, false_deaths_in, death_squares_in, sent_in, member_ticks_in, incidents_in}

-- what is kept are the figures of these runs
pub record AreFiguresOf (setting : SettingFigures) (runs : List Note) : Type 0 where
  pub all : setting.runs ≡ length runs
  pub crashed : setting.crashes ≡ length (crashes_in runs)
  pub suspicions : setting.suspected.items ≡ filter_map suspected_in (crashes_in runs)
  pub confirmations : setting.confirmed.items ≡ filter_map confirmed_in (crashes_in runs)
  pub lasts : setting.last.items ≡ filter_map last_in (crashes_in runs)
  pub false_claims : setting.false_suspect ≡ false_suspicions_in runs
  pub thrown : setting.thrown_out ≡ thrown_out_in runs
  pub returned : setting.revived ≡ revived_in runs
  pub with_thrown : setting.runs_with ≡ runs_with runs
  pub deaths : setting.deaths ≡ false_deaths_in runs
  pub squares : setting.squares ≡ death_squares_in runs
  pub sendings : setting.sent ≡ sent_in runs
  pub lasting : setting.member_ticks ≡ member_ticks_in runs
  pub with_incidents : AreIncidentsOf setting.incidents (incidents_in runs)

-- how many runs there are
abbrev pub runs_kept : SettingFigures → ℕ
runs_kept setting = setting.runs
