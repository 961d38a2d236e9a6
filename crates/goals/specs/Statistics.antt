-- The statistics of a setting of which something may be wanted, by the names of the columns of its line.
use Rattle.std.specs.Prelude.{ℕ, List, Option, Some, None, codes}
use Rattle.std.specs.Option.{option_map}
use Rattle.figures.specs.declared.summary.SettingSummary.{SettingSummary}
use Rattle.goals.specs.declared.statistic.Statistic.{Statistic}
use Rattle.goals.specs.declared.statistic.Statistic.TheVariants.{Out, SuspectP50, ConfirmP50, ConfirmP99, ConfirmGreatest, LastP50, LastGreatest, FalseSuspect, ThrownOut, Messages, Alarms, Deaths, DeathsWell, DeathsDay}

abbrev pub word_of : Statistic → List ℕ
word_of Out = codes "out"
word_of SuspectP50 = codes "suspect_p50"
word_of ConfirmP50 = codes "confirm_p50"
word_of ConfirmP99 = codes "confirm_p99"
word_of ConfirmGreatest = codes "confirm_greatest"
word_of LastP50 = codes "last_p50"
word_of LastGreatest = codes "last_greatest"
word_of FalseSuspect = codes "false_suspect"
word_of ThrownOut = codes "thrown_out"
word_of Messages = codes "messages"
word_of Alarms = codes "alarms"
word_of Deaths = codes "deaths"
word_of DeathsWell = codes "deaths_well"
word_of DeathsDay = codes "deaths_day"

-- The figure of a setting: times in ticks and members as they are, rates in hundredths. `out`, the share of the runs with a
-- false death, and `deaths_day`, the false deaths of a day, have an interval in place of one. Only version 4 has incidents.
abbrev pub figure_of : Statistic → SettingSummary → Option ℕ
figure_of Out setting = None
figure_of SuspectP50 setting = setting.suspect_p50
figure_of ConfirmP50 setting = setting.confirm_p50
figure_of ConfirmP99 setting = setting.confirm_p99
figure_of ConfirmGreatest setting = setting.confirm_greatest
figure_of LastP50 setting = setting.last_p50
figure_of LastGreatest setting = setting.last_greatest
figure_of FalseSuspect setting = Some setting.false_suspect
figure_of ThrownOut setting = Some setting.thrown_out
figure_of Messages setting = setting.messages
figure_of Alarms setting = option_map (λ incidents. incidents.alarms) setting.incidents
figure_of Deaths setting = option_map (λ incidents. incidents.deaths) setting.incidents
figure_of DeathsWell setting = option_map (λ incidents. incidents.deaths_well) setting.incidents
figure_of DeathsDay setting = None

-- how many of its parts make one
abbrev pub parts_of : Statistic → ℕ
parts_of FalseSuspect = 100
parts_of Messages = 100
parts_of Alarms = 100
parts_of _ = 1
