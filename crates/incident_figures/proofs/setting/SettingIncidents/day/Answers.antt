use Rattle.incident_figures.proofs.Gathering.{same_deaths, no_day, some_day}
use Rattle.incident_figures.proofs.setting.SettingIncidents.day.Goals as goal

pub returns-then-self-eq0 : goal.returns-then-self-eq0
returns-then-self-eq0 c runs are = no_day runs c.args.self.now.time are.lasting c.if-self-eq0.true

pub returns : goal.returns
returns c runs are =
    some_day runs c.args.self.now.time _ _ _ _ are.lasting c.if-self-eq0.false (same_deaths _ _ _ _ _ _ _ _ are.all are.deaths_counted are.squares are.lasting)
    c.day_rate.ensures c.day_low.ensures c.day_high.ensures
