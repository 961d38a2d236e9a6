-- What a report of version 4 says of members that start again, of false claims and of incidents.
use Rattle.std.specs.Prelude.{◌≡◌, List, length, map, count_by}
use Rattle.trace.specs.declared.row.What.TheVariants as what
use Rattle.trace.specs.declared.row.Row.{Row}
use Rattle.scenario.specs.Setup.{Setup, member_count}
use Rattle.incidents.specs.Cluster.{founders_of, troubles_of, reach_of}
use Rattle.incidents.specs.Incidents.{alarms, deaths, deaths_well, members_dead}
use Rattle.incidents.specs.Whole.{whole_since}
use Rattle.incidents.specs.Returns.{returns_of}
use Rattle.reports.specs.declared.account.Account.{Account}
use Rattle.reports.specs.Failures.{is_healthy_maker}
use Rattle.reports.specs.Revivals.{revivals}
use Rattle.reports.specs.Absences.{with_left, with_others_left, absences_of, wrongs_of}

-- the account is that of a run with these rows
pub record IsAccountOf (a : Account) (s : Setup) (rows : List Row) : Type 0 where
  pub crashes : a.crashes.items ≡ absences_of what.Crash (map with_others_left rows)
  pub leaves : a.leaves.items ≡ absences_of what.Leave (map with_others_left rows)
  pub returns : a.returns.items ≡ returns_of (member_count s) rows
  pub suspicions : a.suspicions ≡ length (wrongs_of what.Suspect (map with_others_left rows))
  pub healthy_suspicions : a.healthy_suspicions ≡ count_by (is_healthy_maker s) (wrongs_of what.Suspect (map with_others_left rows))
  pub confirmations : a.confirmations ≡ length (wrongs_of what.Confirm (map with_others_left rows))
  pub healthy_confirmations : a.healthy_confirmations ≡ count_by (is_healthy_maker s) (wrongs_of what.Confirm (map with_others_left rows))
  pub confirmed : a.confirmed.items ≡ wrongs_of what.Confirm (map with_others_left rows)
  pub revivals : a.revivals ≡ revivals (map with_left rows)
  pub whole : a.whole ≡ whole_since (founders_of s) rows
  pub alarms : a.alarms ≡ alarms (member_count s) rows
  pub deaths : a.deaths ≡ deaths (member_count s) rows
  pub members : a.members ≡ members_dead (member_count s) rows
  pub well : a.well ≡ deaths_well (member_count s) (troubles_of s) (reach_of s) rows
