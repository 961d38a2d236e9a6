-- What the report of a run tells of its crashes and of false claims, by its version.
use Rattle.std.specs.Prelude.{◌≡◌, Option, Some, None, List}
use Rattle.schema.specs.declared.schema.Version.{Version}
use Rattle.schema.specs.declared.schema.Version.TheVariants.{One, Two, Three, Four}
use Rattle.scenario.specs.Setup.{Setup}
use Rattle.trace.specs.declared.row.What.TheVariants as what
use Rattle.trace.specs.declared.row.Row.{Row}
use Rattle.reports.specs.declared.account.Account.{Account}
use Rattle.reports.specs.Accounts.{IsAccountOf}
use Rattle.reports.specs.Departures.{crashes_of}
use Rattle.reports.specs.FalsePositives.{ways_to_depart, false_positives, healthy_false_positives}
use Rattle.reports.specs.Failures.{false_positives_of}
use Rattle.reports.specs.Revivals.{revivals}
use Rattle.figures.specs.declared.by_version.Told.{Told}
use Rattle.figures.specs.Figures.{crashes_told, claims_told, claim_count, healthy_count, revivals_told}

-- the account of a run, where the version of its scenario has one
abbrev pub IsAccountTold : Version → Setup → List Row → Option Account → Type 0
IsAccountTold One s rows account = account ≡ None
IsAccountTold Two s rows account = account ≡ None
IsAccountTold Three s rows account = account ≡ None
IsAccountTold Four s rows account = (told : Account) × ((account ≡ Some told) × IsAccountOf told s rows)

-- what is told by an account
pub record IsByAccount (account : Account) (t : Told) : Type 0 where
  pub crashes : t.crashes.now ≡ account.crashes.items
  pub suspicions : t.suspicions ≡ account.suspicions
  pub healthy_suspicions : t.healthy_suspicions ≡ account.healthy_suspicions
  pub confirmations : t.confirmations ≡ account.confirmations
  pub healthy_confirmations : t.healthy_confirmations ≡ account.healthy_confirmations
  pub confirmed : t.confirmed.now ≡ account.confirmed.items
  pub revivals : t.revivals ≡ account.revivals

-- and what is told without one
pub record IsByRows (s : Setup) (rows : List Row) (t : Told) : Type 0 where
  pub crashes : t.crashes.now ≡ crashes_of rows
  pub suspicions : t.suspicions ≡ false_positives ways_to_depart what.Suspect rows
  pub healthy_suspicions : t.healthy_suspicions ≡ healthy_false_positives s ways_to_depart what.Suspect rows
  pub confirmations : t.confirmations ≡ false_positives ways_to_depart what.Confirm rows
  pub healthy_confirmations : t.healthy_confirmations ≡ healthy_false_positives s ways_to_depart what.Confirm rows
  pub confirmed : t.confirmed.now ≡ false_positives_of what.Confirm rows
  pub revivals : t.revivals ≡ revivals rows

-- this is what the report tells of a run with these rows
pub record IsToldIn (version : Version) (s : Setup) (rows : List Row) (t : Told) : Type 0 where
  pub crashes : t.crashes.now ≡ crashes_told version rows
  pub suspicions : t.suspicions ≡ claim_count version what.Suspect rows
  pub healthy_suspicions : t.healthy_suspicions ≡ healthy_count version s what.Suspect rows
  pub confirmations : t.confirmations ≡ claim_count version what.Confirm rows
  pub healthy_confirmations : t.healthy_confirmations ≡ healthy_count version s what.Confirm rows
  pub confirmed : t.confirmed.now ≡ claims_told version what.Confirm rows
  pub revivals : t.revivals ≡ revivals_told version rows
