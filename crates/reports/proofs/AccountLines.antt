-- The report of version 4, from what is kept of a run.
use Rattle.std.proofs.Common.{◌≡◌, List, map, refl, append_assoc}
use Rattle.schema.specs.declared.schema.Version.{Version}
use Rattle.schema.specs.declared.schema.Version.TheVariants.{One, Two, Three, Four}
use Rattle.scenario.specs.Setup.{Setup}
use Rattle.trace.specs.declared.row.Row.{Row}
use Rattle.reports.specs.declared.account.Account.{Account}
use Rattle.reports.specs.Accounts.{IsAccountOf}
use Rattle.reports.specs.AccountText.{account_text}
use Rattle.reports.specs.FalsePositives.{ways_to_depart}
use Rattle.reports.specs.Absences.{with_others_left}
use Rattle.reports.specs.Text.{report_lines, lines_of_version, lines_with_returns}

pub account_lines : (s : Setup) (rows : List Row) (a : Account) → IsAccountOf a s rows → account_text s rows a ≡ lines_with_returns s rows (map with_others_left rows)
account_lines s rows a is =
    let crashes = is.crashes in
    let leaves = is.leaves in
    let returns = is.returns in
    let suspicions = is.suspicions in
    let healthy_suspicions = is.healthy_suspicions in
    let confirmations = is.confirmations in
    let healthy_confirmations = is.healthy_confirmations in
    let revivals = is.revivals in
    let whole = is.whole in
    let alarms = is.alarms in
    let deaths = is.deaths in
    let members = is.members in
    let well = is.well in
    simp (crashes, leaves, returns, suspicions, healthy_suspicions, confirmations, healthy_confirmations, revivals, whole, alarms, deaths, members, well, append_assoc) refl

-- the other versions
pub plain_lines : (s : Setup) (rows : List Row) → (s.version ≡ Four → ⊥) → report_lines s.version ways_to_depart s rows ≡ lines_of_version s.version s rows
plain_lines s rows other = by s.version other
  where
    by : (v : Version) → (v ≡ Four → ⊥) → report_lines v ways_to_depart s rows ≡ lines_of_version v s rows
    by One other = refl
    by Two other = refl
    by Three other = refl
    by Four other = absurd (other refl)
