-- The report of version 4, by what is kept of a run.
use Rattle.std.specs.Prelude.{ℕ, List, ◌++◌, codes, flat_map}
use Rattle.schema.specs.declared.schema.Version.TheVariants.{Four}
use Rattle.scenario.specs.Setup.{Setup}
use Rattle.trace.specs.Text.{word_of}
use Rattle.trace.specs.declared.row.What.TheVariants as what
use Rattle.trace.specs.declared.row.Row.{Row}
use Rattle.reports.specs.declared.account.Account.{Account}
use Rattle.reports.specs.Text.{count_line, size_lines, crash_line, leave_line, return_line, latencies_line, false_line, whole_line, incident_line, protocol_lines, message_line, message_kinds}

-- the lines of crashes, leaves and restarts, and that of the latencies
abbrev pub absence_lines : Setup → Account → List ℕ
absence_lines s a =
    flat_map (crash_line s) a.crashes.items ++ flat_map (leave_line s) a.leaves.items ++ flat_map (return_line s) a.returns.items ++ latencies_line a.crashes.items

-- all lines
abbrev pub account_text : Setup → List Row → Account → List ℕ
account_text s rows a =
    size_lines s rows ++ absence_lines s a
    ++ false_line (word_of what.Suspect) a.suspicions a.healthy_suspicions ++ false_line (word_of what.Confirm) a.confirmations a.healthy_confirmations
    ++ count_line (codes "revived") a.revivals ++ whole_line a.whole ++ incident_line a.alarms a.deaths a.members a.well
    ++ protocol_lines rows ++ flat_map (message_line rows) (message_kinds Four)
