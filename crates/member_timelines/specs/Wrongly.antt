-- Members that were wrongly confirmed to have failed.
use Rattle.std.specs.Prelude.{ℕ, Bool, false, ◌==◌, nat_lt, List, map, count_by}
use Rattle.std.specs.Option.{option_map_or}
use Rattle.std.specs.List.{range_with_len}
use Rattle.schema.specs.declared.schema.Version.{Version}
use Rattle.schema.specs.declared.schema.Version.TheVariants.{One, Two, Three, Four}
use Rattle.scenario.specs.Setup.{Setup, member_count}
use Rattle.trace.specs.declared.row.What.TheVariants as what
use Rattle.trace.specs.declared.row.Row.{Row}
use Rattle.reports.specs.declared.false_positives.FalsePositive.{FalsePositive}
use Rattle.reports.specs.Failures.{false_positives_of}
use Rattle.reports.specs.Absences.{with_others_left, wrongs_of}

-- the claim is about the member
abbrev pub is_claim_about : ℕ → FalsePositive → Bool
is_claim_about member claim = option_map_or (λ about. about == member) claim.about false

-- the false deaths that a report of a version counts, in the order of the rows
abbrev pub wrongly_by : Version → List Row → List FalsePositive
wrongly_by One rows = false_positives_of what.Confirm rows
wrongly_by Two rows = false_positives_of what.Confirm rows
wrongly_by Three rows = false_positives_of what.Confirm rows
wrongly_by Four rows = wrongs_of what.Confirm (map with_others_left rows)

-- the same of the scenario's version
abbrev pub wrongly_of : Setup → List Row → List FalsePositive
wrongly_of s rows = wrongly_by s.version rows

-- how often the member was wrongly confirmed to have failed
abbrev pub times_out : Setup → List Row → ℕ → ℕ
times_out s rows member = count_by (is_claim_about member) (wrongly_of s rows)

-- how many members were
abbrev pub count_out : Setup → List Row → ℕ
count_out s rows = count_by (λ member. nat_lt 0 (times_out s rows member)) (range_with_len 0 (member_count s))
