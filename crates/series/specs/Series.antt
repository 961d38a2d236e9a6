-- The series of a run: what is gathered of its rows as they come.
use Rattle.std.specs.Prelude.{◌≡◌, ℕ, ◌*◌, ◌<◌, ◌≤◌, Bool, ◌&&◌, ◌==◌, min, if◌then◌else◌, Option, Some, None, List, filter_map, count_by, length}
use Rattle.scenario.specs.Setup.{Setup, member_count}
use Rattle.trace.specs.declared.row.What.{What}
use Rattle.trace.specs.declared.row.What.TheVariants as what
use Rattle.trace.specs.declared.row.Row.{Row}
use Rattle.reports.specs.Rows.{has_kind, tells_lost}
use Rattle.series.specs.declared.series.Series.{Series}
use Rattle.series.specs.Spans.{span_width, span_at}
use Rattle.series.specs.Grid.{count_at}
use Rattle.series.specs.Changes.{Change, AreFlowsOf, AreOpen}
use Rattle.series.specs.Stories.{AreStoriesOf}
use Rattle.series.specs.Deaths.{AreDeathsOf, AreMembers}

-- the row is of this kind of message and in this span, and, of what was lost, likewise
abbrev pub sends_in : Setup → What → ℕ → Row → Bool
sends_in s kind span row = has_kind kind row && span == span_at s row.at

abbrev pub loses_in : Setup → What → ℕ → Row → Bool
loses_in s kind span row = tells_lost kind row && span == span_at s row.at

-- what a row reports of the local health counter of its member, in a span (Lifeguard's LHA-Probe); a counter never passes 16
abbrev pub health_change : ℕ → Row → Option Change
health_change span row = if has_kind what.Health row then Some (record { member = row.member; state = min 16 row.value; span = span }) else None

-- what it reports in the scenario's spans
abbrev pub health_told : Setup → Row → Option Change
health_told s row = health_change (span_at s row.at) row

-- the changes of members' health
abbrev pub healths_of : Setup → List Row → List Change
healths_of s rows = filter_map (health_told s) rows

-- the place of a kind of message among those that are counted
abbrev pub kind_place : What → Option ℕ
kind_place what.Join = Some 0
kind_place what.Welcome = Some 1
kind_place what.Ping = Some 2
kind_place what.PingReq = Some 3
kind_place what.Ack = Some 4
kind_place what.Nack = Some 5
kind_place what.Bye = Some 6
kind_place what.Gossip = Some 7
kind_place what.Call = Some 8
kind_place what.Answer = Some 9
kind_place what.Push = Some 10
kind_place what.Pull = Some 11
kind_place what.Reconnect = Some 12
kind_place _ = None

-- what is gathered is what these rows report
pub record AreSeriesOf (s : Setup) (series : Series) (rows : List Row) : Type 0 where
  pub counted : series.rows ≡ length rows
  pub width : series.spans.width ≡ span_width s
  pub sent : (kind : What) (place span : ℕ) → kind_place kind ≡ Some place → span < 120 → count_at series.sent place span ≡ count_by (sends_in s kind span) rows
  pub lost : (kind : What) (place span : ℕ) → kind_place kind ≡ Some place → span < 120 → count_at series.lost place span ≡ count_by (loses_in s kind span) rows
  pub health : AreFlowsOf 17 series.health (healths_of s rows)
  pub ready : (member : ℕ) → member < member_count s → AreOpen member 17 series.health
  pub sent_room : 13 * 120 ≤ length series.sent.counts.items
  pub lost_room : 13 * 120 ≤ length series.lost.counts.items
  pub told : length series.stories.items ≡ member_count s
  pub stories : AreStoriesOf s series.stories.items rows
  pub deaths : AreDeathsOf series.deaths rows
  pub deaths_room : AreMembers (member_count s) series.deaths
