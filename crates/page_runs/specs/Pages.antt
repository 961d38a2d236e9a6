-- The page of a run, and how far it was written.
use Rattle.std.specs.Prelude.{◌≡◌, ◌⊎◌, ℕ, List, Option, length}
use Rattle.std.specs.Ordering.{nat_cmp, ordering_then}
use Rattle.std.specs.declared.cmp.Ordering.{Ordering}
use Rattle.std.specs.Io.KnownBytes.{Appends, Keeps}
use Rattle.std.specs.List.Sorted.{IsPermutation, IsSorted}
use Rattle.scenario.specs.Setup.{Setup}
use Rattle.trace.specs.Sinks.{AppendsBeginning}
use Rattle.trace.specs.Text.{trace_text}
use Rattle.trace.specs.declared.row.Row.{Row}
use Rattle.reports.specs.Text.{report_text}
use Rattle.member_laws.specs.Runs.{IsRunOf}
use Rattle.member_timelines.specs.Choice.{choices}
use Rattle.member_timelines.specs.declared.chosen.Chosen.{Chosen}
use Rattle.run_page.specs.Page.{page_text}
use Rattle.ticks.specs.declared.tick.Tick.{Tick}

-- Members with a lane are compared item by item: how often they were wrongly confirmed to have failed, the most often first; when
-- they depart, the earliest first; how often they were accused, the most often first; their numbers.
abbrev pub lane_cmp : Chosen → Chosen → Ordering
lane_cmp a b =
    ordering_then (nat_cmp a.below_most b.below_most)
    (ordering_then (nat_cmp a.departs b.departs) (ordering_then (nat_cmp a.below_most_suspected b.below_most_suspected) (nat_cmp a.member b.member)))

-- A text is the page of a run with these rows, under this name and by this release of the program: its lanes are all that there
-- are, in their order, and its times are given by how long a tick lasts, where that is known.
pub record IsPageOf (time : Option Tick) (name : List ℕ) (s : Setup) (rows : List Row) (release text : List ℕ) : Type 0 where
  pub lanes : List Chosen
  pub all : IsPermutation (choices s rows) lanes
  pub ordered : IsSorted lane_cmp lanes
  pub is : text ≡ page_text time name s rows lanes release

-- the page was appended to what was held
abbrev pub WritesPage : Option Tick → List ℕ → List ℕ → Setup → List Row → Option (List ℕ) → Option (List ℕ) → Type 0
WritesPage time name release s rows old new = (text : List ℕ) × IsPageOf time name s rows release text × Appends old new text

-- nothing was, or a beginning of the page
abbrev pub BeginsPage : Option Tick → List ℕ → List ℕ → Setup → List Row → Option (List ℕ) → Option (List ℕ) → Type 0
BeginsPage time name release s rows old new = Keeps old new ⊎ ((text : List ℕ) × IsPageOf time name s rows release text × AppendsBeginning old new text)

-- The trace, the report and the page of the scenario's run were appended, each to the bytes of its sink, and all are of the same
-- rows; the run has so many.
pub record WritesRunAndPage (time : Option Tick) (name release : List ℕ) (s : Setup) (trace_old trace_new report_old report_new page_old page_new : Option (List ℕ)) (count : ℕ) : Type 0 where
  pub rows : List Row
  pub run : IsRunOf s rows
  pub counted : count ≡ length rows
  pub trace : Appends trace_old trace_new (trace_text s rows)
  pub report : Appends report_old report_new (report_text s rows)
  pub page : WritesPage time name release s rows page_old page_new

-- The report comes after the trace, and the page after the report: a beginning of the trace was appended and nothing else; or the
-- whole trace and a beginning of the report; or both whole, and of the page nothing or a beginning.
pub record BeginsRunAndPage (time : Option Tick) (name release : List ℕ) (s : Setup) (trace_old trace_new report_old report_new page_old page_new : Option (List ℕ)) : Type 0 where
  pub rows : List Row
  pub run : IsRunOf s rows
  pub written : (AppendsBeginning trace_old trace_new (trace_text s rows) × Keeps report_old report_new × Keeps page_old page_new)
      ⊎ ((Appends trace_old trace_new (trace_text s rows) × AppendsBeginning report_old report_new (report_text s rows) × Keeps page_old page_new)
      ⊎ (Appends trace_old trace_new (trace_text s rows) × Appends report_old report_new (report_text s rows) × BeginsPage time name release s rows page_old page_new))
