-- The files of a drive: what is known of them once they are made, and once they are closed.
use Rattle.std.specs.Prelude.{◌≡◌, ◌≢◌, ◌+◌, ℕ, List, [], Option, Some, None, IfSome}
use Rattle.clap.specs.Words.{Text}
use Rattle.files.specs.Files.{KnownFile, Making, HoldsNow, ClosesAs, KeepsOthers}
use Rattle.trace.specs.declared.sink.Put.{Put}
use Rattle.trace.specs.Writers.{writer_under, put_failures}
use Rattle.command_line.specs.declared.failure.Failure.{Failure}
use Rattle.command_line.specs.declared.failure.Failure.TheVariants.{File, Memory}
use Rattle.scenario_files.specs.Shelves.{Shelf}
use Rattle.drive_command.specs.declared.making.Made.{Made}
use Rattle.drive_command.specs.Outcomes.{IsUnmade, KeepsRest}

-- ---- what is made

-- an empty file was made, and nothing was written to it
pub record IsFresh {M : Type 0} (contents : M → Option (List ℕ)) (old new : KnownFile) (put : Put M) : Type 0 where
  pub empty : HoldsNow old new []
  pub made : IfSome old (λ _. contents (writer_under put) ≡ Some [])
  pub unfailed : put_failures put ≡ 0

-- the same of the file of this name, where one is given
abbrev pub IsFreshAsked : {M : Type 0} → (M → Option (List ℕ)) → Shelf → Shelf → Option Text → Option (Put M) → Type 0
IsFreshAsked contents before after None None = Unit {0}
IsFreshAsked contents before after None (Some put) = ⊥
IsFreshAsked contents before after (Some name) None = ⊥
IsFreshAsked contents before after (Some name) (Some put) = IsFresh contents (before name) (after name) put

-- of the names no two are one, where something is known of the earlier
pub record DifferAsked (before : Shelf) (trace : Text) (report page : Option Text) : Type 0 where
  pub report_from_trace : IfSome (before trace) (λ _. report ≢ Some trace)
  pub page_from_trace : IfSome (before trace) (λ _. page ≢ Some trace)
  pub page_from_report : IfSome report (λ name. IfSome (before name) (λ _. page ≢ Some name))

-- the files of a trace, a report and a page, where they are asked for, were made, and no other has changed
pub record AreMade {M : Type 0} (contents : M → Option (List ℕ)) (before after : Shelf) (trace : Text) (report page : Option Text) (made : Made M) : Type 0 where
  pub trace_made : IsFresh contents (before trace) (after trace) made.trace
  pub report_made : IsFreshAsked contents before after report made.report
  pub page_made : IsFreshAsked contents before after page made.page
  pub differ : DifferAsked before trace report page
  pub others : KeepsRest before after trace report page

-- why they were not made; no file has changed
abbrev pub MakeFails : Shelf → Shelf → Making → Text → Text → Option Text → Option Text → Failure → Type 0
MakeFails before after making file trace report page (File name) = IsUnmade making file trace report page name.now × (after ≡ before)
MakeFails before after making file trace report page Memory = after ≡ before
MakeFails before after making file trace report page _ = ⊥

-- ---- what is closed

-- the file of this name was closed, where it is given and was made
abbrev pub ClosesAsked : {M : Type 0} → (M → Option (List ℕ)) → Shelf → Shelf → Option Text → Option (Put M) → Type 0
ClosesAsked contents before after None put = after ≡ before
ClosesAsked contents before after (Some name) None = after ≡ before
ClosesAsked contents before after (Some name) (Some put) = ClosesAs (before name) (after name) (contents (writer_under put)) × KeepsOthers before after name

-- its failures are counted then
abbrev pub failures_asked : {M : Type 0} → Option Text → Option (Put M) → ℕ
failures_asked None put = 0
failures_asked (Some name) None = 0
failures_asked (Some name) (Some put) = put_failures put

-- the files of a trace, a report and a page were closed, the trace's first and the page's last
pub record ClosesAll {M : Type 0} (contents : M → Option (List ℕ)) (before after : Shelf) (trace : Text) (report page : Option Text) (made : Made M) : Type 0 where
  pub one : Shelf
  pub two : Shelf
  pub trace_closed : ClosesAs (before trace) (one trace) (contents (writer_under made.trace))
  pub others : KeepsOthers before one trace
  pub report_closed : ClosesAsked contents one two report made.report
  pub page_closed : ClosesAsked contents two after page made.page

abbrev pub failures_closed : {M : Type 0} → Option Text → Option Text → Made M → ℕ
failures_closed report page made = put_failures made.trace + failures_asked report made.report + failures_asked page made.page
