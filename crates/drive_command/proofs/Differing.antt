-- That the names of a drive's files are different ones.
use Rattle.std.proofs.Common.{◌≡◌, ◌≢◌, Option, Some, None, IfSome}
use Rattle.clap.specs.Words.{Text}
use Rattle.files.specs.Files.{DifferEach}
use Rattle.scenario_files.specs.Shelves.{Shelf}
use Rattle.scenario_files.proofs.Closed.{always, if_known}
use Rattle.drive_command.specs.Making.{DifferAsked}

pub none_differs : (name : Text) → ◌≢◌ {A = Option Text} None (Some name)
none_differs name is = cc

pub some_differs : (a b : Text) → a ≢ b → Some a ≢ Some b
some_differs a b differs is = let same : a ≡ b = cc in differs same

pub differ_alone : (before : Shelf) (trace : Text) → DifferAsked before trace None None
differ_alone before trace = record {
  report_from_trace = always (before trace) (none_differs trace);
  page_from_trace = always (before trace) (none_differs trace);
  page_from_report = tt;
}

pub differ_report : (before : Shelf) (trace report : Text) → IfSome (before trace) (λ _. report ≢ trace) → DifferAsked before trace (Some report) None
differ_report before trace report apart = record {
  report_from_trace = if_known (before trace) apart (some_differs report trace);
  page_from_trace = always (before trace) (none_differs trace);
  page_from_report = always (before report) (none_differs report);
}

pub differ_page : (before : Shelf) (trace page : Text) → IfSome (before trace) (λ _. page ≢ trace) → DifferAsked before trace None (Some page)
differ_page before trace page apart = record {
  report_from_trace = always (before trace) (none_differs trace);
  page_from_trace = if_known (before trace) apart (some_differs page trace);
  page_from_report = tt;
}

pub differ_both : (before : Shelf) (trace report page : Text) → DifferEach before trace report page → DifferAsked before trace (Some report) (Some page)
differ_both before trace report page differ = record {
  report_from_trace = if_known (before trace) differ.second_from_first (some_differs report trace);
  page_from_trace = if_known (before trace) differ.third_from_first (some_differs page trace);
  page_from_report = if_known (before report) differ.third_from_second (some_differs page report);
}
