-- What the files hold of a text, or of a table and a page.
use Rattle.std.proofs.Common.{◌≡◌, ◌≢◌, ◌<◌, ◌+◌, ◌∙◌, ◌⊎◌, ℕ, List, [], Option, Some, Result, Ok, Err, IfSome, IfErr, OnErr, OnOk, false, arith, inl, inr, sym, subst}
use Rattle.std.specs.Io.KnownBytes.{Appends}
use Rattle.clap.specs.Words.{Text}
use Rattle.base.specs.declared.fault.Fault.{Fault}
use Rattle.base.specs.declared.fault.Fault.TheVariants as cause
use Rattle.trace.specs.Sinks.{AppendsBeginning, failure_if_stopped}
use Rattle.trace.proofs.Beginnings.{Appends-none}
use Rattle.files.specs.Files.{HoldsNow, ClosesAs, KeepsOthers, KeepsAllOthers, AreThreeFiles, Making}
use Rattle.command_line.specs.declared.failure.Failure.{Failure}
use Rattle.command_line.specs.declared.failure.Failure.TheVariants.{Run}
use Rattle.scenario_files.specs.Shelves.{Shelf, HoldsBeginning}
use Rattle.scenario_files.specs.Told.{run_result}
use Rattle.scenario_files.proofs.Held.{holds_beginning, holds_text}
use Rattle.scenario_files.proofs.Pairs.{first_begins, first_holds, others_kept, second_begins, second_holds}
use Rattle.join_command.specs.Outcomes.{AppendsBoth, BeginsBoth, FailsToStore, FailsToStoreBoth, Stores, StoresBoth}

-- what a success gives, from what holds of it
pub each_on_ok : {T E A B : Type 0} (r : Result T E) → OnOk r A → (A → B) → OnOk r B
each_on_ok (Ok x) a turn = turn a
each_on_ok (Err e) a turn = tt

-- the same of an error
pub each_on_err : {T E A B : Type 0} (r : Result T E) → OnErr r A → (A → B) → OnErr r B
each_on_err (Ok x) a turn = tt
each_on_err (Err e) a turn = turn a

-- what holds where a run was done holds where it is handed on as done
pub handed_on_ok : {T : Type 0} (P : Type 0) (outcome : Result T Fault) (handed : Result T Failure) → handed ≡ run_result outcome → OnOk outcome P → OnOk handed P
handed_on_ok {T} P outcome handed is done = subst (λ r. OnOk r P) (sym is) (go outcome done)
  where
    go : (r : Result T Fault) → OnOk r P → OnOk (run_result r) P
    go (Ok x) h = h
    go (Err e) h = tt

-- where files count as many more as there were failures, an error is a write that one refused
pub is_refused : {T : Type 0} (outcome : Result T Fault) (before after counted : ℕ) → after ≡ before + counted → counted ≡ failure_if_stopped outcome
    → IfErr outcome (λ f. f ≡ cause.Write) → IfErr outcome (λ f. (f ≡ cause.Write) × (before < after))
is_refused (Ok x) before after counted more fails causes = tt
is_refused (Err f) before after counted more fails causes = (causes, omega (arith, more, fails))

module _ (source name : Text) (making : Making) (start made end : Shelf) (old new : Option (List ℕ))
    (apart : making.are_one source name ≡ false) (file_made : KeepsOthers start made name) (file_closed : KeepsOthers made end name)
    (empty : HoldsNow (start name) (made name) []) (fresh : IfSome (start name) (λ _. old ≡ Some []))
    (closes : ClosesAs (made name) (end name) new) where
  others : KeepsOthers start end name
  others other differs = file_closed other differs ∙ file_made other differs

  pub stored : (text : List ℕ) → Appends old new text → Stores start end making source name text
  stored text written = record {
    apart = apart;
    stored = holds_text (start name) (made name) (end name) old new text empty fresh written closes;
    others = others;
  }

  pub begun : (Refused : Type 0) (text : List ℕ) (f : Fault) → f ≡ cause.Write → Refused → AppendsBeginning old new text → FailsToStore Refused start end making source name text (Run f)
  begun Refused text f is refused written =
      subst (λ g. FailsToStore Refused start end making source name text (Run g)) (sym is) (
        refused,
        apart,
        holds_beginning (start name) (made name) (end name) old new text empty fresh written closes,
        others,
      )

module _ (source name page : Text) (making : Making) (start made between end : Shelf) (files : AreThreeFiles making source name page)
    (differ : IfSome (start name) (λ _. page ≢ name)) (both_made : KeepsAllOthers start made name page) (first_closed : KeepsOthers made between name)
    (second_closed : KeepsOthers between end page) (old new page_old page_new : Option (List ℕ))
    (empty : HoldsNow (start name) (made name) []) (fresh : IfSome (start name) (λ _. old ≡ Some []))
    (page_empty : HoldsNow (start page) (made page) []) (page_fresh : IfSome (start page) (λ _. page_old ≡ Some []))
    (closed : ClosesAs (made name) (between name) new) (page_ends : ClosesAs (between page) (end page) page_new) (table shown : List ℕ) where
  kept : KeepsAllOthers start end name page
  kept = others_kept name page start made between end differ both_made first_closed second_closed

  table_holds : Appends old new table → HoldsNow (start name) (end name) table
  table_holds = first_holds name page start made between end differ both_made first_closed second_closed old new empty fresh closed table

  page_holds : (text : List ℕ) → Appends page_old page_new text → HoldsNow (start page) (end page) text
  page_holds = second_holds name page start made between end differ both_made first_closed second_closed page_old page_new page_empty page_fresh page_ends

  pub both_stored : AppendsBoth old new table page_old page_new shown → StoresBoth start end making source name page table shown
  both_stored written = record { apart = files; stored = table_holds written.0; paged = page_holds shown written.1; others = kept }

  both_written : BeginsBoth old new table page_old page_new shown
      → (HoldsBeginning (start name) (end name) table × HoldsNow (start page) (end page) []) ⊎ (HoldsNow (start name) (end name) table × HoldsBeginning (start page) (end page) shown)
  both_written (inl none) = inl (
    first_begins name page start made between end differ both_made first_closed second_closed old new empty fresh closed table none.0,
    page_holds [] (Appends-none page_old page_new none.1),
  )
  both_written (inr some) = inr (
    table_holds some.0,
    second_begins name page start made between end differ both_made first_closed second_closed page_old page_new page_empty page_fresh page_ends shown some.1,
  )

  pub both_begun : (Refused : Type 0) (f : Fault) → f ≡ cause.Write → Refused → BeginsBoth old new table page_old page_new shown
      → FailsToStoreBoth Refused start end making source name page table shown (Run f)
  both_begun Refused f is refused written =
      subst (λ g. FailsToStoreBoth Refused start end making source name page table shown (Run g)) (sym is)
      (refused, record { apart = files; written = both_written written; others = kept })
