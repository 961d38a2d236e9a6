-- What the files of a table and of a page hold that were made at once.
use Rattle.std.proofs.Common.{◌≡◌, ◌≢◌, ◌⊎◌, ℕ, List, [], Option, Some, IfSome, inl, inr}
use Rattle.std.specs.Io.KnownBytes.{Appends, Keeps}
use Rattle.clap.specs.Words.{Text}
use Rattle.toml.specs.Data.{Data}
use Rattle.base.specs.declared.fault.Fault.{Fault}
use Rattle.files.specs.Files.{HoldsNow, ClosesAs, KeepsOthers, KeepsAllOthers}
use Rattle.trace.specs.Sinks.{AppendsBeginning}
use Rattle.trace.proofs.Beginnings.{Appends-none}
use Rattle.command_line.specs.declared.words.SweepWords.{SweepWords}
use Rattle.scenario_files.specs.Shelves.{Shelf, HoldsBeginning}
use Rattle.scenario_files.proofs.Pairs.{first_begins, first_holds, others_kept, second_begins, second_holds}
use Rattle.sweep_command.specs.Outcomes.{BeginsPaged, BreaksOffPaged, IsCaused, IsPageOfRuns, MakesPaged, StoresPaged}
use Rattle.sweep_command.specs.Runs.{runs_table}

module _ (sweep : SweepWords) (start made between end : Shelf) (page : Text) (apart : IfSome (start sweep.table.now) (λ _. page ≢ sweep.table.now))
    (both_made : KeepsAllOthers start made sweep.table.now page) (table_closed : KeepsOthers made between sweep.table.now) (page_closed : KeepsOthers between end page)
    (old new page_old page_new : Option (List ℕ))
    (empty : HoldsNow (start sweep.table.now) (made sweep.table.now) []) (fresh : IfSome (start sweep.table.now) (λ _. old ≡ Some []))
    (page_empty : HoldsNow (start page) (made page) []) (page_fresh : IfSome (start page) (λ _. page_old ≡ Some []))
    (closed : ClosesAs (made sweep.table.now) (between sweep.table.now) new) (page_ends : ClosesAs (between page) (end page) page_new) where
  kept : KeepsAllOthers start end sweep.table.now page
  kept = others_kept sweep.table.now page start made between end apart both_made table_closed page_closed

  table_holds : (text : List ℕ) → Appends old new text → HoldsNow (start sweep.table.now) (end sweep.table.now) text
  table_holds = first_holds sweep.table.now page start made between end apart both_made table_closed page_closed old new empty fresh closed

  page_holds : (text : List ℕ) → Appends page_old page_new text → HoldsNow (start page) (end page) text
  page_holds = second_holds sweep.table.now page start made between end apart both_made table_closed page_closed page_old page_new page_empty page_fresh page_ends

  table_begins : (text : List ℕ) → AppendsBeginning old new text → HoldsBeginning (start sweep.table.now) (end sweep.table.now) text
  table_begins = first_begins sweep.table.now page start made between end apart both_made table_closed page_closed old new empty fresh closed

  page_begins : (text : List ℕ) → AppendsBeginning page_old page_new text → HoldsBeginning (start page) (end page) text
  page_begins = second_begins sweep.table.now page start made between end apart both_made table_closed page_closed page_old page_new page_empty page_fresh page_ends

  module _ (tree : Data) (mark : List ℕ) where
    -- the sweep was done
    pub paged_stored : (release lines : List ℕ) → MakesPaged tree mark sweep release old new page_old page_new lines → StoresPaged tree mark sweep release page start end lines
    paged_stored release lines makes = record {
      made = makes.makes.made;
      are = makes.makes.are;
      stored = table_holds (runs_table sweep.plan.until tree mark sweep.plan makes.makes.made) makes.makes.written;
      settings = makes.settings;
      all = makes.makes.all;
      summed = makes.makes.summed;
      text = makes.text;
      shown = makes.paged.0;
      is = makes.paged.1;
      paged = page_holds makes.paged.0 makes.paged.2;
      others = kept;
    }

    -- it broke off
    pub paged_begun : (Refused : Type 0) (cause : Fault) → BeginsPaged tree mark sweep old new page_old page_new → IsCaused Refused tree sweep.plan cause
        → BreaksOffPaged Refused tree mark sweep page start end cause
    paged_begun Refused cause begins caused = record { made = begins.made; are = begins.are; written = by begins.written; others = kept; caused = caused }
      where
        text : List ℕ
        text = runs_table sweep.plan.until tree mark sweep.plan begins.made

        by : (AppendsBeginning old new text × Keeps page_old page_new) ⊎ (Appends old new text × ((page_text : List ℕ) × IsPageOfRuns sweep begins.made page_text × AppendsBeginning page_old page_new page_text))
            → (HoldsBeginning (start sweep.table.now) (end sweep.table.now) text × HoldsNow (start page) (end page) [])
            ⊎ (HoldsNow (start sweep.table.now) (end sweep.table.now) text × ((page_text : List ℕ) × IsPageOfRuns sweep begins.made page_text × HoldsBeginning (start page) (end page) page_text))
        by (inl none) = inl (table_begins text none.0, page_holds [] (Appends-none page_old page_new none.1))
        by (inr some) = inr (table_holds text some.0, (some.1.0, some.1.1, page_begins some.1.0 some.1.2))
