-- By what putting shards together, or making a page of them, may fail, and what holds where memory was refused.
use Rattle.std.proofs.Common.{◌≡◌, ◌⊎◌, ℕ, List, Option, Some, None, inl, inr, sym, subst}
use Rattle.std.specs.Borrow.{Bor}
use Rattle.clap.specs.Words.{Text}
use Rattle.sweep_plan.specs.Sweep.{Sweep}
use Rattle.figures.specs.declared.summary.SettingSummary.{SettingSummary}
use Rattle.files.specs.Files.{KnownFile, Making}
use Rattle.command_line.specs.declared.joining.JoinWords.{JoinWords}
use Rattle.command_line.specs.declared.paging.PageWords.{PageWords}
use Rattle.command_line.specs.declared.failure.Failure.{Failure}
use Rattle.command_line.specs.declared.failure.Failure.TheVariants as failing
use Rattle.scenario_files.specs.Shelves.{Shelf, IsUnread}
use Rattle.shard_merge.specs.declared.fault.JoinFault.{JoinFault}
use Rattle.shard_merge.specs.declared.fault.JoinFault.TheVariants as fault
use Rattle.table_merge.specs.declared.fault.MergeFault.{MergeFault}
use Rattle.table_merge.specs.declared.fault.MergeFault.TheVariants as merge
use Rattle.join_command.specs.Outcomes.{FailsToGather, FailsToStore, FailsToStoreAsked, FailsToStoreBoth, FailsToStorePage, IsWant, JoinFails, PageFails, merge_failure, shard_failure}

-- the failures by which either may end
abbrev pub EndsJoin : Failure → Type 0
EndsJoin (failing.File name) = Unit {0}
EndsJoin (failing.Shards cause) = Unit {0}
EndsJoin (failing.Run cause) = Unit {0}
EndsJoin failing.Memory = Unit {0}
EndsJoin _ = ⊥

by_fault : (names : List (Bor Text)) (otherwise : Bor Text) (f : JoinFault) → EndsJoin (shard_failure names otherwise f)
by_fault names otherwise (fault.NoShard at) = tt
by_fault names otherwise (fault.Other at) = tt
by_fault names otherwise (fault.Doubled at) = tt
by_fault names otherwise (fault.Torn at) = tt
by_fault names otherwise (fault.Older at) = tt
by_fault names otherwise (fault.Missing number) = tt
by_fault names otherwise fault.Write = tt
by_fault names otherwise fault.Memory = tt

by_merging : (names : List (Bor Text)) (otherwise : Bor Text) (f : MergeFault) → EndsJoin (merge_failure names otherwise f)
by_merging names otherwise (merge.Shards cause) = by_fault names otherwise cause
by_merging names otherwise (merge.Overlap at other) = tt
by_merging names otherwise (merge.Gap below above) = tt
by_merging names otherwise merge.TooMany = tt

by_reading : (known : KnownFile) (file : Text) (f : Failure) → IsUnread known file f → EndsJoin f
by_reading known file (failing.File name) h = tt
by_reading known file failing.Memory h = tt
by_reading known file (failing.Shards cause) h = absurd h
by_reading known file (failing.Run cause) h = absurd h
by_reading known file failing.Usage h = absurd h
by_reading known file failing.Preset h = absurd h
by_reading known file (failing.NoItem key) h = absurd h
by_reading known file (failing.Rule rule) h = absurd h
by_reading known file (failing.Mistaken rule) h = absurd h
by_reading known file (failing.Setting rule swept_keys) h = absurd h
by_reading known file failing.Workers h = absurd h
by_reading known file (failing.Division cause) h = absurd h
by_reading known file failing.Output h = absurd h
by_reading known file (failing.Drive cause) h = absurd h

by_gathering : (before : Shelf) (names : List (Bor Text)) (otherwise : Bor Text) (f : Failure) → FailsToGather before names otherwise f → EndsJoin f
by_gathering before names otherwise f (inl read) = by_reading (before read.1.now) read.1.now f read.3
by_gathering before names otherwise f (inr shards) = subst EndsJoin (sym shards.2.1) (by_merging names otherwise shards.2.0)

by_storing : (Refused : Type 0) (before after : Shelf) (making : Making) (source name : Text) (text : List ℕ) (f : Failure) → FailsToStore Refused before after making source name text f → EndsJoin f
by_storing Refused before after making source name text (failing.File named) h = tt
by_storing Refused before after making source name text failing.Memory h = tt
by_storing Refused before after making source name text (failing.Shards cause) h = absurd h
by_storing Refused before after making source name text (failing.Run cause) h = tt
by_storing Refused before after making source name text failing.Usage h = absurd h
by_storing Refused before after making source name text failing.Preset h = absurd h
by_storing Refused before after making source name text (failing.NoItem key) h = absurd h
by_storing Refused before after making source name text (failing.Rule rule) h = absurd h
by_storing Refused before after making source name text (failing.Mistaken rule) h = absurd h
by_storing Refused before after making source name text (failing.Setting rule swept_keys) h = absurd h
by_storing Refused before after making source name text failing.Workers h = absurd h
by_storing Refused before after making source name text (failing.Division cause) h = absurd h
by_storing Refused before after making source name text failing.Output h = absurd h
by_storing Refused before after making source name text (failing.Drive cause) h = absurd h

by_storing_both : (Refused : Type 0) (before after : Shelf) (making : Making) (source name page : Text) (table shown : List ℕ) (f : Failure)
    → FailsToStoreBoth Refused before after making source name page table shown f → EndsJoin f
by_storing_both Refused before after making source name page table shown (failing.File named) h = tt
by_storing_both Refused before after making source name page table shown failing.Memory h = tt
by_storing_both Refused before after making source name page table shown (failing.Shards cause) h = absurd h
by_storing_both Refused before after making source name page table shown (failing.Run cause) h = tt
by_storing_both Refused before after making source name page table shown failing.Usage h = absurd h
by_storing_both Refused before after making source name page table shown failing.Preset h = absurd h
by_storing_both Refused before after making source name page table shown (failing.NoItem key) h = absurd h
by_storing_both Refused before after making source name page table shown (failing.Rule rule) h = absurd h
by_storing_both Refused before after making source name page table shown (failing.Mistaken rule) h = absurd h
by_storing_both Refused before after making source name page table shown (failing.Setting rule swept_keys) h = absurd h
by_storing_both Refused before after making source name page table shown failing.Workers h = absurd h
by_storing_both Refused before after making source name page table shown (failing.Division cause) h = absurd h
by_storing_both Refused before after making source name page table shown failing.Output h = absurd h
by_storing_both Refused before after making source name page table shown (failing.Drive cause) h = absurd h

by_want : (before after : Shelf) (f : Failure) → IsWant before after f → EndsJoin f
by_want before after f want = subst EndsJoin (sym want.0) tt

module _ (Refused : Type 0) (release : List ℕ) (before after : Shelf) (making : Making) (join : JoinWords) (plan : Sweep) (settings : List SettingSummary) (table : List ℕ) where
  by_storing_asked : (asked : Option (Bor Text)) (f : Failure) → FailsToStoreAsked asked Refused release before after making join plan settings table f → EndsJoin f
  by_storing_asked None f h = by_storing Refused before after making _ _ table f h
  by_storing_asked (Some page) f (inl want) = by_want before after f want
  by_storing_asked (Some page) f (inr h) = by_storing_both Refused before after making _ _ page.now table h.0 f h.2

  none_changed : (asked : Option (Bor Text)) → FailsToStoreAsked asked Refused release before after making join plan settings table failing.Memory → after ≡ before
  none_changed None h = h
  none_changed (Some page) (inl want) = want.1
  none_changed (Some page) (inr h) = h.2

-- putting shards together ends by one of these
pub join_ends : (Refused : Type 0) (before after : Shelf) (making : Making) (join : JoinWords) (f : Failure) → JoinFails Refused before after making join f → EndsJoin f
join_ends Refused before after making join f (inl refused) = by_gathering before join.files.items join.table f refused.cause
join_ends Refused before after making join f (inr none) = by none.failed
  where
    by : IsWant before after f ⊎ FailsToStoreAsked join.page Refused none.release before after making join none.plan none.settings none.table f → EndsJoin f
    by (inl want) = by_want before after f want
    by (inr failed) = by_storing_asked Refused none.release before after making join none.plan none.settings none.table join.page f failed

-- where memory was refused, no file has changed
pub join_memory : (Refused : Type 0) (before after : Shelf) (making : Making) (join : JoinWords) → JoinFails Refused before after making join failing.Memory → after ≡ before
join_memory Refused before after making join (inl refused) = refused.same
join_memory Refused before after making join (inr none) = by none.failed
  where
    by : IsWant before after failing.Memory ⊎ FailsToStoreAsked join.page Refused none.release before after making join none.plan none.settings none.table failing.Memory → after ≡ before
    by (inl want) = want.1
    by (inr failed) = none_changed Refused none.release before after making join none.plan none.settings none.table join.page failed

-- and so does making a page
pub page_ends : (Refused : Type 0) (before after : Shelf) (making : Making) (page : PageWords) (f : Failure) → PageFails Refused before after making page f → EndsJoin f
page_ends Refused before after making page f (inl refused) = by_gathering before page.files.items page.page f refused.cause
page_ends Refused before after making page f (inr none) = by none.failed
  where
    by : FailsToStorePage Refused none.release before after making page none.plan none.settings f → EndsJoin f
    by (inl want) = by_want before after f want
    by (inr failed) = by_storing Refused before after making _ _ failed.0 f failed.2

pub page_memory : (Refused : Type 0) (before after : Shelf) (making : Making) (page : PageWords) → PageFails Refused before after making page failing.Memory → after ≡ before
page_memory Refused before after making page (inl refused) = refused.same
page_memory Refused before after making page (inr none) = by none.failed
  where
    by : FailsToStorePage Refused none.release before after making page none.plan none.settings failing.Memory → after ≡ before
    by (inl want) = want.1
    by (inr failed) = failed.2
