-- What putting shards together, or making a page of them, has done once it ends, and why it wasn't done.
use Rattle.std.specs.Prelude.{◌≡◌, ◌⊎◌, ℕ, List, [], Option, Some, None, Vec, false, get_or, slice_get}
use Rattle.std.specs.Borrow.{Bor}
use Rattle.std.specs.Io.KnownBytes.{Appends, Keeps}
use Rattle.std.specs.List.{AllZip}
use Rattle.std.specs.declared.alloc.Global.{Global}
use Rattle.clap.specs.Words.{Text}
use Rattle.base.specs.declared.fault.Fault.TheVariants as cause
use Rattle.trace.specs.Sinks.{AppendsBeginning}
use Rattle.sweep_plan.specs.Sweep.{Sweep}
use Rattle.figures.specs.declared.column_set.ColumnSet.{ColumnSet}
use Rattle.figures.specs.declared.summary.SettingSummary.{SettingSummary}
use Rattle.sweep_output.specs.Telling.{IsSweepPage, TellsSettings}
use Rattle.files.specs.Files.{Making, Holds, HoldsNow, KeepsOthers, KeepsAllOthers, CannotMake, CannotMakeSecond, AreThreeFiles}
use Rattle.command_line.specs.Words.{AsksForJoin, AsksForPage}
use Rattle.command_line.specs.declared.joining.JoinWords.{JoinWords}
use Rattle.command_line.specs.declared.paging.PageWords.{PageWords}
use Rattle.command_line.specs.declared.failure.Failure.{Failure}
use Rattle.command_line.specs.declared.failure.Failure.TheVariants.{File, Shards, Run, Memory}
use Rattle.command_line.specs.declared.failure.ShardFault.TheVariants as shard
use Rattle.shard_merge.specs.declared.fault.JoinFault.{JoinFault}
use Rattle.shard_merge.specs.declared.fault.JoinFault.TheVariants as fault
use Rattle.table_merge.specs.Merged.{Joins}
use Rattle.table_merge.specs.Reasons.{IsReason}
use Rattle.table_merge.specs.declared.fault.MergeFault.{MergeFault}
use Rattle.table_merge.specs.declared.fault.MergeFault.TheVariants as merge
use Rattle.scenario_files.specs.Shelves.{Shelf, IsRefused, IsUnread, HoldsBeginning}

-- the name at a place among these; the other one where there is none
abbrev pub name_at : List (Bor Text) → Bor Text → ℕ → Bor Text
name_at names otherwise place = get_or names place otherwise

-- what a page calls the scenario: the name that is given, or that of the source
abbrev pub scenario_name : Option (Bor Text) → Bor Text → Bor Text
scenario_name None source = source
scenario_name (Some name) source = name

-- ---- what was done

-- the files of these names hold these texts
abbrev pub HoldTexts : Shelf → List (Bor Text) → List (Vec ℕ Global) → Type 0
HoldTexts before names texts = AllZip (λ name held. Holds (before name.now) held.items) names texts

-- the texts of the files are the shards of this sweep, and its settings came to this; the table of the whole was appended
pub record GathersSettings (before : Shelf) (names : List (Bor Text)) (old new : Option (List ℕ)) (plan : Sweep) (columns : ColumnSet) (settings : List SettingSummary) : Type 0 where
  pub texts : List (Vec ℕ Global)
  pub held : HoldTexts before names texts
  pub joined : Joins texts old new plan columns settings

-- the file of this name, which isn't the source, holds this, and no other file has changed
pub record Stores (before after : Shelf) (making : Making) (source name : Text) (text : List ℕ) : Type 0 where
  pub apart : making.are_one source name ≡ false
  pub stored : HoldsNow (before name) (after name) text
  pub others : KeepsOthers before after name

-- the files of these names, which are two and not the source, hold a table and a page, and no other file has changed
pub record StoresBoth (before after : Shelf) (making : Making) (source name page : Text) (table shown : List ℕ) : Type 0 where
  pub apart : AreThreeFiles making source name page
  pub stored : HoldsNow (before name) (after name) table
  pub paged : HoldsNow (before page) (after page) shown
  pub others : KeepsAllOthers before after name page

-- the same of what was appended
abbrev pub AppendsBoth : Option (List ℕ) → Option (List ℕ) → List ℕ → Option (List ℕ) → Option (List ℕ) → List ℕ → Type 0
AppendsBoth old new table page_old page_new shown = Appends old new table × Appends page_old page_new shown

-- the text is a page of the settings, which calls the scenario as the words say
abbrev pub IsJoinPage : List ℕ → JoinWords → Sweep → List SettingSummary → List ℕ → Type 0
IsJoinPage release join plan settings text = IsSweepPage join.tick (scenario_name join.name (name_at join.files.items join.table 0)).now release plan join.wants.items settings text

-- the table and a page of the settings were stored
abbrev pub StoresPaged : List ℕ → Text → Shelf → Shelf → Making → JoinWords → Sweep → List SettingSummary → List ℕ → Type 0
StoresPaged release page before after making join plan settings table = (shown : List ℕ) × IsJoinPage release join plan settings shown
    × StoresBoth before after making (name_at join.files.items join.table 0).now join.table.now page table shown

-- the table was stored, with a page where one is asked for
abbrev pub StoresAsked : Option (Bor Text) → List ℕ → Shelf → Shelf → Making → JoinWords → Sweep → List SettingSummary → List ℕ → Type 0
StoresAsked None release before after making join plan settings table =
    Stores before after making (name_at join.files.items join.table 0).now join.table.now table
StoresAsked (Some page) release before after making join plan settings table = StoresPaged release page.now before after making join plan settings table

-- the shards in the files were put together: their table was stored, with a page where one is asked for, and this is the text of the settings
pub record JoinsAll (release : List ℕ) (before after : Shelf) (making : Making) (join : JoinWords) (lines : List ℕ) : Type 0 where
  pub plan : Sweep
  pub columns : ColumnSet
  pub settings : List SettingSummary
  pub table : List ℕ
  pub gathered : GathersSettings before join.files.items (Some []) (Some table) plan columns settings
  pub text : TellsSettings join.jsonl columns plan join.wants.items settings lines
  pub stored : StoresAsked join.page release before after making join plan settings table

-- shards that the words ask to join were
abbrev pub DoesJoin : List ℕ → List Text → Shelf → Shelf → Making → List ℕ → Type 0
DoesJoin release words before after making lines = (join : JoinWords) × AsksForJoin words join × JoinsAll release before after making join lines

-- the text is a page of the settings, which calls the scenario as the words say
abbrev pub IsShardsPage : List ℕ → PageWords → Sweep → List SettingSummary → List ℕ → Type 0
IsShardsPage release page plan settings text = IsSweepPage page.tick (scenario_name page.name (name_at page.files.items page.page 0)).now release plan [] settings text

-- a page of the settings was stored
abbrev pub StoresPage : List ℕ → Shelf → Shelf → Making → PageWords → Sweep → List SettingSummary → Type 0
StoresPage release before after making page plan settings = (shown : List ℕ) × IsShardsPage release page plan settings shown
    × Stores before after making (name_at page.files.items page.page 0).now page.page.now shown

-- the shards in the files were put together, and a page of the settings was stored; their table was not
pub record PagesAll (release : List ℕ) (before after : Shelf) (making : Making) (page : PageWords) : Type 0 where
  pub plan : Sweep
  pub columns : ColumnSet
  pub settings : List SettingSummary
  pub gathered : GathersSettings before page.files.items None None plan columns settings
  pub stored : StoresPage release before after making page plan settings

-- the page that the words ask for was made
abbrev pub DoesPage : List ℕ → List Text → Shelf → Shelf → Making → Type 0
DoesPage release words before after making = (page : PageWords) × AsksForPage words page × PagesAll release before after making page

-- ---- what was not done

-- a file was not read: it can't be, or memory was refused
abbrev pub FailsToRead : Shelf → List (Bor Text) → Failure → Type 0
FailsToRead before names failure = (place : ℕ) × (name : Bor Text) × (slice_get names place ≡ Some name) × IsUnread (before name.now) name.now failure

-- which failure says why texts aren't the shards of one sweep: a file by its name; a table in memory fails by want of that
abbrev pub shard_failure : List (Bor Text) → Bor Text → JoinFault → Failure
shard_failure names otherwise (fault.NoShard at) = Shards (shard.NoShard (name_at names otherwise at))
shard_failure names otherwise (fault.Other at) = Shards (shard.Other (name_at names otherwise at))
shard_failure names otherwise (fault.Doubled at) = Shards (shard.Doubled (name_at names otherwise at))
shard_failure names otherwise (fault.Torn at) = Shards (shard.Torn (name_at names otherwise at))
shard_failure names otherwise (fault.Older at) = Shards (shard.Older (name_at names otherwise at))
shard_failure names otherwise (fault.Missing number) = Shards (shard.Missing number)
shard_failure names otherwise fault.Write = Memory
shard_failure names otherwise fault.Memory = Memory

-- and which says why their seeds don't follow one another: by the file whose seeds another has, or by the one behind a gap
abbrev pub merge_failure : List (Bor Text) → Bor Text → MergeFault → Failure
merge_failure names otherwise (merge.Shards cause) = shard_failure names otherwise cause
merge_failure names otherwise (merge.Overlap at other) = Shards (shard.Doubled (name_at names otherwise at))
merge_failure names otherwise (merge.Gap below above) = Shards (shard.Other (name_at names otherwise above))
merge_failure names otherwise merge.TooMany = Shards (shard.Other (name_at names otherwise 1))

-- the texts aren't tables of one sweep, and this is why; or memory was refused
abbrev pub RefusesShards : List (Bor Text) → Bor Text → List (Vec ℕ Global) → Failure → Type 0
RefusesShards names otherwise texts failure = (f : MergeFault) × (failure ≡ merge_failure names otherwise f) × IsReason texts f

-- reading a file failed, or putting the texts together
abbrev pub FailsToGather : Shelf → List (Bor Text) → Bor Text → Failure → Type 0
FailsToGather before names otherwise failure =
    FailsToRead before names failure ⊎ ((texts : List (Vec ℕ Global)) × HoldTexts before names texts × RefusesShards names otherwise texts failure)

-- A text was not stored whole: its file can't be made, memory was refused, or a file refused a write, as `Refused` says, and has a beginning of it.
abbrev pub FailsToStore : Type 0 → Shelf → Shelf → Making → Text → Text → List ℕ → Failure → Type 0
FailsToStore Refused before after making source name text (File named) = (named.now ≡ name) × CannotMake making source name × (after ≡ before)
FailsToStore Refused before after making source name text Memory = after ≡ before
FailsToStore Refused before after making source name text (Run cause.Write) =
    Refused × (making.are_one source name ≡ false) × HoldsBeginning (before name) (after name) text × KeepsOthers before after name
FailsToStore Refused before after making source name text _ = ⊥

-- a beginning was appended: of a table, and nothing of a page; or the whole table, and a beginning of the page
abbrev pub BeginsBoth : Option (List ℕ) → Option (List ℕ) → List ℕ → Option (List ℕ) → Option (List ℕ) → List ℕ → Type 0
BeginsBoth old new table page_old page_new shown =
    (AppendsBeginning old new table × Keeps page_old page_new) ⊎ (Appends old new table × AppendsBeginning page_old page_new shown)

-- the files hold that
pub record BreaksOffBoth (before after : Shelf) (making : Making) (source name page : Text) (table shown : List ℕ) : Type 0 where
  pub apart : AreThreeFiles making source name page
  pub written : (HoldsBeginning (before name) (after name) table × HoldsNow (before page) (after page) [])
      ⊎ (HoldsNow (before name) (after name) table × HoldsBeginning (before page) (after page) shown)
  pub others : KeepsAllOthers before after name page

-- a table and a page were not stored whole: a file can't be made, memory was refused, or a file refused a write and it broke off
abbrev pub FailsToStoreBoth : Type 0 → Shelf → Shelf → Making → Text → Text → Text → List ℕ → List ℕ → Failure → Type 0
FailsToStoreBoth Refused before after making source name page table shown (File named) =
    (((named.now ≡ name) × CannotMake making source name) ⊎ ((named.now ≡ page) × CannotMakeSecond making source name page)) × (after ≡ before)
FailsToStoreBoth Refused before after making source name page table shown Memory = after ≡ before
FailsToStoreBoth Refused before after making source name page table shown (Run cause.Write) = Refused × BreaksOffBoth before after making source name page table shown
FailsToStoreBoth Refused before after making source name page table shown _ = ⊥

-- memory was refused to a text, and no file has changed
abbrev pub IsWant : Shelf → Shelf → Failure → Type 0
IsWant before after failure = (failure ≡ Memory) × (after ≡ before)

-- the table and a page of the settings were not stored whole: memory was refused to the page, or so
abbrev pub FailsToStorePaged : Type 0 → List ℕ → Text → Shelf → Shelf → Making → JoinWords → Sweep → List SettingSummary → List ℕ → Failure → Type 0
FailsToStorePaged Refused release page before after making join plan settings table failure = IsWant before after failure
    ⊎ ((shown : List ℕ) × IsJoinPage release join plan settings shown
    × FailsToStoreBoth Refused before after making (name_at join.files.items join.table 0).now join.table.now page table shown failure)

abbrev pub FailsToStoreAsked : Option (Bor Text) → Type 0 → List ℕ → Shelf → Shelf → Making → JoinWords → Sweep → List SettingSummary → List ℕ → Failure → Type 0
FailsToStoreAsked None Refused release before after making join plan settings table failure =
    FailsToStore Refused before after making (name_at join.files.items join.table 0).now join.table.now table failure
FailsToStoreAsked (Some page) Refused release before after making join plan settings table failure =
    FailsToStorePaged Refused release page.now before after making join plan settings table failure

-- the shards were put together, but memory was refused to the text of the settings, or their table was not stored
pub record StoresNone (Refused : Type 0) (before after : Shelf) (making : Making) (join : JoinWords) (failure : Failure) : Type 0 where
  pub release : List ℕ
  pub plan : Sweep
  pub columns : ColumnSet
  pub settings : List SettingSummary
  pub table : List ℕ
  pub gathered : GathersSettings before join.files.items (Some []) (Some table) plan columns settings
  pub failed : IsWant before after failure ⊎ FailsToStoreAsked join.page Refused release before after making join plan settings table failure

-- why shards were not put together: the first cause
abbrev pub JoinFails : Type 0 → Shelf → Shelf → Making → JoinWords → Failure → Type 0
JoinFails Refused before after making join failure =
    IsRefused before after (FailsToGather before join.files.items join.table failure) ⊎ StoresNone Refused before after making join failure

-- why shards that the words ask to join were not put together
abbrev pub DoesNotJoin : Type 0 → List Text → Shelf → Shelf → Making → Failure → Type 0
DoesNotJoin Refused words before after making failure = (join : JoinWords) × AsksForJoin words join × JoinFails Refused before after making join failure

-- no page of the settings was stored whole: memory was refused to it, or so
abbrev pub FailsToStorePage : Type 0 → List ℕ → Shelf → Shelf → Making → PageWords → Sweep → List SettingSummary → Failure → Type 0
FailsToStorePage Refused release before after making page plan settings failure = IsWant before after failure
    ⊎ ((shown : List ℕ) × IsShardsPage release page plan settings shown
    × FailsToStore Refused before after making (name_at page.files.items page.page 0).now page.page.now shown failure)

-- the shards were put together, but no page of their settings was stored
pub record PagesNone (Refused : Type 0) (before after : Shelf) (making : Making) (page : PageWords) (failure : Failure) : Type 0 where
  pub release : List ℕ
  pub plan : Sweep
  pub columns : ColumnSet
  pub settings : List SettingSummary
  pub gathered : GathersSettings before page.files.items None None plan columns settings
  pub failed : FailsToStorePage Refused release before after making page plan settings failure

-- why no page was made of shards: the first cause
abbrev pub PageFails : Type 0 → Shelf → Shelf → Making → PageWords → Failure → Type 0
PageFails Refused before after making page failure =
    IsRefused before after (FailsToGather before page.files.items page.page failure) ⊎ PagesNone Refused before after making page failure

-- why the page that the words ask for was not made
abbrev pub DoesNotPage : Type 0 → List Text → Shelf → Shelf → Making → Failure → Type 0
DoesNotPage Refused words before after making failure = (page : PageWords) × AsksForPage words page × PageFails Refused before after making page failure
