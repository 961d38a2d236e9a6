-- What came of a whole sweep with a page, as what is asked for.
use Rattle.std.proofs.Common.{◌≡◌, ℕ, List, Option, Some, None, Bor, Result, IfOk, IfErr, OnOk, sym, subst, inl, inr}
use Rattle.std.specs.Io.KnownBytes.{Keeps}
use Rattle.std.proofs.lemmas.Result.{IfErr-weaker}
use Rattle.toml.specs.Data.{Data}
use Rattle.files.specs.Files.{AreThreeFiles, Making}
use Rattle.trace.proofs.Beginnings.{beginning-whole}
use Rattle.figures.specs.declared.summary.SettingSummary.{SettingSummary}
use Rattle.command_line.specs.declared.words.SweepWords.{SweepWords}
use Rattle.command_line.specs.declared.failure.Failure.{Failure}
use Rattle.scenario_files.specs.Shelves.{Shelf}
use Rattle.sweep_command.specs.Outcomes.{AreApart, BeginsPage, BeginsPaged, PagedFails, StoreFails, StoresAsked, StoresPaged, StoresPlain, TableFails}
use Rattle.sweep_command.specs.Runs.{BeginsAllRuns, MakesRuns, runs_table}

-- what is asked for is stored, with a page or without one
module _ {T E : Type 0} (bytes : T → List ℕ) (tree : Data) (mark : List ℕ) (sweep : SweepWords) (release : List ℕ) (before after : Shelf) (outcome : Result T E)
    (asked : Option (Bor (List ℕ))) where
  pub paged_asked : (page : Bor (List ℕ)) → asked ≡ Some page → IfOk outcome (λ lines. StoresPaged tree mark sweep release page.now before after (bytes lines))
      → IfOk outcome (λ lines. StoresAsked asked tree mark sweep release before after (bytes lines))
  paged_asked page is stores = subst (λ (o : Option (Bor (List ℕ))). IfOk outcome (λ lines. StoresAsked o tree mark sweep release before after (bytes lines))) (sym is) stores

  pub plain_asked : asked ≡ None → IfOk outcome (λ lines. StoresPlain sweep.shard tree mark sweep before after (bytes lines))
      → IfOk outcome (λ lines. StoresAsked asked tree mark sweep release before after (bytes lines))
  plain_asked none stores = subst (λ (o : Option (Bor (List ℕ))). IfOk outcome (λ lines. StoresAsked o tree mark sweep release before after (bytes lines))) (sym none) stores

-- or not
module _ {T : Type 0} (Refused : Type 0) (tree : Data) (mark : List ℕ) (sweep : SweepWords) (before after : Shelf) (making : Making) (outcome : Result T Failure) where
  pub paged_failed : (page : Bor (List ℕ)) → sweep.page ≡ Some page → IfErr outcome (PagedFails Refused tree mark page.now before after making sweep)
      → IfErr outcome (StoreFails sweep.page Refused tree mark before after making sweep)
  paged_failed page is fails =
      subst (λ (o : Option (Bor (List ℕ))). IfErr outcome (StoreFails o Refused tree mark before after making sweep)) (sym is)
      (IfErr-weaker outcome _ _ (λ failure h. h) fails)

  pub plain_failed : sweep.page ≡ None → IfErr outcome (TableFails Refused tree mark before after making sweep) → IfErr outcome (StoreFails sweep.page Refused tree mark before after making sweep)
  plain_failed none fails =
      subst (λ (o : Option (Bor (List ℕ))). IfErr outcome (StoreFails o Refused tree mark before after making sweep)) (sym none)
      (IfErr-weaker outcome _ _ (λ failure h. h) fails)

-- the files are different ones
pub paged_apart : {T E : Type 0} (outcome : Result T E) (making : Making) (file table : List ℕ) (asked : Option (Bor (List ℕ))) (page : Bor (List ℕ)) → asked ≡ Some page
    → OnOk outcome (AreThreeFiles making file table page.now) → OnOk outcome (AreApart asked making file table)
paged_apart outcome making file table asked page is apart = subst (λ (o : Option (Bor (List ℕ))). OnOk outcome (AreApart o making file table)) (sym is) apart

pub plain_apart : {T E : Type 0} (outcome : Result T E) (making : Making) (file table : List ℕ) (asked : Option (Bor (List ℕ))) → asked ≡ None
    → OnOk outcome (AreApart None making file table) → OnOk outcome (AreApart asked making file table)
plain_apart outcome making file table asked none apart = subst (λ (o : Option (Bor (List ℕ))). OnOk outcome (AreApart o making file table)) (sym none) apart

-- what was begun of both where the table broke off, and where it is whole
module _ (tree : Data) (mark : List ℕ) (sweep : SweepWords) (release : List ℕ) (old new page_old page_new : Option (List ℕ)) where
  pub table_broke : BeginsAllRuns sweep.plan.until tree mark sweep.plan old new → Keeps page_old page_new → BeginsPaged tree mark sweep old new page_old page_new
  table_broke begins keeps = record { made = begins.made; are = begins.are; written = inl (begins.written, keeps) }

  pub page_broke : (settings all : List SettingSummary) → all ≡ settings → MakesRuns sweep.plan.until tree mark sweep.plan old new settings → BeginsPage sweep release all page_old page_new
      → BeginsPaged tree mark sweep old new page_old page_new
  page_broke settings all same makes begins = by (subst (λ (l : List SettingSummary). BeginsPage sweep release l page_old page_new) same begins)
    where
      by : BeginsPage sweep release settings page_old page_new → BeginsPaged tree mark sweep old new page_old page_new
      by (inl keeps) = record { made = makes.made; are = makes.are; written = inl (beginning-whole old new (runs_table sweep.plan.until tree mark sweep.plan makes.made) makes.written, keeps) }
      by (inr some) = record { made = makes.made; are = makes.are; written = inr (makes.written, (some.0, (release, settings, makes.summed, some.1), some.2)) }
