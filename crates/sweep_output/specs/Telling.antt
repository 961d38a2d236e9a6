-- How the settings of a sweep are printed, and the page of them.
use Rattle.std.specs.Prelude.{◌≡◌, ℕ, Bool, List, Option, false, true, map}
use Rattle.sweep_plan.specs.Sweep.{Sweep}
use Rattle.goals.specs.Answers.{AddsAnswer}
use Rattle.goals.specs.Front.{is_on_front}
use Rattle.goals.specs.Wants.{IsBestOf}
use Rattle.goals.specs.declared.want.Want.{Want}
use Rattle.sweep_output.specs.Objects.{TellsObjects}
use Rattle.figures.specs.declared.column_set.ColumnSet.{ColumnSet}
use Rattle.figures.specs.declared.summary.SettingSummary.{SettingSummary}
use Rattle.sweep.specs.Texts.{settings_text}
use Rattle.sweep_page.specs.Page.{page_text}
use Rattle.ticks.specs.declared.tick.Tick.{Tick}

-- how settings are printed: as JSON, an object a line, or in aligned columns, with what they answer; these are the columns
abbrev pub TellsSettings : Bool → ColumnSet → Sweep → List Want → List SettingSummary → List ℕ → Type 0
TellsSettings true columns plan wants settings text = TellsObjects columns plan.swept_keys wants settings text
TellsSettings false columns plan wants settings text = AddsAnswer plan.swept_keys wants settings (settings_text columns plan settings) text

-- which settings no other beats
abbrev pub front_of : List SettingSummary → List Bool
front_of settings = map (λ setting. is_on_front setting settings) settings

-- The text is the page of these settings of a sweep of the scenario with this name, made by a release, where this is wanted: it answers by the same best setting as
-- the lines and the objects. Where it is known how long a tick lasts, it shows its times in units, too.
pub record IsSweepPage (time : Option Tick) (name release : List ℕ) (plan : Sweep) (wants : List Want) (settings : List SettingSummary) (text : List ℕ) : Type 0 where
  pub best : Option ℕ
  pub chosen : IsBestOf wants settings best
  pub shown : text ≡ page_text time name release plan wants best settings (front_of settings)
