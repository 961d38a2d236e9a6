-- The runs of a sweep: each setting with each seed, in order.
use Rattle.std.specs.Prelude.{◌≡◌, ◌⊎◌, ℕ, ◌-◌, List, [], ◌∷◌, Option, Some, None, Result, Ok, Err, codes, map, slice_get, take, drop}
use Rattle.std.specs.List.{AllZip, flat_map, range_with_len}
use Rattle.toml.specs.Data.{Data, get}
use Rattle.written_values.specs.Values.{SaysTickIn}
use Rattle.written_values.specs.declared.fault.ValueFault.{ValueFault}
use Rattle.scenario.specs.Setup.{Setup}
use Rattle.text_reader.specs.Answers.{AnswersDocument}
use Rattle.trace.specs.declared.row.Row.{Row}
use Rattle.member_laws.specs.Runs.{IsRunOf}
use Rattle.figures.specs.Notes.{Note, note_of}
use Rattle.sweep_plan.specs.Sweep.{Sweep, seed_count}
use Rattle.sweep_plan.specs.Settings.{settings_of}
use Rattle.sweep_plan.specs.Document.{with_values}
use Rattle.sweep_plan.specs.Asked.{IsSweepOf}
use Rattle.sweep_plan.specs.declared.seeds.Seeds.{Seeds}
use Rattle.sweep_plan.specs.declared.choice.Choice.{Choice}

-- a run that a sweep asks for: the values of its setting, and its seed, which is the text's own where none is asked for
pub record Planned : Type 0 where
  pub setting : List Choice
  pub seed : Option ℕ

abbrev pub planned_as : List Choice → Option ℕ → Planned
planned_as chosen seeded = record { setting = chosen; seed = seeded }

-- words ask for the sweep
pub record IsAskedFor (sweep : Sweep) : Type 0 where
  pub swept_keys : List (List ℕ)
  pub seeds : Option (List ℕ)
  pub until : Option ℕ
  pub asked : IsSweepOf swept_keys seeds until sweep

-- the seeds with which each setting runs, from the first to the last
abbrev pub seeds_of : Option Seeds → List (Option ℕ)
seeds_of None = None ∷ []
seeds_of (Some r) = map Some (range_with_len r.first (seed_count (Some r)))

-- each setting with each seed; a setting's seeds come one after the other
unfoldable pub runs_of : Sweep → List Planned
runs_of sweep = flat_map (λ chosen. map (planned_as chosen) (seeds_of sweep.seeds)) (settings_of sweep.swept_keys)

-- the runs from one number, counted from 0, to before another
abbrev pub runs_between : Sweep → ℕ → ℕ → List Planned
runs_between sweep from till = take (till - from) (drop from (runs_of sweep))

-- the run of this number, counted from 0
abbrev pub IsRunAt : Sweep → ℕ → Planned → Type 0
IsRunAt sweep number p = slice_get (runs_of sweep) number ≡ Some p

-- the document of a run: the text's, with the values of its setting and its seed
abbrev pub document_of : Data → Planned → Data
document_of tree p = with_values tree p.setting p.seed

-- it is answered so: by a scenario, or by the lowest rule that it breaks
abbrev pub IsAnswered : Data → Planned → Result Setup ℕ → Type 0
IsAnswered tree p answer = AnswersDocument (document_of tree p) answer

-- How many microseconds a tick of a document has: what the document says. It says a thousand where it has no key for that, and where that key says none
-- that a tick may have, which no text of a sweep does.
abbrev pub IsTickOf : Data → ℕ → Type 0
IsTickOf tree tick = SaysTickIn (get (codes "tick") tree) (Ok tick) ⊎ ((fault : ValueFault) × SaysTickIn (get (codes "tick") tree) (Err fault) × (tick ≡ 1000))

-- a run that was made: its setting, its scenario, the rows of its trace, and how many microseconds its ticks have
pub record Made : Type 0 where
  pub setting : List Choice
  pub scenario : Setup
  pub rows : List Row
  pub tick : ℕ

-- it is the run that was asked for, of a document
pub record IsMadeAs (tree : Data) (p : Planned) (m : Made) : Type 0 where
  pub same : m.setting ≡ p.setting
  pub accepted : IsAnswered tree p (Ok m.scenario)
  pub run : IsRunOf m.scenario m.rows
  pub timed : IsTickOf tree m.tick

-- what its setting keeps of it
abbrev pub noted : Made → Note
noted m = note_of m.scenario m.tick m.rows

-- these are the runs from one number to before another
abbrev pub AreMadeBetween : Data → Sweep → ℕ → ℕ → List Made → Type 0
AreMadeBetween tree sweep from till made = AllZip (IsMadeAs tree) (runs_between sweep from till) made
