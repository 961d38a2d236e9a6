-- The cells of a run's line behind the values of its setting, and which of them its metadata determines.
use Rattle.std.specs.Prelude.{◌≡◌, ◌<◌, ◌^◌, ◌+◌, ℕ, Bool, Option, Some, None, List, [], ◌∷◌, All, length, count_by, get_or, is_some, min, max, unwrap_or}
use Rattle.std.specs.List.{filter_map, reduce}
use Rattle.std.specs.Option.{ForSome, option_map}
use Rattle.incident_figures.specs.declared.run.RunCounts.{RunCounts}
use Rattle.incident_figures.specs.declared.run.RunIncidents.{RunIncidents}
use Rattle.figures.specs.declared.column_set.ColumnSet.{ColumnSet}
use Rattle.figures.specs.declared.column_set.ColumnSet.TheVariants.{First, WithRevived, WithIncidents}
use Rattle.figures.specs.declared.note_words.MetadataFault.{MetadataFault}
use Rattle.figures.specs.declared.note_words.MetadataFault.TheVariants.{Word, Memory}
use Rattle.figures.specs.declared.run.RunFigures.{RunFigures}
use Rattle.figures.specs.declared.crashes.CrashTimes.{CrashTimes}
use Rattle.figures.specs.Lines.{cell, figures_in_order, run_line}
use Rattle.figures.specs.Notes.{AreWordsOf, Note}
use Rattle.figures.specs.Settings.{suspected_in, confirmed_in, last_in}

-- some member confirmed the crash
abbrev pub is_confirmed : CrashTimes → Bool
is_confirmed crash = is_some crash.confirmed

-- what a note and the figures both say of incidents: alarms, deaths, and deaths of members that were well
abbrev pub counts_kept : RunCounts → ℕ × ℕ × ℕ
counts_kept c = (c.alarms, c.deaths, c.deaths_well)

abbrev pub counts_told : RunIncidents → ℕ × ℕ × ℕ
counts_told run = (run.alarms, run.deaths, run.deaths_well)

-- the figures may be those of a run with this metadata: what both say is the same
pub record AgreesWith (n : Note) (run : RunFigures) : Type 0 where
  pub crashed : run.crashes ≡ length n.crashes
  pub found : run.detected ≡ count_by is_confirmed n.crashes
  pub first_suspicion : run.suspect_least ≡ reduce min (filter_map suspected_in n.crashes)
  pub first_confirmation : run.confirm_least ≡ reduce min (filter_map confirmed_in n.crashes)
  pub late_confirmation : run.confirm_greatest ≡ reduce max (filter_map confirmed_in n.crashes)
  pub latest : run.last_greatest ≡ reduce max (filter_map last_in n.crashes)
  pub false_claims : run.false_suspect ≡ n.false_suspect
  pub thrown : run.thrown_out ≡ n.thrown_out
  pub returned : run.revived ≡ n.revived
  pub messages : run.sent ≡ n.sent
  pub counted : option_map counts_told run.incidents ≡ option_map counts_kept n.incidents

-- the seed of a run and its figures, in the order of their columns
abbrev pub cells_in_order : ColumnSet → ℕ → RunFigures → List (Option ℕ)
cells_in_order columns seed run = Some seed ∷ figures_in_order columns run

-- the number of the cell at a place, 0 where there is none
abbrev pub number_in : List (Option ℕ) → ℕ → ℕ
number_in cells place = unwrap_or (get_or cells place None) 0

-- the place of the first figure of the protocol among the cells
abbrev pub protocol_at : ColumnSet → ℕ
protocol_at First = 13
protocol_at WithRevived = 14
protocol_at WithIncidents = 19

-- the incidents of a run with these counts and these cells
abbrev pub incidents_taken : Option RunCounts → List (Option ℕ) → Option RunIncidents
incidents_taken (Some c) cells = Some (record { alarms = c.alarms; deaths = c.deaths; deaths_well = c.deaths_well; restarts = number_in cells 17; whole = get_or cells 18 None })
incidents_taken None cells = None

-- what the metadata doesn't say of a run is taken from these cells
pub record TakesCells (columns : ColumnSet) (n : Note) (cells : List (Option ℕ)) (run : RunFigures) : Type 0 where
  pub rows_in : run.rows ≡ number_in cells 1
  pub suspect_in : run.false_suspect_healthy ≡ number_in cells 9
  pub confirm_in : run.false_confirm ≡ number_in cells 10
  pub confirm_healthy_in : run.false_confirm_healthy ≡ number_in cells 11
  pub accuse_in : run.accuse ≡ number_in cells (protocol_at columns)
  pub refute_in : run.refute ≡ number_in cells (protocol_at columns + 1)
  pub fail_in : run.fail ≡ number_in cells (protocol_at columns + 2)
  pub health_in : run.health ≡ number_in cells (protocol_at columns + 3)
  pub lost_in : run.lost ≡ number_in cells (protocol_at columns + 5)
  pub incidents_in : run.incidents ≡ incidents_taken n.incidents cells

-- these are the cells of a run with this metadata; its seed may be known
pub record SayCells (columns : ColumnSet) (known : Option ℕ) (n : Note) (cells : List (Option ℕ)) : Type 0 where
  pub seed : ℕ
  pub seeded : ForSome known (λ k. seed ≡ k)
  pub run : RunFigures
  pub agrees : AgreesWith n run
  pub told : cells ≡ cells_in_order columns seed run

-- The text is what the line of a run with this metadata has behind the values of its setting: its seed, which may be known, and its figures, each of which
-- is at most 2^63 - 1.
pub record AreCellsOf (columns : ColumnSet) (known : Option ℕ) (n : Note) (text : List ℕ) : Type 0 where
  pub seed : ℕ
  pub seeded : ForSome known (λ k. seed ≡ k)
  pub run : RunFigures
  pub agrees : AgreesWith n run
  pub small : All (λ f. ForSome f (λ m. m < 2 ^ 63)) (cells_in_order columns seed run)
  pub written : text ≡ run_line columns [] seed run

-- words that are no cells, or memory was refused
abbrev pub RefusesCells : List (List ℕ) → MetadataFault → Type 0
RefusesCells words Word = (fs : List (Option ℕ)) → ¬ (AreWordsOf cell words fs)
RefusesCells words Memory = Unit {0}
