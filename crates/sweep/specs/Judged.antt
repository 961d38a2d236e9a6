-- Which documents of a sweep keep the format's rules.
use Rattle.std.specs.Prelude.{◌≢◌, ℕ, Ok, Err, All, take}
use Rattle.toml.specs.Data.{Data}
use Rattle.scenario.specs.Setup.{Setup, IsSound}
use Rattle.sweep_plan.specs.Sweep.{Sweep}
use Rattle.sweep.specs.Runs.{Planned, IsAnswered, IsRunAt, IsTickOf, planned_as, runs_of}
use Rattle.sweep.specs.declared.judging.Refused.{Refused}

-- the run's document is accepted: it is that of a scenario, which is sound; and its ticks last so long
abbrev pub IsAccepted : Data → Planned → Type 0
IsAccepted tree p = (s : Setup) × IsAnswered tree p (Ok s) × IsSound s × ((tick : ℕ) × IsTickOf tree tick)

-- each run's document is
abbrev pub AreAccepted : Data → Sweep → Type 0
AreAccepted tree sweep = All (IsAccepted tree) (runs_of sweep)

-- so many runs' documents are, the first
abbrev pub AreFirstAccepted : Data → Sweep → ℕ → Type 0
AreFirstAccepted tree sweep count = All (IsAccepted tree) (take count (runs_of sweep))

-- the run is the first whose document breaks a rule, and this is the least that it breaks
pub record IsFirstRefused (tree : Data) (sweep : Sweep) (p : Planned) (rule : ℕ) : Type 0 where
  pub number : ℕ
  pub before : AreFirstAccepted tree sweep number
  pub there : IsRunAt sweep number p
  pub broken : IsAnswered tree p (Err rule)

-- where so many runs' documents are accepted, the first, this is why the sweep is refused, unless memory was refused
abbrev pub RefusesBehind : Data → Sweep → ℕ → Refused → Type 0
RefusesBehind tree sweep count r =
    r.refusal.rule ≢ 11 → AreFirstAccepted tree sweep count → IsFirstRefused tree sweep (planned_as r.setting.items r.seed) r.refusal.rule

-- the document of the run of this number is accepted
abbrev pub IsAcceptedAt : Data → Sweep → ℕ → Type 0
IsAcceptedAt tree sweep number = (p : Planned) × IsRunAt sweep number p × IsAccepted tree p
