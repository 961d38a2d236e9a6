-- How many runs have a false death, one run more.
use Rattle.std.proofs.Common.{◌≡◌, ◌+◌, ◌==◌, ◌≤◌, ◌-◌, ◌^◌, ℕ, List, [], ◌∷◌, ◌++◌, cond, not, arith, append_assoc, subst, length, min}
use Rattle.std.proofs.lemmas.List.Sums.{count_by-le-length, sum_by-append}
use Rattle.figures.specs.Settings.{runs_with}
use Rattle.figures.specs.Kept.{AreFiguresOf}
use Rattle.figures.specs.Notes.{Note}
use Rattle.sweep_until.specs.Kept.{AreKept}
use Rattle.sweep_until.specs.declared.runs.SettingRuns.{SettingRuns}

pub few_with : (runs : List Note) → runs_with runs ≤ length runs
few_with runs = count_by-le-length (λ (run : Note). not (run.thrown_out == 0)) runs

counted_more : (runs : List Note) (note : Note) → runs_with (runs ++ note ∷ []) ≡ runs_with runs + runs_with (note ∷ [])
counted_more runs note = sum_by-append (λ (run : Note). cond (not (run.thrown_out == 0)) 1 0) runs (note ∷ [])

-- what is kept with one run more of those behind others is what is kept with it behind all of them
pub kept_behind : (old new : SettingRuns) (note : Note) (before : List Note) → ((notes : List Note) → AreKept notes old → AreKept (notes ++ note ∷ []) new)
    → (notes : List Note) → AreKept (before ++ notes) old → AreKept (before ++ (notes ++ note ∷ [])) new
kept_behind old new note before more notes kept = subst (λ l. AreKept l new) (append_assoc before notes (note ∷ [])) (more (before ++ notes) kept)

-- what is kept, with one run more
pub kept_more : (runs : List Note) (note : Note) (old new : SettingRuns) (one : ℕ) → AreKept runs old → one ≡ runs_with (note ∷ []) → AreFiguresOf new.figures (runs ++ note ∷ [])
    → old.figures.runs ≤ 1000000 → new.runs_with ≡ min (old.runs_with + one) (2 ^ 64 - 1) → AreKept (runs ++ note ∷ []) new
kept_more runs note old new one kept alone figures few added = record {
  figures = figures;
  with_thrown = omega (arith, added, alone, kept.with_thrown, few_with runs, few_with (note ∷ []), kept.figures.all, few, counted_more runs note);
}
