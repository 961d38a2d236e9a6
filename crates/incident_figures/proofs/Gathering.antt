-- The incidents of the runs of a setting, with one run more, and what a line makes of them.
use Rattle.std.proofs.Common.{◌≡◌, ℕ, ◌+◌, Bool, List, [], ◌∷◌, ◌++◌, Option, Some, None, sym, ap, ◌∙◌}
use Rattle.std.specs.Prelude.{sum_by, if◌then◌else◌}
use Rattle.std.proofs.lemmas.Bool.{eq-eqb, ne_eqb}
use Rattle.std.proofs.lemmas.List.Sums.{sum_by_push}
use Rattle.day_rates.specs.declared.rates.RunDeaths.{RunDeaths}
use Rattle.day_rates.specs.Rates.{day_rate, day_low, day_high}
use Rattle.incident_figures.specs.declared.run.RunIncidents.{RunIncidents}
use Rattle.incident_figures.specs.declared.run.RunCounts.{RunCounts}
use Rattle.incident_figures.specs.declared.setting.DayRates.{DayRates}
use Rattle.incident_figures.specs.Settings.{deaths_in, day_of}

-- a sum with one run more
pub with_run : (f : RunCounts → ℕ) (runs : List RunCounts) (run : RunCounts) (old more : ℕ) → old ≡ sum_by f runs → more ≡ f run → old + more ≡ sum_by f (runs ++ run ∷ [])
with_run f runs run old more so_far is = ap (λ n. n + more) so_far ∙ ap (λ n. sum_by f runs + n) is ∙ sym (sum_by_push f runs run)

-- ---- equal parts

abbrev pub made_run : ℕ → ℕ → ℕ → ℕ → Option ℕ → RunIncidents
made_run alarms deaths well restarts whole = record { alarms = alarms; deaths = deaths; deaths_well = well; restarts = restarts; whole = whole }

pub same_run : (a b d e w x r s : ℕ) (o p : Option ℕ) → a ≡ b → d ≡ e → w ≡ x → r ≡ s → o ≡ p → made_run a d w r o ≡ made_run b e x s p
same_run a b d e w x r s o p alarms deaths well restarts whole =
    ap (λ n. made_run n d w r o) alarms ∙ ap (λ n. made_run b n w r o) deaths ∙ ap (λ n. made_run b e n r o) well ∙ ap (λ n. made_run b e x n o) restarts ∙ ap (made_run b e x s) whole

abbrev pub made_deaths : ℕ → ℕ → ℕ → ℕ → RunDeaths
made_deaths runs deaths squares time = record { runs = runs; deaths = deaths; squares = squares; time = time }

pub same_deaths : (r s d e q p t u : ℕ) → r ≡ s → d ≡ e → q ≡ p → t ≡ u → made_deaths r d q t ≡ made_deaths s e p u
same_deaths r s d e q p t u runs deaths squares time =
    ap (λ n. made_deaths n d q t) runs ∙ ap (λ n. made_deaths s n q t) deaths ∙ ap (λ n. made_deaths s e n t) squares ∙ ap (made_deaths s e p) time

abbrev pub made_rates : ℕ → ℕ → ℕ → DayRates
made_rates rate low high = record { rate = rate; low = low; high = high }

-- ---- the false deaths of a day

abbrev rates_of : List RunCounts → DayRates
rates_of runs = made_rates (day_rate (deaths_in runs)) (day_low (deaths_in runs)) (day_high (deaths_in runs))

abbrev rates_if : Bool → List RunCounts → Option DayRates
rates_if none runs = if none then None else Some (rates_of runs)

abbrev lasting : List RunCounts → ℕ
lasting runs = sum_by (λ run. run.time) runs

pub no_day : (runs : List RunCounts) (time : ℕ) → time ≡ lasting runs → time ≡ 0 → None ≡ day_of runs
no_day runs time lasts none = sym (ap (λ b. rates_if b runs) (eq-eqb (lasting runs) 0 (sym lasts ∙ none)))

pub some_day : (runs : List RunCounts) (time rate low high : ℕ) (deaths : RunDeaths) → time ≡ lasting runs → (time ≡ 0 → ⊥) → deaths ≡ deaths_in runs
    → rate ≡ day_rate deaths → low ≡ day_low deaths → high ≡ day_high deaths → Some (made_rates rate low high) ≡ day_of runs
some_day runs time rate low high deaths lasts some same is lower higher =
    ap (λ n. Some (made_rates n low high)) is ∙ ap (λ n. Some (made_rates (day_rate deaths) n high)) lower ∙ ap (λ n. Some (made_rates (day_rate deaths) (day_low deaths) n)) higher
    ∙ ap (λ d. Some (made_rates (day_rate d) (day_low d) (day_high d))) same
    ∙ sym (ap (λ b. rates_if b runs) (ne_eqb (lasting runs) 0 (λ none. some (lasts ∙ none))))
