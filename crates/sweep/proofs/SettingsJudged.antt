-- The runs of a setting are answered alike before version 4.
use Rattle.std.proofs.Common.{◌≡◌, ◌∙◌, ℕ, zero, suc, ◌+◌, ◌*◌, ◌<◌, ◌≤◌, ◌^◌, List, [], Option, Some, None, false, fold, get_or, refl, sym, ap, subst, arith}
use Rattle.std.specs.Prelude.{slice_get}
use Rattle.std.proofs.lemmas.Nat.{mul-le}
use Rattle.std.proofs.lemmas.Option.{none-some, same_Some, slice_get-get_or}
use Rattle.toml.specs.Data.{Data}
use Rattle.scenario.specs.Setup.{is_fourth}
use Rattle.scenario_reader.specs.Reading.{version_of}
use Rattle.text_reader.proofs.Sound.{sound_answer}
use Rattle.sweep_plan.specs.Asked.{AsksForSeeds}
use Rattle.sweep_plan.specs.Settings.{settings_of}
use Rattle.sweep_plan.specs.Document.{with_choice, with_values}
use Rattle.sweep_plan.specs.Sweep.{Sweep, setting_count, seed_count}
use Rattle.sweep_plan.specs.declared.choice.Choice.{Choice}
use Rattle.sweep_plan.specs.declared.seeds.Seeds.{Seeds}
use Rattle.sweep.specs.Judged.{AreAccepted, AreFirstAccepted, IsAccepted, IsAcceptedAt, RefusesBehind}
use Rattle.sweep.specs.Runs.{IsAskedFor, IsRunAt, Planned, document_of, planned_as, seeds_of}
use Rattle.sweep.specs.declared.judging.Refused.{Refused}
use Rattle.sweep.proofs.Flat.{settings_counted, run_in, seed_there}
use Rattle.sweep.proofs.Seeds.{accepted_with}
use Rattle.sweep.proofs.Sizes.{some_runs}
use Rattle.sweep.proofs.Steps.{accepted_all, accepted_more}

low_seeds : (words : Option (List ℕ)) (seeds : Option Seeds) → AsksForSeeds words seeds → (r : Seeds) → seeds ≡ Some r → r.last < 2 ^ 63
low_seeds None None asks r is = absurd (none-some r is)
low_seeds None (Some q) asks r is = absurd asks
low_seeds (Some word) None asks r is = absurd asks
low_seeds (Some word) (Some q) asks r is = subst (λ z. z.last < 2 ^ 63) (same_Some q r is) asks.low

-- the seed at a place
there : (seeds : Option Seeds) (place : ℕ) → place < seed_count seeds → (seed : Option ℕ) × (slice_get (seeds_of seeds) place ≡ Some seed)
there None zero low = (None, refl)
there None (suc place) low = absurd (omega (arith, low))
there (Some r) place low = (Some (r.first + place), seed_there r place low)

-- the run's document is of a version before 4
abbrev pub IsEarlier : Data → Planned → Type 0
IsEarlier tree p = is_fourth (version_of (document_of tree p)) ≡ false

module _ (tree : Data) (setting : List Choice) where
  -- what is accepted with the first seed is accepted with each
  with_each : (seeds : Option Seeds) (place : ℕ) (first seed : Option ℕ) → ((r : Seeds) → seeds ≡ Some r → r.last < 2 ^ 63) → place < seed_count seeds
      → slice_get (seeds_of seeds) 0 ≡ Some first → slice_get (seeds_of seeds) place ≡ Some seed → IsEarlier tree (planned_as setting first) → IsAccepted tree (planned_as setting first)
      → IsAccepted tree (planned_as setting seed)
  unfolding with_values
  with_each None place first seed low within at_first at old taken =
      let same : place ≡ 0 = omega (arith, within) in
      let one : seed ≡ first = same_Some seed first (sym at ∙ ap (slice_get (seeds_of None)) same ∙ at_first) in
      subst (λ s. IsAccepted tree (planned_as setting s)) (sym one) taken
  with_each (Some r) place first seed low within at_first at old taken =
      let last : r.last < 2 ^ 63 = low r refl in
      let a = r.first + 0 in
      let b = r.first + place in
      let is_first : first ≡ Some a = same_Some first (Some a) (sym at_first ∙ seed_there r 0 (omega (arith, within))) in
      let is_seed : seed ≡ Some b = same_Some seed (Some b) (sym at ∙ seed_there r place within) in
      let with_first = subst (λ s. IsAccepted tree (planned_as setting s)) is_first taken in
      let old_first = subst (λ s. IsEarlier tree (planned_as setting s)) is_first old in
      let other = accepted_with a b (fold with_choice tree setting) (omega (arith, last, within)) (omega (arith, last, within)) old_first (with_first.0, with_first.1) in
      subst (λ s. IsAccepted tree (planned_as setting s)) (sym is_seed) (other.0, other.1, sound_answer (document_of tree (planned_as setting (Some b))) other.0 other.1, taken.3)

module _ (tree : Data) (sweep : Sweep) (asked : IsAskedFor sweep) where
  abbrev each : ℕ
  each = seed_count sweep.seeds

  module _ (number : ℕ) (within : number < setting_count sweep.swept_keys) (first : IsAcceptedAt tree sweep (number * each))
      (old : (p : Planned) → IsRunAt sweep (number * each) p → IsEarlier tree p) where
    abbrev setting : List Choice
    setting = get_or (settings_of sweep.swept_keys) number []

    is_setting : slice_get (settings_of sweep.swept_keys) number ≡ Some setting
    is_setting = slice_get-get_or (settings_of sweep.swept_keys) number [] (omega (arith, within, settings_counted sweep.swept_keys))

    run_of : (place : ℕ) → place < each → (seed : Option ℕ) × (slice_get (seeds_of sweep.seeds) place ≡ Some seed) × IsRunAt sweep (number * each + place) (planned_as setting seed)
    run_of place low =
        let seed = there sweep.seeds place low in
        (seed.0, seed.1, run_in sweep number place setting seed.0 is_setting seed.1)

    first_there : (seed : Option ℕ) → slice_get (seeds_of sweep.seeds) 0 ≡ Some seed → IsRunAt sweep (number * each) (planned_as setting seed)
    first_there seed at =
        let here : number * each + 0 ≡ number * each = omega arith in
        subst (λ n. IsRunAt sweep n (planned_as setting seed)) here (run_in sweep number 0 setting seed is_setting at)

    first_taken : (seed : Option ℕ) → slice_get (seeds_of sweep.seeds) 0 ≡ Some seed → IsAccepted tree (planned_as setting seed)
    first_taken seed at = subst (IsAccepted tree) (same_Some first.0 (planned_as setting seed) (sym first.1 ∙ first_there seed at)) first.2

    each_taken : (place : ℕ) → place < each → IsAcceptedAt tree sweep (number * each + place)
    each_taken place low =
        let start = there sweep.seeds 0 (some_runs sweep asked) in
        let run = run_of place low in (
          planned_as setting run.0,
          run.2,
          with_each tree setting sweep.seeds place start.0 run.0 (low_seeds asked.seeds sweep.seeds asked.asked.seeded) low start.1 run.1 (old (planned_as setting start.0) (first_there start.0 start.1))
              (first_taken start.0 start.1),
        )

    up_to : (count : ℕ) → count ≤ each → AreFirstAccepted tree sweep (number * each) → AreFirstAccepted tree sweep (number * each + count)
    up_to zero few before =
        let none : number * each ≡ number * each + 0 = omega arith in
        subst (AreFirstAccepted tree sweep) none before
    up_to (suc count) few before =
        let next : number * each + count + 1 ≡ number * each + suc count = omega arith in
        subst (AreFirstAccepted tree sweep) next
        (accepted_more tree sweep (number * each + count) (each_taken count (omega (arith, few))) (up_to count (omega (arith, few)) before))

    -- one setting more is accepted
    pub setting_more : AreFirstAccepted tree sweep (number * each) → AreFirstAccepted tree sweep ((number + 1) * each)
    setting_more before =
        let next : number * each + each ≡ (number + 1) * each = omega arith in
        subst (AreFirstAccepted tree sweep) next (up_to each (omega arith) before)

-- a setting's first run was judged, and then the others
module _ (tree : Data) (sweep : Sweep) (number first : ℕ) (is : first ≡ number * seed_count sweep.seeds) (here : IsAcceptedAt tree sweep first) where
  with_first : AreFirstAccepted tree sweep (number * seed_count sweep.seeds) → AreFirstAccepted tree sweep (first + 1)
  with_first before = accepted_more tree sweep first here (subst (AreFirstAccepted tree sweep) (sym is) before)

  pub others_accepted : (runs : ℕ) → runs ≡ seed_count sweep.seeds → (AreFirstAccepted tree sweep (first + 1) → AreFirstAccepted tree sweep (first + runs))
      → AreFirstAccepted tree sweep (number * seed_count sweep.seeds) → AreFirstAccepted tree sweep ((number + 1) * seed_count sweep.seeds)
  others_accepted runs all others before =
      let next : first + runs ≡ (number + 1) * seed_count sweep.seeds = omega (arith, is, all) in
      subst (AreFirstAccepted tree sweep) next (others (with_first before))

  pub other_refused : (r : Refused) → RefusesBehind tree sweep (first + 1) r → RefusesBehind tree sweep (number * seed_count sweep.seeds) r
  other_refused r refuses = λ other before. refuses other (with_first before)

-- where all settings are, so is each run
pub all_settings : (tree : Data) (sweep : Sweep) (number : ℕ) → setting_count sweep.swept_keys ≤ number → AreFirstAccepted tree sweep (number * seed_count sweep.seeds) → AreAccepted tree sweep
all_settings tree sweep number le before =
    accepted_all tree sweep (number * seed_count sweep.seeds) (mul-le (setting_count sweep.swept_keys) (seed_count sweep.seeds) number (seed_count sweep.seeds) le (omega arith)) before
