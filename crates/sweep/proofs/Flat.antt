-- Where a run stands among the runs of a sweep, and how many there are.
use Rattle.std.proofs.Common.{◌≡◌, ℕ, zero, suc, ◌+◌, ◌*◌, ◌/◌, ◌%◌, ◌<◌, List, [], ◌∷◌, ◌++◌, Option, Some, None, length, length-append, map, refl, ap, subst, ◌∙◌, arith, div-lt_iff_lt-mul}
use Rattle.std.proofs.lemmas.Nat.{div-add-mod'}
use Rattle.std.proofs.lemmas.List.{length-map}
use Rattle.std.proofs.lemmas.List.FromFn.{length-range_with_len, get_or-range_with_len, length-map-range_with_len}
use Rattle.std.proofs.lemmas.Option.{none-some, same_Some, slice_get-map, slice_get-get_or}
use Rattle.std.specs.Prelude.{slice_get}
use Rattle.std.specs.List.{flat_map, range_with_len}
use Rattle.std.specs.Option.{option_map}
use Rattle.sweep_plan.specs.Sweep.{KeyValues, Sweep, setting_count, seed_count, run_count}
use Rattle.sweep_plan.specs.Settings.{settings_of}
use Rattle.sweep_plan.proofs.Choices.{length-settings_of}
use Rattle.sweep_plan.specs.declared.seeds.Seeds.{Seeds}
use Rattle.sweep_plan.specs.declared.choice.Choice.{Choice}
use Rattle.sweep.specs.Runs.{IsRunAt, planned_as, runs_of, seeds_of}

module _ {X : Type 0} where
  slice_get-left : (xs ys : List X) (i : ℕ) (x : X) → slice_get xs i ≡ Some x → slice_get (xs ++ ys) i ≡ Some x
  slice_get-left [] ys i x e = absurd (none-some x e)
  slice_get-left (z ∷ xs) ys zero x e = e
  slice_get-left (z ∷ xs) ys (suc i) x e = slice_get-left xs ys i x e

  slice_get-right : (xs ys : List X) (i j : ℕ) → j ≡ length xs + i → slice_get (xs ++ ys) j ≡ slice_get ys i
  slice_get-right [] ys i j e = let same : j ≡ i = omega (arith, e) in ap (slice_get ys) same
  slice_get-right (z ∷ xs) ys i zero e = absurd (omega (arith, e))
  slice_get-right (z ∷ xs) ys i (suc j) e = slice_get-right xs ys i j (omega (arith, e))

module _ {X A : Type 0} (f : X → List A) (m : ℕ) (same : (x : X) → length (f x) ≡ m) where
  -- shards of one length: the j-th of the i-th shard
  pub flat_at : (xs : List X) (i j n : ℕ) (x : X) (a : A) → slice_get xs i ≡ Some x → slice_get (f x) j ≡ Some a → n ≡ i * m + j
      → slice_get (flat_map f xs) n ≡ Some a
  flat_at [] i j n x a e h q = absurd (none-some x e)
  flat_at (y ∷ xs) zero j n x a e h q =
      let at : n ≡ j = omega (arith, q) in
      slice_get-left (f y) (flat_map f xs) n a (ap (slice_get (f y)) at ∙ ap (λ z. slice_get (f z) j) (same_Some y x e) ∙ h)
  flat_at (y ∷ xs) (suc i) j n x a e h q =
      let at : n ≡ length (f y) + (i * m + j) = omega (arith, q, same y) in
      slice_get-right (f y) (flat_map f xs) (i * m + j) n at ∙ flat_at xs i j (i * m + j) x a e h refl

  pub flat_length : (xs : List X) → length (flat_map f xs) ≡ length xs * m
  flat_length [] = omega arith
  flat_length (x ∷ xs) = omega (arith, length-append (f x) (flat_map f xs), same x, flat_length xs)

pub settings_counted : (swept_keys : List KeyValues) → length (settings_of swept_keys) ≡ setting_count swept_keys
settings_counted swept_keys = length-settings_of swept_keys

pub seeds_counted : (seeds : Option Seeds) → length (seeds_of seeds) ≡ seed_count seeds
seeds_counted None = refl
seeds_counted (Some r) = length-map-range_with_len Some r.first (seed_count (Some r))

each_counted : (sweep : Sweep) (chosen : List Choice) → length (map (planned_as chosen) (seeds_of sweep.seeds)) ≡ seed_count sweep.seeds
each_counted sweep chosen = length-map (seeds_of sweep.seeds) (planned_as chosen) ∙ seeds_counted sweep.seeds

pub runs_counted : (sweep : Sweep) → length (runs_of sweep) ≡ run_count sweep
unfolding runs_of
runs_counted sweep =
    flat_length _ (seed_count sweep.seeds) (each_counted sweep) (settings_of sweep.swept_keys) ∙ ap (λ n. n * seed_count sweep.seeds) (settings_counted sweep.swept_keys)

-- where there is a run, each setting runs
pub each_runs : (sweep : Sweep) (number : ℕ) → number < run_count sweep → 0 < seed_count sweep.seeds
each_runs sweep number lt = by (seed_count sweep.seeds) lt
  where
    by : (m : ℕ) → number < setting_count sweep.swept_keys * m → 0 < m
    by zero h = absurd (omega (arith, h))
    by (suc m) h = omega arith

-- its setting is one of the settings
pub setting_within : (sweep : Sweep) (number : ℕ) → number < run_count sweep → number / seed_count sweep.seeds < setting_count sweep.swept_keys
setting_within sweep number lt =
    let split = div-add-mod' number (seed_count sweep.seeds) in
    (div-lt_iff_lt-mul (each_runs sweep number lt)).1 lt

-- the run of a setting with the seed at a place
pub run_in : (sweep : Sweep) (setting place : ℕ) (chosen : List Choice) (seed : Option ℕ)
    → slice_get (settings_of sweep.swept_keys) setting ≡ Some chosen → slice_get (seeds_of sweep.seeds) place ≡ Some seed
    → IsRunAt sweep (setting * seed_count sweep.seeds + place) (planned_as chosen seed)
unfolding runs_of
run_in sweep setting place chosen seed e h =
    flat_at _ (seed_count sweep.seeds) (each_counted sweep) (settings_of sweep.swept_keys) setting place (setting * seed_count sweep.seeds + place) chosen (planned_as chosen seed) e
    (slice_get-map (planned_as chosen) (seeds_of sweep.seeds) place ∙ ap (option_map (planned_as chosen)) h) refl

-- and the run of a number is that setting with that seed
pub run_at : (sweep : Sweep) (number : ℕ) (chosen : List Choice) (seed : Option ℕ)
    → slice_get (settings_of sweep.swept_keys) (number / seed_count sweep.seeds) ≡ Some chosen
    → slice_get (seeds_of sweep.seeds) (number % seed_count sweep.seeds) ≡ Some seed
    → IsRunAt sweep number (planned_as chosen seed)
run_at sweep number chosen seed e h =
    subst (λ n. IsRunAt sweep n (planned_as chosen seed)) (div-add-mod' number (seed_count sweep.seeds))
    (run_in sweep (number / seed_count sweep.seeds) (number % seed_count sweep.seeds) chosen seed e h)

-- the seed at a place of a range
pub seed_there : (r : Seeds) (place : ℕ) → place < seed_count (Some r) → slice_get (seeds_of (Some r)) place ≡ Some (Some (r.first + place))
seed_there r place lt =
    let count = seed_count (Some r) in
    let numbers = range_with_len r.first count in
    slice_get-map Some numbers place
    ∙ ap (option_map Some) (slice_get-get_or numbers place 0 (omega (arith, lt, length-range_with_len r.first count)) ∙ ap Some (get_or-range_with_len r.first count place 0 lt))

pub seed_there_of : (seeds : Option Seeds) (r : Seeds) (place : ℕ) → seeds ≡ Some r → place < seed_count seeds
    → slice_get (seeds_of seeds) place ≡ Some (Some (r.first + place))
seed_there_of None r place e lt = absurd (none-some r e)
seed_there_of (Some q) r place e lt =
    subst (λ z. slice_get (seeds_of (Some q)) place ≡ Some (Some (z.first + place))) (same_Some q r e) (seed_there q place lt)
