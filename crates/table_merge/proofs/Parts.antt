-- The runs of a sweep that have the seeds of a range.
use Rattle.std.proofs.Common.{◌≡◌, ◌∙◌, ◌≤◌, ◌+◌, ◌-◌, ◌*◌, ℕ, zero, suc, List, [], ◌∷◌, ◌++◌, length, length-append, length-drop, map, take, drop, take_at, refl, sym, ap, subst, arith, append_assoc}
use Rattle.std.specs.Prelude.{Some}
use Rattle.std.specs.List.{AllZip, flat_map, range_with_len}
use Rattle.std.proofs.lemmas.List.{drop-append-le, drop-drop, drop-map, drop_at, length-map, take-append-le, take-map}
use Rattle.std.proofs.lemmas.List.FromFn.{length-range_with_len}
use Rattle.toml.specs.Data.{Data}
use Rattle.sweep_plan.specs.Sweep.{Sweep, run_count, seed_count, setting_count}
use Rattle.sweep_plan.specs.Settings.{settings_of}
use Rattle.sweep_plan.specs.declared.choice.Choice.{Choice}
use Rattle.sweep_plan.specs.declared.seeds.Seeds.{Seeds}
use Rattle.sweep.specs.Runs.{AreMadeBetween, IsMadeAs, Made, Planned, planned_as, runs_of, seeds_of}
use Rattle.sweep.proofs.Flat.{settings_counted}
use Rattle.sweep.proofs.Numbers.{range_split}
use Rattle.sweep.proofs.Steps.{all_made, are_all}
use Rattle.table_merge.specs.Seeds.{part, with_seeds}
use Rattle.table_merge.specs.Genuine.{runs_with}
use Rattle.table_merge.proofs.Turns.{zipped_append, zipped_drop, zipped_take}

-- of numbers in a row those from one on, so many
range_part : (first skip n c : ℕ) → skip + n ≤ c → take n (drop skip (range_with_len first c)) ≡ range_with_len (first + skip) n
range_part first skip n c fit =
    let rest = c - (skip + n) in
    let sum : c ≡ skip + (n + rest) = omega (arith, fit) in
    ap (λ m. take n (drop skip (range_with_len first m))) sum
    ∙ ap (λ l. take n (drop skip l)) (range_split first skip (n + rest))
    ∙ ap (take n) (drop_at (range_with_len first skip) (range_with_len (first + skip) (n + rest)) skip (length-range_with_len first skip))
    ∙ ap (take n) (range_split (first + skip) n rest)
    ∙ take_at (range_with_len (first + skip) n) (range_with_len (first + skip + n) rest) n (length-range_with_len (first + skip) n)

-- what is made of each of some things, of which there are as many, cut in the same way
module _ {C X : Type 0} (f : C → List X) (c n skip : ℕ) (long : (x : C) → length (f x) ≡ c) (fit : skip + n ≤ c) where
  here : (a : ℕ) (front : List X) (x : C) (rest : List X) → length front ≡ a * c → take n (drop (a * c + skip) (front ++ (f x ++ rest))) ≡ take n (drop skip (f x))
  here a front x rest at =
      let low : skip ≤ length (f x) = omega (arith, fit, long x) in
      let left : n ≤ length (drop skip (f x)) = omega (arith, fit, long x, length-drop skip (f x)) in
      ap (take n) (sym (drop-drop skip (a * c) (front ++ (f x ++ rest))) ∙ ap (drop skip) (drop_at front (f x ++ rest) (a * c) at) ∙ drop-append-le skip (f x) rest low)
      ∙ take-append-le n (drop skip (f x)) rest left

  pub cut_blocks : (cs : List C) (a : ℕ) (front : List X) → length front ≡ a * c
      → flat_map (λ k. take n (drop (k * c + skip) (front ++ flat_map f cs))) (range_with_len a (length cs)) ≡ flat_map (λ x. take n (drop skip (f x))) cs
  cut_blocks [] a front at = refl
  cut_blocks (x ∷ cs) a front at =
      let next : length (front ++ f x) ≡ (a + 1) * c = omega (arith, length-append front (f x), at, long x) in
      let more = ap (λ l. flat_map (λ k. take n (drop (k * c + skip) l)) (range_with_len (a + 1) (length cs))) (sym (append_assoc front (f x) (flat_map f cs))) ∙ cut_blocks cs (a + 1) (front ++ f x) next in
      (λ i. here a front x (flat_map f cs) at i ++ more i)

-- what is made of lists one by one
same_made : {C X : Type 0} (f g : C → List X) (cs : List C) → ((x : C) → f x ≡ g x) → flat_map f cs ≡ flat_map g cs
same_made f g [] same = refl
same_made f g (x ∷ cs) same = (λ i. same x i ++ same_made f g cs same i)

module _ (sweep : Sweep) (all r : Seeds) (is_with : sweep ≡ with_seeds sweep all) (low : all.first ≤ r.first) (ordered : r.first ≤ r.last) (high : r.last ≤ all.last) where
  abbrev each : ℕ
  each = seed_count (Some all)

  abbrev n : ℕ
  n = seed_count (Some r)

  abbrev skip : ℕ
  skip = r.first - all.first

  abbrev runs : List Choice → List Planned
  runs chosen = map (planned_as chosen) (seeds_of (Some all))

  cut_runs : (chosen : List Choice) → take n (drop skip (runs chosen)) ≡ map (planned_as chosen) (seeds_of (Some r))
  cut_runs chosen =
      let numbers = range_with_len all.first each in
      let at : all.first + skip ≡ r.first = omega (arith, low) in
      let fit : skip + n ≤ each = omega (arith, low, ordered, high) in
      ap (take n) (drop-map (planned_as chosen) skip (map Some numbers)) ∙ take-map (planned_as chosen) n (drop skip (map Some numbers))
      ∙ ap (map (planned_as chosen)) (ap (take n) (drop-map Some skip numbers) ∙ take-map Some n (drop skip numbers) ∙ ap (map Some) (range_part all.first skip n each fit ∙ ap (λ m. range_with_len m n) at))

  runs_long : (chosen : List Choice) → length (runs chosen) ≡ each
  runs_long chosen = length-map (seeds_of (Some all)) (planned_as chosen) ∙ length-map (range_with_len all.first each) (λ (m : ℕ). Some m) ∙ length-range_with_len all.first each

  pub planned_part : part (setting_count sweep.swept_keys) each all.first (runs_of (with_seeds sweep all)) r ≡ runs_of (with_seeds sweep r)
  unfolding runs_of
  planned_part =
      let settings = settings_of sweep.swept_keys in
      let fit : skip + n ≤ each = omega (arith, low, ordered, high) in
      let none : 0 ≡ 0 * each = omega arith in
      ap (λ m. flat_map (λ k. take n (drop (k * each + skip) (flat_map runs settings))) (range_with_len 0 m)) (sym (settings_counted sweep.swept_keys))
      ∙ cut_blocks runs each n skip runs_long fit settings 0 [] none
      ∙ same_made (λ chosen. take n (drop skip (runs chosen))) (λ chosen. map (planned_as chosen) (seeds_of (Some r))) settings cut_runs

-- what is held against the things of a whole is held against those with the seeds of a range
module _ {X Y : Type 0} (R : X → Y → Type 0) where
  pub zipped_part : (settings each first : ℕ) (xs : List X) (ys : List Y) (r : Seeds) → AllZip R xs ys → AllZip R (part settings each first xs r) (part settings each first ys r)
  zipped_part settings each first xs ys r held = by 0 settings
    where
      by : (a m : ℕ) → AllZip R (flat_map (λ k. take (seed_count (Some r)) (drop (k * each + (r.first - first)) xs)) (range_with_len a m))
          (flat_map (λ k. take (seed_count (Some r)) (drop (k * each + (r.first - first)) ys)) (range_with_len a m))
      by a zero = tt
      by a (suc m) =
          let count = seed_count (Some r) in
          let from = a * each + (r.first - first) in
          zipped_append R (take count (drop from xs)) (flat_map (λ k. take count (drop (k * each + (r.first - first)) xs)) (range_with_len (a + 1) m))
          (take count (drop from ys)) (flat_map (λ k. take count (drop (k * each + (r.first - first)) ys)) (range_with_len (a + 1) m))
          (zipped_take R count (drop from xs) (drop from ys) (zipped_drop R from xs ys held)) (by (a + 1) m)

pub made_part : (tree : Data) (sweep : Sweep) (all r : Seeds) (made : List Made) → sweep ≡ with_seeds sweep all → all.first ≤ r.first → r.first ≤ r.last → r.last ≤ all.last
    → AreMadeBetween tree sweep 0 (run_count sweep) made → AreMadeBetween tree (with_seeds sweep r) 0 (run_count (with_seeds sweep r)) (runs_with sweep all made r)
made_part tree sweep all r made is_with low ordered high are =
    let whole = subst (λ (s : Sweep). AllZip (IsMadeAs tree) (runs_of s) made) is_with (all_made tree sweep made are) in
    let count : seed_count (Some all) ≡ seed_count sweep.seeds = ap (λ (s : Sweep). seed_count s.seeds) (sym is_with) in
    are_all tree (with_seeds sweep r) (runs_with sweep all made r)
    (subst (λ m. AllZip (IsMadeAs tree) (runs_of (with_seeds sweep r)) (part (setting_count sweep.swept_keys) m all.first made r)) count
    (subst (λ l. AllZip (IsMadeAs tree) l (part (setting_count sweep.swept_keys) (seed_count (Some all)) all.first made r)) (planned_part sweep all r is_with low ordered high)
    (zipped_part (IsMadeAs tree) (setting_count sweep.swept_keys) (seed_count (Some all)) all.first (runs_of (with_seeds sweep all)) made r whole)))
