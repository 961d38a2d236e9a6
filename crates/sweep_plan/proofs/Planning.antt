-- What words ask for is one sweep, and counting its runs.
use Rattle.std.proofs.Common.{◌≡◌, ◌<◌, ◌≤◌, ◌-◌, ◌*◌, ◌^◌, ℕ, List, ◌∷◌, Option, Some, None, min, decimal, sym, ap, subst, refl, ◌∙◌, lit<, arith}
use Rattle.std.specs.Option.{ForSome}
use Rattle.std.proofs.Math.Nat.{le-mul_of_pos_right}
use Rattle.sweep_plan.specs.Sweep.{KeyValues, Sweep, setting_count, seed_count}
use Rattle.sweep_plan.specs.Asked.{IsRange, AreSweptKeys, AsksForSeeds, IsSweepOf}
use Rattle.sweep_plan.specs.declared.seeds.Seeds.{Seeds}
use Rattle.sweep_plan.proofs.Words.{decimal_lacks, cut_once}
use Rattle.decimals.proofs.Numbers.{same_number}
use Rattle.sweep_plan.proofs.Counts.{saturated}
use Rattle.sweep_plan.proofs.Gathered.{same_swept_keys}

same_range : (word : List ℕ) (r q : Seeds) → IsRange word r → IsRange word q → r ≡ q
same_range word r q a b =
    let ordered = a.ordered in
    let low = a.low in
    let ordered_too = b.ordered in
    let low_too = b.low in
    let parts = cut_once 46 (decimal r.first) (decimal q.first) (46 ∷ decimal r.last) (46 ∷ decimal q.last)
    (decimal_lacks r.first 46 (omega arith) (lit< tt)) (decimal_lacks q.first 46 (omega arith) (lit< tt)) (a.written ∙ sym b.written) in
    let last : decimal r.last ≡ decimal q.last = cc in
    let firsts : r.first ≡ q.first = same_number (decimal q.first) r.first q.first (record { written = parts.0; low = omega arith }) (record { written = refl; low = omega arith }) in
    let lasts : r.last ≡ q.last = same_number (decimal q.last) r.last q.last (record { written = last; low = omega arith }) (record { written = refl; low = omega arith }) in
    (λ i. record { first = firsts i; last = lasts i })

same_seeds : (word : Option (List ℕ)) (a b : Option Seeds) → AsksForSeeds word a → AsksForSeeds word b → a ≡ b
same_seeds None None None a b = refl
same_seeds None None (Some q) a b = absurd b
same_seeds None (Some r) b a h = absurd a
same_seeds (Some word) None b a h = absurd a
same_seeds (Some word) (Some r) None a b = absurd b
same_seeds (Some word) (Some r) (Some q) a b = ap Some (same_range word r q a b)

pub low_seeds : (word : Option (List ℕ)) (seeds : Option Seeds) → AsksForSeeds word seeds → ForSome seeds (λ r. r.last < 2 ^ 63)
low_seeds None None a r is = cc
low_seeds None (Some q) a r is = absurd a
low_seeds (Some word) None a r is = absurd a
low_seeds (Some word) (Some q) a r is = let same : q ≡ r = cc in subst (λ s. s.last < 2 ^ 63) same a.low

some_seeds : (word : Option (List ℕ)) (seeds : Option Seeds) → AsksForSeeds word seeds → 0 < seed_count seeds
some_seeds None None a = lit< tt
some_seeds None (Some q) a = absurd a
some_seeds (Some word) None a = absurd a
some_seeds (Some word) (Some q) a = let ordered = a.ordered in omega arith

module _ (words : List (List ℕ)) (word : Option (List ℕ)) (until : Option ℕ) (swept_keys : List KeyValues) (seeds : Option Seeds) (are : AreSweptKeys words swept_keys) (asked : AsksForSeeds word seeds) where
  module _ (settings each runs : ℕ) (counted : settings ≡ min (setting_count swept_keys) (2 ^ 64 - 1)) (often : each ≡ seed_count seeds) (multiplied : runs ≡ min (settings * each) (2 ^ 64 - 1)) where
    all_runs : runs ≡ min (setting_count swept_keys * seed_count seeds) (2 ^ 64 - 1)
    all_runs =
        multiplied ∙ ap (λ n. min (n * each) (2 ^ 64 - 1)) counted ∙ saturated (setting_count swept_keys) each (2 ^ 64 - 1)
        ∙ ap (λ n. min (setting_count swept_keys * n) (2 ^ 64 - 1)) often

    pub too_many : 1000000 < runs → (sweep : Sweep) → IsSweepOf words word until sweep → ⊥
    too_many over sweep is =
        let sets = same_swept_keys words sweep.swept_keys swept_keys is.swept_keys.axes are.axes in
        let same = same_seeds word sweep.seeds seeds is.seeded asked in
        let few : setting_count swept_keys * seed_count seeds ≤ 1000000 =
        subst (λ s. setting_count swept_keys * seed_count s ≤ 1000000) same (subst (λ l. setting_count l * seed_count sweep.seeds ≤ 1000000) sets is.few) in
        let told = all_runs in
        omega arith

    pub few_runs : runs ≤ 1000000 → setting_count swept_keys * seed_count seeds ≤ 1000000
    few_runs under = let told = all_runs in omega arith

    pub exact : runs ≤ 1000000 → settings ≡ setting_count swept_keys
    exact under =
        let few = few_runs under in
        let more : setting_count swept_keys ≤ setting_count swept_keys * seed_count seeds = le-mul_of_pos_right (setting_count swept_keys) (some_seeds word seeds asked) in
        omega arith
