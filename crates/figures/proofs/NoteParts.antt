-- The parts of a note behind its first five figures: the counts of incidents, and the times of crashes.
use Rattle.std.proofs.Common.{◌≡◌, ◌≢◌, ◌<◌, ◌≤◌, ◌-◌, ◌*◌, ◌%◌, ◌==◌, ℕ, zero, suc, min, Bool, true, false, List, [], ◌∷◌, ◌++◌, length, length-drop, get_or, take, drop, refl, sym, ap, ◌∙◌, arith}
use Rattle.std.specs.Prelude.{Option, Some, None, if◌then◌else◌}
use Rattle.std.specs.List.{flat_map}
use Rattle.std.proofs.lemmas.Bool.{eq-eqb, ne_eqb}
use Rattle.std.proofs.lemmas.List.{drop_min, get_or-take, length-take, take_all}
use Rattle.std.proofs.lemmas.Option.{none-some}
use Rattle.incident_figures.specs.declared.run.RunCounts.{RunCounts}
use Rattle.figures.specs.declared.crashes.CrashTimes.{CrashTimes}
use Rattle.figures.specs.Notes.{counts_in_order, counts_part, times_in_order, times_part}

-- what a note says behind its first five figures
abbrev pub behind_first : Option RunCounts → List CrashTimes → List (Option ℕ)
behind_first counts times = counts_in_order counts ++ flat_map times_in_order times

-- the times of crashes are three figures each
pub times_long : (ts : List CrashTimes) → length (flat_map times_in_order ts) ≡ 3 * length ts
times_long [] = refl
times_long (t ∷ ts) = let more = times_long ts in omega (arith, more)

-- whether so many figures have counts
abbrev pub counts_if : Bool → List (Option ℕ) → List (Option ℕ)
counts_if has fs = if has then take 4 fs else []

abbrev pub times_if : Bool → List (Option ℕ) → List (Option ℕ)
times_if has fs = if has then drop 4 fs else fs

-- the number of these figures tells whether they have counts
pub parts_of : (counts : Option RunCounts) (ts : List CrashTimes) → (counts_part (behind_first counts ts) ≡ counts_in_order counts) × (times_part (behind_first counts ts) ≡ flat_map times_in_order ts)
parts_of None ts =
    let long = times_long ts in
    let other : (length (behind_first None ts) % 3 == 1) ≡ false = ne_eqb (length (behind_first None ts) % 3) 1 (λ one. omega (arith, long, one)) in
    (ap (λ b. counts_if b (behind_first None ts)) other, ap (λ b. times_if b (behind_first None ts)) other)
parts_of (Some c) ts =
    let long = times_long ts in
    let one : (length (behind_first (Some c) ts) % 3 == 1) ≡ true = eq-eqb (length (behind_first (Some c) ts) % 3) 1 (omega (arith, long)) in
    (ap (λ b. counts_if b (behind_first (Some c) ts)) one, ap (λ b. times_if b (behind_first (Some c) ts)) one)

pub same_counts : (a b : Option RunCounts) → counts_in_order a ≡ counts_in_order b → a ≡ b
same_counts None None same = refl
same_counts None (Some b) same = let none : 0 ≡ 4 = ap length same in absurd (omega (arith, none))
same_counts (Some a) None same = let none : 4 ≡ 0 = ap length same in absurd (omega (arith, none))
same_counts (Some a) (Some b) same =
    let alarms : a.alarms ≡ b.alarms = cc in
    let deaths : a.deaths ≡ b.deaths = cc in
    let well : a.deaths_well ≡ b.deaths_well = cc in
    let time : a.time ≡ b.time = cc in
    (λ i. Some (record { alarms = alarms i; deaths = deaths i; deaths_well = well i; time = time i }))

-- the two parts are all
joined : (has : Bool) (fs : List (Option ℕ)) → counts_if has fs ++ times_if has fs ≡ fs
joined true [] = refl
joined true (a ∷ []) = refl
joined true (a ∷ b ∷ []) = refl
joined true (a ∷ b ∷ c ∷ []) = refl
joined true (a ∷ b ∷ c ∷ d ∷ fs) = refl
joined false fs = refl

pub parts_joined : (fs : List (Option ℕ)) (counts : Option RunCounts) (ts : List CrashTimes) → counts_in_order counts ≡ counts_part fs → flat_map times_in_order ts ≡ times_part fs → behind_first counts ts ≡ fs
parts_joined fs counts ts first rest = (λ i. first i ++ rest i) ∙ joined (length fs % 3 == 1) fs

-- ---- what has no counts

pub no_counts : (fs : List (Option ℕ)) → length fs % 3 ≢ 1 → counts_in_order None ≡ counts_part fs
no_counts fs other = sym (ap (λ b. counts_if b fs) (ne_eqb (length fs % 3) 1 other))

pub all_times : (fs : List (Option ℕ)) → length fs % 3 ≢ 1 → fs ≡ times_part fs
all_times fs other = sym (ap (λ b. times_if b fs) (ne_eqb (length fs % 3) 1 other))

-- four or none: fewer than four figures are no counts
pub too_few_counts : (fs : List (Option ℕ)) → length fs % 3 ≡ 1 → length fs < 4 → (counts : Option RunCounts) → counts_in_order counts ≢ counts_part fs
too_few_counts fs one few counts is =
    let same : counts_in_order counts ≡ take 4 fs = is ∙ ap (λ b. counts_if b fs) (eq-eqb (length fs % 3) 1 one) in
    let long : length (counts_in_order counts) ≡ length (take 4 fs) = ap length same in
    by counts (omega (arith, long, length-take 4 fs))
  where
    by : (counts : Option RunCounts) → length (counts_in_order counts) ≡ length fs → ⊥
    by None long = omega (arith, long, one)
    by (Some c) long = omega (arith, long, few)

-- counts that are there
pub four_counts : (fs : List (Option ℕ)) (c : RunCounts) → length fs % 3 ≡ 1 → 4 ≤ length fs → (d e f g : Option ℕ) → get_or fs 0 d ≡ Some c.alarms → get_or fs 1 e ≡ Some c.deaths
    → get_or fs 2 f ≡ Some c.deaths_well → get_or fs 3 g ≡ Some c.time → counts_in_order (Some c) ≡ counts_part fs
four_counts fs c one many d e f g alarms deaths well time =
    sym (four fs many alarms deaths well time) ∙ sym (ap (λ b. counts_if b fs) (eq-eqb (length fs % 3) 1 one))
  where
    four : (l : List (Option ℕ)) → 4 ≤ length l → get_or l 0 d ≡ Some c.alarms → get_or l 1 e ≡ Some c.deaths → get_or l 2 f ≡ Some c.deaths_well → get_or l 3 g ≡ Some c.time
        → take 4 l ≡ counts_in_order (Some c)
    four [] many alarms deaths well time = absurd (omega (arith, many))
    four (a ∷ []) many alarms deaths well time = absurd (omega (arith, many))
    four (a ∷ b ∷ []) many alarms deaths well time = absurd (omega (arith, many))
    four (a ∷ b ∷ x ∷ []) many alarms deaths well time = absurd (omega (arith, many))
    four (a ∷ b ∷ x ∷ y ∷ l) many alarms deaths well time = (λ i. alarms i ∷ deaths i ∷ well i ∷ time i ∷ [])

-- one of the four that is missing
pub missing : (fs : List (Option ℕ)) (k : ℕ) (d : Option ℕ) → k < 4 → length fs % 3 ≡ 1 → 4 ≤ length fs → get_or fs k d ≡ None → (counts : Option RunCounts) → counts_in_order counts ≢ counts_part fs
missing fs k d low one many none counts is =
    let same : counts_in_order counts ≡ take 4 fs = is ∙ ap (λ b. counts_if b fs) (eq-eqb (length fs % 3) 1 one) in
    by counts same (get_or-take 4 fs k d low ∙ none)
  where
    there : (c : RunCounts) (k : ℕ) (d : Option ℕ) → k < 4 → get_or (counts_in_order (Some c)) k d ≡ None → ⊥
    there c zero d low none = none-some c.alarms (sym none)
    there c (suc zero) d low none = none-some c.deaths (sym none)
    there c (suc (suc zero)) d low none = none-some c.deaths_well (sym none)
    there c (suc (suc (suc zero))) d low none = none-some c.time (sym none)
    there c (suc (suc (suc (suc k)))) d low none = omega (arith, low)

    by : (counts : Option RunCounts) → counts_in_order counts ≡ take 4 fs → get_or (take 4 fs) k d ≡ None → ⊥
    by None same gone = let long : 0 ≡ length (take 4 fs) = ap length same in omega (arith, long, length-take 4 fs, many)
    by (Some c) same gone = there c k d low (ap (λ l. get_or l k d) same ∙ gone)

-- the times behind the counts
pub later_times : (fs : List (Option ℕ)) (from : ℕ) → length fs % 3 ≡ 1 → from ≡ min (length fs) 4 → take (length fs - from) (drop from fs) ≡ times_part fs
later_times fs from one is =
    take_all (length fs - from) (drop from fs) (omega (arith, length-drop from fs))
    ∙ ap (λ n. drop n fs) (is ∙ swapped (length fs)) ∙ drop_min 4 fs ∙ sym (ap (λ b. times_if b fs) (eq-eqb (length fs % 3) 1 one))
  where
    swapped : (n : ℕ) → min n 4 ≡ min 4 n
    swapped n = omega arith
