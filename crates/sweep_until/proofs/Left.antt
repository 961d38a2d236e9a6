-- Runs that are left can be made: of a setting until they are enough, and of all settings.
use Rattle.std.proofs.Common.{◌≡◌, ◌∙◌, ◌<◌, ◌≤◌, ◌+◌, ◌*◌, ◌-◌, ◌⊎◌, ℕ, zero, suc, List, [], ◌∷◌, ◌++◌, Bool, true, false, Some, None, refl, sym, ap, subst, arith, get_or, inl, inr, length, length-append, map, take, drop, append-nil, append_assoc}
use Rattle.std.specs.Prelude.{slice_get}
use Rattle.std.specs.List.{AllZip, range_with_len}
use Rattle.std.proofs.lemmas.List.{length-map, map-id}
use Rattle.std.proofs.lemmas.List.FromFn.{map-range_with_len_more}
use Rattle.std.proofs.lemmas.List.Elements.{All-get_or}
use Rattle.std.proofs.Math.Nat.{suc-mul}
use Rattle.std.proofs.lemmas.Nat.{mul-le}
use Rattle.std.proofs.lemmas.Option.{slice_get-get_or}
use Rattle.std.proofs.lemmas.Slice.Zip.{all_zipped_more}
use Rattle.toml.specs.Data.{Data}
use Rattle.scenario.specs.Setup.{Setup, IsSound}
use Rattle.trace.specs.declared.row.Row.{Row}
use Rattle.member_laws.specs.Runs.{IsRunOf}
use Rattle.sweep_plan.specs.Sweep.{Sweep, setting_count, run_count, seed_count}
use Rattle.sweep.specs.Runs.{Planned, Made, IsMadeAs, AreMadeBetween, noted, planned_as, runs_of}
use Rattle.sweep.specs.Judged.{IsAccepted, AreAccepted}
use Rattle.sweep.proofs.Flat.{runs_counted}
use Rattle.sweep.proofs.Steps.{are_more}
use Rattle.figures.specs.Notes.{Note}
use Rattle.sweep_until.specs.Until.{AreMadeFrom, IsMadeBehind, IsMadeUntil, IsWide, is_narrow_of}
use Rattle.sweep_until.proofs.Same.{OneRun}
use Rattle.sweep_until.proofs.Wide.{wide_next}

pub range_more : (first k next : ℕ) → first + k ≡ next → range_with_len first (k + 1) ≡ range_with_len first k ++ next ∷ []
range_more first k next is =
    sym (map-id (range_with_len first (k + 1))) ∙ map-range_with_len_more (λ (x : ℕ). x) first k next is ∙ ap (λ xs. xs ++ next ∷ []) (map-id (range_with_len first k))

-- the runs of a setting are among all
pub setting_within : (settings each number : ℕ) → number < settings → number * each + each ≤ settings * each
setting_within settings each number low =
    omega (arith, suc-mul number each, mul-le (suc number) each settings each (omega (arith, low)) (omega arith))

-- one setting more was made
pub one_setting : (tree : Data) (sweep : Sweep) (width first count number : ℕ) (made : List (List Made)) (setting : List Made) → first + count ≡ number
    → AreMadeFrom tree sweep width first count made → IsMadeUntil tree sweep width number setting → AreMadeFrom tree sweep width first (count + 1) (made ++ setting ∷ [])
one_setting tree sweep width first count number made setting is before here =
    subst (λ l. AllZip (IsMadeUntil tree sweep width) l (made ++ setting ∷ [])) (sym (range_more first count number is))
    (all_zipped_more (IsMadeUntil tree sweep width) (range_with_len first count) made number setting before here)

module _ (tree : Data) (sweep : Sweep) (one : OneRun) (exists : (s : Setup) → IsSound s → (rows : List Row) × IsRunOf s rows) (ok : AreAccepted tree sweep) (width : ℕ) where
  -- the run of a number can be made
  run_left : (number : ℕ) → number < run_count sweep → (p : Planned) × (m : Made) × (slice_get (runs_of sweep) number ≡ Some p) × IsMadeAs tree p m
  run_left number low =
      let all = runs_of sweep in
      let within : number < length all = omega (arith, low, runs_counted sweep) in
      let p = get_or all number (planned_as [] None) in
      let here : IsAccepted tree p = All-get_or (IsAccepted tree) all number _ within ok in
      let run = exists here.0 here.2 in
      (p, record { setting = p.setting; scenario = here.0; rows = run.0; tick = here.3.0 }, slice_get-get_or all number _ within, record { same = refl; accepted = here.1; run = run.1; timed = here.3.1 })

  module _ (number : ℕ) (low : number < setting_count sweep.swept_keys) (before : List Note) where
    abbrev first : ℕ
    first = number * seed_count sweep.seeds + length before

    -- so the runs of a setting can be made until they are enough
    abbrev Filled : List Made → Type 0
    Filled made = (more : List Made) × IsMadeBehind tree sweep width number before (made ++ more)

    abbrev noted_all : List Made → List Note
    noted_all made = before ++ map noted made

    counted_all : (made : List Made) → length (noted_all made) ≡ length before + length made
    counted_all made = length-append before (map noted made) ∙ ap (λ n. length before + n) (length-map made noted)

    abbrev Are : List Made → Type 0
    Are made = AreMadeBetween tree sweep first (first + length made) made

    enough : (made : List Made) → length before + length made ≤ seed_count sweep.seeds → Are made → IsWide width (noted_all made)
        → (is_narrow_of width (noted_all made) ≡ true) ⊎ (length before + length made ≡ seed_count sweep.seeds) → Filled made
    enough made few are wide ends = (
      [],
      subst (IsMadeBehind tree sweep width number before) (sym (append-nil made))
          (record { are = are; enough = record { few = omega (arith, few, counted_all made); wide = wide; ends = counted made ends } }),
    )
      where
        counted : (made : List Made) → (is_narrow_of width (noted_all made) ≡ true) ⊎ (length before + length made ≡ seed_count sweep.seeds)
            → (is_narrow_of width (noted_all made) ≡ true) ⊎ (length (noted_all made) ≡ seed_count sweep.seeds)
        counted made (inl narrow) = inl narrow
        counted made (inr all) = inr (counted_all made ∙ all)

    one_further : (left : ℕ) (made : List Made) → length before + length made + suc left ≡ seed_count sweep.seeds → Are made → IsWide width (noted_all made)
        → ((longer : List Made) → length before + length longer + left ≡ seed_count sweep.seeds → Are longer → IsWide width (noted_all longer) → Filled longer)
        → (b : Bool) → is_narrow_of width (noted_all made) ≡ b → Filled made
    one_further left made full are wide further true narrow = enough made (omega (arith, full)) are wide (inl narrow)
    one_further left made full are wide further false narrow =
        let within = setting_within (setting_count sweep.swept_keys) (seed_count sweep.seeds) number low in
        let place = first + length made in
        let next = run_left place (omega (arith, within, full)) in
        let longer = made ++ next.1 ∷ [] in
        let size = length-append made (next.1 ∷ []) in
        let grown : place + 1 ≡ first + length longer = omega (arith, size) in
        let are_grown : Are longer = subst (λ n. AreMadeBetween tree sweep first n longer) grown (are_more tree sweep first place next.0 next.1 made (omega arith) next.2 next.3 are) in
        let wide_grown = wide_next tree sweep one ok width before first place (first + length longer) made longer (omega arith) (omega (arith, within, full)) (omega arith) (omega (arith, size, within, full)) (omega (arith, size))
        are are_grown wide narrow in
        let rest = further longer (omega (arith, size, full)) are_grown wide_grown in
        (next.1 ∷ rest.0, subst (IsMadeBehind tree sweep width number before) (append_assoc made (next.1 ∷ []) rest.0) rest.1)

    setting_left : (left : ℕ) (made : List Made) → length before + length made + left ≡ seed_count sweep.seeds → Are made → IsWide width (noted_all made) → Filled made
    setting_left zero made full are wide = enough made (omega (arith, full)) are wide (inr (omega (arith, full)))
    setting_left (suc left) made full are wide = one_further left made full are wide (setting_left left) (is_narrow_of width (noted_all made)) refl

    pub filled : (made : List Made) → length before + length made ≤ seed_count sweep.seeds → AreMadeBetween tree sweep first (first + length made) made → IsWide width (before ++ map noted made)
        → (more : List Made) × IsMadeBehind tree sweep width number before (made ++ more)
    filled made few are wide = setting_left (seed_count sweep.seeds - (length before + length made)) made (omega (arith, few)) are wide

    none_made : AreMadeBetween tree sweep first (first + 0) []
    none_made =
        let none : 0 ≡ (first + 0) - first = omega arith in
        subst (λ n. AllZip (IsMadeAs tree) (take n (drop first (runs_of sweep))) []) none tt

    -- behind those that were made before
    pub fresh : length before ≤ seed_count sweep.seeds → IsWide width before → (made : List Made) × IsMadeBehind tree sweep width number before made
    fresh few wide = filled [] (omega (arith, few)) none_made (subst (IsWide width) (sym (append-nil before)) wide)

  -- and so can those of the settings that are left
  pub settings_left : (left first count all : ℕ) (made : List (List Made)) → count + left ≡ all → first + all ≤ setting_count sweep.swept_keys → AreMadeFrom tree sweep width first count made
      → (more : List (List Made)) × AreMadeFrom tree sweep width first all (made ++ more)
  settings_left zero first count all made full within are =
      let same : count ≡ all = omega (arith, full) in
      ([], subst (λ l. AreMadeFrom tree sweep width first all l) (sym (append-nil made)) (subst (λ n. AreMadeFrom tree sweep width first n made) same are))
  settings_left (suc left) first count all made full within are =
      let next = fresh (first + count) (omega (arith, full, within)) [] (omega arith) (λ n less. absurd (omega (arith, less))) in
      let rest = settings_left left first (count + 1) all (made ++ next.0 ∷ []) (omega (arith, full)) within (one_setting tree sweep width first count (first + count) made next.0 refl are next.1) in
      (next.0 ∷ rest.0, subst (λ l. AreMadeFrom tree sweep width first all l) (append_assoc made (next.0 ∷ []) rest.0) rest.1)
