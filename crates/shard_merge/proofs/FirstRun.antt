-- The line of a sweep's first run stands behind the first line of the shard that has it.
use Rattle.std.proofs.Common.{◌≡◌, ◌∙◌, ◌+◌, ◌-◌, ◌*◌, ◌/◌, ◌%◌, ◌<◌, ◌≤◌, ℕ, zero, suc, List, [], ◌∷◌, ◌++◌, length, sym, ap, subst, arith, append_assoc, div-lt_iff_lt-mul, mod-lt, suc-mul}
use Rattle.std.specs.Prelude.{Option, Some, None}
use Rattle.std.specs.List.{AllZip, flat_map, range_with_len}
use Rattle.std.proofs.lemmas.Nat.{div-add-mod', div_below, le-div, mul-le}
use Rattle.sweep_plan.specs.Sweep.{Sweep, setting_count, run_count, seed_count}
use Rattle.sweep_plan.proofs.Choices.{settings_some}
use Rattle.shards.specs.declared.shard.Shard.{Shard}
use Rattle.shards.specs.Shards.{first_run, past_run}
use Rattle.sweep.specs.Runs.{IsAskedFor}
use Rattle.sweep.specs.Sums.{AreLinesOf, HasLineOf, IsLineOf}
use Rattle.sweep.specs.declared.summing.LineKey.{LineKey}
use Rattle.sweep.proofs.FirstSeed.{some_of_all}
use Rattle.sweep.proofs.Sizes.{some_runs}
use Rattle.sweep_until.proofs.Enough.{some_enough}
use Rattle.table_rows.specs.Lines.{Line, notes_of}
use Rattle.table_rows.specs.Settings.{AreSettingsOf, IsSettingOf, shard_setting}
use Rattle.table_rows.proofs.SettingsOf.{some_text}
use Rattle.shard_merge.specs.Among.{shard_at}
use Rattle.shard_merge.specs.Behind.{AreBehind, share, shared}
use Rattle.shard_merge.proofs.Shares.{first_is}

-- ---- which shard it is

-- shards share something
pub some_shared : (sweep : Sweep) (until : Option ℕ) → IsAskedFor sweep → 0 < shared until sweep
some_shared sweep None asked = some_of_all sweep asked
some_shared sweep (Some width) asked = settings_some sweep.swept_keys asked.asked.swept_keys.axes.sound

module _ (of total : ℕ) (some : 1 ≤ of) (things : 0 < total) where
  abbrev number : ℕ
  number = (of - 1) / total

  split : number * total + (of - 1) % total ≡ of - 1
  split = div-add-mod' (of - 1) total

  pub in_shards : (of - 1) / total < of
  in_shards =
      let all : of * 1 ≤ of * total = mul-le of 1 of total (omega arith) things in
      div_below (of - 1) total of things (omega (arith, all, some))

  pub first_there : first_run (shard_at ((of - 1) / total) of) total ≡ 0
  first_there =
      let low : number * total < 1 * of = omega (arith, split, some) in
      let positive : 0 < of = omega (arith, some) in
      let below : number * total / of < 1 = (div-lt_iff_lt-mul positive).1 low in
      let none : number * total / of ≡ 0 = omega (arith, below) in
      first_is of total number ∙ none

  pub past_there : 0 < past_run (shard_at ((of - 1) / total) of) total
  past_there =
      let rest : (of - 1) % total < total = mod-lt (of - 1) things in
      let more : suc number * total ≡ number * total + total = suc-mul number total in
      let next : suc number ≡ number + 1 = omega arith in
      let high : 1 * of ≤ suc number * total = omega (arith, split, rest, more, some) in
      subst (λ n. 0 < n * total / of) next (le-div 1 (suc number * total) of (omega (arith, some)) high)

-- ---- what stands there

module _ (key : LineKey) (sweep : Sweep) where
  begins_with_line : (first n : ℕ) (text : List ℕ) → 0 < n → AreLinesOf key sweep first text n → HasLineOf key sweep first text
  begins_with_line first n text some are = by n are.lines some are.are are.written
    where
      by : (n : ℕ) (lines : List (List ℕ)) → 0 < n → AllZip (IsLineOf key sweep) (range_with_len first n) lines → text ≡ flat_map (λ (line : List ℕ). line) lines ++ [] → HasLineOf key sweep first text
      by zero lines some are written = absurd (omega (arith, some))
      by (suc n) [] some are written = absurd are
      by (suc n) (line ∷ lines) some are written =
          let behind = flat_map (λ (l : List ℕ). l) lines in
          (behind ++ [], record { line = line; is = are.0; written = written ∙ append_assoc line behind [] })

  behind_more : (first : ℕ) (text more : List ℕ) → HasLineOf key sweep first text → HasLineOf key sweep first (text ++ more)
  behind_more first text more has = (
    has.0 ++ more,
    record { line = has.1.line; is = has.1.is; written = ap (λ l. l ++ more) has.1.written ∙ append_assoc has.1.line has.0 more },
  )

  begins_with_setting : (width first n : ℕ) (text : List ℕ) → IsAskedFor sweep → 0 < n → AreSettingsOf key sweep width first text n → HasLineOf key sweep (first * seed_count sweep.seeds) text
  begins_with_setting width first n text asked some are = by n are.settings some are.are are.written
    where
      counted : (lines : List Line) (is : IsSettingOf key sweep width first lines) → 0 < is.count
      counted lines is = on is.count is.placed.lines is.placed.are is.placed.written
        where
          some_notes : 0 < length (notes_of lines)
          some_notes = some_enough width (seed_count sweep.seeds) (notes_of lines) (some_runs sweep asked) is.setting.enough

          on : (n : ℕ) (ls : List (List ℕ)) → AllZip (IsLineOf key sweep) (range_with_len (first * seed_count sweep.seeds) n) ls → shard_setting lines ≡ flat_map (λ (line : List ℕ). line) ls ++ [] → 0 < n
          on zero [] are written = absurd (some_text lines [] some_notes (ap (λ l. l ++ []) written))
          on zero (l ∷ ls) are written = absurd are
          on (suc n) ls are written = omega arith

      by : (n : ℕ) (settings : List (List Line)) → 0 < n → AllZip (IsSettingOf key sweep width) (range_with_len first n) settings → text ≡ flat_map shard_setting settings ++ []
          → HasLineOf key sweep (first * seed_count sweep.seeds) text
      by zero settings some are written = absurd (omega (arith, some))
      by (suc n) [] some are written = absurd are
      by (suc n) (lines ∷ settings) some are written =
          let is = are.0 in
          let front = begins_with_line (first * seed_count sweep.seeds) is.count (shard_setting lines) (counted lines is) is.placed in
          let behind = flat_map shard_setting settings ++ [] in
          subst (HasLineOf key sweep (first * seed_count sweep.seeds)) (sym (written ∙ append_assoc (shard_setting lines) (flat_map shard_setting settings) []))
          (behind_more (first * seed_count sweep.seeds) (shard_setting lines) behind front)

  pub first_line_there : (until : Option ℕ) (p : Shard) (text : List ℕ) → IsAskedFor sweep → first_run p (shared until sweep) ≡ 0 → 0 < past_run p (shared until sweep) → AreBehind until key sweep p text
      → HasLineOf key sweep 0 text
  first_line_there None p text asked first past are =
      let some : 0 < share (run_count sweep) p = omega (arith, first, past) in
      subst (λ n. HasLineOf key sweep n text) first (begins_with_line (first_run p (run_count sweep)) (share (run_count sweep) p) text some are.1)
  first_line_there (Some width) p text asked first past are =
      let total = setting_count sweep.swept_keys in
      let some : 0 < share total p = omega (arith, first, past) in
      let none : 0 * seed_count sweep.seeds ≡ 0 = omega arith in
      subst (λ n. HasLineOf key sweep n text) (ap (λ n. n * seed_count sweep.seeds) first ∙ none) (begins_with_setting width (first_run p total) (share total p) text asked some are.1)
