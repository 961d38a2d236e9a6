-- The settings of a shard.
use Rattle.std.proofs.Common.{◌≡◌, ◌<◌, ◌≤◌, ◌+◌, ◌-◌, ◌*◌, ℕ, List, [], Option, Some, arith, inl, refl, subst, sym}
use Rattle.std.proofs.Math.Nat.{le-mul_of_pos_right}
use Rattle.toml.specs.Data.{Data}
use Rattle.sweep_plan.specs.Sweep.{Sweep, setting_count, seed_count}
use Rattle.figures.specs.declared.summary.SettingSummary.{SettingSummary}
use Rattle.shards.specs.declared.shard.Shard.{Shard}
use Rattle.shards.specs.Shards.{IsShard, first_run, past_run, whole}
use Rattle.shards.proofs.Bounds.{share_grows, share_within}
use Rattle.shards.proofs.Whole.{first_of_whole, past_of_whole}
use Rattle.sweep.specs.Runs.{IsAskedFor, Made}
use Rattle.sweep.proofs.Sizes.{some_runs}
use Rattle.sweep_until.specs.Until.{AreMadeFrom, AreTooFew, BeginsSettings, HasSettings}
use Rattle.sweep_until.specs.Shards.{AreSettingsBehind, BeginsRestUntil, CanGoOn, WritesRestUntil, settings_in, first_setting, rest_settings}

-- a sweep has no more settings than runs
pub few_settings : (sweep : Sweep) → IsAskedFor sweep → setting_count sweep.swept_keys ≤ 1000000
few_settings sweep asked = omega (arith, asked.asked.few, le-mul_of_pos_right (setting_count sweep.swept_keys) (some_runs sweep asked))

-- nor are those of a shard past the last
pub settings_within : (sweep : Sweep) (p : Shard) → IsShard p → first_setting sweep p + settings_in sweep p ≤ setting_count sweep.swept_keys
settings_within sweep p sound =
    let count = setting_count sweep.swept_keys in
    let some : 0 < p.of = omega (arith, sound.least, sound.most) in
    let grows : first_run p count ≤ past_run p count = share_grows (p.number - 1) p.number p.of count (omega arith) some in
    let within : past_run p count ≤ count = share_within p.number p.of count sound.most some in
    omega (arith, grows, within)

-- nor are those that are left of it
pub rest_within : (sweep : Sweep) (p : Shard) (settings : ℕ) → IsShard p → settings ≤ settings_in sweep p → first_setting sweep p + settings + (settings_in sweep p - settings) ≤ setting_count sweep.swept_keys
rest_within sweep p settings sound few = omega (arith, few, settings_within sweep p sound)

-- a width that is asked for is small
pub a_width : (sweep : Sweep) (width : ℕ) → IsAskedFor sweep → sweep.until ≡ Some width → width ≤ 100
a_width sweep width asked is = (asked.asked.width width is).most

-- a setting of which no run is made needs some
pub none_yet : (sweep : Sweep) (width : ℕ) → IsAskedFor sweep → AreTooFew width (seed_count sweep.seeds) []
none_yet sweep width asked = record { few = some_runs sweep asked; wide = λ n less. absurd (omega (arith, less)); open_yet = refl }

-- so a shard can be made of which nothing stands
pub nothing_stands : (sweep : Sweep) (p : Shard) (header : List ℕ) → IsAskedFor sweep → CanGoOn sweep p header 0 0 []
nothing_stands sweep p header asked = record { few = omega arith; there = inl refl; open_yet = λ width wanted. none_yet sweep width asked }

module _ (tree : Data) (sweep : Sweep) (mark : List ℕ) (p : Shard) (kept begun : ℕ) (width : ℕ) (wanted : sweep.until ≡ Some width) (old new : Option (List ℕ)) where
  pub rest_whole : (settings : List SettingSummary) → HasSettings tree sweep width (rest_settings tree mark sweep p kept begun) old new (settings_in sweep p - begun) settings
      → WritesRestUntil tree mark sweep p kept begun [] old new
  rest_whole settings every = record { width = width; wanted = wanted; made = every.made; are = every.are; written = every.written }

  pub rest_begun : BeginsSettings tree sweep width (rest_settings tree mark sweep p kept begun) old new → BeginsRestUntil tree mark sweep p kept begun [] old new
  rest_begun begins = record { width = width; wanted = wanted; made = begins.made; are = begins.are; written = begins.written }

-- where nothing was made before, the settings that are left are all of the shard
module _ (tree : Data) (sweep : Sweep) (width : ℕ) (p : Shard) (made : List (List Made)) where
  same_first : first_setting sweep p + 0 ≡ first_setting sweep p
  same_first = omega arith

  same_count : settings_in sweep p - 0 ≡ settings_in sweep p
  same_count = omega arith

  pub all_of_shard : AreSettingsBehind tree sweep width p 0 [] made → AreMadeFrom tree sweep width (first_setting sweep p) (settings_in sweep p) made
  all_of_shard are = subst (λ n. AreMadeFrom tree sweep width (first_setting sweep p) n made) same_count (subst (λ n. AreMadeFrom tree sweep width n (settings_in sweep p - 0) made) same_first are)

  pub all_left : AreMadeFrom tree sweep width (first_setting sweep p) (settings_in sweep p) made → AreSettingsBehind tree sweep width p 0 [] made
  all_left are =
      subst (λ n. AreMadeFrom tree sweep width n (settings_in sweep p - 0) made) (sym same_first)
      (subst (λ n. AreMadeFrom tree sweep width (first_setting sweep p) n made) (sym same_count) are)

-- and those of the only shard are all
pub all_settings_left : (tree : Data) (sweep : Sweep) (width : ℕ) (made : List (List Made)) → AreMadeFrom tree sweep width 0 (setting_count sweep.swept_keys) made
    → AreSettingsBehind tree sweep width whole 0 [] made
all_settings_left tree sweep width made are =
    let count = setting_count sweep.swept_keys in
    let many : settings_in sweep whole ≡ count = omega (arith, first_of_whole count, past_of_whole count) in
    all_left tree sweep width whole made
    (subst (λ n. AreMadeFrom tree sweep width n (settings_in sweep whole) made) (sym (first_of_whole count)) (subst (λ n. AreMadeFrom tree sweep width 0 n made) (sym many) are))
