-- What comes of each way to make the runs of a sweep, as what comes of the runs that are asked for.
use Rattle.std.proofs.Common.{◌≡◌, ◌∙◌, ℕ, ◌+◌, ◌-◌, List, Option, Some, None, Result, Ok, Err, IfErr, IfOk, OnErr, OnOk, arith, subst, sym}
use Rattle.std.specs.List.{range_with_len}
use Rattle.std.proofs.lemmas.List.FromFn.{length-range_with_len}
use Rattle.std.proofs.lemmas.Option.{same_Some}
use Rattle.std.proofs.lemmas.Slice.Zip.{AllZip-long}
use Rattle.toml.specs.Data.{Data}
use Rattle.sweep_plan.specs.Sweep.{Sweep, setting_count}
use Rattle.figures.specs.Notes.{Note}
use Rattle.figures.specs.declared.summary.SettingSummary.{SettingSummary}
use Rattle.shards.specs.declared.shard.Shard.{Shard}
use Rattle.shards.specs.Shards.{whole}
use Rattle.shards.proofs.Whole.{first_of_whole, past_of_whole}
use Rattle.sweep.specs.Shards.{BeginsRest}
use Rattle.sweep.specs.Summaries.{MakesAll, MakesRest}
use Rattle.sweep_until.specs.Shards.{AreSettingsBehind, BeginsRestUntil, BeginsUntil, MakesUntil, WritesRestUntil, first_setting, settings_in}
use Rattle.sweep_until.specs.Until.{IsMadeUntil, SumsUp}
use Rattle.sweep_command.specs.Runs.{BeginsAllRuns, BeginsRuns, MakesRuns, Standing, WritesRuns}

-- what holds of the way that was taken holds of the one that is asked for
pub ok_by : {T E : Type 0} {P : T → Type 0} (Q : Option ℕ → T → Type 0) (until way : Option ℕ) (outcome : Result T E) → until ≡ way → IfOk outcome P → ((x : T) → P x → Q way x) → IfOk outcome (Q until)
ok_by Q until way (Ok x) is h turns = subst (λ o. Q o x) (sym is) (turns x h)
ok_by Q until way (Err e) is h turns = tt

pub done_by : {T E P : Type 0} (Q : Option ℕ → Type 0) (until way : Option ℕ) (outcome : Result T E) → until ≡ way → OnOk outcome P → (P → Q way) → OnOk outcome (Q until)
done_by Q until way (Ok x) is h turns = subst Q (sym is) (turns h)
done_by Q until way (Err e) is h turns = tt

pub err_by : {T E P : Type 0} (Q : Option ℕ → Type 0) (until way : Option ℕ) (outcome : Result T E) → until ≡ way → OnErr outcome P → (P → Q way) → OnErr outcome (Q until)
err_by Q until way (Ok x) is h turns = tt
err_by Q until way (Err e) is h turns = subst Q (sym is) (turns h)

pub failed_by : {T E : Type 0} {P : E → Type 0} (Q : Option ℕ → E → Type 0) (until way : Option ℕ) (outcome : Result T E) → until ≡ way → IfErr outcome P → ((e : E) → P e → Q way e) → IfErr outcome (Q until)
failed_by Q until way (Ok x) is h turns = tt
failed_by Q until way (Err e) is h turns = subst (λ o. Q o e) (sym is) (turns e h)

-- those of a whole sweep
module _ (tree : Data) (mark : List ℕ) (plan : Sweep) (old new : Option (List ℕ)) where
  pub all_made : (settings : List SettingSummary) → MakesAll tree mark plan old new settings → MakesRuns None tree mark plan old new settings
  all_made settings makes =
      let writes = makes.makes.writes in
      record { made = writes.made; are = writes.are; written = writes.written; all = makes.all; summed = makes.makes.gathered }

  pub all_begun : BeginsRest tree mark plan whole 0 0 old new → BeginsAllRuns None tree mark plan old new
  all_begun begins = record { made = begins.made; are = begins.are; written = begins.written }

  module _ (width : ℕ) where
    pub few_made : (settings : List SettingSummary) → MakesUntil tree mark plan width old new settings → MakesRuns (Some width) tree mark plan old new settings
    few_made settings makes =
        let count = setting_count plan.swept_keys in
        let first = first_setting plan whole + 0 in
        let many : settings_in plan whole - 0 ≡ count = omega (arith, first_of_whole count, past_of_whole count) in
        record {
          made = makes.made;
          are = makes.are;
          written = makes.written;
          all = AllZip-long SumsUp makes.made settings makes.summed
              ∙ (AllZip-long (IsMadeUntil tree plan width) (range_with_len first (settings_in plan whole - 0)) makes.made makes.are
              ∙ (length-range_with_len first (settings_in plan whole - 0) ∙ many));
          summed = makes.summed;
        }

    pub few_begun : BeginsUntil tree mark plan width old new → BeginsAllRuns (Some width) tree mark plan old new
    few_begun begins = record { made = begins.made; are = begins.are; written = begins.written }

-- and of a shard
module _ (tree : Data) (mark : List ℕ) (plan : Sweep) (p : Shard) (kept : ℕ) (stands : Standing) (old new : Option (List ℕ)) where
  pub rest_made : (HasGathered : List Note → Type 0) → MakesRest tree mark plan p kept stands.count old new HasGathered → WritesRuns None tree mark plan p kept stands old new
  rest_made HasGathered makes = record { made = makes.writes.made; are = makes.writes.are; written = makes.writes.written }

  pub rest_begun : BeginsRest tree mark plan p kept stands.count old new → BeginsRuns None tree mark plan p kept stands old new
  rest_begun begins = record { made = begins.made; are = begins.are; written = begins.written }

  pub few_rest_made : (width : ℕ) → plan.until ≡ Some width → WritesRestUntil tree mark plan p kept stands.count stands.before old new → WritesRuns (Some width) tree mark plan p kept stands old new
  few_rest_made width is makes = record {
    made = makes.made;
    are = subst (λ (w : ℕ). AreSettingsBehind tree plan w p stands.count stands.before makes.made) (same_Some makes.width width (sym makes.wanted ∙ is)) makes.are;
    written = makes.written;
  }

  pub few_rest_begun : (width : ℕ) → plan.until ≡ Some width → BeginsRestUntil tree mark plan p kept stands.count stands.before old new → BeginsRuns (Some width) tree mark plan p kept stands old new
  few_rest_begun width is begins = record {
    made = begins.made;
    are = subst (λ (w : ℕ). AreSettingsBehind tree plan w p stands.count stands.before begins.made) (same_Some begins.width width (sym begins.wanted ∙ is)) begins.are;
    written = begins.written;
  }
