-- Shards of a sweep that was made, put together, are the whole.
use Rattle.std.proofs.Common.{◌≡◌, ◌∙◌, ◌<◌, ℕ, List, ◌++◌, length, sym, ap, subst, arith}
use Rattle.std.specs.Prelude.{Option, Some, None, All, Vec}
use Rattle.std.specs.List.{AllZip, flat_map, range_with_len}
use Rattle.std.specs.declared.alloc.Global.{Global}
use Rattle.std.proofs.lemmas.List.{length-map}
use Rattle.std.proofs.lemmas.List.FromFn.{length-range_with_len}
use Rattle.toml.specs.Data.{Data}
use Rattle.sweep_plan.specs.Sweep.{Sweep, setting_count, run_count, seed_count}
use Rattle.figures.specs.declared.column_set.ColumnSet.{ColumnSet}
use Rattle.figures.specs.declared.summary.SettingSummary.{SettingSummary}
use Rattle.shards.specs.declared.shard.Shard.{Shard}
use Rattle.shards.specs.Shards.{IsShard, whole}
use Rattle.sweep.specs.Runs.{Made, IsAskedFor}
use Rattle.sweep.specs.Sums.{line_key, sweep_key}
use Rattle.sweep.specs.Table.{noted_line, columns_of}
use Rattle.sweep.specs.Summaries.{SumUp}
use Rattle.sweep.specs.Shards.{shard_header}
use Rattle.sweep.proofs.Steps.{zipped_long}
use Rattle.sweep_until.specs.Until.{AreMadeFrom, IsMadeUntil, all_of}
use Rattle.sweep_until.proofs.ShardSettings.{all_settings_left}
use Rattle.table_rows.specs.Lines.{Line, IsLine, notes_of, shard_line}
use Rattle.table_rows.specs.Settings.{IsSetting, SumsUpLines, shard_setting}
use Rattle.table_rows.specs.Made.{FitsLine}
use Rattle.table_rows.proofs.MadeLines.{setting_from, setting_in_shard, setting_noted, settings_from, settings_in_shard, settings_sound, lines_sound, sums_so}
use Rattle.table_rows.proofs.OneSetting.{same_setting}
use Rattle.table_rows.proofs.OneLine.{same_line}
use Rattle.shard_merge.specs.Among.{IsAmongTexts, shard_at}
use Rattle.shard_merge.specs.Behind.{share_of}
use Rattle.shard_merge.specs.Joined.{AreOf, IsMark, Joins}
use Rattle.shard_merge.specs.Genuine.{AreShards, AreShardsOfSettings, IsWhole, IsWholeUntil}
use Rattle.shard_merge.proofs.GenuineHeads.{body_there, one_column, one_sweep, whole_put}
use Rattle.shard_merge.proofs.Shares.{all_behind, same_things, share_map}

module _ (texts : List (Vec ℕ Global)) (old new : Option (List ℕ)) (own : Sweep) (read_columns : ColumnSet) (settings : List SettingSummary) (mark : List ℕ) (tree : Data) (sweep : Sweep)
    (joins : Joins texts old new own read_columns settings) (marked : IsMark mark) (asked : IsAskedFor sweep) where
  abbrev columns : ColumnSet
  columns = columns_of tree

  abbrev key : List ℕ
  key = sweep_key mark sweep

  -- the texts are these
  abbrev AreThese : (Shard → List ℕ) → Type 0
  AreThese body = (text : List ℕ) → IsAmongTexts texts text → (q : Shard) × IsShard q × (text ≡ shard_header columns mark sweep q ++ body q)

  -- what stands in them is of this sweep
  are_of : (body : Shard → List ℕ) → AreThese body → (until : Option ℕ) → sweep.until ≡ until → AreOf until (line_key read_columns (Some joins.seed) joins.mark sweep) sweep joins.put.body settings
  are_of body genuine until wanted =
      subst (λ o. AreOf o (line_key read_columns (Some joins.seed) joins.mark sweep) sweep joins.put.body settings) wanted
      (subst (λ (s : Sweep). AreOf s.until (line_key read_columns (Some joins.seed) joins.mark s) s joins.put.body settings) (one_sweep texts old new own read_columns settings mark columns sweep joins marked asked body genuine) joins.put.are)

  -- ---- each setting with each seed

  module _ (of : ℕ) (made : List Made) (none : sweep.until ≡ None) (long : length made ≡ run_count sweep) (fits : All FitsLine made) (genuine : AreShards tree texts mark sweep of made) where
    abbrev body : Shard → List ℕ
    body q = flat_map (noted_line columns key) (share_of (run_count sweep) q made)

    each_genuine : AreThese body
    each_genuine text among = let its = genuine text among in (its.0, its.1, its.3)

    are : AreOf None (line_key read_columns (Some joins.seed) joins.mark sweep) sweep joins.put.body settings
    are = are_of body each_genuine None none

    abbrev lines : List Line
    lines = setting_from columns key made

    lines_there : (number : ℕ) → number < joins.of → joins.put.body (shard_at number joins.of) ≡ flat_map shard_line (share_of (run_count sweep) (shard_at number joins.of) lines)
    lines_there number within =
        let p = shard_at number joins.of in
        body_there texts old new own read_columns settings mark columns sweep joins marked asked body each_genuine number within
        ∙ sym (setting_in_shard columns key (share_of (run_count sweep) p made)) ∙ ap (flat_map shard_line) (sym (share_map _ (run_count sweep) p made))

    some : 0 < joins.of
    some = omega (arith, joins.some)

    many : length lines ≡ run_count sweep
    many = length-map made _ ∙ long

    same : are.things ≡ lines
    same = same_things IsLine shard_line same_line (run_count sweep) _ joins.put.body are joins.of some joins.few lines (lines_sound columns key made fits) many lines_there

    table : joins.put.body whole ≡ flat_map (noted_line columns key) made
    table =
        all_behind IsLine shard_line same_line (run_count sweep) _ joins.put.body are joins.of some joins.few lines (lines_sound columns key made fits) many lines_there
        ∙ setting_in_shard columns key made

    pub whole_of : IsWhole tree mark sweep made old new own read_columns settings
    whole_of =
        let one = one_sweep texts old new own read_columns settings mark columns sweep joins marked asked body each_genuine in
        record {
          same = one;
          column = one_column texts old new own read_columns settings mark columns sweep joins marked asked body each_genuine;
          written = whole_put texts old new own read_columns settings mark columns sweep joins marked asked body each_genuine _ table;
          each = joins.put.each ∙ ap (λ (s : Sweep). setting_count s.swept_keys) one;
          summed = subst (λ notes. SumUp (seed_count sweep.seeds) notes settings) (ap notes_of same ∙ setting_noted columns key made) are.holds.0;
        }

  -- ---- settings of as many runs as are enough

  module _ (width of : ℕ) (made : List (List Made)) (wanted : sweep.until ≡ Some width) (makes : AreMadeFrom tree sweep width 0 (setting_count sweep.swept_keys) made)
      (fits : All (All FitsLine) made) (genuine : AreShardsOfSettings tree texts mark sweep of made) where
    abbrev body_of_settings : Shard → List ℕ
    body_of_settings q = flat_map (noted_line columns key) (all_of (share_of (setting_count sweep.swept_keys) q made))

    each_of_settings : AreThese body_of_settings
    each_of_settings text among = let its = genuine text among in (its.0, its.1, its.3)

    abbrev Own : List Line → Type 0
    Own = IsSetting width (seed_count sweep.seeds)

    are_settings : AreOf (Some width) (line_key read_columns (Some joins.seed) joins.mark sweep) sweep joins.put.body settings
    are_settings = are_of body_of_settings each_of_settings (Some width) wanted

    abbrev true_settings : List (List Line)
    true_settings = settings_from columns key made

    settings_there : (number : ℕ) → number < joins.of → joins.put.body (shard_at number joins.of) ≡ flat_map shard_setting (share_of (setting_count sweep.swept_keys) (shard_at number joins.of) true_settings)
    settings_there number within =
        let p = shard_at number joins.of in
        let total = setting_count sweep.swept_keys in
        body_there texts old new own read_columns settings mark columns sweep joins marked asked body_of_settings each_of_settings number within
        ∙ sym (settings_in_shard columns key (share_of total p made)) ∙ ap (flat_map shard_setting) (sym (share_map _ total p made))

    some_shards : 0 < joins.of
    some_shards = omega (arith, joins.some)

    many_settings : length true_settings ≡ setting_count sweep.swept_keys
    many_settings =
        length-map made _ ∙ sym (zipped_long (IsMadeUntil tree sweep width) (range_with_len 0 (setting_count sweep.swept_keys)) made makes)
        ∙ length-range_with_len 0 (setting_count sweep.swept_keys)

    true_sound : All Own true_settings
    true_sound = settings_sound columns key tree sweep width (range_with_len 0 (setting_count sweep.swept_keys)) made makes fits

    same_settings : are_settings.things ≡ true_settings
    same_settings =
        same_things Own shard_setting (same_setting width (seed_count sweep.seeds)) (setting_count sweep.swept_keys) _ joins.put.body are_settings joins.of some_shards joins.few true_settings true_sound
        many_settings settings_there

    table_of_settings : joins.put.body whole ≡ flat_map (noted_line columns key) (all_of made)
    table_of_settings =
        all_behind Own shard_setting (same_setting width (seed_count sweep.seeds)) (setting_count sweep.swept_keys) _ joins.put.body are_settings joins.of some_shards joins.few true_settings true_sound
        many_settings settings_there ∙ settings_in_shard columns key made

    pub whole_of_settings : IsWholeUntil tree mark sweep width old new own read_columns settings
    whole_of_settings = record {
      same = one_sweep texts old new own read_columns settings mark columns sweep joins marked asked body_of_settings each_of_settings;
      column = one_column texts old new own read_columns settings mark columns sweep joins marked asked body_of_settings each_of_settings;
      makes = record {
        made = made;
        are = all_settings_left tree sweep width made makes;
        written = whole_put texts old new own read_columns settings mark columns sweep joins marked asked body_of_settings each_of_settings _ table_of_settings;
        summed = sums_so columns key made settings (subst (λ own. AllZip SumsUpLines own settings) same_settings are_settings.holds.0);
      };
    }
