-- Settings whose lines are those of the runs at their places.
use Rattle.std.proofs.Common.{◌≡◌, ◌∙◌, ◌+◌, ◌-◌, ◌*◌, ◌<◌, ◌≤◌, ◌⊎◌, ℕ, zero, suc, List, [], ◌∷◌, ◌++◌, length, length-append, take, take_at, inl, inr, refl, sym, ap, subst, arith, append_assoc, append-nil}
use Rattle.std.specs.Prelude.{All}
use Rattle.std.specs.List.{AllZip, flat_map, range_with_len}
use Rattle.std.proofs.lemmas.List.Elements.{All-cons, All-nil}
use Rattle.std.proofs.lemmas.List.Concat.{flat_map-append}
use Rattle.std.proofs.lemmas.Slice.Zip.{all_zipped_more}
use Rattle.sweep_plan.specs.Sweep.{Sweep, seed_count}
use Rattle.sweep.specs.Sums.{BeginsWithLines, HasLineOf}
use Rattle.sweep.specs.declared.summing.LineKey.{LineKey}
use Rattle.sweep.proofs.LinesOf.{not_all}
use Rattle.sweep.proofs.Numbers.{range_more, range_split}
use Rattle.sweep_until.proofs.Enough.{some_enough}
use Rattle.sweep_until.specs.declared.runs.SettingRuns.{SettingRuns}
use Rattle.table_rows.specs.Settings.{AreSettingsOf, BeginsWithSettings, HasSetting, HasSettingOf, IsSetting, IsSettingOf, ReadsSetting, shard_setting}
use Rattle.table_rows.specs.Items.{BeginsWith}
use Rattle.table_rows.specs.Lines.{Line, notes_of, shard_line}
use Rattle.table_rows.proofs.Items.{none_left}
use Rattle.table_rows.proofs.OneSetting.{same_setting}
use Rattle.table_rows.proofs.OneLine.{laid}
use Rattle.table_rows.proofs.Read.{zipped_both}

no_text : (front : List ℕ) (x : ℕ) (back : List ℕ) → front ++ x ∷ back ≡ [] → ⊥
no_text [] x back none = cc
no_text (y ∷ front) x back none = cc

pub some_text : (lines : List Line) (more : List ℕ) → 0 < length (notes_of lines) → shard_setting lines ++ more ≡ [] → ⊥
some_text [] more some none = omega (arith, some)
some_text (l ∷ lines) more some none =
    let behind = shard_setting lines ++ more in
    no_text l.sum 32 _ (sym (laid l behind) ∙ sym (append_assoc (shard_line l) (shard_setting lines) more) ∙ none)

module _ (key : LineKey) (sweep : Sweep) (width : ℕ) where
  abbrev each : ℕ
  each = seed_count sweep.seeds

  pub none_yet : (first : ℕ) (text : List ℕ) → BeginsWithSettings key sweep width first text text 0
  none_yet first text = record { settings = []; are = tt; written = refl }

  pub one_more : (first count : ℕ) (text left next : List ℕ) → BeginsWithSettings key sweep width first text left count → BeginsWith (IsSettingOf key sweep width (first + count)) shard_setting left next
      → BeginsWithSettings key sweep width first text next (count + 1)
  one_more first count text left next so here =
      let all = so.settings in
      record {
        settings = all ++ here.one ∷ [];
        are = subst (λ l. AllZip (IsSettingOf key sweep width) l (all ++ here.one ∷ [])) (sym (range_more first count))
            (all_zipped_more (IsSettingOf key sweep width) (range_with_len first count) all (first + count) here.one so.are here.sound);
        written = so.written ∙ ap (λ l. flat_map shard_setting all ++ l) here.written ∙ sym (append_assoc (flat_map shard_setting all) (shard_setting here.one) next)
            ∙ ap (λ l. l ++ next) (ap (λ l. flat_map shard_setting all ++ l) (sym (append-nil (shard_setting here.one))) ∙ sym (flat_map-append shard_setting all (here.one ∷ [])));
      }

  -- each is a setting
  pub whole_settings : (first count : ℕ) (settings : List (List Line)) → AllZip (IsSettingOf key sweep width) (range_with_len first count) settings → All (IsSetting width each) settings
  whole_settings first zero [] are = All-nil (IsSetting width each)
  whole_settings first zero (setting ∷ settings) are = absurd are
  whole_settings first (suc count) [] are = absurd are
  whole_settings first (suc count) (setting ∷ settings) are = All-cons (IsSetting width each) setting settings are.0.setting (whole_settings (first + 1) count settings are.1)

  -- how many they are
  pub settings_counted : (first count : ℕ) (settings : List (List Line)) → AllZip (IsSettingOf key sweep width) (range_with_len first count) settings → length settings ≡ count
  settings_counted first zero [] are = refl
  settings_counted first zero (setting ∷ settings) are = absurd are
  settings_counted first (suc count) [] are = absurd are
  settings_counted first (suc count) (setting ∷ settings) are = ap suc (settings_counted (first + 1) count settings are.1)

  -- some settings, and behind them the next
  pub both_settings : (first n m : ℕ) (a b : List ℕ) → AreSettingsOf key sweep width first a n → AreSettingsOf key sweep width (first + n) b m → AreSettingsOf key sweep width first (a ++ b) (n + m)
  both_settings first n m a b these those =
      let front : a ≡ flat_map shard_setting these.settings = these.written ∙ append-nil (flat_map shard_setting these.settings) in
      let back : b ≡ flat_map shard_setting those.settings = those.written ∙ append-nil (flat_map shard_setting those.settings) in
      record {
        settings = these.settings ++ those.settings;
        are = subst (λ l. AllZip (IsSettingOf key sweep width) l (these.settings ++ those.settings)) (sym (range_split first n m))
            (zipped_both (IsSettingOf key sweep width) (range_with_len first n) (range_with_len (first + n) m) these.settings those.settings these.are those.are);
        written = (λ i. front i ++ back i) ∙ sym (flat_map-append shard_setting these.settings those.settings) ∙ sym (append-nil (flat_map shard_setting (these.settings ++ those.settings)));
      }

  module _ (some : 0 < each) where
    -- a text that is settings goes on behind the first of them with the next, or ends
    pub cut_settings : (first n m : ℕ) (xs ys : List (List Line)) (left : List ℕ) → AllZip (IsSettingOf key sweep width) (range_with_len first n) xs
        → AllZip (IsSettingOf key sweep width) (range_with_len first m) ys → flat_map shard_setting xs ++ left ≡ flat_map shard_setting ys
        → ((n ≡ m) × (left ≡ [])) ⊎ ((n < m) × HasSettingOf key sweep width (first + n) left)
    cut_settings first zero zero [] [] left is also same = inl (refl, same)
    cut_settings first zero zero [] (y ∷ ys) left is also same = absurd also
    cut_settings first zero zero (x ∷ xs) ys left is also same = absurd is
    cut_settings first zero (suc m) [] [] left is also same = absurd also
    cut_settings first zero (suc m) [] (y ∷ ys) left is also same =
        let none : first + zero ≡ first = omega arith in
        inr (omega arith, subst (λ n. HasSettingOf key sweep width n left) (sym none) (flat_map shard_setting ys, record { one = y; sound = also.0; written = same }))
    cut_settings first zero (suc m) (x ∷ xs) ys left is also same = absurd is
    cut_settings first (suc n) m [] ys left is also same = absurd is
    cut_settings first (suc n) zero (x ∷ xs) [] left is also same =
        absurd (some_text x (flat_map shard_setting xs ++ left) (some_enough width each (notes_of x) some is.0.setting.enough) (sym (append_assoc (shard_setting x) (flat_map shard_setting xs) left) ∙ same))
    cut_settings first (suc n) zero (x ∷ xs) (y ∷ ys) left is also same = absurd also
    cut_settings first (suc n) (suc m) (x ∷ xs) [] left is also same = absurd also
    cut_settings first (suc n) (suc m) (x ∷ xs) (y ∷ ys) left is also same =
        let one = same_setting width each x y (flat_map shard_setting xs ++ left) (flat_map shard_setting ys) is.0.setting also.0.setting (sym (append_assoc (shard_setting x) (flat_map shard_setting xs) left) ∙ same) in
        on (cut_settings (first + 1) n m xs ys left is.1 also.1 one.1)
      where
        on : ((n ≡ m) × (left ≡ [])) ⊎ ((n < m) × HasSettingOf key sweep width (first + 1 + n) left) → ((suc n ≡ suc m) × (left ≡ [])) ⊎ ((suc n < suc m) × HasSettingOf key sweep width (first + suc n) left)
        on (inl it) = inl (ap suc it.0, it.1)
        on (inr it) =
            let at : first + 1 + n ≡ first + suc n = omega arith in
            inr (omega (arith, it.0), subst (λ k. HasSettingOf key sweep width k left) at it.1)

    -- a text of which so many settings were read, and which doesn't end there or has others behind, isn't so many
    pub not_so : (first count stood : ℕ) (text left : List ℕ) → BeginsWithSettings key sweep width first text left stood → (stood ≡ count) ⊎ ¬ (HasSettingOf key sweep width (first + stood) left)
        → ((stood ≡ count) → left ≡ [] → ⊥) → ¬ (AreSettingsOf key sweep width first text count)
    not_so first count stood text left begins no_more not all =
        by (cut_settings first stood count begins.settings all.settings left begins.are all.are (sym begins.written ∙ all.written ∙ append-nil (flat_map shard_setting all.settings))) no_more
      where
        by : ((stood ≡ count) × (left ≡ [])) ⊎ ((stood < count) × HasSettingOf key sweep width (first + stood) left) → (stood ≡ count) ⊎ ¬ (HasSettingOf key sweep width (first + stood) left) → ⊥
        by (inl it) no_more = not it.0 it.1
        by (inr it) (inl same) = absurd (omega (arith, it.0, same))
        by (inr it) (inr none) = none it.1

    -- and one of which so many were read, and nothing is left, is
    pub all_so : (first count stood : ℕ) (text left : List ℕ) → BeginsWithSettings key sweep width first text left stood → stood ≤ count → count ≤ stood → length left ≡ 0
        → AreSettingsOf key sweep width first text count
    all_so first count stood text left begins few all none =
        let same : stood ≡ count = omega (arith, few, all) in
        subst (λ n. BeginsWithSettings key sweep width first text [] n) same
        (subst (λ l. BeginsWithSettings key sweep width first text l stood) (none_left left none) begins)

-- a text is no shorter than what is left of it behind a setting
pub left_within : (width each : ℕ) (text left : List ℕ) (kept : SettingRuns) → ReadsSetting width each text left kept → length left ≤ length text
left_within width each text left kept reads =
    let long : length text ≡ length (shard_setting reads.begins.one) + length left = ap length reads.begins.written ∙ length-append (shard_setting reads.begins.one) left in
    omega (arith, long)

-- ---- the setting of a number

module _ (key : LineKey) (sweep : Sweep) (width each number : ℕ) (counted : each ≡ seed_count sweep.seeds) (text : List ℕ) where
  abbrev seeds : ℕ
  seeds = seed_count sweep.seeds

  pub no_setting : ¬ (HasSetting width each text) → ¬ (HasSettingOf key sweep width number text)
  no_setting none has = none (has.0, record { one = has.1.one; sound = subst (λ n. IsSetting width n has.1.one) (sym counted) has.1.sound.setting; written = has.1.written })

  module _ (left : List ℕ) (kept : SettingRuns) (reads : ReadsSetting width each text left kept) (lines behind : List ℕ) (is : lines ≡ take (length text - length left) text) (first count : ℕ)
      (at : first ≡ number * seeds) (begins : BeginsWithLines key sweep first lines behind count) (few : count ≤ each) where
    abbrev one : List Line
    one = reads.begins.one

    its_setting : IsSetting width seeds one
    its_setting = subst (λ n. IsSetting width n one) counted reads.begins.sound

    its_lines : lines ≡ shard_setting one
    its_lines =
        let long : length text ≡ length (shard_setting one) + length left = ap length reads.begins.written ∙ length-append (shard_setting one) left in
        let count : length (shard_setting one) ≡ length text - length left = omega (arith, long) in
        is ∙ ap (take (length text - length left)) reads.begins.written ∙ take_at (shard_setting one) left (length text - length left) count

    pub setting_there : length behind ≡ 0 → BeginsWith (IsSettingOf key sweep width number) shard_setting text left
    setting_there none = record {
      one = one;
      sound = record {
        setting = its_setting;
        count = count;
        few = omega (arith, few, counted);
        placed = subst (λ n. BeginsWithLines key sweep n (shard_setting one) [] count) at
            (subst (λ l. BeginsWithLines key sweep first l [] count) its_lines (subst (λ l. BeginsWithLines key sweep first lines l count) (none_left behind none) begins));
      };
      written = reads.begins.written;
    }

    pub setting_unplaced : ¬ (behind ≡ []) → (count ≡ each) ⊎ ¬ (HasLineOf key sweep (first + count) behind) → ¬ (HasSettingOf key sweep width number text)
    setting_unplaced more no_more has =
        let same = same_setting width seeds has.1.one one has.0 left has.1.sound.setting its_setting (sym has.1.written ∙ reads.begins.written) in
        let placed : BeginsWithLines key sweep first lines [] has.1.sound.count =
        subst (λ l. BeginsWithLines key sweep first l [] has.1.sound.count) (ap shard_setting same.0 ∙ sym its_lines)
        (subst (λ n. BeginsWithLines key sweep n (shard_setting has.1.one) [] has.1.sound.count) (sym at) has.1.sound.placed) in
        by (not_all key sweep first count has.1.sound.count lines behind begins placed) no_more
      where
        by : ((count ≡ has.1.sound.count) × (behind ≡ [])) ⊎ ((count < has.1.sound.count) × HasLineOf key sweep (first + count) behind)
            → (count ≡ each) ⊎ ¬ (HasLineOf key sweep (first + count) behind) → ⊥
        by (inl it) no_more = more it.1
        by (inr it) (inl all) = let most : has.1.sound.count ≤ seeds = has.1.sound.few in omega (arith, it.0, all, counted, most)
        by (inr it) (inr none) = none it.1
