-- A shard of whole settings that was cut off goes on as the shard that it is.
use Rattle.std.proofs.Common.{◌≡◌, ◌∙◌, ◌≤◌, ◌+◌, ◌-◌, ◌⊎◌, ℕ, zero, suc, List, [], ◌∷◌, ◌++◌, Option, Some, inl, inr, length, length-append, map, take, take_at, drop, arith, refl, sym, ap, subst, append_assoc, append-nil}
use Rattle.std.specs.Prelude.{All}
use Rattle.std.specs.List.{AllZip, flat_map, range_with_len}
use Rattle.std.specs.Io.KnownBytes.{Appends}
use Rattle.std.proofs.lemmas.List.{append_cancel_left, drop-map, drop_at, length-map, take-map}
use Rattle.std.proofs.lemmas.List.Elements.{All-drop, All-head}
use Rattle.std.proofs.lemmas.List.FromFn.{length-range_with_len}
use Rattle.std.proofs.lemmas.List.Concat.{flat_map-append}
use Rattle.toml.specs.Data.{Data}
use Rattle.sweep_plan.specs.Sweep.{Sweep, seed_count}
use Rattle.shards.specs.declared.shard.Shard.{Shard}
use Rattle.sweep.specs.Shards.{shard_header}
use Rattle.sweep.specs.Resumed.{IsShort}
use Rattle.sweep.specs.Sums.{key_of_text, sweep_key}
use Rattle.sweep.specs.declared.summing.LineKey.{LineKey}
use Rattle.sweep.proofs.Kept.{goes_behind, long_again, short_again}
use Rattle.sweep.proofs.Numbers.{range_split}
use Rattle.sweep.specs.declared.begun.BegunFault.TheVariants as begun_fault
use Rattle.figures.specs.declared.column_set.ColumnSet.{ColumnSet}
use Rattle.figures.specs.Notes.{Note}
use Rattle.sweep.specs.Runs.{Made, noted}
use Rattle.sweep.specs.Table.{noted_line, columns_of}
use Rattle.sweep.proofs.Steps.{zipped_long}
use Rattle.sweep_until.specs.Shards.{AreSettingsBehind as AreLeft, WritesRestUntil, settings_in, first_setting}
use Rattle.sweep_until.specs.Until.{AreEnough, AreMadeBehind, AreMadeFrom, AreMadeWithFirst, IsMadeUntil, all_of}
use Rattle.sweep_until.proofs.ShardSettings.{all_left, all_of_shard}
use Rattle.table_rows.specs.Settings.{IsSetting, shard_setting}
use Rattle.table_rows.specs.Lines.{Line, notes_of}
use Rattle.table_rows.specs.Made.{FitsLine}
use Rattle.table_rows.specs.Open.{BeginsWithOpen}
use Rattle.table_rows.proofs.Beginnings.{one_begins_with_other}
use Rattle.table_rows.proofs.Items.{cut_items, none_left}
use Rattle.table_rows.proofs.MadeLines.{line_from, lines_sound, setting_from, setting_in_shard, setting_noted, settings_from, settings_in_shard, settings_sound}
use Rattle.table_rows.proofs.SettingsOf.{settings_counted, whole_settings}
use Rattle.table_rows.proofs.OneSetting.{same_setting}
use Rattle.table_rows.proofs.Read.{zipped_both}
use Rattle.table_rows.specs.Begun.{AreLinesBehind, AreSettingsBehind, IsBegunSettings, RefusesBegunSettings}
use Rattle.table_rows.specs.Cut.{IsCutShardOfSettings}
use Rattle.table_rows.proofs.Again.{begin_setting, setting_again}

same_width : (a b : ℕ) → ◌≡◌ {A = Option ℕ} (Some a) (Some b) → a ≡ b
same_width a b same = cc

module _ (tree : Data) (sweep : Sweep) (width : ℕ) where
  abbrev Made_so : ℕ → List Made → Type 0
  Made_so = IsMadeUntil tree sweep width

  -- the first of some settings
  first_made : (first count n : ℕ) (made : List (List Made)) → n ≤ count → AreMadeFrom tree sweep width first count made → AreMadeFrom tree sweep width first n (take n made)
  first_made first count zero made few are = tt
  first_made first zero (suc n) made few are = absurd (omega (arith, few))
  first_made first (suc count) (suc n) [] few are = absurd are
  first_made first (suc count) (suc n) (setting ∷ made) few are = (are.0, first_made (first + 1) count n made (omega (arith, few)) are.1)

  later_made : (first count n : ℕ) (made : List (List Made)) → n ≤ count → AreMadeFrom tree sweep width first count made → AreMadeFrom tree sweep width (first + n) (count - n) (drop n made)
  later_made first count zero made few are =
      let place : first ≡ first + zero = omega arith in
      let size : count ≡ count - zero = omega arith in
      subst (λ n. AreMadeFrom tree sweep width (first + zero) n made) size (subst (λ n. AreMadeFrom tree sweep width n count made) place are)
  later_made first zero (suc n) made few are = absurd (omega (arith, few))
  later_made first (suc count) (suc n) [] few are = absurd are
  later_made first (suc count) (suc n) (setting ∷ made) few are =
      let place : first + 1 + n ≡ first + suc n = omega arith in
      let size : count - n ≡ suc count - suc n = omega arith in
      subst (λ k. AreMadeFrom tree sweep width (first + suc n) k (drop n made)) size
      (subst (λ k. AreMadeFrom tree sweep width k (count - n) (drop n made)) place (later_made (first + 1) count n made (omega (arith, few)) are.1))

  -- and those behind them
  both_made : (first count n : ℕ) (made later : List (List Made)) → n ≤ count → AreMadeFrom tree sweep width first count made → AreMadeFrom tree sweep width (first + n) (count - n) later
      → AreMadeFrom tree sweep width first count (take n made ++ later)
  both_made first count n made later few are behind =
      let sum : n + (count - n) ≡ count = omega (arith, few) in
      subst (λ l. AllZip Made_so l (take n made ++ later)) (sym (range_split first n (count - n)) ∙ ap (λ m. range_with_len first m) sum)
      (zipped_both Made_so (range_with_len first n) (range_with_len (first + n) (count - n)) (take n made) later (first_made first count n made few are) behind)

module _ (tree : Data) (mark : List ℕ) (sweep : Sweep) (width : ℕ) (p : Shard) (made : List (List Made)) (text : List ℕ) (cut : IsCutShardOfSettings tree mark sweep width p made text) where
  abbrev columns : ColumnSet
  columns = columns_of tree

  abbrev key : List ℕ
  key = sweep_key mark sweep

  abbrev own_key : LineKey
  own_key = key_of_text tree mark sweep

  abbrev header : List ℕ
  header = shard_header columns mark sweep p

  abbrev each : ℕ
  each = seed_count sweep.seeds

  abbrev true_settings : List (List Line)
  true_settings = settings_from columns key made

  abbrev table : List ℕ
  table = flat_map (noted_line columns key) (all_of made)

  cut_are : AreMadeFrom tree sweep width (first_setting sweep p) (settings_in sweep p) made
  cut_are = all_of_shard tree sweep width p made cut.are

  true_sound : All (IsSetting width each) true_settings
  true_sound = settings_sound columns key tree sweep width (range_with_len (first_setting sweep p) (settings_in sweep p)) made cut_are cut.fits

  count_true : length true_settings ≡ settings_in sweep p
  count_true =
      let long = zipped_long (IsMadeUntil tree sweep width) (range_with_len (first_setting sweep p) (settings_in sweep p)) made cut_are in
      let count = length-range_with_len (first_setting sweep p) (settings_in sweep p) in
      omega (arith, long, count, length-map made (setting_from columns key))

  -- the lines of some settings, and of others behind them
  joined : (some more : List (List Made)) → flat_map (noted_line columns key) (all_of some) ++ flat_map (noted_line columns key) (all_of more) ≡ flat_map (noted_line columns key) (all_of (some ++ more))
  joined some more =
      sym (flat_map-append (noted_line columns key) (all_of some) (all_of more)) ∙ ap (flat_map (noted_line columns key)) (sym (flat_map-append (λ (setting : List Made). setting) some more))

  -- what stands behind the first line is a beginning of the settings' lines
  behind_first : (behind : List ℕ) → text ≡ header ++ behind → behind ++ cut.rest ≡ flat_map shard_setting true_settings
  behind_first behind is =
      append_cancel_left header (behind ++ cut.rest) table (sym (append_assoc header behind cut.rest) ∙ ap (λ l. l ++ cut.rest) (sym is) ∙ cut.written)
      ∙ sym (settings_in_shard columns key made)

  -- ---- the text is taken for a beginning of the shard

  pub taken_for_one : ¬ (RefusesBegunSettings tree mark sweep p text begun_fault.Other)
  taken_for_one apart = on (one_begins_with_other text cut.rest header table cut.written)
    where
      on : ((more : List ℕ) × (text ≡ header ++ more)) ⊎ ((more : List ℕ) × (header ≡ text ++ more)) → ⊥
      on (inl it) = apart.no_more it.0 it.1
      on (inr it) = apart.no_less it.0 it.1

  -- ---- and what goes on behind what stands there is the shard

  -- The text of whole settings, and of the lines of the next one, is that of the first settings that were made, and of the first runs of the next one.
  module _ (kept settings : ℕ) (before : List Note) (it : AreSettingsBehind own_key sweep width (first_setting sweep p) (settings_in sweep p) header text kept settings before) (few : settings ≤ settings_in sweep p) where
    abbrev own : List (List Line)
    own = it.begins.settings

    abbrev more : List ℕ
    more = (it.left ++ it.unread) ++ cut.rest

    split : (rest : List (List Line)) × (true_settings ≡ own ++ rest) × (more ≡ flat_map shard_setting rest ++ [])
    split =
        let sound = whole_settings own_key sweep width (first_setting sweep p) settings own it.begins.are in
        let many = settings_counted own_key sweep width (first_setting sweep p) settings own it.begins.are in
        let start : flat_map shard_setting own ++ more ≡ it.rest ++ cut.rest =
        sym (append_assoc (flat_map shard_setting own) (it.left ++ it.unread) cut.rest)
        ∙ ap (λ l. l ++ cut.rest) (sym (append_assoc (flat_map shard_setting own) it.left it.unread) ∙ ap (λ l. l ++ it.unread) (sym it.begins.written) ∙ sym it.read.written) in
        let whole : flat_map shard_setting own ++ more ≡ flat_map shard_setting true_settings ++ [] =
        start ∙ behind_first it.rest it.written ∙ sym (append-nil (flat_map shard_setting true_settings)) in
        cut_items (IsSetting width each) shard_setting (same_setting width each) own true_settings more [] sound true_sound whole (omega (arith, many, few, count_true))

    its_lines : flat_map shard_setting own ≡ flat_map (noted_line columns key) (all_of (take settings made))
    its_lines =
        let many = settings_counted own_key sweep width (first_setting sweep p) settings own it.begins.are in
        let first : own ≡ take settings true_settings = sym (ap (take settings) split.1 ∙ take_at own split.0 settings many) in
        ap (flat_map shard_setting) (first ∙ take-map (setting_from columns key) settings made) ∙ settings_in_shard columns key (take settings made)

    -- the settings behind them
    abbrev rest_made : List (List Made)
    rest_made = drop settings made

    rest_lines : split.0 ≡ settings_from columns key rest_made
    rest_lines =
        let many = settings_counted own_key sweep width (first_setting sweep p) settings own it.begins.are in
        sym (drop_at own split.0 settings many) ∙ ap (drop settings) (sym split.1) ∙ drop-map (setting_from columns key) settings made

    rest_are : AreMadeFrom tree sweep width (first_setting sweep p + settings) (settings_in sweep p - settings) rest_made
    rest_are = later_made tree sweep width (first_setting sweep p) (settings_in sweep p) settings made few cut_are

    rest_fit : All (All FitsLine) rest_made
    rest_fit = All-drop (All FitsLine) settings made cut.fits

    abbrev one_first : ℕ
    one_first = first_setting sweep p + settings

    -- ---- the lines of the next setting begin those of the one that was made

    module _ (b : BeginsWithOpen own_key sweep width one_first it.left it.after before) where
      tail_text : shard_setting b.lines ++ ((it.after ++ it.unread) ++ cut.rest) ≡ more
      tail_text =
          sym (append_assoc (shard_setting b.lines) (it.after ++ it.unread) cut.rest)
          ∙ ap (λ l. l ++ cut.rest) (sym (append_assoc (shard_setting b.lines) it.after it.unread) ∙ ap (λ l. l ++ it.unread) (sym b.written))

      its_first : (one : List Made) (others : List (List Made)) → rest_made ≡ one ∷ others → IsMadeUntil tree sweep width one_first one → All FitsLine one
          → (length before ≤ length one) × (map noted (take (length before) one) ≡ before) × (shard_setting b.lines ≡ flat_map (noted_line columns key) (take (length before) one))
      its_first one others is made_one fits =
          let whole = setting_from columns key one in
          let there : shard_setting b.lines ++ ((it.after ++ it.unread) ++ cut.rest) ≡ shard_setting whole ++ (flat_map shard_setting (settings_from columns key others) ++ []) =
          tail_text ∙ split.2 ∙ ap (λ l. flat_map shard_setting l ++ []) (rest_lines ∙ ap (settings_from columns key) is)
          ∙ append_assoc (shard_setting whole) (flat_map shard_setting (settings_from columns key others)) [] in
          let enough : AreEnough width each (notes_of whole) = subst (AreEnough width each) (sym (setting_noted columns key one)) made_one.enough in
          let tail = begin_setting width each b.lines whole b.are.few enough _ _ b.are.sound (lines_sound columns key one fits) there in
          let size : length b.lines ≡ length before = sym (length-map b.lines (λ (l : Line). l.note)) ∙ ap length b.noted in
          let lines : b.lines ≡ setting_from columns key (take (length before) one) =
          sym (ap (take (length before)) tail.1 ∙ take_at b.lines tail.0 (length before) size) ∙ take-map (line_from columns key) (length before) one in
          let long : length one ≡ length b.lines + length tail.0 = sym (length-map one (line_from columns key)) ∙ ap length tail.1 ∙ length-append b.lines tail.0 in (
            omega (arith, long, size),
            sym (setting_noted columns key (take (length before) one)) ∙ ap notes_of (sym lines) ∙ b.noted,
            ap shard_setting lines ∙ setting_in_shard columns key (take (length before) one),
          )

  module _ (kept settings : ℕ) (before : List Note) (is : IsBegunSettings tree mark sweep width p text kept settings before) (new : Option (List ℕ))
      (writes : WritesRestUntil tree mark sweep p kept settings before (Some (take kept text)) new) where
    abbrev later : List ℕ
    later = flat_map (noted_line columns key) (all_of writes.made)

    behind_made : AreLeft tree sweep width p settings before writes.made
    behind_made = subst (λ w. AreLeft tree sweep w p settings before writes.made) (same_width writes.width width (sym writes.wanted ∙ cut.wanted)) writes.are

    -- behind the bytes that stay they come behind the first line and the lines that stand there
    so : (all : List (List Made)) (lines : List ℕ) → AreMadeFrom tree sweep width (first_setting sweep p) (settings_in sweep p) all → lines ++ later ≡ flat_map (noted_line columns key) (all_of all)
        → take kept text ++ drop kept header ≡ header ++ lines → WritesRestUntil tree mark sweep p 0 0 [] (Some []) new
    so all lines are text_is again = record {
      width = width;
      wanted = cut.wanted;
      made = all;
      are = all_left tree sweep width p all are;
      written = subst (Appends (Some []) new) (append_assoc header lines later ∙ ap (λ l. header ++ l) text_is) (goes_behind header text kept (header ++ lines) again new later writes.written);
    }

    -- where only whole settings stand there, the others come behind them
    settings_again : (lines : List ℕ) → lines ≡ flat_map (noted_line columns key) (all_of (take settings made)) → before ≡ [] → take kept text ++ drop kept header ≡ header ++ lines
        → WritesRestUntil tree mark sweep p 0 0 [] (Some []) new
    settings_again lines are none again =
        so (take settings made ++ writes.made) lines
        (both_made tree sweep width (first_setting sweep p) (settings_in sweep p) settings made writes.made is.few cut_are (subst (λ l. AreLeft tree sweep width p settings l writes.made) none behind_made))
        (ap (λ l. l ++ later) are ∙ joined (take settings made) writes.made) again

    -- the whole settings, and what comes behind them
    whole_behind : (it : AreSettingsBehind own_key sweep width (first_setting sweep p) (settings_in sweep p) header text kept settings before) → it.after ≡ it.left → before ≡ []
        → WritesRestUntil tree mark sweep p 0 0 [] (Some []) new
    whole_behind it same none =
        let own = flat_map shard_setting it.begins.settings in
        let whole : it.rest ≡ own ++ (it.left ++ it.unread) = it.read.written ∙ ap (λ l. l ++ it.unread) it.begins.written ∙ append_assoc own it.left it.unread in
        let stay : kept + length (it.left ++ it.unread) ≡ length text = subst (λ l. kept + length (l ++ it.unread) ≡ length text) same it.stay in
        settings_again own (its_lines kept settings before it is.few) none (long_again header text kept own (it.left ++ it.unread) (it.written ∙ ap (λ l. header ++ l) whole) stay)

    -- the lines of the next setting, whose other runs come behind them
    module _ (it : AreSettingsBehind own_key sweep width (first_setting sweep p) (settings_in sweep p) header text kept settings before)
        (b : BeginsWithOpen own_key sweep width (first_setting sweep p + settings) it.left it.after before) where
      open_again : (one : List Made) (others : List (List Made)) → drop settings made ≡ one ∷ others → AreMadeWithFirst tree sweep width (first_setting sweep p + settings) (settings_in sweep p - settings) before writes.made
          → IsMadeUntil tree sweep width (first_setting sweep p + settings) one → All FitsLine one → WritesRestUntil tree mark sweep p 0 0 [] (Some []) new
      open_again one others left goes made_one fits =
          let its = its_first kept settings before it is.few b one others left made_one fits in
          let own = flat_map shard_setting it.begins.settings in
          let opened = shard_setting b.lines in
          let whole : it.rest ≡ (own ++ opened) ++ (it.after ++ it.unread) =
          it.read.written ∙ ap (λ l. l ++ it.unread) (it.begins.written ∙ ap (λ l. own ++ l) b.written)
          ∙ append_assoc own (opened ++ it.after) it.unread ∙ ap (λ l. own ++ l) (append_assoc opened it.after it.unread) ∙ sym (append_assoc own opened (it.after ++ it.unread)) in
          let setting = take (length before) one ++ goes.one in
          let rest = setting ∷ goes.others in
          let again : IsMadeUntil tree sweep width (first_setting sweep p + settings) setting =
          setting_again tree sweep width (first_setting sweep p + settings) before one goes.one its.0 its.1 made_one goes.open_one in
          let count : suc (settings_in sweep p - settings - 1) ≡ settings_in sweep p - settings = omega (arith, goes.some) in
          let are : AreMadeFrom tree sweep width (first_setting sweep p + settings) (settings_in sweep p - settings) rest =
          subst (λ n. AreMadeFrom tree sweep width (first_setting sweep p + settings) n rest) count (again, goes.are) in
          let line = noted_line columns key in
          let text_is : (own ++ opened) ++ later ≡ flat_map line (all_of (take settings made ++ rest)) =
          append_assoc own opened later
          ∙ (λ i. its_lines kept settings before it is.few i ++ (its.2 i ++ flat_map line (all_of (goes.all i))))
          ∙ ap (λ l. flat_map line (all_of (take settings made)) ++ l)
          (ap (λ l. flat_map line (take (length before) one) ++ l) (flat_map-append line goes.one (all_of goes.others))
          ∙ sym (append_assoc (flat_map line (take (length before) one)) (flat_map line goes.one) (flat_map line (all_of goes.others)))
          ∙ ap (λ l. l ++ flat_map line (all_of goes.others)) (sym (flat_map-append line (take (length before) one) goes.one))
          ∙ sym (flat_map-append line setting (all_of goes.others)))
          ∙ joined (take settings made) rest in
          so (take settings made ++ rest) (own ++ opened)
          (both_made tree sweep width (first_setting sweep p) (settings_in sweep p) settings made rest is.few cut_are are)
          text_is
          (long_again header text kept (own ++ opened) (it.after ++ it.unread) (it.written ∙ ap (λ l. header ++ l) whole) it.stay)

      one_there : AreMadeWithFirst tree sweep width (first_setting sweep p + settings) (settings_in sweep p - settings) before writes.made → WritesRestUntil tree mark sweep p 0 0 [] (Some []) new
      one_there goes = by (drop settings made) refl (settings_in sweep p - settings) refl (rest_are kept settings before it is.few) (rest_fit kept settings before it is.few)
        where
          by : (rest : List (List Made)) → drop settings made ≡ rest → (count : ℕ) → settings_in sweep p - settings ≡ count → AreMadeFrom tree sweep width (first_setting sweep p + settings) count rest
              → All (All FitsLine) rest → WritesRestUntil tree mark sweep p 0 0 [] (Some []) new
          by [] left zero none are fits = absurd (omega (arith, goes.some, none))
          by [] left (suc count) some are fits = absurd are
          by (one ∷ others) left zero none are fits = absurd are
          by (one ∷ others) left (suc count) some are fits = open_again one others left goes are.0 (All-head (All FitsLine) one others fits)

    -- without metadata no line of the next setting stands there
    none_open : (it : AreSettingsBehind own_key sweep width (first_setting sweep p) (settings_in sweep p) header text kept settings before)
        → BeginsWithOpen own_key sweep width (first_setting sweep p + settings) it.left it.after before → before ≡ [] → it.after ≡ it.left
    none_open it b none =
        let no_lines : b.lines ≡ [] = none_left b.lines (sym (length-map b.lines (λ (l : Line). l.note)) ∙ ap length (b.noted ∙ none)) in
        sym (b.written ∙ ap (λ l. shard_setting l ++ it.after) no_lines)

    behind_open : (it : AreSettingsBehind own_key sweep width (first_setting sweep p) (settings_in sweep p) header text kept settings before)
        → BeginsWithOpen own_key sweep width (first_setting sweep p + settings) it.left it.after before → (notes : List Note) → before ≡ notes
        → AreMadeBehind tree sweep width (first_setting sweep p + settings) (settings_in sweep p - settings) notes writes.made → WritesRestUntil tree mark sweep p 0 0 [] (Some []) new
    behind_open it b [] same goes = whole_behind it (none_open it b same) same
    behind_open it b (note ∷ notes) same goes =
        one_there it b (subst (λ l. AreMadeWithFirst tree sweep width (first_setting sweep p + settings) (settings_in sweep p - settings) l writes.made) (sym same) goes)

    pub going_on : WritesRestUntil tree mark sweep p 0 0 [] (Some []) new
    going_on = by is.stands
      where
        by : (IsShort header text kept settings × (before ≡ [])) ⊎ AreSettingsBehind own_key sweep width (first_setting sweep p) (settings_in sweep p) header text kept settings before
            → WritesRestUntil tree mark sweep p 0 0 [] (Some []) new
        by (inl it) =
            let short = it.0 in
            let none : [] ≡ flat_map (noted_line columns key) (all_of (take settings made)) = ap (λ n. flat_map (noted_line columns key) (all_of (take n made))) (sym short.no_run) in
            settings_again [] none it.1 (short_again header text kept short.rest short.written short.all ∙ sym (append-nil header))
        by (inr it) = on it.started
          where
            on : AreLinesBehind own_key sweep width (first_setting sweep p) (settings_in sweep p) settings it.left it.after before → WritesRestUntil tree mark sweep p 0 0 [] (Some []) new
            on (inl none) = whole_behind it none.2 none.1
            on (inr b) = behind_open it b.1 before refl behind_made
