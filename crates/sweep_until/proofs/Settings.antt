-- The table of a sweep, setting by setting.
use Rattle.std.proofs.Common.{◌≡◌, ◌∙◌, ◌⊎◌, ◌<◌, ◌≤◌, ◌+◌, ◌*◌, ◌-◌, ℕ, List, [], ◌∷◌, ◌++◌, Option, true, sym, ap, subst, arith, inl, inr, length, length-append, map, append-nil, append_assoc}
use Rattle.std.specs.Prelude.{flat_map}
use Rattle.std.specs.List.{AllZip}
use Rattle.std.specs.Io.KnownBytes.{Appends, Keeps}
use Rattle.std.proofs.lemmas.List.{length-map}
use Rattle.std.proofs.lemmas.List.Concat.{flat_map-append}
use Rattle.std.proofs.lemmas.Slice.Zip.{all_zipped_more}
use Rattle.toml.specs.Data.{Data}
use Rattle.scenario.specs.Setup.{Setup, IsSound}
use Rattle.trace.specs.declared.row.Row.{Row}
use Rattle.trace.specs.Sinks.{AppendsBeginning}
use Rattle.trace.proofs.Beginnings.{Appends-none, Appends-then, Keeps-same, Appends-kept, beginning-first, beginning-none, beginning-then, beginning-whole, beginning-of}
use Rattle.member_laws.specs.Runs.{IsRunOf}
use Rattle.sweep_plan.specs.Sweep.{Sweep, setting_count, seed_count}
use Rattle.figures.specs.declared.summary.SettingSummary.{SettingSummary}
use Rattle.figures.specs.Settings.{IsSummaryOf}
use Rattle.figures.specs.Notes.{Note}
use Rattle.sweep.specs.Runs.{AreMadeBetween, Made, noted}
use Rattle.sweep.specs.Judged.{AreAccepted}
use Rattle.sweep.specs.Table.{noted_line, columns_of}
use Rattle.sweep.proofs.Steps.{none_between}
use Rattle.sweep_until.specs.Kept.{AreKept, runs_in}
use Rattle.sweep_until.specs.Until.{AreMadeFrom, BeginsSettings, BeginsWide, AreTooFew, GoesOn, HasSettings, HasEnded, MakesSetting, Stretch, SumsUp, all_of, setting_course, IsWide, is_narrow_of, stretch_text}
use Rattle.sweep_until.specs.declared.runs.SettingRuns.{SettingRuns}
use Rattle.sweep_until.proofs.Same.{OneRun, made_long}
use Rattle.sweep_until.proofs.Wide.{begins_so}
use Rattle.sweep_until.proofs.Left.{setting_within, settings_left, filled, one_setting}

module _ (tree : Data) (sweep : Sweep) (stretch : Stretch) where
  abbrev line : Made → List ℕ
  line m = noted_line (columns_of tree) stretch.key m

  abbrev front : List ℕ
  front = stretch.front

  -- the text goes on with the lines of more settings
  text_longer : (made more : List (List Made)) → stretch_text tree stretch made ++ flat_map line (all_of more) ≡ stretch_text tree stretch (made ++ more)
  text_longer made more =
      append_assoc front (flat_map line (all_of made)) (flat_map line (all_of more))
      ∙ ap (λ l. front ++ l) (sym (flat_map-append line (all_of made) (all_of more)) ∙ ap (flat_map line) (sym (flat_map-append (λ (setting : List Made). setting) made more)))

  text_more : (made : List (List Made)) (setting : List Made) → stretch_text tree stretch made ++ flat_map line setting ≡ stretch_text tree stretch (made ++ setting ∷ [])
  text_more made setting = ap (λ l. stretch_text tree stretch made ++ flat_map line l) (sym (append-nil setting)) ∙ text_longer made (setting ∷ [])

  module _ (width : ℕ) where
    -- no setting yet
    pub no_setting : (old new : Option (List ℕ)) → Appends old new front → HasSettings tree sweep width stretch old new 0 []
    no_setting old new p = record { made = []; are = tt; written = subst (Appends old new) (sym (append-nil front)) p; summed = tt }

    -- one setting more
    pub setting_added : (old mid new : Option (List ℕ)) (count number : ℕ) (settings all : List SettingSummary) (setting : SettingSummary) → stretch.first + count ≡ number → all ≡ settings ++ setting ∷ []
        → HasSettings tree sweep width stretch old mid count settings → MakesSetting tree sweep stretch.key width number [] mid new setting → HasSettings tree sweep width stretch old new (count + 1) all
    setting_added old mid new count number settings all setting is pushed has makes = record {
      made = has.made ++ makes.made ∷ [];
      are = one_setting tree sweep width stretch.first count number has.made makes.made is has.are makes.are;
      written = subst (Appends old new) (text_more has.made makes.made) (Appends-then old mid new (stretch_text tree stretch has.made) (flat_map line makes.made) has.written makes.written);
      summed = subst (AllZip SumsUp (has.made ++ makes.made ∷ [])) (sym pushed) (all_zipped_more SumsUp has.made settings makes.made setting has.summed makes.summed);
    }

    pub settings_kept : (old mid new : Option (List ℕ)) (count : ℕ) (settings : List SettingSummary) → Keeps mid new → HasSettings tree sweep width stretch old mid count settings
        → HasSettings tree sweep width stretch old new count settings
    settings_kept old mid new count settings kept has =
        record { made = has.made; are = has.are; written = Appends-kept old mid new (stretch_text tree stretch has.made) has.written kept; summed = has.summed }

    module _ (one : OneRun) (exists : (s : Setup) → IsSound s → (rows : List Row) × IsRunOf s rows) (ok : AreAccepted tree sweep) (within : stretch.first + stretch.settings ≤ setting_count sweep.swept_keys)
        (old new : Option (List ℕ)) where
      -- what begins the text of the first settings begins that of all
      begun_first : (count : ℕ) (made : List (List Made)) → count ≤ stretch.settings → AreMadeFrom tree sweep width stretch.first count made
          → AppendsBeginning old new (stretch_text tree stretch made) → BeginsSettings tree sweep width stretch old new
      begun_first count made few are begun =
          let left = settings_left tree sweep one exists ok width (stretch.settings - count) stretch.first count stretch.settings made (omega (arith, few)) within are in
          record {
            made = made ++ left.0;
            are = left.1;
            written = beginning-of old new _ _ (text_longer made left.0) (beginning-first old new (stretch_text tree stretch made) (flat_map line (all_of left.0)) begun);
          }

      pub begins_front : AppendsBeginning old new front → BeginsSettings tree sweep width stretch old new
      begins_front begun = begun_first 0 [] (omega arith) tt (beginning-of old new _ _ (sym (append-nil front)) begun)

      pub begins_settings : (count : ℕ) (settings : List SettingSummary) → count ≤ stretch.settings → HasSettings tree sweep width stretch old new count settings → BeginsSettings tree sweep width stretch old new
      begins_settings count settings few has = begun_first count has.made few has.are (beginning-whole old new (stretch_text tree stretch has.made) has.written)

      -- the same where a setting is only begun
      pub begins_setting : (mid : Option (List ℕ)) (count number : ℕ) (settings : List SettingSummary) → count < stretch.settings → stretch.first + count ≡ number → HasSettings tree sweep width stretch old mid count settings
          → BeginsWide tree sweep width [] (setting_course sweep stretch.key number [] mid) new → BeginsSettings tree sweep width stretch old new
      begins_setting mid count number settings low is has begins =
          let first = number * seed_count sweep.seeds + 0 in
          let lines = begins.begun in
          let low_all : number < setting_count sweep.swept_keys = omega (arith, low, is, within) in
          let inside = setting_within (setting_count sweep.swept_keys) (seed_count sweep.seeds) number low_all in
          let high = lines.high in
          let long = made_long tree one sweep first lines.number lines.made lines.low (omega (arith, high, inside)) lines.are in
          let rest = filled tree sweep one exists ok width number low_all [] lines.made (omega (arith, long, high)) (subst (λ n. AreMadeBetween tree sweep first n lines.made) (sym long) lines.are) begins.wide in
          let text : (stretch_text tree stretch has.made ++ flat_map line lines.made) ++ flat_map line rest.0 ≡ stretch_text tree stretch (has.made ++ (lines.made ++ rest.0) ∷ []) =
          append_assoc (stretch_text tree stretch has.made) (flat_map line lines.made) (flat_map line rest.0)
          ∙ ap (λ l. stretch_text tree stretch has.made ++ l) (sym (flat_map-append line lines.made rest.0)) ∙ text_more has.made (lines.made ++ rest.0) in
          begun_first (count + 1) (has.made ++ (lines.made ++ rest.0) ∷ []) (omega (arith, low))
          (one_setting tree sweep width stretch.first count number has.made (lines.made ++ rest.0) is has.are rest.1)
          (beginning-of old new _ _ text (beginning-first old new (stretch_text tree stretch has.made ++ flat_map line lines.made) (flat_map line rest.0)
          (beginning-then old mid new (stretch_text tree stretch has.made) (flat_map line lines.made) has.written lines.written)))

module _ (tree : Data) (sweep : Sweep) (key : List ℕ) (width : ℕ) (before : List Note) where
  -- a setting begins, or goes on
  pub setting_begins : (number : ℕ) (start : Option (List ℕ)) (kept : SettingRuns) → AreKept before kept → AreTooFew width (seed_count sweep.seeds) before
      → GoesOn tree sweep width before (setting_course sweep key number before start) start kept (number * seed_count sweep.seeds + length before)
  setting_begins number start kept fresh open_yet = record {
    gone = record {
      come = record {
        lines = record { made = []; low = omega arith; are = none_between tree sweep (setting_course sweep key number before start); written = Appends-none start start (Keeps-same start) };
        gathered = subst (λ notes. AreKept notes kept) (sym (append-nil before)) fresh;
      };
      wide = subst (IsWide width) (sym (append-nil before)) open_yet.wide;
    };
    open_yet = ap (is_narrow_of width) (append-nil before) ∙ open_yet.open_yet;
  }

  -- no line of it yet
  pub setting_waits : (number : ℕ) (start : Option (List ℕ)) → AreTooFew width (seed_count sweep.seeds) before → BeginsWide tree sweep width before (setting_course sweep key number before start) start
  setting_waits number start open_yet = record {
    begun = record {
      number = number * seed_count sweep.seeds + length before;
      made = [];
      low = omega arith;
      high = omega (arith, open_yet.few);
      are = none_between tree sweep (setting_course sweep key number before start);
      written = beginning-none start start [] (Keeps-same start);
    };
    wide = subst (IsWide width) (sym (append-nil before)) open_yet.wide;
  }

  -- a setting has ended
  module _ (one : OneRun) (number : ℕ) (low : number < setting_count sweep.swept_keys) (start held : Option (List ℕ)) (kept : SettingRuns) (past : ℕ)
      (last : past ≡ number * seed_count sweep.seeds + seed_count sweep.seeds) (ended : HasEnded tree sweep width before (setting_course sweep key number before start) held kept (number * seed_count sweep.seeds + length before) past) where
    abbrev first : ℕ
    first = number * seed_count sweep.seeds + length before

    counted_all : length (before ++ map noted ended.gone.come.lines.made) ≡ length before + length ended.gone.come.lines.made
    counted_all = length-append before (map noted ended.gone.come.lines.made) ∙ ap (λ n. length before + n) (length-map ended.gone.come.lines.made noted)

    abbrev made : List Made
    made = ended.gone.come.lines.made

    long : first + length made ≡ ended.next
    long =
        let within = setting_within (setting_count sweep.swept_keys) (seed_count sweep.seeds) number low in
        made_long tree one sweep first ended.next made ended.gone.come.lines.low (omega (arith, ended.high, last, within)) ended.gone.come.lines.are

    pub has_some : 0 < runs_in kept
    has_some = omega (arith, long, ended.more, ended.gone.come.gathered.figures.all, counted_all)

    pub setting_ended : BeginsWide tree sweep width before (setting_course sweep key number before start) held
    setting_ended = begins_so tree sweep width before (setting_course sweep key number before start) held kept ended.next (omega (arith, ended.high, last)) ended.gone

    -- its runs are enough, or all that are asked for
    ends_so : (is_narrow_of width (before ++ map noted made) ≡ true) ⊎ (ended.next ≡ past)
        → (is_narrow_of width (before ++ map noted made) ≡ true) ⊎ (length (before ++ map noted made) ≡ seed_count sweep.seeds)
    ends_so (inl narrow) = inl narrow
    ends_so (inr all) = inr (omega (arith, all, long, last, counted_all))

    pub setting_made : (setting : SettingSummary) → ((runs : List Note) → AreKept runs kept → IsSummaryOf setting runs) → MakesSetting tree sweep key width number before start held setting
    setting_made setting sums = record {
      made = made;
      are = record {
        are = subst (λ k. AreMadeBetween tree sweep first k made) (sym long) ended.gone.come.lines.are;
        enough = record {
          few = omega (arith, long, ended.high, last, counted_all);
          wide = ended.gone.wide;
          ends = ends_so ended.ends;
        };
      };
      written = ended.gone.come.lines.written;
      summed = sums _ ended.gone.come.gathered;
    }
