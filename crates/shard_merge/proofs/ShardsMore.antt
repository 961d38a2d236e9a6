-- The shards of a sweep put together, one more at a time.
use Rattle.std.proofs.Common.{◌≡◌, ◌∙◌, ◌<◌, ◌≤◌, ◌+◌, ◌*◌, ◌/◌, ℕ, Bool, true, false, List, [], ◌++◌, length, length-append, refl, sym, ap, subst, arith}
use Rattle.std.specs.Prelude.{Option, Some, None, Vec, nat_le}
use Rattle.std.specs.List.{AllZip, flat_map}
use Rattle.std.specs.declared.alloc.Global.{Global}
use Rattle.std.specs.Io.KnownBytes.{Appends}
use Rattle.std.proofs.lemmas.Bool.Decides.{nat_tests}
use Rattle.std.proofs.lemmas.List.{length-map, map-append}
use Rattle.std.proofs.lemmas.List.Concat.{flat_map-append}
use Rattle.std.proofs.lemmas.List.Elements.{All-append, All-nil}
use Rattle.trace.proofs.Beginnings.{Appends-none, Appends-then, Keeps-same}
use Rattle.sweep_plan.specs.Sweep.{Sweep, setting_count, run_count, seed_count}
use Rattle.figures.specs.declared.column_set.ColumnSet.{ColumnSet}
use Rattle.figures.specs.declared.summary.SettingSummary.{SettingSummary}
use Rattle.shards.specs.declared.shard.Shard.{Shard}
use Rattle.shards.specs.Shards.{IsShard, first_run, past_run}
use Rattle.shards.proofs.Bounds.{share_grows, whole_share}
use Rattle.sweep.specs.Shards.{shard_header}
use Rattle.sweep.specs.Summaries.{IsGathered, SumUp}
use Rattle.sweep.specs.Sums.{AreLinesOf, line_key}
use Rattle.sweep.specs.declared.summing.LineKey.{LineKey}
use Rattle.sweep.proofs.LinesOf.{both_lines, none_yet as no_lines}
use Rattle.sweep.proofs.Gathered.{all_through}
use Rattle.sweep.proofs.Steps.{zipped_long}
use Rattle.table_rows.specs.Items.{IsAllOf}
use Rattle.table_rows.specs.Lines.{Line, IsLine, notes_of, shard_line}
use Rattle.table_rows.specs.Settings.{AreSettingsOf, IsSetting, SumsUpLines, shard_setting}
use Rattle.table_rows.proofs.SettingsOf.{both_settings, none_yet as no_settings}
use Rattle.table_rows.proofs.Read.{zipped_both}
use Rattle.shard_merge.specs.Among.{IsAmongTexts, shard_at}
use Rattle.shard_merge.specs.Behind.{share, share_of, summaries_read}
use Rattle.shard_merge.specs.Joined.{AreOf, ArePlaced, ArePlacedSettings, AreShared, JoinsBehind, JoinsShard, JoinsShards, JoinsThings}
use Rattle.shard_merge.specs.declared.settings_read.SettingsRead.{SettingsRead}
use Rattle.shard_merge.proofs.Shares.{first_is, grows, no_share, share_behind, share_kept, share_of_whole}

-- ---- things

module _ {X : Type 0} (Sound : X → Type 0) (text_of : X → List ℕ) (total : ℕ) (texts : List (Vec ℕ Global)) (mark : List ℕ) (columns : ColumnSet) (sweep : Sweep) (of : ℕ) where
  abbrev Shards : (List X → Type 0) → ℕ → Option (List ℕ) → Option (List ℕ) → Type 0
  Shards Holds count old new = JoinsThings Sound text_of total Holds texts mark columns sweep of count old new

  no_shard : (Holds : List X → Type 0) (held : Option (List ℕ)) → 0 < of → Holds [] → Shards Holds 0 held held
  no_shard Holds held some holds = record {
    things = [];
    many = sym (no_share of total some);
    sound = All-nil Sound;
    there = λ p sound same none. absurd (omega (arith, none, sound.least));
    put = Appends-none held held (Keeps-same held);
    holds = holds;
  }

  shard_more : (Held Holds : List X → Type 0) (number : ℕ) (old mid new : Option (List ℕ)) (body : List ℕ) → number < of → (so : Shards Held number old mid)
      → IsAmongTexts texts (shard_header columns mark sweep (shard_at number of) ++ body) → (are : IsAllOf Sound text_of body (share total (shard_at number of))) → Appends mid new body
      → Holds (so.things ++ are.items) → Shards Holds (number + 1) old new
  shard_more Held Holds number old mid new body within so here are put holds =
      let things = so.things in
      let more = are.items in
      let p = shard_at number of in
      let first = first_is of total number in
      let further = grows of total number (omega (arith, within)) in
      record {
        things = things ++ more;
        many = length-append things more ∙ omega (arith, so.many, are.many, first, further);
        sound = All-append Sound things more so.sound are.sound;
        there = λ q sound same upto. by q sound same upto (nat_le q.number number) refl;
        put = subst (Appends old new) (sym (flat_map-append text_of things more)) (Appends-then old mid new (flat_map text_of things) (flat_map text_of more) so.put (subst (Appends mid new) are.written put));
        holds = holds;
      }
    where
      by : (q : Shard) → IsShard q → q.of ≡ of → q.number ≤ number + 1 → (b : Bool) → nat_le q.number number ≡ b
          → IsAmongTexts texts (shard_header columns mark sweep q ++ flat_map text_of (share_of total q (so.things ++ are.items)))
      by q sound same upto true e =
          let low : q.number ≤ number = grind (arith, nat_tests) in
          let past : past_run q total ≤ number * total / of =
          subst (λ n. q.number * total / q.of ≤ number * total / n) same (share_grows q.number number q.of total low (omega (arith, sound.least, sound.most))) in
          let kept = share_kept so.things are.items total q (omega (arith, past, so.many)) in
          subst (λ l. IsAmongTexts texts (shard_header columns mark sweep q ++ flat_map text_of l)) (sym kept) (so.there q sound same low)
      by q sound same upto false e =
          let high : number < q.number = grind (arith, nat_tests) in
          let at : q.number ≡ number + 1 = omega (arith, upto, high) in
          let last : shard_at number of ≡ q = (λ i. record { number = sym at i; of = sym same i }) in
          let behind = share_behind so.things are.items total (shard_at number of) (so.many ∙ sym (first_is of total number)) are.many in
          subst (λ r. IsAmongTexts texts (shard_header columns mark sweep r ++ flat_map text_of (share_of total r (so.things ++ are.items)))) last
          (subst (λ l. IsAmongTexts texts (shard_header columns mark sweep (shard_at number of) ++ l)) (are.written ∙ ap (flat_map text_of) (sym behind)) here)

  -- all shards
  joined : (seed : ℕ) (Holds Sums : List X → Type 0) (old new : Option (List ℕ)) → 0 < of → (all : Shards Holds of old new) → Sums all.things → (until : Option ℕ) (settings : List SettingSummary)
      → (length all.things ≡ total → length settings ≡ setting_count sweep.swept_keys) → ((body : Shard → List ℕ) → AreShared Sound text_of total Sums body → AreOf until (line_key columns (Some seed) mark sweep) sweep body settings)
      → JoinsBehind [] texts mark columns seed sweep of old new until settings
  joined seed Holds Sums old new some all sums until settings each so =
      let many : length all.things ≡ total = all.many ∙ whole_share of total some in
      let body : Shard → List ℕ = λ p. flat_map text_of (share_of total p all.things) in
      record {
        body = body;
        there = λ p sound same. all.there p sound same (omega (arith, sound.most, same));
        written = subst (Appends old new) (ap (flat_map text_of) (sym (share_of_whole total all.things many))) all.put;
        each = each many;
        are = so body (record { things = all.things; many = many; sound = all.sound; behind = (λ p sound. refl); holds = sums });
      }

-- ---- runs' lines, or settings

module _ (texts : List (Vec ℕ Global)) (mark : List ℕ) (columns : ColumnSet) (seed : ℕ) (sweep : Sweep) (of : ℕ) where
  abbrev each : ℕ
  each = seed_count sweep.seeds

  abbrev key : LineKey
  key = line_key columns (Some seed) mark sweep

  abbrev Gathered : SettingsRead → List Line → Type 0
  Gathered so_far lines = IsGathered each (notes_of lines) so_far.gathering × ArePlaced key sweep lines

  abbrev SummedUp : ℕ → List SettingSummary → List (List Line) → Type 0
  SummedUp width settings own = AllZip SumsUpLines own settings × ArePlacedSettings key sweep width own

  -- the lines of the first shards, and behind them those of one more
  placed_more : (number : ℕ) (lines more : List Line) (body : List ℕ) → length lines ≡ number * run_count sweep / of → ArePlaced key sweep lines → body ≡ flat_map shard_line more
      → length more ≡ share (run_count sweep) (shard_at number of)
      → AreLinesOf key sweep (first_run (shard_at number of) (run_count sweep)) body (share (run_count sweep) (shard_at number of)) → ArePlaced key sweep (lines ++ more)
  placed_more number lines more body long placed is many there =
      let counted : length lines ≡ 0 + length lines = omega arith in
      let at : first_run (shard_at number of) (run_count sweep) ≡ 0 + length lines = first_is of (run_count sweep) number ∙ sym long ∙ counted in
      let behind : AreLinesOf key sweep (0 + length lines) (flat_map shard_line more) (length more) =
      subst (λ n. AreLinesOf key sweep n (flat_map shard_line more) (length more)) at
      (subst (λ n. AreLinesOf key sweep (first_run (shard_at number of) (run_count sweep)) (flat_map shard_line more) n) (sym many)
      (subst (λ l. AreLinesOf key sweep (first_run (shard_at number of) (run_count sweep)) l (share (run_count sweep) (shard_at number of))) is there)) in
      subst (λ n. AreLinesOf key sweep 0 (flat_map shard_line (lines ++ more)) n) (sym (length-append lines more))
      (subst (λ l. AreLinesOf key sweep 0 l (length lines + length more)) (sym (flat_map-append shard_line lines more))
      (both_lines key sweep 0 (length lines) (length more) (flat_map shard_line lines) (flat_map shard_line more) placed behind))

  -- the same of settings
  settings_more : (width number : ℕ) (own more : List (List Line)) (body : List ℕ) → length own ≡ number * setting_count sweep.swept_keys / of → ArePlacedSettings key sweep width own
      → body ≡ flat_map shard_setting more → length more ≡ share (setting_count sweep.swept_keys) (shard_at number of)
      → AreSettingsOf key sweep width (first_run (shard_at number of) (setting_count sweep.swept_keys)) body (share (setting_count sweep.swept_keys) (shard_at number of))
      → ArePlacedSettings key sweep width (own ++ more)
  settings_more width number own more body long placed is many there =
      let total = setting_count sweep.swept_keys in
      let counted : length own ≡ 0 + length own = omega arith in
      let at : first_run (shard_at number of) total ≡ 0 + length own = first_is of total number ∙ sym long ∙ counted in
      let behind : AreSettingsOf key sweep width (0 + length own) (flat_map shard_setting more) (length more) =
      subst (λ n. AreSettingsOf key sweep width n (flat_map shard_setting more) (length more)) at
      (subst (λ n. AreSettingsOf key sweep width (first_run (shard_at number of) total) (flat_map shard_setting more) n) (sym many)
      (subst (λ l. AreSettingsOf key sweep width (first_run (shard_at number of) total) l (share total (shard_at number of))) is there)) in
      subst (λ n. AreSettingsOf key sweep width 0 (flat_map shard_setting (own ++ more)) n) (sym (length-append own more))
      (subst (λ l. AreSettingsOf key sweep width 0 l (length own + length more)) (sym (flat_map-append shard_setting own more))
      (both_settings key sweep width 0 (length own) (length more) (flat_map shard_setting own) (flat_map shard_setting more) placed behind))

  pub none_joined : (until : Option ℕ) (held : Option (List ℕ)) (so_far : SettingsRead) → 0 < of → IsGathered each [] so_far.gathering → so_far.settings.items ≡ []
      → JoinsShards until texts mark columns seed sweep of 0 held held so_far
  none_joined None held so_far some fresh none = no_shard IsLine shard_line (run_count sweep) texts mark columns sweep of (Gathered so_far) held some (fresh, no_lines key sweep 0 [])
  none_joined (Some width) held so_far some fresh none =
      no_shard (IsSetting width each) shard_setting (setting_count sweep.swept_keys) texts mark columns sweep of (SummedUp width so_far.settings.items) held some
      (subst (λ settings. AllZip SumsUpLines [] settings) (sym none) tt, no_settings key sweep width 0 [])

  pub one_joined : (until : Option ℕ) (number : ℕ) (old mid new : Option (List ℕ)) (between after : SettingsRead) → number < of → JoinsShards until texts mark columns seed sweep of number old mid between
      → JoinsShard until texts mark columns seed sweep of number mid new between after → JoinsShards until texts mark columns seed sweep of (number + 1) old new after
  one_joined None number old mid new between after within so one =
      let are = one.read.0.are in
      let more = are.items in
      shard_more IsLine shard_line (run_count sweep) texts mark columns sweep of (Gathered between) (Gathered after) number old mid new one.body within so one.there are one.put (
        subst (λ notes. IsGathered each notes after.gathering) (sym (map-append (λ (l : Line). l.note) so.things more)) (one.read.0.gathered each (notes_of so.things) so.holds.0),
        placed_more number so.things more one.body so.many so.holds.1 are.written are.many one.read.1,
      )
  one_joined (Some width) number old mid new between after within so one =
      let read = one.read.0 in
      let more = read.are.items in
      shard_more (IsSetting width each) shard_setting (setting_count sweep.swept_keys) texts mark columns sweep of (SummedUp width between.settings.items) (SummedUp width after.settings.items) number old mid new
      one.body within so one.there read.are one.put (
        subst (λ settings. AllZip SumsUpLines (so.things ++ more) settings) (sym read.added) (zipped_both SumsUpLines so.things more between.settings.items read.summaries so.holds.0 read.summed),
        settings_more width number so.things more one.body so.many so.holds.1 read.are.written read.are.many one.read.1,
      )

  pub all_joined : (until : Option ℕ) (old new : Option (List ℕ)) (so_far : SettingsRead) (settings : List SettingSummary) → 0 < of → JoinsShards until texts mark columns seed sweep of of old new so_far
      → settings ≡ summaries_read until so_far → JoinsBehind [] texts mark columns seed sweep of old new until settings
  all_joined None old new so_far settings some all same =
      joined IsLine shard_line (run_count sweep) texts mark columns sweep of seed (Gathered so_far) (λ lines. SumUp each (notes_of lines) settings × ArePlaced key sweep lines) old new some all
      (subst (SumUp each (notes_of all.things)) (sym same) all.holds.0.summed, all.holds.1) None settings
      (λ long. ap length same ∙ all_through sweep (notes_of all.things) so_far.gathering (length-map all.things (λ (l : Line). l.note) ∙ long) all.holds.0) (λ body are. are)
  all_joined (Some width) old new so_far settings some all same =
      joined (IsSetting width each) shard_setting (setting_count sweep.swept_keys) texts mark columns sweep of seed (SummedUp width so_far.settings.items) (SummedUp width settings) old new some all
      (subst (λ cs. AllZip SumsUpLines all.things cs) (sym same) all.holds.0, all.holds.1) (Some width) settings
      (λ long. ap length same ∙ sym (zipped_long SumsUpLines all.things so_far.settings.items all.holds.0) ∙ long) (λ body are. are)
