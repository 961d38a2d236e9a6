-- Tables of a sweep that was made, put together, are the whole.
use Rattle.std.proofs.Common.{◌≡◌, ◌∙◌, ◌<◌, ◌≤◌, ◌+◌, ◌*◌, ℕ, Bool, true, false, List, [], ◌∷◌, ◌++◌, length, map, inl, inr, refl, sym, ap, subst, arith}
use Rattle.std.specs.Prelude.{All, Option, Some, None, Vec, slice_get, nat_le}
use Rattle.std.specs.List.{flat_map}
use Rattle.std.specs.declared.alloc.Global.{Global}
use Rattle.std.specs.Io.KnownBytes.{Appends}
use Rattle.std.proofs.lemmas.Bool.Decides.{nat_tests}
use Rattle.std.proofs.lemmas.List.{append_cancel_left, length-map}
use Rattle.std.proofs.lemmas.List.Elements.{All-head, All-tail}
use Rattle.std.proofs.lemmas.Option.{same_Some, slice_get_within}
use Rattle.toml.specs.Data.{Data}
use Rattle.figures.specs.declared.column_set.ColumnSet.{ColumnSet}
use Rattle.figures.specs.Notes.{note_cell}
use Rattle.figures.specs.declared.summary.SettingSummary.{SettingSummary}
use Rattle.line_sums.specs.Sums.{checksum}
use Rattle.sweep_plan.specs.Sweep.{Sweep, run_count, seed_count, setting_count}
use Rattle.sweep_plan.specs.declared.seeds.Seeds.{Seeds}
use Rattle.shards.specs.declared.shard.Shard.{Shard}
use Rattle.shards.specs.Shards.{IsShard, whole}
use Rattle.shards.proofs.Whole.{whole_is_shard}
use Rattle.sweep.specs.Runs.{IsAskedFor, Made, noted}
use Rattle.sweep.specs.Shards.{shard_header, shard_table}
use Rattle.sweep.specs.Sums.{sweep_key}
use Rattle.sweep.specs.Summaries.{SumUp}
use Rattle.sweep.specs.Table.{columns_of, made_line, noted_line}
use Rattle.sweep_until.specs.Until.{AreMadeFrom, all_of}
use Rattle.table_rows.specs.Lines.{IsLine, Line, notes_of, shard_line}
use Rattle.table_rows.specs.Made.{FitsLine}
use Rattle.table_rows.proofs.Items.{same_items}
use Rattle.table_rows.proofs.MadeLines.{line_from, line_in_shard, lines_sound, setting_from, setting_in_shard, setting_noted}
use Rattle.table_rows.proofs.OneLine.{same_line}
use Rattle.shard_merge.specs.Among.{IsAmongTexts, shard_at}
use Rattle.shard_merge.specs.Behind.{share_of}
use Rattle.shard_merge.specs.Joined.{IsMark}
use Rattle.shard_merge.specs.Joined.{Joins as JoinsShards}
use Rattle.shard_merge.specs.Genuine.{AreAll, AreShards, AreShardsOfSettings, IsAgain, IsWhole, IsWholeUntil}
use Rattle.shard_merge.proofs.GenuineHeads.{body_there, one_column, one_shard, one_sweep, whole_put}
use Rattle.shard_merge.proofs.GenuineWhole.{whole_of, whole_of_settings}
use Rattle.shard_merge.proofs.Shares.{share_of_whole}
use Rattle.table_merge.specs.Seeds.{AreInTurn, Ranged, in_turn, seeds_of_tables, with_seeds}
use Rattle.table_merge.specs.Found.{HaveSeeds}
use Rattle.table_merge.specs.Lines.{behind_sum, resummed}
use Rattle.table_merge.specs.Merged.{IsRangeTable, Joins, JoinsSeeds, merged_lines}
use Rattle.table_merge.specs.Genuine.{AreTables, IsTableText, runs_with}
use Rattle.table_merge.proofs.Ones.{again_with, asked_range, one_head, one_range}
use Rattle.table_merge.proofs.Turns.{IsWithin, all_part, all_within, part_all, part_long, parts_in_turn, ranged_map, ranged_part, turn_mapped}

-- a line that was made, with its checksum of another key
module _ (columns : ColumnSet) (key other : List ℕ) where
  laid_behind : (m : Made) → behind_sum (line_from columns key m) ≡ note_cell (noted m) ++ made_line columns m
  laid_behind m = behind 32 _ _ (append_cancel_left (line_from columns key m).sum _ _ (line_in_shard columns key m))
    where
      behind : (c : ℕ) (x y : List ℕ) → c ∷ x ≡ c ∷ y → x ≡ y
      behind c x y same = cc

  made_again : (m : Made) → resummed other (line_from columns key m) ≡ line_from columns other m
  made_again m = λ i. record { sum = checksum other (laid_behind m i); note = noted m; body = (line_from columns other m).body }

  all_again : (made : List Made) → map (resummed other) (setting_from columns key made) ≡ setting_from columns other made
  all_again [] = refl
  all_again (m ∷ made) = (λ i. made_again m i ∷ all_again made i)

-- two tables of a sweep differ in their first line
not_one : (text : List ℕ) (mark other : List ℕ) (read_columns columns : ColumnSet) (own sweep : Sweep) (p q : Shard) (x y : List ℕ) → IsMark mark → IsMark other → IsAskedFor own → IsAskedFor sweep
    → IsShard p → IsShard q → text ≡ shard_header read_columns mark own p ++ x → text ≡ shard_header columns other sweep q ++ y → own ≡ sweep
not_one text mark other read_columns columns own sweep p q x y marked also asked asked_too sound sound_too is is_too =
    (one_head text mark other read_columns columns own sweep p q (record { asked = asked; marked = marked; sound = sound; rest = x; written = is })
    (record { asked = asked_too; marked = also; sound = sound_too; rest = y; written = is_too })).sweep

module _ (texts : List (Vec ℕ Global)) (old new : Option (List ℕ)) (own : Sweep) (read_columns : ColumnSet) (settings : List SettingSummary) (joins : JoinsSeeds texts old new own read_columns settings)
    (mark : List ℕ) (columns : ColumnSet) (sweep : Sweep) (marked : IsMark mark) (asked : IsAskedFor sweep) (body : Shard → List ℕ)
    (genuine : (text : List ℕ) → IsAmongTexts texts text → (q : Shard) × IsShard q × (text ≡ shard_header columns mark sweep q ++ body q)) where
  its_sweep : (t : Ranged Line) → IsRangeTable texts joins.mark read_columns own t → with_seeds own t.seeds ≡ sweep
  its_sweep t is =
      let its = genuine _ is.there in
      not_one _ joins.mark mark read_columns columns (with_seeds own t.seeds) sweep whole its.0 (flat_map shard_line t.things) (body its.0) joins.marked marked is.asked asked whole_is_shard its.1 refl its.2

  -- so texts that are shards of one sweep aren't tables with other seeds
  pub not_seeds : ⊥
  not_seeds = by joins.tables joins.several joins.follow joins.each
    where
      by : (tables : List (Ranged Line)) → 2 ≤ length tables → AreInTurn joins.all.first (seeds_of_tables tables) (joins.all.last + 1) → All (IsRangeTable texts joins.mark read_columns own) tables → ⊥
      by [] several follow each = absurd (omega (arith, several))
      by (t ∷ []) several follow each = absurd (omega (arith, several))
      by (t ∷ u ∷ more) several follow each =
          let rest = All-tail (IsRangeTable texts joins.mark read_columns own) t (u ∷ more) each in
          let first = its_sweep t (All-head (IsRangeTable texts joins.mark read_columns own) t (u ∷ more) each) in
          let second = its_sweep u (All-head (IsRangeTable texts joins.mark read_columns own) u more rest) in
          let same : t.seeds ≡ u.seeds = one_range own own t.seeds u.seeds (first ∙ sym second) in
          let starts : t.seeds.first ≡ u.seeds.first = ap (λ (r : Seeds). r.first) same in
          omega (arith, starts, follow.1, follow.2.0)

-- the first of several texts
first_held : (texts : List (Vec ℕ Global)) → 2 ≤ length texts → (held : Vec ℕ Global) × (slice_get texts 0 ≡ Some held)
first_held [] more = absurd (omega (arith, more))
first_held (v ∷ texts) more = (v, refl)

-- ---- tables of a sweep that was made

module _ (texts : List (Vec ℕ Global)) (tree : Data) (mark : List ℕ) (sweep : Sweep) (all : Seeds) (made : List Made) (marked : IsMark mark) (asked : IsAskedFor sweep) (is_with : sweep ≡ with_seeds sweep all)
    (long : length made ≡ run_count sweep) (told_all : All FitsLine made) (genuine : AreTables tree texts mark sweep all made) where
  abbrev rev : ColumnSet
  rev = columns_of tree

  abbrev count : ℕ
  count = setting_count sweep.swept_keys

  abbrev each : ℕ
  each = seed_count sweep.seeds

  abbrev key : List ℕ
  key = sweep_key mark sweep

  its_each : each ≡ seed_count (Some all)
  its_each = ap (λ (s : Sweep). seed_count s.seeds) is_with

  range : (all.first ≤ all.last)
  range = (asked_range sweep sweep all asked is_with).0

  past : all.last + 1 ≡ all.first + each
  past = omega (arith, range, its_each)

  -- what the text of a table has behind its first line
  abbrev runs_text : Seeds → List ℕ
  runs_text r = flat_map (noted_line rev (sweep_key mark (with_seeds sweep r))) (runs_with sweep all made r)

  -- the lines of the runs with the seeds of a range
  abbrev lines_with : Seeds → List Line
  lines_with r = setting_from rev (sweep_key mark (with_seeds sweep r)) (runs_with sweep all made r)

  -- ---- of tables with seeds that follow one another

  module _ (old new : Option (List ℕ)) (own : Sweep) (read_columns : ColumnSet) (settings : List SettingSummary) (joins : JoinsSeeds texts old new own read_columns settings) (seeded : own.seeds ≡ Some all) where
    same_all : joins.all ≡ all
    same_all = same_Some joins.all all (sym (ap (λ (s : Sweep). s.seeds) joins.seeded) ∙ seeded)

    -- what one table says of the sweep
    pub record IsSame (t : Ranged Line) : Type 0 where
      pub marks : joins.mark ≡ mark
      pub column : read_columns ≡ rev
      pub sweep_with : with_seeds own t.seeds ≡ with_seeds sweep t.seeds
      pub rest : flat_map shard_line t.things ≡ runs_text t.seeds

    same_of : (t : Ranged Line) → IsRangeTable texts joins.mark read_columns own t → IsSame t
    same_of t is =
        let its = genuine _ is.there in
        let one = one_head _ joins.mark mark read_columns rev (with_seeds own t.seeds) (with_seeds sweep its.seeds) whole whole
        (record { asked = is.asked; marked = joins.marked; sound = whole_is_shard; rest = flat_map shard_line t.things; written = refl })
        (record { asked = its.asked; marked = marked; sound = whole_is_shard; rest = runs_text its.seeds; written = its.written }) in
        let same : t.seeds ≡ its.seeds = one_range own sweep t.seeds its.seeds one.sweep in
        record {
          marks = one.marks;
          column = one.column;
          sweep_with = one.sweep ∙ ap (with_seeds sweep) (sym same);
          rest = one.rest ∙ ap runs_text (sym same);
        }

    first_same : (tables : List (Ranged Line)) → 2 ≤ length tables → All (IsRangeTable texts joins.mark read_columns own) tables → (t : Ranged Line) × IsSame t
    first_same [] several each_table = absurd (omega (arith, several))
    first_same (t ∷ ts) several each_table = (t, same_of t (All-head (IsRangeTable texts joins.mark read_columns own) t ts each_table))

    one_told : (t : Ranged Line) × IsSame t
    one_told = first_same joins.tables joins.several joins.each

    same_marks : joins.mark ≡ mark
    same_marks = one_told.1.marks

    same_column : read_columns ≡ rev
    same_column = one_told.1.column

    same_sweep : own ≡ sweep
    same_sweep =
        again_with own own joins.all joins.seeded ∙ ap (with_seeds own) same_all ∙ (λ i. with_seeds (record { swept_keys = (one_told.1.sweep_with i).swept_keys; seeds = None; until = None }) all) ∙ sym is_with

    each_table : All (IsRangeTable texts mark rev sweep) joins.tables
    each_table = subst (λ (m : List ℕ). All (IsRangeTable texts m rev sweep) joins.tables) same_marks
        (subst (λ (b : ColumnSet). All (IsRangeTable texts joins.mark b sweep) joins.tables) same_column
        (subst (λ (s : Sweep). All (IsRangeTable texts joins.mark read_columns s) joins.tables) same_sweep joins.each))

    turn : AreInTurn all.first (seeds_of_tables joins.tables) (all.first + each)
    turn = subst (AreInTurn all.first (seeds_of_tables joins.tables)) past
        (subst (λ (r : Seeds). AreInTurn r.first (seeds_of_tables joins.tables) (r.last + 1)) same_all joins.follow)

    -- its lines are those of the runs with its seeds
    its_lines : (t : Ranged Line) → IsRangeTable texts joins.mark read_columns own t → IsWithin all.first (all.first + each) t.seeds → t.things ≡ lines_with t.seeds
    its_lines t is within =
        let so = same_of t is in
        let runs = runs_with sweep all made t.seeds in
        let many : length t.things ≡ count * seed_count (Some t.seeds) = is.many ∙ ap (λ (s : Sweep). run_count s) so.sweep_with in
        let many_runs : length (lines_with t.seeds) ≡ count * seed_count (Some t.seeds) = length-map runs _ ∙ part_long count each all.first made long t.seeds within in
        same_items IsLine shard_line same_line t.things (lines_with t.seeds) is.sound
        (lines_sound rev (sweep_key mark (with_seeds sweep t.seeds)) runs (all_part FitsLine count each all.first made t.seeds told_all)) (many ∙ sym many_runs)
        (so.rest ∙ sym (setting_in_shard rev (sweep_key mark (with_seeds sweep t.seeds)) runs))

    -- what is made of the lines of each table, where it is made of its runs
    module _ {Y : Type 0} (f : Line → Y) (g : Made → Y) (same : (r : Seeds) (runs : List Made) → map f (setting_from rev (sweep_key mark (with_seeds sweep r)) runs) ≡ map g runs) where
      of_tables : (tables : List (Ranged Line)) → All (IsRangeTable texts joins.mark read_columns own) tables → All (IsWithin all.first (all.first + each)) (seeds_of_tables tables)
          → map (ranged_map f) tables ≡ map (ranged_map g) (map (ranged_part count each all.first made) (seeds_of_tables tables))
      of_tables [] are within = refl
      of_tables (t ∷ ts) are within =
          let here : map f t.things ≡ map g (runs_with sweep all made t.seeds) =
          ap (map f) (its_lines t (All-head (IsRangeTable texts joins.mark read_columns own) t ts are) (All-head (IsWithin all.first (all.first + each)) t.seeds (seeds_of_tables ts) within))
          ∙ same t.seeds (runs_with sweep all made t.seeds) in
          let more = of_tables ts (All-tail (IsRangeTable texts joins.mark read_columns own) t ts are) (All-tail (IsWithin all.first (all.first + each)) t.seeds (seeds_of_tables ts) within) in
          (λ i. record { seeds = t.seeds; things = here i } ∷ more i)

      pub of_all : map f (in_turn count joins.tables) ≡ map g made
      of_all =
          sym (turn_mapped f count joins.tables)
          ∙ ap (in_turn count) (of_tables joins.tables joins.each (all_within all.first (all.first + each) (seeds_of_tables joins.tables) turn))
          ∙ turn_mapped g count (map (ranged_part count each all.first made) (seeds_of_tables joins.tables))
          ∙ ap (map g) (parts_in_turn count each all.first made long (seeds_of_tables joins.tables) turn)

    merged : merged_lines mark sweep joins.tables ≡ setting_from rev key made
    merged = of_all (resummed key) (line_from rev key) (λ r runs. all_again rev (sweep_key mark (with_seeds sweep r)) key runs)

    notes : notes_of (in_turn count joins.tables) ≡ map noted made
    notes = of_all (λ l. l.note) noted (λ r runs. setting_noted rev (sweep_key mark (with_seeds sweep r)) runs)

    pub whole_of_seeds : IsWhole tree mark sweep made old new own read_columns settings
    whole_of_seeds =
        let written = subst (λ (m : List ℕ). Appends old new (shard_header rev m sweep whole ++ flat_map shard_line (merged_lines m sweep joins.tables))) same_marks
        (subst (λ (b : ColumnSet). Appends old new (shard_header b joins.mark sweep whole ++ flat_map shard_line (merged_lines joins.mark sweep joins.tables))) same_column
        (subst (λ (s : Sweep). Appends old new (shard_header read_columns joins.mark s whole ++ flat_map shard_line (merged_lines joins.mark s joins.tables))) same_sweep joins.written)) in
        record {
          same = same_sweep;
          column = same_column;
          written = subst (λ l. Appends old new (shard_header rev mark sweep whole ++ l)) (ap (flat_map shard_line) merged ∙ setting_in_shard rev key made) written;
          each = joins.count ∙ ap (λ (s : Sweep). setting_count s.swept_keys) same_sweep;
          summed = subst (λ l. SumUp each l settings) notes (subst (λ (s : Sweep). SumUp (seed_count s.seeds) (notes_of (in_turn (setting_count s.swept_keys) joins.tables)) settings) same_sweep joins.summed);
        }

  -- ---- of one text, which then is the table of the whole

  module _ (old new : Option (List ℕ)) (own : Sweep) (read_columns : ColumnSet) (settings : List SettingSummary) (none : ¬ (HaveSeeds texts)) (joins : JoinsShards texts old new own read_columns settings) (seeded : own.seeds ≡ Some all) where
    some : 0 < joins.of
    some = omega (arith, joins.some)

    abbrev the_text : List ℕ
    the_text = shard_header read_columns joins.mark own (shard_at 0 joins.of) ++ joins.put.body (shard_at 0 joins.of)

    the_shard : IsShard (shard_at 0 joins.of)
    the_shard = record { least = omega arith; most = omega (arith, some); few = joins.few }

    there : IsAmongTexts texts the_text
    there = joins.put.there (shard_at 0 joins.of) the_shard refl

    its : IsTableText tree mark sweep all made the_text
    its = genuine the_text there

    sweep_is : own ≡ with_seeds sweep its.seeds
    sweep_is =
        not_one the_text joins.mark mark read_columns rev own (with_seeds sweep its.seeds) (shard_at 0 joins.of) whole (joins.put.body (shard_at 0 joins.of)) (runs_text its.seeds) joins.marked marked joins.asked its.asked
        the_shard whole_is_shard refl its.written

    -- all seeds
    seeds_are : its.seeds ≡ all
    seeds_are = same_Some its.seeds all (sym (ap (λ (s : Sweep). s.seeds) sweep_is) ∙ seeded)

    whole_text : the_text ≡ shard_table (columns_of tree) mark sweep whole made
    whole_text =
        its.written ∙ ap (λ r. shard_header rev mark (with_seeds sweep r) whole ++ runs_text r) seeds_are
        ∙ (λ i. shard_header rev mark (sym is_with i) whole ++ flat_map (noted_line rev (sweep_key mark (sym is_with i))) (part_all count each all.first made long all refl (sym its_each) i))

    -- there is no other text
    several : 2 ≤ length texts → ⊥
    several more =
        let first = first_held texts more in
        let its_first = genuine first.0.items (0, first.0, first.1, refl) in
        none (record {
          mark = mark;
          columns = rev;
          sweep = sweep;
          seeds = its_first.seeds;
          are = record {
            first = record {
              text = first.0.items;
              there = (first.0, first.1, refl);
              begins = record { asked = its_first.asked; marked = marked; sound = whole_is_shard; rest = runs_text its_first.seeds; written = its_first.written };
            };
            more = more;
          };
        })

    one : (b : Bool) → nat_le 2 (length texts) ≡ b → length texts ≤ 1
    one true e = absurd (several (grind (arith, nat_tests)))
    one false e = let few : length texts < 2 = grind (arith, nat_tests) in omega (arith, few)

    alone : (text : List ℕ) → IsAmongTexts texts text → text ≡ the_text
    alone text among =
        let few = one (nat_le 2 (length texts)) refl in
        let mine = slice_get_within texts among.0 among.1 among.2 in
        let other = slice_get_within texts there.0 there.1 there.2 in
        let place : among.0 ≡ there.0 = omega (arith, few, mine, other) in
        let held : among.1 ≡ there.1 = same_Some among.1 there.1 (sym among.2 ∙ ap (slice_get texts) place ∙ there.2) in
        among.3 ∙ ap (λ (v : Vec ℕ Global). v.items) held ∙ sym there.3

    are_shards : AreShards tree texts mark sweep 1 made
    are_shards text among = (
      whole,
      whole_is_shard,
      refl,
      alone text among ∙ whole_text ∙ ap (shard_table rev mark sweep whole) (sym (share_of_whole (run_count sweep) made long)),
    )

    pub whole_of_one : IsWhole tree mark sweep made old new own read_columns settings
    whole_of_one = whole_of texts old new own read_columns settings mark tree sweep joins marked asked 1 made (ap (λ (s : Sweep). s.until) is_with) long told_all are_shards

  pub whole_of_tables : (old new : Option (List ℕ)) (own : Sweep) (read_columns : ColumnSet) (settings : List SettingSummary) → Joins texts old new own read_columns settings → own.seeds ≡ Some all
      → IsWhole tree mark sweep made old new own read_columns settings
  whole_of_tables old new own read_columns settings (inl shards) seeded = whole_of_one old new own read_columns settings shards.0 shards.1 seeded
  whole_of_tables old new own read_columns settings (inr joins) seeded = whole_of_seeds old new own read_columns settings joins seeded

-- ---- shards of a sweep

pub whole_of_shards : (texts : List (Vec ℕ Global)) (old new : Option (List ℕ)) (own : Sweep) (read_columns : ColumnSet) (settings : List SettingSummary) (mark : List ℕ) (tree : Data) (sweep : Sweep) (of : ℕ) (made : List Made)
    → Joins texts old new own read_columns settings → IsMark mark → IsAskedFor sweep → sweep.until ≡ None → length made ≡ run_count sweep → All FitsLine made
    → AreShards tree texts mark sweep of made → IsWhole tree mark sweep made old new own read_columns settings
whole_of_shards texts old new own read_columns settings mark tree sweep of made (inl shards) marked asked none long fits genuine =
    whole_of texts old new own read_columns settings mark tree sweep shards.1 marked asked of made none long fits genuine
whole_of_shards texts old new own read_columns settings mark tree sweep of made (inr joins) marked asked none long fits genuine =
    absurd (not_seeds texts old new own read_columns settings joins mark (columns_of tree) sweep marked asked
    (λ q. flat_map (noted_line (columns_of tree) (sweep_key mark sweep)) (share_of (run_count sweep) q made))
    (λ text among. (let its = genuine text among in (its.0, its.1, its.3))))

pub whole_of_setting_shards : (texts : List (Vec ℕ Global)) (old new : Option (List ℕ)) (own : Sweep) (read_columns : ColumnSet) (settings : List SettingSummary) (mark : List ℕ) (tree : Data) (sweep : Sweep) (width of : ℕ)
    (made : List (List Made)) → Joins texts old new own read_columns settings → IsMark mark → IsAskedFor sweep → sweep.until ≡ Some width → AreMadeFrom tree sweep width 0 (setting_count sweep.swept_keys) made
    → All (All FitsLine) made → AreShardsOfSettings tree texts mark sweep of made → IsWholeUntil tree mark sweep width old new own read_columns settings
whole_of_setting_shards texts old new own read_columns settings mark tree sweep width of made (inl shards) marked asked wanted makes fits genuine =
    whole_of_settings texts old new own read_columns settings mark tree sweep shards.1 marked asked width of made wanted makes fits genuine
whole_of_setting_shards texts old new own read_columns settings mark tree sweep width of made (inr joins) marked asked wanted makes fits genuine =
    absurd (not_seeds texts old new own read_columns settings joins mark (columns_of tree) sweep marked asked
    (λ q. flat_map (noted_line (columns_of tree) (sweep_key mark sweep)) (all_of (share_of (setting_count sweep.swept_keys) q made)))
    (λ text among. (let its = genuine text among in (its.0, its.1, its.3))))

-- ---- a table that is put together alone

module _ (again : List (Vec ℕ Global)) (table put tail mark : List ℕ) (sweep read : Sweep) (columns read_columns : ColumnSet) (others : List SettingSummary) (marked : IsMark mark) (asked : IsAskedFor sweep)
    (table_is : table ≡ shard_header columns mark sweep whole ++ tail) (alone : AreAll again table) where
  abbrev body : Shard → List ℕ
  body p = tail

  abbrev genuine : (text : List ℕ) → IsAmongTexts again text → (q : Shard) × IsShard q × (text ≡ shard_header columns mark sweep q ++ body q)
  genuine text among = (whole, whole_is_shard, alone text among ∙ table_is)

  module _ (later : JoinsShards again (Some []) (Some put) read read_columns others) where
    some_shard : 0 < later.of
    some_shard = omega (arith, later.some)

    only : shard_at 0 later.of ≡ whole
    only = one_shard again (Some []) (Some put) read read_columns others mark columns sweep later marked asked body genuine 0 some_shard

    same_body : later.put.body whole ≡ tail
    same_body = ap later.put.body (sym only) ∙ body_there again (Some []) (Some put) read read_columns others mark columns sweep later marked asked body genuine 0 some_shard

    shards_again : IsAgain table sweep columns put read read_columns
    shards_again = record {
      same_table = whole_put again (Some []) (Some put) read read_columns others mark columns sweep later marked asked body genuine tail same_body ∙ sym table_is;
      same_sweep = one_sweep again (Some []) (Some put) read read_columns others mark columns sweep later marked asked body genuine;
      column = one_column again (Some []) (Some put) read read_columns others mark columns sweep later marked asked body genuine;
    }

  table_again : Joins again (Some []) (Some put) read read_columns others → IsAgain table sweep columns put read read_columns
  table_again (inl shards) = shards_again shards.1
  table_again (inr joins) = absurd (not_seeds again (Some []) (Some put) read read_columns others joins mark columns sweep marked asked body genuine)

pub put_again : (texts again : List (Vec ℕ Global)) (table put : List ℕ) (sweep read : Sweep) (columns read_columns : ColumnSet) (settings others : List SettingSummary)
    → Joins texts (Some []) (Some table) sweep columns settings → AreAll again table → Joins again (Some []) (Some put) read read_columns others → IsAgain table sweep columns put read read_columns
put_again texts again table put sweep read columns read_columns settings others (inl shards) alone later =
    let joins = shards.1 in
    table_again again table put (joins.put.body whole) joins.mark sweep read columns read_columns others joins.marked joins.asked joins.put.written alone later
put_again texts again table put sweep read columns read_columns settings others (inr joins) alone later =
    table_again again table put (flat_map shard_line (merged_lines joins.mark sweep joins.tables)) joins.mark sweep read columns read_columns others joins.marked joins.asked joins.written alone later
