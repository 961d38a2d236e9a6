-- The lines of a table that was found.
use Rattle.std.proofs.Common.{◌≡◌, ◌∙◌, ◌<◌, ◌≤◌, ◌+◌, ◌-◌, ◌*◌, ◌^◌, ℕ, List, [], ◌∷◌, ◌++◌, length, get_or, map, take, drop, refl, sym, ap, subst, arith}
use Rattle.std.specs.Prelude.{All, Vec, Some, None}
use Rattle.std.specs.Borrow.{Bor}
use Rattle.std.specs.List.{AllZip, flat_map}
use Rattle.std.specs.declared.alloc.Global.{Global}
use Rattle.std.proofs.lemmas.List.Elements.{All-cons, All-head, All-nil, All-tail}
use Rattle.std.proofs.lemmas.List.{drop-map, take-map, take_more}
use Rattle.std.proofs.lemmas.Option.{none-some}
use Rattle.std.proofs.lemmas.Slice.Zip.{all_zipped_more, AllZip-long}
use Rattle.sweep_plan.specs.Sweep.{Sweep, run_count, seed_count, setting_count}
use Rattle.sweep_plan.specs.declared.seeds.Seeds.{Seeds}
use Rattle.shards.specs.declared.shard.Shard.{Shard}
use Rattle.shards.specs.Shards.{whole}
use Rattle.shards.proofs.Whole.{first_of_whole, past_of_whole}
use Rattle.sweep.specs.Shards.{shard_header}
use Rattle.sweep.specs.Sums.{AreLinesOf, line_key}
use Rattle.sweep.specs.declared.summing.LineKey.{LineKey}
use Rattle.table_rows.specs.Items.{BeginsWith}
use Rattle.table_rows.specs.Lines.{AreLines, HasLine, IsLine, Line, shard_line}
use Rattle.table_rows.proofs.Items.{Reads, none_read, one_more, all_read}
use Rattle.shard_merge.specs.Behind.{share}
use Rattle.shard_merge.specs.Reasons.{BeginsAs, IsOlderAt, IsTextAt, IsTorn, RefusesLines}
use Rattle.shard_merge.specs.declared.fault.JoinFault.{JoinFault}
use Rattle.shard_merge.specs.declared.fault.JoinFault.TheVariants as shards
use Rattle.shard_merge.proofs.PlacesMore.{among, one_text}
use Rattle.table_merge.specs.Seeds.{with_seeds}
use Rattle.table_merge.specs.Found.{IsTableAt}
use Rattle.table_merge.specs.Lines.{AreGenuine, AreStarts, BeginsWithIt, IsFull}
use Rattle.table_merge.specs.Merged.{IsRangeTable}
use Rattle.table_merge.specs.Reasons.{IsOfShards}
use Rattle.table_merge.specs.Tables.{AreRead, IsRead, starts_in}
use Rattle.table_merge.specs.declared.finding.Found.{Found}
use Rattle.table_merge.specs.declared.lines.Table.{Table}
use Rattle.table_merge.proofs.Ones.{asked_range}
use Rattle.figures.specs.declared.column_set.ColumnSet.{ColumnSet}

-- ---- where lines begin

-- so many lines were read, each of which is that with which one of these texts begins
abbrev pub ReadsStarts : List ℕ → List ℕ → List (List ℕ) → ℕ → Type 0
ReadsStarts text left starts count = Reads IsLine shard_line (AllZip BeginsWithIt starts) text left count

pub no_starts : (text : List ℕ) → ReadsStarts text text [] 0
no_starts text = none_read IsLine shard_line (AllZip BeginsWithIt []) text tt

pub starts_more : (text left next : List ℕ) (starts more : List (List ℕ)) (count : ℕ) → ReadsStarts text left starts count → BeginsWith IsLine shard_line left next → more ≡ starts ++ left ∷ []
    → ReadsStarts text next more (count + 1)
starts_more text left next starts more count so begins is =
    one_more IsLine shard_line (AllZip BeginsWithIt starts) (AllZip BeginsWithIt more) text left next count so begins
    (subst (λ l. AllZip BeginsWithIt l (so.items ++ begins.one ∷ [])) (sym is)
    (all_zipped_more BeginsWithIt starts so.items left begins.one so.holds (next, begins.written)))

pub starts_read : (text left : List ℕ) (starts : List (List ℕ)) (at count : ℕ) → at ≡ count → length left ≡ 0 → ReadsStarts text left starts at → AreStarts text count starts
starts_read text left starts at count counted none so =
    let all = all_read IsLine shard_line (AllZip BeginsWithIt starts) text left at count counted none so in
    record { are = all.0; begin = all.1 }

-- ---- a first line in other words

pub begins_along : (text text2 mark mark2 : List ℕ) (columns columns2 : ColumnSet) (s s2 : Sweep) (p p2 : Shard) → text ≡ text2 → mark ≡ mark2 → columns ≡ columns2 → s ≡ s2 → p ≡ p2
    → BeginsAs text mark columns s p → BeginsAs text2 mark2 columns2 s2 p2
begins_along text text2 mark mark2 columns columns2 s s2 p p2 a b c d e begins =
    subst (λ t. BeginsAs t mark2 columns2 s2 p2) a
    (subst (λ m. BeginsAs text m columns2 s2 p2) b (subst (λ r. BeginsAs text mark r s2 p2) c (subst (λ z. BeginsAs text mark columns z p2) d (subst (λ q. BeginsAs text mark columns s q) e begins))))

-- ---- one table

share_whole : (total : ℕ) → share total whole ≡ total
share_whole total = omega (arith, first_of_whole total, past_of_whole total)

module _ (texts : List (Vec ℕ Global)) (mark : List ℕ) (columns : ColumnSet) (sweep : Sweep) (place : ℕ) (r : Seeds) (table : IsTableAt texts mark columns sweep place r) where
  abbrev own : Sweep
  own = with_seeds sweep r

  abbrev key : LineKey
  key = line_key columns None mark own

  abbrev header : List ℕ
  header = shard_header columns mark own whole

  abbrev begins_so : (rest : List ℕ) → table.text ≡ header ++ rest → BeginsAs table.text mark columns own whole
  begins_so rest is = record { asked = table.begins.asked; marked = table.begins.marked; sound = table.begins.sound; rest = rest; written = is }

  pub torn_table : (rest : List ℕ) → table.text ≡ header ++ rest → ¬ (AreLines rest (run_count own) × AreLinesOf key own 0 rest (run_count own)) → IsTorn texts place
  torn_table rest is none = record {
    mark = mark;
    columns = columns;
    sweep = own;
    p = whole;
    text = table.text;
    there = table.there;
    begins = begins_so rest is;
    seed = None;
    first = λ k one. absurd (none-some k one);
    torn = λ its. none (
      subst (AreLines rest) (share_whole (run_count own)) its.are.0,
      subst (λ n. AreLinesOf key own 0 rest n) (share_whole (run_count own)) (subst (λ n. AreLinesOf key own n rest (share (run_count own) whole)) (first_of_whole (run_count own)) its.are.1),
    );
  }

  pub lines_refused : (f : JoinFault) → RefusesLines table.text header place f → IsOfShards texts f
  lines_refused (shards.Older at) h = subst (IsOlderAt texts) (sym h.0) (record {
    mark = mark;
    columns = columns;
    sweep = own;
    p = whole;
    text = table.text;
    there = table.there;
    begins = begins_so h.1.0 h.1.1;
    older = h.1.2;
  })
  lines_refused (shards.Torn at) h = subst (IsTorn texts) (sym h.0) (record {
    mark = mark;
    columns = columns;
    sweep = own;
    p = whole;
    text = table.text;
    there = table.there;
    begins = begins_so h.1.0 h.1.1;
    seed = None;
    first = λ k one. absurd (none-some k one);
    torn = λ its. h.1.2 its.encoded;
  })
  lines_refused shards.Memory h = tt
  lines_refused shards.Write h = absurd h
  lines_refused (shards.NoShard at) h = absurd h
  lines_refused (shards.Other at) h = absurd h
  lines_refused (shards.Doubled at) h = absurd h
  lines_refused (shards.Missing number) h = absurd h

  pub table_read : (rest : List ℕ) (starts : List (List ℕ)) (f : Found) (t : Table) → table.text ≡ header ++ rest → AreGenuine key own rest (run_count own) starts → f.seeds ≡ r → t.seeds ≡ f.seeds
      → starts ≡ (starts_in t).things → IsRead texts mark columns sweep f t
  table_read rest starts f t is genuine found same begins =
      let lines = genuine.read.are.items in
      let all : rest ≡ flat_map shard_line lines = genuine.read.are.written in
      let many = genuine.read.are.many in
      record {
        lines = lines;
        same = same;
        is = subst (λ (q : Seeds). IsRangeTable texts mark columns sweep (record { seeds = q; things = lines })) (sym found) (record {
          asked = table.begins.asked;
          there = among texts place table.text _ table.there (is ∙ ap (λ l. header ++ l) all);
          many = many;
          sound = genuine.read.are.sound;
          genuine = subst (λ n. AreLinesOf key own 0 (flat_map shard_line lines) n) (sym many) (subst (λ l. AreLinesOf key own 0 l (run_count own)) all genuine.placed);
        });
        begin = subst (λ l. AllZip BeginsWithIt l lines) begins genuine.read.begin;
      }

-- a table that was read is full
have_lines : (starts : List (List ℕ)) (lines : List Line) → AllZip BeginsWithIt starts lines → All IsLine lines → All HasLine starts
have_lines [] [] all sound = All-nil HasLine
have_lines [] (l ∷ ls) all sound = absurd all
have_lines (s ∷ ss) [] all sound = absurd all
have_lines (s ∷ ss) (l ∷ ls) all sound =
    All-cons HasLine s ss (all.0.0, record { one = l; sound = All-head IsLine l ls sound; written = all.0.1 }) (have_lines ss ls all.1 (All-tail IsLine l ls sound))

pub full_read : (texts : List (Vec ℕ Global)) (mark : List ℕ) (columns : ColumnSet) (sweep : Sweep) (f : Found) (t : Table) → IsRead texts mark columns sweep f t
    → IsFull (setting_count sweep.swept_keys) (starts_in t)
full_read texts mark columns sweep f t read =
    let range = asked_range (with_seeds sweep f.seeds) sweep f.seeds read.is.asked refl in
    let long = AllZip-long BeginsWithIt (starts_in t).things read.lines read.begin in
    let many = read.is.many in
    let same : seed_count (Some f.seeds) ≡ seed_count (Some t.seeds) = ap (λ (q : Seeds). seed_count (Some q)) (sym read.same) in
    record {
      ordered = subst (λ (q : Seeds). q.first ≤ q.last) (sym read.same) range.0;
      low = subst (λ (q : Seeds). q.last < 2 ^ 63) (sym read.same) range.1;
      many = sym long ∙ many ∙ ap (λ n. setting_count sweep.swept_keys * n) same;
      begin = have_lines (starts_in t).things read.lines read.begin read.is.sound;
    }

pub all_full : (texts : List (Vec ℕ Global)) (mark : List ℕ) (columns : ColumnSet) (sweep : Sweep) (found : List Found) (tables : List Table) → AllZip (IsRead texts mark columns sweep) found tables
    → All (IsFull (setting_count sweep.swept_keys)) (map starts_in tables)
all_full texts mark columns sweep [] [] all = All-nil (IsFull (setting_count sweep.swept_keys))
all_full texts mark columns sweep [] (t ∷ ts) all = absurd all
all_full texts mark columns sweep (f ∷ fs) [] all = absurd all
all_full texts mark columns sweep (f ∷ fs) (t ∷ ts) all =
    All-cons (IsFull (setting_count sweep.swept_keys)) (starts_in t) (map starts_in ts) (full_read texts mark columns sweep f t all.0) (all_full texts mark columns sweep fs ts all.1)

-- where the lines of a setting begin
pub slice_starts : (number each n : ℕ) (items other : List (Bor (List ℕ))) → each ≡ n → other ≡ items
    → map (λ (start : Bor (List ℕ)). start.now) (take (number * each + each - number * each) (drop (number * each) other)) ≡ take n (drop (number * n) (map (λ (start : Bor (List ℕ)). start.now) items))
slice_starts number each n items other many same =
    let now : Bor (List ℕ) → List ℕ = λ start. start.now in
    let width : number * each + each - number * each ≡ n = omega (arith, many) in
    (λ i. map now (take (width i) (drop (number * many i) (same i)))) ∙ sym (take-map now n (drop (number * n) items)) ∙ ap (take n) (sym (drop-map now (number * n) items))

-- one table more is read
pub read_more : (texts : List (Vec ℕ Global)) (mark : List ℕ) (columns : ColumnSet) (sweep : Sweep) (found : List Found) (i : ℕ) (d : Found) (tables more : List Table) (t : Table) → i < length found
    → AreRead texts mark columns sweep (take i found) tables → IsRead texts mark columns sweep (get_or found i d) t → more ≡ tables ++ t ∷ [] → AreRead texts mark columns sweep (take (i + 1) found) more
read_more texts mark columns sweep found i d tables more t within so one is =
    subst (λ fs. AreRead texts mark columns sweep fs more) (sym (take_more found i d within))
    (subst (AreRead texts mark columns sweep (take i found ++ get_or found i d ∷ [])) (sym is)
    (all_zipped_more (IsRead texts mark columns sweep) (take i found) tables (get_or found i d) t so one))

-- ---- what was read of a table, in the words of its first line

module _ (texts : List (Vec ℕ Global)) (mark : List ℕ) (columns : ColumnSet) (sweep : Sweep) (f : Found) (table : IsTableAt texts mark columns sweep f.place f.seeds) (m : List ℕ) (b : ColumnSet) (s : Sweep) (p : Shard)
    (marks : m ≡ mark) (plan : s ≡ with_seeds sweep f.seeds) (column : b ≡ columns) (shard : p ≡ whole) (text : List ℕ) (there : IsTextAt texts f.place text) where
  abbrev its_header : List ℕ
  its_header = shard_header columns mark (with_seeds sweep f.seeds) whole

  same_text : text ≡ table.text
  same_text = one_text texts f.place table.text text table.there there

  same_header : shard_header b m s p ≡ its_header
  same_header = λ i. shard_header (column i) (marks i) (plan i) (shard i)

  pub head_begins : BeginsAs text m b s p
  head_begins = begins_along table.text text mark m columns b (with_seeds sweep f.seeds) s whole p (sym same_text) (sym marks) (sym column) (sym plan) (sym shard) table.begins

  pub head_refused : (fault : JoinFault) → RefusesLines text (shard_header b m s p) f.place fault → IsOfShards texts fault
  head_refused fault refused =
      lines_refused texts mark columns sweep f.place f.seeds table fault
      (subst (λ h. RefusesLines table.text h f.place fault) same_header (subst (λ t. RefusesLines t (shard_header b m s p) f.place fault) same_text refused))

  module _ (rest : List ℕ) (key : LineKey) (is : text ≡ shard_header b m s p ++ rest) (same_key : key ≡ line_key b None m s) where
    written : table.text ≡ its_header ++ rest
    written = sym same_text ∙ is ∙ ap (λ h. h ++ rest) same_header

    key_is : key ≡ line_key columns None mark (with_seeds sweep f.seeds)
    key_is = same_key ∙ (λ i. line_key (column i) None (marks i) (plan i))

    pub head_read : (starts : List (List ℕ)) (t : Table) → AreGenuine key s rest (run_count s) starts → t.seeds ≡ f.seeds → starts ≡ (starts_in t).things → IsRead texts mark columns sweep f t
    head_read starts t genuine same begins =
        table_read texts mark columns sweep f.place f.seeds table rest starts f t written
        (subst (λ k. AreGenuine k (with_seeds sweep f.seeds) rest (run_count (with_seeds sweep f.seeds)) starts) key_is (subst (λ (z : Sweep). AreGenuine key z rest (run_count z) starts) plan genuine)) refl same begins

    pub head_torn : ¬ (AreLines rest (run_count s) × AreLinesOf key s 0 rest (run_count s)) → IsTorn texts f.place
    head_torn none =
        torn_table texts mark columns sweep f.place f.seeds table rest written
        (λ its. none (subst (λ (z : Sweep). AreLines rest (run_count z) × AreLinesOf key z 0 rest (run_count z)) (sym plan) (its.0, subst (λ k. AreLinesOf k (with_seeds sweep f.seeds) 0 rest (run_count (with_seeds sweep f.seeds))) (sym key_is) its.1)))
