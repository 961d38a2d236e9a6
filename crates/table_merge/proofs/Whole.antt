-- Tables with seeds that follow one another, put together.
use Rattle.std.proofs.Common.{◌≡◌, ◌∙◌, ◌≤◌, ◌+◌, ℕ, List, [], ◌∷◌, ◌++◌, length, map, refl, sym, ap, subst, arith}
use Rattle.std.specs.Prelude.{All, IfOk, Option, Some, Result, Ok, Err, Vec}
use Rattle.std.specs.List.{flat_map}
use Rattle.std.specs.declared.alloc.Global.{Global}
use Rattle.std.specs.Io.KnownBytes.{Appends, Keeps}
use Rattle.std.proofs.lemmas.List.{length-map}
use Rattle.std.proofs.lemmas.List.Elements.{All-cons, All-nil, All-weaker}
use Rattle.trace.proofs.Beginnings.{Appends-kept, Appends-then}
use Rattle.goals.specs.Wants.{HasFewRuns}
use Rattle.sweep_plan.specs.Sweep.{Sweep, run_count, seed_count, setting_count}
use Rattle.sweep_plan.specs.declared.seeds.Seeds.{Seeds}
use Rattle.figures.specs.declared.column_set.ColumnSet.{ColumnSet}
use Rattle.figures.specs.declared.summary.SettingSummary.{SettingSummary}
use Rattle.shards.specs.Shards.{whole}
use Rattle.sweep.specs.Runs.{IsAskedFor}
use Rattle.sweep.specs.Shards.{shard_header}
use Rattle.sweep.specs.Sums.{sweep_key}
use Rattle.sweep.specs.Summaries.{SumUp}
use Rattle.sweep.proofs.Gathered.{all_through}
use Rattle.sweep.proofs.Sizes.{few_runs, few_with_all}
use Rattle.table_rows.specs.Lines.{IsLine, Line, notes_of, shard_line}
use Rattle.shard_merge.specs.Joined.{IsMark}
use Rattle.table_merge.specs.Seeds.{AreInTurn, Ranged, in_turn, seeds_of_tables, with_seeds}
use Rattle.table_merge.specs.Found.{AreFound}
use Rattle.table_merge.specs.Lines.{BeginsWithIt, resummed}
use Rattle.table_merge.specs.Merged.{IsRangeTable, JoinsSeeds}
use Rattle.table_merge.specs.Tables.{AreRead, PutsAll, starts_in}
use Rattle.table_merge.specs.declared.finding.Found.{Found}
use Rattle.table_merge.specs.declared.lines.Table.{Table}
use Rattle.table_merge.proofs.Puts.{same_starts}
use Rattle.table_merge.proofs.Turns.{AreAlikeAll, IsLong, all_in_turn, turn_long, zipped_turn}

-- a table of a sweep is one of the same with any seeds
again_table : (texts : List (Vec ℕ Global)) (mark : List ℕ) (columns : ColumnSet) (sweep : Sweep) (all : Seeds) (t : Ranged Line) → IsRangeTable texts mark columns sweep t
    → IsRangeTable texts mark columns (with_seeds sweep all) t
again_table texts mark columns sweep all t is = record { asked = is.asked; there = is.there; many = is.many; sound = is.sound; genuine = is.genuine }

-- ---- the lines of tables that were read

module _ (texts : List (Vec ℕ Global)) (mark : List ℕ) (columns : ColumnSet) (sweep : Sweep) where
  abbrev ranged_lines : (found : List Found) (tables : List Table) → AreRead texts mark columns sweep found tables → List (Ranged Line)
  ranged_lines [] [] read = []
  ranged_lines [] (t ∷ ts) read = absurd read
  ranged_lines (f ∷ fs) [] read = absurd read
  ranged_lines (f ∷ fs) (t ∷ ts) read = record { seeds = f.seeds; things = read.0.lines } ∷ ranged_lines fs ts read.1

  their_seeds : (found : List Found) (tables : List Table) (read : AreRead texts mark columns sweep found tables) → seeds_of_tables (ranged_lines found tables read) ≡ map (λ (f : Found). f.seeds) found
  their_seeds [] [] read = refl
  their_seeds [] (t ∷ ts) read = absurd read
  their_seeds (f ∷ fs) [] read = absurd read
  their_seeds (f ∷ fs) (t ∷ ts) read = ap (λ l. f.seeds ∷ l) (their_seeds fs ts read.1)

  all_tables : (found : List Found) (tables : List Table) (read : AreRead texts mark columns sweep found tables) → All (IsRangeTable texts mark columns sweep) (ranged_lines found tables read)
  all_tables [] [] read = All-nil (IsRangeTable texts mark columns sweep)
  all_tables [] (t ∷ ts) read = absurd read
  all_tables (f ∷ fs) [] read = absurd read
  all_tables (f ∷ fs) (t ∷ ts) read =
      All-cons (IsRangeTable texts mark columns sweep) (record { seeds = f.seeds; things = read.0.lines }) (ranged_lines fs ts read.1) read.0.is (all_tables fs ts read.1)

  alike : (found : List Found) (tables : List Table) (read : AreRead texts mark columns sweep found tables) → AreAlikeAll BeginsWithIt (map starts_in tables) (ranged_lines found tables read)
  alike [] [] read = tt
  alike [] (t ∷ ts) read = absurd read
  alike (f ∷ fs) [] read = absurd read
  alike (f ∷ fs) (t ∷ ts) read = ((read.0.same, read.0.begin), alike fs ts read.1)

  module _ (found : List Found) (tables : List Table) (all : Seeds) (are : AreFound texts mark columns sweep found (length texts)) (several : 2 ≤ length texts)
      (follow : AreInTurn all.first (map (λ (f : Found). f.seeds) found) (all.last + 1)) (read : AreRead texts mark columns sweep found tables) (marked : IsMark mark)
      (asked : IsAskedFor (with_seeds sweep all)) (old begun full new : Option (List ℕ)) (settings : List SettingSummary)
      (head : Appends old begun (shard_header columns mark (with_seeds sweep all) whole))
      (puts : PutsAll (sweep_key mark (with_seeds sweep all)) (in_turn (setting_count sweep.swept_keys) (map starts_in tables)) (seed_count (Some all)) begun full settings)
      (kept : Keeps full new) where
    abbrev own : List (Ranged Line)
    own = ranged_lines found tables read

    abbrev count : ℕ
    count = setting_count sweep.swept_keys

    abbrev key : List ℕ
    key = sweep_key mark (with_seeds sweep all)

    each_table : All (IsRangeTable texts mark columns sweep) own
    each_table = all_tables found tables read

    turn : AreInTurn all.first (seeds_of_tables own) (all.last + 1)
    turn = subst (λ rs. AreInTurn all.first rs (all.last + 1)) (sym (their_seeds found tables read)) follow

    sound : All IsLine (in_turn count own)
    sound = all_in_turn IsLine count own (All-weaker (IsRangeTable texts mark columns sweep) (λ (t : Ranged Line). All IsLine t.things) (λ t is. is.sound) own each_table)

    same : puts.lines ≡ in_turn count own
    same =
        same_starts (in_turn count (map starts_in tables)) puts.lines (in_turn count own) puts.begin (zipped_turn BeginsWithIt count (map starts_in tables) own (alike found tables read)) puts.sound sound

    long : length (notes_of puts.lines) ≡ run_count (with_seeds sweep all)
    long =
        let many = turn_long count all.first (all.last + 1) own turn (All-weaker (IsRangeTable texts mark columns sweep) (IsLong count) (λ t is. is.many) own each_table) in
        length-map puts.lines (λ (l : Line). l.note) ∙ ap length same ∙ many

    seeds_long : length own ≡ length found
    seeds_long = sym (length-map own (λ (t : Ranged Line). t.seeds)) ∙ ap length (their_seeds found tables read) ∙ length-map found (λ (f : Found). f.seeds)

    pub seeds_joined : JoinsSeeds texts old new (with_seeds sweep all) columns settings
    seeds_joined = record {
      asked = asked;
      mark = mark;
      marked = marked;
      all = all;
      seeded = refl;
      tables = own;
      several = omega (arith, several, seeds_long, are.as_many);
      as_many = seeds_long ∙ are.as_many;
      follow = turn;
      each = All-weaker (IsRangeTable texts mark columns sweep) (IsRangeTable texts mark columns (with_seeds sweep all)) (again_table texts mark columns sweep all) own each_table;
      written = Appends-kept old full new _ (
          subst (λ l. Appends old full (shard_header columns mark (with_seeds sweep all) whole ++ flat_map shard_line (map (resummed key) l))) same
          (Appends-then old begun full _ _ head puts.written)
          ) kept;
      count = ap length puts.summed ∙ all_through (with_seeds sweep all) (notes_of puts.lines) puts.gathering long puts.gathered;
      summed = subst (λ l. SumUp (seed_count (Some all)) (notes_of l) settings) same (subst (SumUp (seed_count (Some all)) (notes_of puts.lines)) (sym puts.summed) puts.gathered.summed);
    }

-- the same in the words of the first line that was put
module _ (texts : List (Vec ℕ Global)) (mark m : List ℕ) (columns b : ColumnSet) (sweep s : Sweep) (found : List Found) (tables : List Table) (all : Seeds) (marks : m ≡ mark) (column : b ≡ columns)
    (plan : s ≡ with_seeds sweep all) where
  pub joined_as : AreFound texts mark columns sweep found (length texts) → 2 ≤ length texts → AreInTurn all.first (map (λ (f : Found). f.seeds) found) (all.last + 1)
      → AreRead texts mark columns sweep found tables → IsMark mark → IsAskedFor s → (old begun full new : Option (List ℕ)) (settings : List SettingSummary) → Appends old begun (shard_header b m s whole)
      → PutsAll (sweep_key m s) (in_turn (setting_count s.swept_keys) (map starts_in tables)) (seed_count s.seeds) begun full settings → Keeps full new → JoinsSeeds texts old new s b settings
  joined_as are several follow read marked asked old begun full new settings head puts kept =
      let first = subst (Appends old begun) (λ i. shard_header (column i) (marks i) (plan i) whole) head in
      let put = subst (λ (z : Sweep). PutsAll (sweep_key mark z) (in_turn (setting_count z.swept_keys) (map starts_in tables)) (seed_count z.seeds) begun full settings) plan
      (subst (λ q. PutsAll (sweep_key q s) (in_turn (setting_count s.swept_keys) (map starts_in tables)) (seed_count s.seeds) begun full settings) marks puts) in
      subst (λ (z : Sweep). JoinsSeeds texts old new z b settings) (sym plan)
      (subst (λ (z : ColumnSet). JoinsSeeds texts old new (with_seeds sweep all) z settings) (sym column)
      (seeds_joined texts mark columns sweep found tables all are several follow read marked (subst IsAskedFor plan asked) old begun full new settings first put kept))

-- each setting has few runs
pub few_seeds : (texts : List (Vec ℕ Global)) (old new : Option (List ℕ)) (sweep : Sweep) (columns : ColumnSet) (settings : List SettingSummary) → JoinsSeeds texts old new sweep columns settings
    → All HasFewRuns settings
few_seeds texts old new sweep columns settings joins =
    few_with_all (seed_count sweep.seeds) (notes_of (in_turn (setting_count sweep.swept_keys) joins.tables)) settings (few_runs sweep joins.asked) joins.summed

-- what is said of a success, and what follows from that
pub if_ok_then : {T E : Type 0} (r : Result T E) (P Q : T → Type 0) → IfOk r P → ((x : T) → P x → Q x) → IfOk r Q
if_ok_then (Ok x) P Q said turn = turn x said
if_ok_then (Err e) P Q said turn = tt
