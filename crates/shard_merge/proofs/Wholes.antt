-- All shards put together are the whole.
use Rattle.std.proofs.Common.{◌≤◌, ℕ, List, [], ◌∷◌, arith}
use Rattle.std.specs.Prelude.{Option, Some, None, Vec, All}
use Rattle.std.specs.List.{AllZip}
use Rattle.std.specs.declared.alloc.Global.{Global}
use Rattle.std.specs.Io.KnownBytes.{Appends, Keeps}
use Rattle.std.proofs.lemmas.List.Elements.{All-cons, All-head, All-nil, All-tail}
use Rattle.trace.proofs.Beginnings.{Appends-then, Appends-kept}
use Rattle.goals.specs.Wants.{HasFewRuns}
use Rattle.sweep_plan.specs.Sweep.{Sweep, seed_count}
use Rattle.figures.specs.declared.column_set.ColumnSet.{ColumnSet}
use Rattle.figures.specs.declared.summary.SettingSummary.{SettingSummary}
use Rattle.shards.specs.declared.shard.Shard.{Shard}
use Rattle.shards.specs.Shards.{whole}
use Rattle.sweep.specs.Shards.{shard_header}
use Rattle.sweep.specs.Runs.{IsAskedFor}
use Rattle.sweep.specs.Sums.{line_key}
use Rattle.sweep.specs.declared.summing.LineKey.{LineKey}
use Rattle.sweep.proofs.Sizes.{few_of, few_runs, few_with_all}
use Rattle.table_rows.specs.Lines.{Line, notes_of}
use Rattle.table_rows.specs.Settings.{IsSetting, SumsUpLines}
use Rattle.shard_merge.specs.Joined.{AreOf, IsMark, Joins, JoinsBehind}

-- ---- behind the first line

pub whole_joined : (texts : List (Vec ℕ Global)) (mark : List ℕ) (columns : ColumnSet) (seed : ℕ) (sweep : Sweep) (of : ℕ) (asked : IsAskedFor sweep) (marked : IsMark mark) (some : 1 ≤ of) (few : of ≤ 10000)
    (old begun full new : Option (List ℕ)) (settings : List SettingSummary) → JoinsBehind [] texts mark columns seed sweep of begun full sweep.until settings
    → Appends old begun (shard_header columns mark sweep whole) → Keeps full new → Joins texts old new sweep columns settings
whole_joined texts mark columns seed sweep of asked marked some few old begun full new settings put head kept = record {
  asked = asked;
  mark = mark;
  marked = marked;
  of = of;
  some = some;
  few = few;
  seed = seed;
  put = record {
    body = put.body;
    there = put.there;
    written = Appends-kept old full new _ (Appends-then old begun full (shard_header columns mark sweep whole) (put.body whole) head put.written) kept;
    each = put.each;
    are = put.are;
  };
}

-- ---- how many runs settings have

few_with_own : (width each : ℕ) (own : List (List Line)) (settings : List SettingSummary) → each ≤ 1000000 → All (IsSetting width each) own → AllZip SumsUpLines own settings → All HasFewRuns settings
few_with_own width each [] [] few sound sums = All-nil HasFewRuns
few_with_own width each [] (setting ∷ settings) few sound sums = absurd sums
few_with_own width each (lines ∷ own) [] few sound sums = absurd sums
few_with_own width each (lines ∷ own) (setting ∷ settings) few sound sums =
    let here = All-head (IsSetting width each) lines own sound in
    All-cons HasFewRuns setting settings (few_of setting (notes_of lines) (omega (arith, here.enough.few, few)) sums.0)
    (few_with_own width each own settings few (All-tail (IsSetting width each) lines own sound) sums.1)

few_by : (until : Option ℕ) (key : LineKey) (sweep : Sweep) (body : Shard → List ℕ) (settings : List SettingSummary) → seed_count sweep.seeds ≤ 1000000 → AreOf until key sweep body settings → All HasFewRuns settings
few_by None key sweep body settings few are = few_with_all (seed_count sweep.seeds) (notes_of are.things) settings few are.holds.0
few_by (Some width) key sweep body settings few are = few_with_own width (seed_count sweep.seeds) are.things settings few are.sound are.holds.0

pub few_joined : (texts : List (Vec ℕ Global)) (mark : List ℕ) (columns : ColumnSet) (seed : ℕ) (sweep : Sweep) (of : ℕ) (old new : Option (List ℕ)) (until : Option ℕ) (settings : List SettingSummary) → IsAskedFor sweep
    → JoinsBehind [] texts mark columns seed sweep of old new until settings → All HasFewRuns settings
few_joined texts mark columns seed sweep of old new until settings asked put = few_by until (line_key columns (Some seed) mark sweep) sweep put.body settings (few_runs sweep asked) put.are
