-- What the file holds that the table of a sweep was written to.
use Rattle.std.proofs.Common.{◌≡◌, ◌∙◌, ◌≤◌, ◌-◌, ◌⊎◌, ◌++◌, ℕ, Bool, false, true, List, [], Option, Some, None, Result, Ok, Err, IfSome, IfOk, OnOk, OnErr, inl, inr, refl, ap, arith, length, sym, subst, take}
use Rattle.std.specs.Io.KnownBytes.{Appends}
use Rattle.std.specs.Option.{ForSome}
use Rattle.toml.specs.Data.{Data}
use Rattle.base.specs.declared.fault.Fault.{Fault}
use Rattle.files.specs.Files.{KnownFile, HoldsAtLeast, HoldsNow, ClosesAs, KeepsOthers, bytes_held}
use Rattle.files.specs.Files as files
use Rattle.trace.proofs.Beginnings.{beginning-whole}
use Rattle.sweep_plan.specs.Sweep.{Sweep, run_count}
use Rattle.shards.specs.declared.shard.Shard.{Shard}
use Rattle.shards.specs.Shards.{IsShard, first_run, whole}
use Rattle.shards.proofs.Bounds.{share_grows}
use Rattle.sweep.specs.Shards.{shard_header}
use Rattle.sweep.specs.Table.{columns_of}
use Rattle.sweep.specs.Resumed.{IsLong, IsShort, runs_in}
use Rattle.sweep.specs.Sums.{key_of_text}
use Rattle.sweep_until.specs.Shards.{settings_in, first_setting}
use Rattle.sweep_until.proofs.ShardSettings.{nothing_stands}
use Rattle.table_rows.specs.Begun.{AreSettingsBehind}
use Rattle.table_rows.proofs.Standing.{can_go_on}
use Rattle.sweep.specs.Runs.{IsAskedFor}
use Rattle.figures.specs.declared.summary.SettingSummary.{SettingSummary}
use Rattle.command_line.specs.declared.words.SweepWords.{SweepWords}
use Rattle.scenario_files.specs.Shelves.{Shelf}
use Rattle.sweep_command.specs.Outcomes.{BeginsAsked, BreaksOff, BreaksOffRuns, FitAsked, GoesOn, GoesOnWith, HeldSoFar, IsCaused, MakesAsked, MakesLines, Stays, StoresPlain, StoresRuns, Stood, shard_resumed}
use Rattle.sweep_command.specs.Runs.{AreBegun, BeginsAllRuns, BeginsRuns, FitShard, MakesRuns, Standing, WritesRuns, nothing, rest_table, runs_table}

-- what is said of a success, with what holds of it
both_ok : {T E : Type 0} (P : Type 0) (Q : T → Type 0) (r : Result T E) → OnOk r P → IfOk r Q → IfOk r (λ x. P × Q x)
both_ok P Q (Ok x) p q = (p, q)
both_ok P Q (Err e) p q = tt

-- what is asked for is the shard, where one is named, and else the whole
module _ {T E : Type 0} (bytes : T → List ℕ) (tree : Data) (mark : List ℕ) (sweep : SweepWords) (kept : ℕ) (stands : Standing) (old new : Option (List ℕ)) (outcome : Result T E) (asked : Option Shard) where
  pub shard_made : (p : Shard) → asked ≡ Some p → OnOk outcome (WritesRuns sweep.plan.until tree mark sweep.plan p kept stands old new) → IfOk outcome (λ lines. bytes lines ≡ [])
      → IfOk outcome (λ lines. MakesAsked asked tree mark sweep kept stands old new (bytes lines))
  shard_made p is written silent =
      subst (λ (o : Option Shard). IfOk outcome (λ lines. MakesAsked o tree mark sweep kept stands old new (bytes lines))) (sym is)
      (both_ok (WritesRuns sweep.plan.until tree mark sweep.plan p kept stands old new) (λ lines. bytes lines ≡ []) outcome written silent)

  pub whole_made : asked ≡ None → IfOk outcome (λ lines. MakesLines tree mark sweep old new (bytes lines)) → IfOk outcome (λ lines. MakesAsked asked tree mark sweep kept stands old new (bytes lines))
  whole_made is makes = subst (λ (o : Option Shard). IfOk outcome (λ lines. MakesAsked o tree mark sweep kept stands old new (bytes lines))) (sym is) makes

  pub shard_begun : (p : Shard) → asked ≡ Some p → OnErr outcome (BeginsRuns sweep.plan.until tree mark sweep.plan p kept stands old new) → OnErr outcome (BeginsAsked asked tree mark sweep kept stands old new)
  shard_begun p is begun = subst (λ (o : Option Shard). OnErr outcome (BeginsAsked o tree mark sweep kept stands old new)) (sym is) begun

  pub whole_begun : asked ≡ None → OnErr outcome (BeginsAllRuns sweep.plan.until tree mark sweep.plan old new) → OnErr outcome (BeginsAsked asked tree mark sweep kept stands old new)
  whole_begun is begun = subst (λ (o : Option Shard). OnErr outcome (BeginsAsked o tree mark sweep kept stands old new)) (sym is) begun

-- what stands of a shard is no more than it has
begun_few : (until : Option ℕ) (tree : Data) (mark : List ℕ) (plan : Sweep) (p : Shard) (text : List ℕ) (kept : ℕ) (stands : Standing) → IsAskedFor plan → plan.until ≡ until
    → AreBegun until tree mark plan p text kept stands → FitShard until plan p (shard_header (columns_of tree) mark plan p) kept stands
begun_few None tree mark plan p text kept stands asked is begun = begun.few
begun_few (Some width) tree mark plan p text kept stands asked is begun = can_go_on tree mark plan width p text kept stands.count stands.before asked is begun

-- no more bytes stay than there are
begun_within : (until : Option ℕ) (tree : Data) (mark : List ℕ) (plan : Sweep) (p : Shard) (text : List ℕ) (kept : ℕ) (stands : Standing) → AreBegun until tree mark plan p text kept stands
    → kept ≤ length text
begun_within None tree mark plan p text kept stands begun = by begun.stands
  where
    header : List ℕ
    header = shard_header (columns_of tree) mark plan p

    by : IsShort header text kept stands.count ⊎ IsLong (key_of_text tree mark plan) plan (first_run p (run_count plan)) (runs_in plan p) header text kept stands.count → kept ≤ length text
    by (inl short) = omega (arith, short.all)
    by (inr long) = omega (arith, long.stay)
begun_within (Some width) tree mark plan p text kept stands begun = by begun.stands
  where
    header : List ℕ
    header = shard_header (columns_of tree) mark plan p

    by : (IsShort header text kept stands.count × (stands.before ≡ []))
        ⊎ AreSettingsBehind (key_of_text tree mark plan) plan width (first_setting plan p) (settings_in plan p) header text kept stands.count stands.before → kept ≤ length text
    by (inl short) = omega (arith, short.0.all)
    by (inr behind) = omega (arith, behind.stay)

-- nor is nothing
nothing_few : (until : Option ℕ) (plan : Sweep) (p : Shard) (header : List ℕ) → IsAskedFor plan → IsShard p → FitShard until plan p header 0 nothing
nothing_few None plan p header asked sound =
    omega (arith, share_grows (p.number - 1) p.number p.of (run_count plan) (omega arith) (omega (arith, sound.least, sound.most)))
nothing_few (Some width) plan p header asked sound = nothing_stands plan p header asked

pub stood_few : (tree : Data) (mark : List ℕ) (sweep : SweepWords) (known : KnownFile) (kept : ℕ) (stands : Standing) → IsAskedFor sweep.plan → ForSome sweep.shard IsShard
    → GoesOn tree mark sweep known kept stands → FitAsked tree mark sweep sweep.shard kept stands
stood_few tree mark sweep known kept stands asked sound goes p is = by sweep.resume (subst (λ (o : Option Shard). GoesOnWith (shard_resumed sweep.resume o) tree mark sweep known kept stands) is goes)
  where
    header : List ℕ
    header = shard_header (columns_of tree) mark sweep.plan p

    by : (resume : Bool) → GoesOnWith (shard_resumed resume (Some p)) tree mark sweep known kept stands → FitShard sweep.plan.until sweep.plan p header kept stands
    by false none =
        subst (λ k. FitShard sweep.plan.until sweep.plan p header k stands) (sym none.0)
        (subst (λ s. FitShard sweep.plan.until sweep.plan p header 0 s) (sym none.1) (nothing_few sweep.plan.until sweep.plan p header asked (sound p is)))
    by true there = begun_few sweep.plan.until tree mark sweep.plan p there.text kept stands asked refl there.begun

-- the file holds what was read of it
held_bytes : (held : Option (List ℕ)) (text : List ℕ) → HeldSoFar (Some held) text → bytes_held held ≡ text
held_bytes held text (inl holds) = ap bytes_held holds
held_bytes held text (inr absent) = ap bytes_held absent.0 ∙ sym absent.1

-- so it has as many bytes as stay
pub holds_kept : (shard : Option Shard) (tree : Data) (mark : List ℕ) (sweep : SweepWords) (known : KnownFile) (kept : ℕ) (stands : Standing) → GoesOnWith shard tree mark sweep known kept stands
    → HoldsAtLeast known kept
holds_kept shard tree mark sweep None kept stands goes = tt
holds_kept None tree mark sweep (Some held) kept stands goes = omega (arith, goes.0)
holds_kept (Some p) tree mark sweep (Some held) kept stands goes =
    omega (arith, ap length (held_bytes held goes.text goes.held), begun_within sweep.plan.until tree mark sweep.plan p goes.text kept stands goes.begun)

-- where a file was opened behind these bytes, it and its writer hold them
pub holds_front : (before made : KnownFile) (old : Option (List ℕ)) (kept : ℕ) (text : List ℕ) → HeldSoFar before text → files.HoldsBeginning before made kept
    → IfSome before (λ held. old ≡ Some (take kept (bytes_held held))) → HoldsNow before made (take kept text) × IfSome before (λ _. old ≡ Some (take kept text))
holds_front None made old kept text held begins behind = (tt, tt)
holds_front (Some held) made old kept text so_far begins behind =
    let same : take kept (bytes_held held) ≡ take kept text = ap (take kept) (held_bytes held text so_far) in
    (begins ∙ ap (λ b. Some (Some b)) same, behind ∙ ap (λ b. Some b) same)

holds_none : (before made : KnownFile) (old : Option (List ℕ)) (kept : ℕ) → kept ≡ 0 → files.HoldsBeginning before made kept
    → IfSome before (λ held. old ≡ Some (take kept (bytes_held held))) → HoldsNow before made [] × IfSome before (λ _. old ≡ Some [])
holds_none None made old kept none begins behind = (tt, tt)
holds_none (Some held) made old kept none begins behind =
    let same : take kept (bytes_held held) ≡ [] = ap (λ n. take n (bytes_held held)) none in
    (begins ∙ ap (λ b. Some (Some b)) same, behind ∙ ap (λ b. Some b) same)

-- such a file, closed after a text was written behind them, holds both
holds_behind : (before made after : KnownFile) (old new : Option (List ℕ)) (stay text : List ℕ) → HoldsNow before made stay → IfSome before (λ _. old ≡ Some stay)
    → Appends old new text → ClosesAs made after new → HoldsNow before after (stay ++ text)
holds_behind None made after old new stay text there fresh written closed = tt
holds_behind (Some held) made after old None stay text there fresh written closed = absurd (subst (λ o. Appends o None text) fresh written)
holds_behind (Some held) made after old (Some bytes) stay text there fresh written closed =
    let same : bytes ≡ stay ++ text = subst (λ o. Appends o (Some bytes) text) fresh written in
    let now : after ≡ Some (Some bytes) = subst (λ k. ClosesAs k after (Some bytes)) there closed in
    now ∙ ap (λ b. Some (Some b)) same

-- the whole table is a beginning of itself
pub all_begins : (until : Option ℕ) (tree : Data) (mark : List ℕ) (plan : Sweep) (old new : Option (List ℕ)) (settings : List SettingSummary) → MakesRuns until tree mark plan old new settings
    → BeginsAllRuns until tree mark plan old new
all_begins until tree mark plan old new settings makes =
    record { made = makes.made; are = makes.are; written = beginning-whole old new (runs_table until tree mark plan makes.made) makes.written }

-- the mark goes by either name
module _ (until : Option ℕ) (tree : Data) (mark mark' : List ℕ) (plan : Sweep) (old new : Option (List ℕ)) where
  pub marked_makes : (settings : List SettingSummary) → mark ≡ mark' → MakesRuns until tree mark plan old new settings → MakesRuns until tree mark' plan old new settings
  marked_makes settings same makes = subst (λ m. MakesRuns until tree m plan old new settings) same makes

  pub marked_begins : mark ≡ mark' → BeginsAllRuns until tree mark plan old new → BeginsAllRuns until tree mark' plan old new
  marked_begins same begins = subst (λ m. BeginsAllRuns until tree m plan old new) same begins

-- after a sweep that was done, and after one that broke off
module _ (tree : Data) (mark : List ℕ) (sweep : SweepWords) (start made end : Shelf) (old new : Option (List ℕ)) (kept : ℕ) (stands : Standing)
    (table_made : KeepsOthers start made sweep.table.now) (table_closed : KeepsOthers made end sweep.table.now)
    (begins : files.HoldsBeginning (start sweep.table.now) (made sweep.table.now) kept)
    (behind : IfSome (start sweep.table.now) (λ held. old ≡ Some (take kept (bytes_held held))))
    (closes : ClosesAs (made sweep.table.now) (end sweep.table.now) new) where
  others_kept : KeepsOthers start end sweep.table.now
  others_kept other differs = table_closed other differs ∙ table_made other differs

  -- the file and its writer hold these bytes before the runs are made
  abbrev Holds : List ℕ → Type 0
  Holds stay = HoldsNow (start sweep.table.now) (made sweep.table.now) stay × IfSome (start sweep.table.now) (λ _. old ≡ Some stay)

  nothing_held : kept ≡ 0 → Holds []
  nothing_held none = holds_none (start sweep.table.now) (made sweep.table.now) old kept none begins behind

  stay_held : (text : List ℕ) → HeldSoFar (start sweep.table.now) text → Holds (take kept text)
  stay_held text held = holds_front (start sweep.table.now) (made sweep.table.now) old kept text held begins behind

  -- what stays of a shard, and what was appended
  module _ (resume : Bool) (p : Shard) (stay : List ℕ) (bytes : ℕ) (those : Standing) (there : Holds stay) (stays : Stays resume tree mark sweep p (start sweep.table.now) stay bytes those) where
    held_behind : (text : List ℕ) → Appends old new text → HoldsNow (start sweep.table.now) (end sweep.table.now) (stay ++ text)
    held_behind text written = holds_behind (start sweep.table.now) (made sweep.table.now) (end sweep.table.now) old new stay text there.0 there.1 written closes

    abbrev runs_stored : WritesRuns sweep.plan.until tree mark sweep.plan p bytes those old new → StoresRuns resume tree mark sweep p start end
    runs_stored writes = record {
      stay = stay;
      kept = bytes;
      stands = those;
      stays = stays;
      made = writes.made;
      are = writes.are;
      stored = held_behind (rest_table sweep.plan.until tree mark sweep.plan p bytes writes.made) writes.written;
      others = others_kept;
    }

    runs_begun : (Refused : Type 0) (cause : Fault) → IsCaused Refused tree sweep.plan cause → BeginsRuns sweep.plan.until tree mark sweep.plan p bytes those old new
        → BreaksOffRuns resume Refused tree mark sweep p start end cause
    runs_begun Refused cause caused begun = record {
      stay = stay;
      kept = bytes;
      stands = those;
      stays = stays;
      made = begun.made;
      are = begun.are;
      begun = record { front = begun.written.front; rest = begun.written.rest; whole = begun.written.whole; written = held_behind begun.written.front begun.written.appends };
      others = others_kept;
      caused = caused;
    }

  abbrev Goes : Option Shard → Type 0
  Goes shard = GoesOnWith shard tree mark sweep (start sweep.table.now) kept stands

  part_stored : (resume : Bool) (p : Shard) → Goes (shard_resumed resume (Some p)) → WritesRuns sweep.plan.until tree mark sweep.plan p kept stands old new
      → StoresRuns resume tree mark sweep p start end
  part_stored false p goes writes = runs_stored false p [] kept stands (nothing_held goes.0) (refl, goes.0, goes.1) writes
  part_stored true p goes writes = runs_stored true p (take kept goes.text) kept stands (stay_held goes.text goes.held) (goes, refl) writes

  none_stays : (resume : Bool) → Goes (shard_resumed resume None) → kept ≡ 0
  none_stays false goes = goes.0
  none_stays true goes = goes.0

  pub table_stored : (shard : Option Shard) (lines : List ℕ) → Goes (shard_resumed sweep.resume shard) → MakesAsked shard tree mark sweep kept stands old new lines
      → StoresPlain shard tree mark sweep start end lines
  table_stored (Some p) lines goes makes = (part_stored sweep.resume p goes makes.0, makes.1)
  table_stored None lines goes makes = (
    runs_stored false whole [] 0 nothing (nothing_held (none_stays sweep.resume goes)) (refl, refl, refl)
        (record { made = makes.makes.made; are = makes.makes.are; written = makes.makes.written }),
    record { settings = makes.settings; all = makes.makes.all; summed = makes.makes.summed; text = makes.text },
  )

  module _ (Refused : Type 0) (cause : Fault) (caused : IsCaused Refused tree sweep.plan cause) where
    part_begun : (resume : Bool) (p : Shard) → Goes (shard_resumed resume (Some p)) → BeginsRuns sweep.plan.until tree mark sweep.plan p kept stands old new
        → BreaksOffRuns resume Refused tree mark sweep p start end cause
    part_begun false p goes begun = runs_begun false p [] kept stands (nothing_held goes.0) (refl, goes.0, goes.1) Refused cause caused begun
    part_begun true p goes begun = runs_begun true p (take kept goes.text) kept stands (stay_held goes.text goes.held) (goes, refl) Refused cause caused begun

    pub table_begun : (shard : Option Shard) → Goes (shard_resumed sweep.resume shard) → BeginsAsked shard tree mark sweep kept stands old new
        → BreaksOff shard Refused tree mark sweep start end cause
    table_begun (Some p) goes begun = part_begun sweep.resume p goes begun
    table_begun None goes begun = runs_begun false whole [] 0 nothing (nothing_held (none_stays sweep.resume goes)) (refl, refl, refl) Refused cause caused begun
