-- What stands of the table of a shard of whole settings in a text.
use Rattle.std.proofs.Common.{◌≡◌, ◌⊎◌, ◌≤◌, ◌<◌, ◌+◌, ◌-◌, ℕ, Bool, true, false, ltb, List, [], ◌++◌, Some, inl, inr, length, length-append, take, drop, refl, sym, ap, subst, ◌∙◌, append-nil, arith}
use Rattle.std.specs.Str.{IsValidUpTo}
use Rattle.std.specs.List.{flat_map}
use Rattle.std.proofs.lemmas.List.{length-take, take-append-drop}
use Rattle.std.proofs.lemmas.Bool.{ltb-true, ltb-false}
use Rattle.std.proofs.lemmas.Option.{same_Some}
use Rattle.sweep_plan.specs.Sweep.{Sweep, seed_count}
use Rattle.figures.specs.Notes.{Note}
use Rattle.table_rows.specs.Open.{BeginsWithOpen}
use Rattle.shards.specs.declared.shard.Shard.{Shard}
use Rattle.sweep.specs.Runs.{IsAskedFor}
use Rattle.sweep.specs.Resumed.{IsShort}
use Rattle.sweep.specs.Shards.{shard_header}
use Rattle.sweep.specs.Sums.{key_of_text}
use Rattle.sweep.specs.Table.{columns_of}
use Rattle.sweep.specs.declared.summing.LineKey.{LineKey}
use Rattle.toml.specs.Data.{Data}
use Rattle.sweep_until.specs.Shards.{CanGoOn, settings_in, first_setting}
use Rattle.sweep_until.specs.Until.{AreTooFew}
use Rattle.sweep_until.proofs.ShardSettings.{none_yet}
use Rattle.table_rows.specs.Lines.{notes_of}
use Rattle.table_rows.specs.Settings.{BeginsWithSettings, HasSettingOf, shard_setting}
use Rattle.table_rows.specs.Begun.{AreLinesBehind, AreSettingsBehind, IsBegunSettings, IsRead}

-- ---- the beginning of a text that is UTF-8

pub whole_read : (text front : List ℕ) → front ≡ text → IsRead text front []
whole_read text front same = record { written = sym same ∙ sym (append-nil front); longest = inl refl }

pub front_read : (text front : List ℕ) (count : ℕ) → IsValidUpTo text count → front ≡ take count text → IsRead text front (drop count text)
front_read text front count valid same =
    let long : length front ≡ count = ap length same ∙ length-take count text ∙ omega (arith, valid.short) in
    record { written = sym (take-append-drop count text) ∙ ap (λ l. l ++ drop count text) (sym same); longest = inr (subst (IsValidUpTo text) (sym long) valid) }

pub front_within : (text front unread : List ℕ) → IsRead text front unread → length front ≤ length text
front_within text front unread read = omega (arith, ap length read.written ∙ length-append front unread)

-- what comes behind the first line is no longer than the text
pub rest_within : (header text rest : List ℕ) → text ≡ header ++ rest → length rest ≤ length text
rest_within header text rest is = omega (arith, ap length is ∙ length-append header rest)

-- nor is what is left of a front longer than that
pub left_within : (key : LineKey) (sweep : Sweep) (width first count : ℕ) (front left : List ℕ) → BeginsWithSettings key sweep width first front left count → length left ≤ length front
left_within key sweep width first count front left begins =
    omega (arith, ap length begins.written ∙ length-append (flat_map shard_setting begins.settings) left)

-- nor is what is left behind the lines of a setting that needs more
pub after_within : (key : LineKey) (sweep : Sweep) (width first most settings : ℕ) (left after : List ℕ) (before : List Note) → AreLinesBehind key sweep width first most settings left after before
    → length after ≤ length left
after_within key sweep width first most settings left after before started = by started
  where
    by : AreLinesBehind key sweep width first most settings left after before → length after ≤ length left
    by (inl it) = omega (arith, ap length it.2)
    by (inr it) = omega (arith, ap length it.1.written ∙ length-append (shard_setting it.1.lines) after)

-- behind the whole settings stand those lines
pub lines_behind : (key : LineKey) (sweep : Sweep) (width first most settings number past : ℕ) (left after : List ℕ) (before : List Note) → number ≡ first + settings → past ≡ first + most
    → settings ≤ most → (settings ≡ most) ⊎ ¬ (HasSettingOf key sweep width (first + settings) left) → (past ≤ number → (before ≡ []) × (after ≡ left))
    → (number < past → (w : ℕ) → ¬ (HasSettingOf key sweep w number left) → BeginsWithOpen key sweep w number left after before)
    → AreLinesBehind key sweep width first most settings left after before
lines_behind key sweep width first most settings number past left after before at end few no_more none started = by no_more
  where
    by : (settings ≡ most) ⊎ ¬ (HasSettingOf key sweep width (first + settings) left) → AreLinesBehind key sweep width first most settings left after before
    by (inl all) = (let it = none (omega (arith, all, at, end)) in inl (all, it.0, it.1))
    by (inr not) = on (ltb number past) refl
      where
        on : (less : Bool) → ltb number past ≡ less → AreLinesBehind key sweep width first most settings left after before
        on true is =
            let low = ltb-true number past is in
            inr (
              omega (arith, low, at, end),
              subst (λ n. BeginsWithOpen key sweep width n left after before) at (started (omega (arith, low)) width (subst (λ n. ¬ (HasSettingOf key sweep width n left)) (sym at) not)),
            )
        on false is =
            let high = ltb-false number past is in
            let it = none (omega (arith, high)) in
            inl (omega (arith, high, at, end, few), it.0, it.1)

-- ---- what stands of a shard's table

module _ (tree : Data) (mark : List ℕ) (sweep : Sweep) (width : ℕ) (p : Shard) (text : List ℕ) where
  abbrev header : List ℕ
  header = shard_header (columns_of tree) mark sweep p

  -- a beginning of the first line
  pub short_stands : (before : List Note) → before ≡ [] → (rest : List ℕ) × (header ≡ text ++ rest) → IsBegunSettings tree mark sweep width p text (length text) 0 before
  short_stands before none split = record {
    stands = inl (record { rest = split.0; written = split.1; all = refl; no_run = refl }, none);
    few = omega arith;
  }

  -- the first line, and whole settings
  pub long_stands : (key : LineKey) (first most : ℕ) → key ≡ key_of_text tree mark sweep → first ≡ first_setting sweep p → most ≡ settings_in sweep p → (rest front left after : List ℕ) (kept settings : ℕ)
      (before : List Note)
      → text ≡ header ++ rest → (unread : List ℕ) × IsRead rest front unread → BeginsWithSettings key sweep width first front left settings
      → kept + (length rest - length front) + length after ≡ length text → settings ≤ most → AreLinesBehind key sweep width first most settings left after before
      → IsBegunSettings tree mark sweep width p text kept settings before
  long_stands key first most its_key at all rest front left after kept settings before behind read begins stay few started =
      let unread = read.0 in
      let long : length rest ≡ length front + length unread = ap length read.1.written ∙ length-append front unread in
      let more : length (after ++ unread) ≡ length after + length unread = length-append after unread in
      record {
        stands = inr (record {
          rest = rest;
          written = behind;
          front = front;
          unread = unread;
          read = read.1;
          left = left;
          begins = subst (λ k. BeginsWithSettings k sweep width (first_setting sweep p) front left settings) its_key (subst (λ n. BeginsWithSettings key sweep width n front left settings) at begins);
          after = after;
          started = subst (λ n. AreLinesBehind (key_of_text tree mark sweep) sweep width (first_setting sweep p) n settings left after before) all
              (subst (λ k. AreLinesBehind k sweep width (first_setting sweep p) most settings left after before) its_key
              (subst (λ n. AreLinesBehind key sweep width n most settings left after before) at started));
          stay = omega (arith, stay, long, more);
        });
        few = subst (λ n. settings ≤ n) all few;
      }

  -- behind what stands the shard can go on
  module _ (kept settings : ℕ) (before : List Note) (asked : IsAskedFor sweep) (wanted : sweep.until ≡ Some width) (is : IsBegunSettings tree mark sweep width p text kept settings before) where
    none_stands : before ≡ [] → CanGoOn sweep p header kept settings before
    none_stands none = record {
      few = is.few;
      there = inl none;
      open_yet = λ w too. subst (AreTooFew w (seed_count sweep.seeds)) (sym none) (none_yet sweep w asked);
    }

    pub can_go_on : CanGoOn sweep p header kept settings before
    can_go_on = by is.stands
      where
        by : (IsShort header text kept settings × (before ≡ []))
            ⊎ AreSettingsBehind (key_of_text tree mark sweep) sweep width (first_setting sweep p) (settings_in sweep p) header text kept settings before → CanGoOn sweep p header kept settings before
        by (inl short) = none_stands short.1
        by (inr it) = on it.started
          where
            on : AreLinesBehind (key_of_text tree mark sweep) sweep width (first_setting sweep p) (settings_in sweep p) settings it.left it.after before → CanGoOn sweep p header kept settings before
            on (inl none) = none_stands none.1
            on (inr b) =
                let own = flat_map shard_setting it.begins.settings in
                let whole : length text ≡ length header + length it.rest = ap length it.written ∙ length-append header it.rest in
                let read : length it.rest ≡ length it.front + length it.unread = ap length it.read.written ∙ length-append it.front it.unread in
                let begun : length it.front ≡ length own + length it.left = ap length it.begins.written ∙ length-append own it.left in
                let opened : length it.left ≡ length (shard_setting b.1.lines) + length it.after = ap length b.1.written ∙ length-append (shard_setting b.1.lines) it.after in
                let behind : length (it.after ++ it.unread) ≡ length it.after + length it.unread = length-append it.after it.unread in
                record {
                  few = is.few;
                  there = inr (b.0, omega (arith, whole, read, begun, opened, behind, it.stay));
                  open_yet = λ w too.
                      subst (AreTooFew w (seed_count sweep.seeds)) b.1.noted
                      (subst (λ (v : ℕ). AreTooFew v (seed_count sweep.seeds) (notes_of b.1.lines)) (same_Some width w (sym wanted ∙ too)) b.1.are.few);
                }
