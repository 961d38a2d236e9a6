-- The first setting of a text, line by line.
use Rattle.std.proofs.Common.{◌≡◌, ◌∙◌, ◌<◌, ◌≤◌, ◌+◌, ◌⊎◌, ℕ, suc, Bool, true, false, true≢false, List, [], ◌∷◌, ◌++◌, inl, inr, length, length-append, take, take_at, arith, refl, sym, ap, subst, append_assoc, append-nil}
use Rattle.std.specs.Prelude.{All, nat_le}
use Rattle.std.proofs.lemmas.Bool.Decides.{nat_tests}
use Rattle.std.proofs.lemmas.List.{length-map, map-append}
use Rattle.std.proofs.lemmas.List.Elements.{All-head}
use Rattle.figures.specs.Notes.{Note}
use Rattle.sweep_until.specs.Kept.{AreKept, runs_in}
use Rattle.sweep_until.specs.Until.{IsWide, is_narrow_of}
use Rattle.sweep_until.specs.declared.runs.SettingRuns.{SettingRuns}
use Rattle.sweep_until.proofs.Enough.{no_longer, some_enough, wide_push}
use Rattle.table_rows.specs.Lines.{HasLine, Line, IsLine, ReadsLine, notes_of, shard_line}
use Rattle.table_rows.specs.Settings.{HasSetting, IsSetting, ReadsSetting, shard_setting}
use Rattle.table_rows.proofs.Items.{Reads, all_behind, cut_items, none_left, none_read, one_more}
use Rattle.table_rows.proofs.OneLine.{same_line}

noted_long : (lines : List Line) → length (notes_of lines) ≡ length lines
noted_long lines = length-map lines (λ (l : Line). l.note)

noted_both : (xs ys : List Line) → notes_of (xs ++ ys) ≡ notes_of xs ++ notes_of ys
noted_both xs ys = map-append (λ (l : Line). l.note) xs ys

-- ---- settings with which one text begins are one, and leave the same

module _ (width each : ℕ) where
  shorter_setting : (a b : List Line) (x y : List ℕ) → IsSetting width each a → IsSetting width each b → shard_setting a ++ x ≡ shard_setting b ++ y → length a ≤ length b → (a ≡ b) × (x ≡ y)
  shorter_setting a b x y setting also same few =
      let cut = cut_items IsLine shard_line same_line a b x y setting.sound also.sound same few in
      let noted : notes_of b ≡ notes_of a ++ notes_of cut.0 = ap notes_of cut.1 ∙ noted_both a cut.0 in
      let no_more : notes_of cut.0 ≡ [] = no_longer width each (notes_of a) (notes_of b) (notes_of cut.0) setting.enough also.enough noted in
      let none : cut.0 ≡ [] = none_left cut.0 (sym (noted_long cut.0) ∙ ap length no_more) in
      (sym (cut.1 ∙ ap (λ l. a ++ l) none ∙ append-nil a), cut.2 ∙ ap (λ l. shard_setting l ++ y) none)

  pub same_setting : (a b : List Line) (x y : List ℕ) → IsSetting width each a → IsSetting width each b → shard_setting a ++ x ≡ shard_setting b ++ y → (a ≡ b) × (x ≡ y)
  same_setting a b x y setting also same = by (nat_le (length a) (length b)) refl
    where
      by : (t : Bool) → nat_le (length a) (length b) ≡ t → (a ≡ b) × (x ≡ y)
      by true e =
          let few : length a ≤ length b = grind (arith, nat_tests) in
          shorter_setting a b x y setting also same few
      by false e =
          let few : length b ≤ length a = (let less : length b < length a = grind (arith, nat_tests) in omega (arith, less)) in
          let other = shorter_setting b a y x also setting (sym same) few in
          (sym other.0, sym other.1)

-- ---- line by line

-- lines of a setting were read, and their notes are kept
abbrev pub ReadsKept : List ℕ → List ℕ → SettingRuns → ℕ → Type 0
ReadsKept text left kept count = Reads IsLine shard_line (λ lines. AreKept (notes_of lines) kept) text left count

-- they are not enough
pub record GoesSo (width : ℕ) (text left : List ℕ) (kept : SettingRuns) (count : ℕ) : Type 0 where
  pub so : ReadsKept text left kept count
  pub wide : IsWide width (notes_of so.items)
  pub open_yet : is_narrow_of width (notes_of so.items) ≡ false

-- one note more is kept
abbrev pub Keeping : SettingRuns → SettingRuns → Note → Type 0
Keeping before after note = (each : ℕ) (notes : List Note) → AreKept notes before → AreKept (notes ++ note ∷ []) after

pub no_line_read : (width : ℕ) (text : List ℕ) (kept : SettingRuns) → AreKept [] kept → GoesSo width text text kept 0
no_line_read width text kept fresh = record {
  so = none_read IsLine shard_line (λ lines. AreKept (notes_of lines) kept) text fresh;
  wide = λ n less. absurd (omega (arith, less));
  open_yet = refl;
}

module _ (width : ℕ) (text left next : List ℕ) (before after : SettingRuns) (count : ℕ) (goes : GoesSo width text left before count) (one : ReadsLine left next (Keeping before after)) where
  abbrev lines : List Line
  lines = goes.so.items

  abbrev line : Line
  line = one.begins.one

  abbrev both : List Note
  both = notes_of (lines ++ line ∷ [])

  abbrev line_added : ReadsKept text next after (count + 1)
  line_added =
      one_more IsLine shard_line (λ ls. AreKept (notes_of ls) before) (λ ls. AreKept (notes_of ls) after) text left next count goes.so one.begins
      (subst (λ l. AreKept l after) (sym (noted_both lines (line ∷ []))) (one.gathered 0 (notes_of lines) goes.so.holds))

  wide_yet : IsWide width both
  wide_yet = subst (IsWide width) (sym (noted_both lines (line ∷ []))) (wide_push width (notes_of lines) line.note goes.wide goes.open_yet)

  module _ (answer : Bool) (answers : (runs : List Note) → AreKept runs after → answer ≡ is_narrow_of width runs) where
    answered : answer ≡ is_narrow_of width both
    answered = answers both line_added.holds

    pub goes_further : answer ≡ false → GoesSo width text next after (count + 1)
    goes_further is = record { so = line_added; wide = wide_yet; open_yet = sym answered ∙ is }

    pub setting_ends : (each : ℕ) → count < each → answer ≡ true → ReadsSetting width each text next after
    setting_ends each within is = record {
      begins = record {
        one = lines ++ line ∷ [];
        sound = record {
          sound = line_added.sound;
          enough = record { few = omega (arith, within, line_added.many, noted_long (lines ++ line ∷ [])); wide = wide_yet; ends = inl (sym answered ∙ is) };
        };
        written = line_added.written;
      };
      noted = line_added.holds;
    }

module _ (width each : ℕ) (text left : List ℕ) (kept : SettingRuns) (count : ℕ) (goes : GoesSo width text left kept count) where
  abbrev read : List Line
  read = goes.so.items

  -- all that are asked for
  pub setting_full : count ≡ each → ReadsSetting width each text left kept
  setting_full all = record {
    begins = record {
      one = read;
      sound = record {
        sound = goes.so.sound;
        enough = record { few = omega (arith, all, goes.so.many, noted_long read); wide = goes.wide; ends = inr (noted_long read ∙ goes.so.many ∙ all) };
      };
      written = goes.so.written;
    };
    noted = goes.so.holds;
  }

  -- no setting is as short, or shorter
  not_enough : count < each → (lines rest : List Line) → IsSetting width each lines → read ≡ lines ++ rest → ⊥
  not_enough within lines rest setting is = by rest is setting.enough.ends
    where
      by : (rest : List Line) → read ≡ lines ++ rest → (is_narrow_of width (notes_of lines) ≡ true) ⊎ (length (notes_of lines) ≡ each) → ⊥
      by rest is (inr all) =
          let long : length read ≡ length lines + length rest = ap length is ∙ length-append lines rest in
          omega (arith, all, within, noted_long lines, long, goes.so.many)
      by [] is (inl narrow) =
          let same : notes_of read ≡ notes_of lines = ap notes_of (is ∙ append-nil lines) in
          true≢false (sym narrow ∙ ap (is_narrow_of width) (sym same) ∙ goes.open_yet)
      by (l ∷ rest) is (inl narrow) =
          let long : length read ≡ length lines + suc (length rest) = ap length is ∙ length-append lines (l ∷ rest) in
          let parts : notes_of read ≡ notes_of lines ++ notes_of (l ∷ rest) = ap notes_of is ∙ noted_both lines (l ∷ rest) in
          let front : take (length (notes_of lines)) (notes_of read) ≡ notes_of lines =
          ap (take (length (notes_of lines))) parts ∙ take_at (notes_of lines) (notes_of (l ∷ rest)) (length (notes_of lines)) refl in
          true≢false (sym narrow ∙ ap (is_narrow_of width) (sym front) ∙ goes.wide (length (notes_of lines)) (omega (arith, long, noted_long lines, noted_long read)))

  -- a text that begins with a setting goes on with a line
  pub line_there : count < each → HasSetting width each text → HasLine left
  line_there within (next, begins) = by (nat_le (length read) (length begins.one)) refl
    where
      same : shard_setting read ++ left ≡ shard_setting begins.one ++ next
      same = sym goes.so.written ∙ begins.written

      on : (rest : List Line) → begins.one ≡ read ++ rest → left ≡ shard_setting rest ++ next → HasLine left
      on [] all behind = absurd (not_enough within begins.one [] begins.sound (sym (append-nil read) ∙ sym all ∙ sym (append-nil begins.one)))
      on (l ∷ rest) all behind = (
        shard_setting rest ++ next,
        record {
          one = l;
          sound = All-head IsLine l rest (all_behind IsLine read (l ∷ rest) (subst (All IsLine) all begins.sound.sound));
          written = behind ∙ append_assoc (shard_line l) (shard_setting rest) next;
        },
      )

      by : (t : Bool) → nat_le (length read) (length begins.one) ≡ t → HasLine left
      by true e =
          let few : length read ≤ length begins.one = grind (arith, nat_tests) in
          let cut = cut_items IsLine shard_line same_line read begins.one left next goes.so.sound begins.sound.sound same few in
          on cut.0 cut.1 cut.2
      by false e =
          let less : length begins.one < length read = grind (arith, nat_tests) in
          let cut = cut_items IsLine shard_line same_line begins.one read next left begins.sound.sound goes.so.sound (sym same) (omega (arith, less)) in
          absurd (not_enough within begins.one cut.0 begins.sound cut.1)

-- a setting that was read has some runs
pub has_some : (width each : ℕ) (text left : List ℕ) (kept : SettingRuns) → 0 < each → ReadsSetting width each text left kept → 0 < runs_in kept
has_some width each text left kept some reads = omega (arith, some_enough width each (notes_of reads.begins.one) some reads.begins.sound.enough, reads.noted.figures.all)
