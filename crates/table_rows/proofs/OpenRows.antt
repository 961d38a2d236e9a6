-- The lines of a setting that needs more runs, line by line.
use Rattle.std.proofs.Common.{◌≡◌, ◌∙◌, ◌+◌, ◌-◌, ◌*◌, ◌≤◌, ℕ, Bool, true, false, List, [], ◌∷◌, ◌++◌, length, length-append, take, take_at, inl, inr, ltb, refl, sym, ap, subst, arith, append_assoc, append-nil}
use Rattle.std.specs.Prelude.{All}
use Rattle.std.proofs.lemmas.Bool.{ltb-true, ltb-false}
use Rattle.std.proofs.lemmas.List.{length-map, map-append}
use Rattle.std.proofs.lemmas.List.Concat.{flat_map-append}
use Rattle.std.proofs.lemmas.List.Elements.{All-nil, All-push}
use Rattle.sweep_plan.specs.Sweep.{Sweep, seed_count}
use Rattle.figures.specs.Notes.{Note}
use Rattle.sweep.specs.Sums.{AreLinesOf}
use Rattle.sweep.specs.declared.summing.LineKey.{LineKey}
use Rattle.sweep.proofs.LinesOf.{both_lines}
use Rattle.sweep_until.specs.Until.{AreEnough, AreTooFew, IsWide, is_narrow_of}
use Rattle.sweep_until.proofs.Enough.{wide_push}
use Rattle.table_rows.specs.Lines.{HasLine, Line, IsLine, ReadsLine, notes_of, shard_line}
use Rattle.table_rows.specs.Open.{BeginsWithOpen, HasRowOf, ReadsRow}
use Rattle.table_rows.specs.Settings.{HasSettingOf, shard_setting}
use Rattle.table_rows.proofs.OneLine.{same_line}

-- so many lines of runs were read, from the run of a number on; this is their metadata, and this is left
pub record RowsSo (key : LineKey) (sweep : Sweep) (first : ℕ) (text left : List ℕ) (notes : List Note) (count : ℕ) : Type 0 where
  pub lines : List Line
  pub many : length lines ≡ count
  pub sound : All IsLine lines
  pub placed : AreLinesOf key sweep first (shard_setting lines) count
  pub noted : notes_of lines ≡ notes
  pub written : text ≡ shard_setting lines ++ left

module _ (key : LineKey) (sweep : Sweep) where
  pub no_row : (first : ℕ) (text : List ℕ) (notes : List Note) → notes ≡ [] → RowsSo key sweep first text text notes 0
  no_row first text notes none =
      record { lines = []; many = refl; sound = All-nil IsLine; placed = record { lines = []; are = tt; written = refl }; noted = sym none; written = refl }

  pub one_row : (first count number : ℕ) (text left next : List ℕ) (before after : List Note) → first + count ≡ number → RowsSo key sweep first text left before count
      → ReadsRow key sweep number left next before after → RowsSo key sweep first text next after (count + 1)
  one_row first count number text left next before after is so row =
      let l = row.begins.one in
      let lines = so.lines in
      let more : shard_setting lines ++ shard_line l ≡ shard_setting (lines ++ l ∷ []) =
      ap (λ x. shard_setting lines ++ x) (sym (append-nil (shard_line l))) ∙ sym (flat_map-append shard_line lines (l ∷ [])) in
      record {
        lines = lines ++ l ∷ [];
        many = length-append lines (l ∷ []) ∙ ap (λ n. n + 1) so.many;
        sound = All-push IsLine lines l so.sound row.begins.sound.sound;
        placed = subst (λ x. AreLinesOf key sweep first x (count + 1)) more
            (both_lines key sweep first count 1 (shard_setting lines) (shard_line l) so.placed (subst (λ n. AreLinesOf key sweep n (shard_line l) 1) (sym is) row.begins.sound.placed));
        noted = map-append (λ (x : Line). x.note) lines (l ∷ []) ∙ ap (λ x. x ++ l.note ∷ []) so.noted ∙ sym row.added;
        written = so.written ∙ ap (λ x. shard_setting lines ++ x) row.begins.written ∙ sym (append_assoc (shard_setting lines) (shard_line l) next) ∙ ap (λ x. x ++ next) more;
      }

  counted : (first count : ℕ) (text left : List ℕ) (notes : List Note) → RowsSo key sweep first text left notes count → length notes ≡ count
  counted first count text left notes so = ap length (sym so.noted) ∙ length-map so.lines (λ (x : Line). x.note) ∙ so.many

  module _ (width number first : ℕ) (at : first ≡ number * seed_count sweep.seeds) (text : List ℕ) (not : ¬ (HasSettingOf key sweep width number text)) where
    abbrev each : ℕ
    each = seed_count sweep.seeds

    -- they aren't enough, since the text doesn't begin with the whole setting
    not_enough : (count : ℕ) (left : List ℕ) (notes : List Note) → RowsSo key sweep first text left notes count → AreEnough width each notes → ⊥
    not_enough count left notes so enough =
        not (
          left,
          record {
            one = so.lines;
            sound = record {
              setting = record { sound = so.sound; enough = subst (AreEnough width each) (sym so.noted) enough };
              count = count;
              few = omega (arith, enough.few, counted first count text left notes so);
              placed = subst (λ n. AreLinesOf key sweep n (shard_setting so.lines) count) at so.placed;
            };
            written = so.written;
          },
        )

    pub too_few : (count : ℕ) (left : List ℕ) (before after : List Note) (note : Note) → after ≡ before ++ note ∷ [] → AreTooFew width each before → RowsSo key sweep first text left after count
        → AreTooFew width each after
    too_few count left before after note added few so = by (is_narrow_of width after) refl (ltb (length after) each) refl
      where
        size : length after ≡ length before + 1
        size = ap length added ∙ length-append before (note ∷ [])

        wide : IsWide width after
        wide = subst (IsWide width) (sym added) (wide_push width before note few.wide few.open_yet)

        by : (narrow : Bool) → is_narrow_of width after ≡ narrow → (less : Bool) → ltb (length after) each ≡ less → AreTooFew width each after
        by true narrow less is = absurd (not_enough count left after so (record { few = omega (arith, few.few, size); wide = wide; ends = inl narrow }))
        by false open_yet true less = (let low = ltb-true (length after) each less in record { few = omega (arith, low); wide = wide; open_yet = open_yet })
        by false open_yet false no_less =
            let high = ltb-false (length after) each no_less in
            absurd (not_enough count left after so (record { few = omega (arith, few.few, size); wide = wide; ends = inr (omega (arith, few.few, size, high)) }))

    -- so these are the lines of the setting that stand there
    pub open_there : (count : ℕ) (left : List ℕ) (notes : List Note) → RowsSo key sweep first text left notes count → AreTooFew width each notes → ¬ (HasRowOf key sweep (first + count) left)
        → BeginsWithOpen key sweep width number text left notes
    open_there count left notes so few none =
        let size = counted first count text left notes so in
        let place : first + count ≡ number * each + length notes = omega (arith, at, size) in
        record {
          lines = so.lines;
          are = record {
            sound = so.sound;
            placed = subst (λ n. AreLinesOf key sweep n (shard_setting so.lines) (length so.lines)) at
                (subst (λ n. AreLinesOf key sweep first (shard_setting so.lines) n) (sym so.many) so.placed);
            few = subst (AreTooFew width each) (sym so.noted) few;
          };
          noted = so.noted;
          written = so.written;
          no_more = subst (λ n. ¬ (HasRowOf key sweep n left)) place none;
        }

    -- they are no more than the setting may have
    pub not_all : (count : ℕ) (left : List ℕ) (notes : List Note) → RowsSo key sweep first text left notes count → AreTooFew width each notes → each ≤ count → ⊥
    not_all count left notes so few high = omega (arith, few.few, counted first count text left notes so, high)

-- ---- one line

module _ (key : LineKey) (sweep : Sweep) (number : ℕ) (text left : List ℕ) (note : Note) (reads : ReadsLine text left (λ n. n ≡ note)) (line : List ℕ) (is : line ≡ take (length text - length left) text) where
  line_is : line ≡ shard_line reads.begins.one
  line_is =
      let long : length text ≡ length (shard_line reads.begins.one) + length left = ap length reads.begins.written ∙ length-append (shard_line reads.begins.one) left in
      let count : length (shard_line reads.begins.one) ≡ length text - length left = omega (arith, long) in
      is ∙ ap (take (length text - length left)) reads.begins.written ∙ take_at (shard_line reads.begins.one) left (length text - length left) count

  pub row_read : AreLinesOf key sweep number line 1 → (before after : List Note) → after ≡ before ++ note ∷ [] → ReadsRow key sweep number text left before after
  row_read placed before after added = record {
    begins = record {
      one = reads.begins.one;
      sound = record { sound = reads.begins.sound; placed = subst (λ l. AreLinesOf key sweep number l 1) line_is placed };
      written = reads.begins.written;
    };
    added = added ∙ ap (λ n. before ++ n ∷ []) (sym reads.gathered);
  }

  pub row_unplaced : ¬ (AreLinesOf key sweep number line 1) → ¬ (HasRowOf key sweep number text)
  row_unplaced not has =
      let same = same_line has.1.one reads.begins.one has.0 left has.1.sound.sound reads.begins.sound (sym has.1.written ∙ reads.begins.written) in
      not (subst (λ l. AreLinesOf key sweep number l 1) (ap shard_line same.0 ∙ sym line_is) has.1.sound.placed)

pub left_within : (text left : List ℕ) (note : Note) → ReadsLine text left (λ n. n ≡ note) → length left ≤ length text
left_within text left note reads = omega (arith, ap length reads.begins.written ∙ length-append (shard_line reads.begins.one) left)

-- a text that begins with the line of a run begins with a line
pub row_line : (key : LineKey) (sweep : Sweep) (number : ℕ) (text : List ℕ) → ¬ (HasLine text) → ¬ (HasRowOf key sweep number text)
row_line key sweep number text none has = none (has.0, record { one = has.1.one; sound = has.1.sound.sound; written = has.1.written })
