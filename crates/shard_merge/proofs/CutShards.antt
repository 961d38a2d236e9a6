-- A shard that was cut off goes on as the shard that it is.
use Rattle.std.proofs.Common.{◌≡◌, ◌⊎◌, ◌≤◌, ◌+◌, ◌-◌, ℕ, zero, suc, List, [], ◌∷◌, ◌++◌, inl, inr, length, take, drop, lit<, arith, refl, sym, ap, subst, ◌∙◌, append_assoc}
use Rattle.std.specs.Prelude.{Option, Some, All}
use Rattle.std.specs.List.{AllZip, flat_map}
use Rattle.std.specs.Io.KnownBytes.{Appends}
use Rattle.std.proofs.Math.Seq.{take-add, take-take}
use Rattle.std.proofs.lemmas.List.{append_cancel_left, drop-drop}
use Rattle.std.proofs.lemmas.List.Concat.{flat_map-append}
use Rattle.std.proofs.lemmas.List.Elements.{All-head, All-tail}
use Rattle.toml.specs.Data.{Data}
use Rattle.sweep_plan.proofs.Words.{Lacks, cut_once}
use Rattle.sweep_plan.specs.Sweep.{Sweep, run_count}
use Rattle.figures.specs.declared.column_set.ColumnSet.{ColumnSet}
use Rattle.figures.specs.Notes.{note_cell, note_text}
use Rattle.line_sums.proofs.Cuts.{sum_no_feed}
use Rattle.shards.specs.declared.shard.Shard.{Shard}
use Rattle.shards.specs.Shards.{first_run, past_run}
use Rattle.sweep.specs.Runs.{Made, AreMadeBetween, IsMadeAs, noted, runs_of}
use Rattle.sweep.specs.Table.{made_line, noted_line, columns_of}
use Rattle.sweep.specs.Shards.{AreMadeBehind, WritesRest, shard_header}
use Rattle.sweep.specs.Resumed.{IsBegun, IsLong, IsShort, RefusesBegun, runs_in}
use Rattle.sweep.specs.Sums.{IsFed, key_of_text, sweep_key}
use Rattle.sweep.specs.declared.summing.LineKey.{LineKey}
use Rattle.sweep.specs.declared.begun.BegunFault.TheVariants as begun_fault
use Rattle.sweep.proofs.Kept.{goes_behind, long_again, short_again}
use Rattle.sweep.proofs.LinesOf.{all_fed, lines_counted}
use Rattle.table_rows.specs.Made.{FitsLine}
use Rattle.table_rows.proofs.Beginnings.{one_begins_with_other}
use Rattle.table_rows.proofs.Bytes.{lacks_both, lacks_cons}
use Rattle.figures.proofs.SameNotes.{note_lacks}
use Rattle.table_rows.proofs.MadeLines.{line_from, line_in_shard, line_sound}
use Rattle.table_rows.proofs.Read.{zipped_both}
use Rattle.shard_merge.specs.Genuine.{IsCutShard}

zipped_first : {X Y : Type 0} (R : X → Y → Type 0) (xs : List X) (ys : List Y) (n : ℕ) → AllZip R xs ys → AllZip R (take n xs) (take n ys)
zipped_first R xs ys zero all = tt
zipped_first R [] [] (suc n) all = tt
zipped_first R [] (y ∷ ys) (suc n) all = absurd all
zipped_first R (x ∷ xs) [] (suc n) all = absurd all
zipped_first R (x ∷ xs) (y ∷ ys) (suc n) all = (all.0, zipped_first R xs ys n all.1)

-- lines with which those of some runs begin are the first of them
pub record AreFirst (columns : ColumnSet) (key : List ℕ) (lines : List (List ℕ)) (made : List Made) : Type 0 where
  pub fit : length lines ≤ length made
  pub same : flat_map (λ line. line) lines ≡ flat_map (noted_line columns key) (take (length lines) made)

module _ (columns : ColumnSet) (key : List ℕ) where
  abbrev line : Made → List ℕ
  line = noted_line columns key

  abbrev joined : List (List ℕ) → List ℕ
  joined = flat_map (λ (one : List ℕ). one)

  -- the line of a run without its line feed
  abbrev body_of : Made → List ℕ
  body_of m = (line_from columns key m).sum ++ 32 ∷ (note_text (noted m) ++ 44 ∷ (line_from columns key m).body)

  line_cut : (m : Made) → line m ≡ body_of m ++ 10 ∷ []
  line_cut m =
      let l = line_from columns key m in
      sym (line_in_shard columns key m) ∙ ap (λ x. l.sum ++ 32 ∷ x) (sym (append_assoc (note_text (noted m)) (44 ∷ l.body) (10 ∷ [])))
      ∙ sym (append_assoc l.sum (32 ∷ (note_text (noted m) ++ 44 ∷ l.body)) (10 ∷ []))

  body_lacks : (m : Made) → FitsLine m → Lacks 10 (body_of m)
  body_lacks m fits =
      let l = line_from columns key m in
      let lacks_it = lacks_both 10 (note_text (noted m)) (44 ∷ l.body) (note_lacks 10 (lit< tt) refl (noted m) fits.note) (lacks_cons 10 44 l.body refl (line_sound columns key m fits).one) in
      lacks_both 10 l.sum (32 ∷ (note_text (noted m) ++ 44 ∷ l.body)) (sum_no_feed key (note_cell (noted m) ++ made_line columns m)) (lacks_cons 10 32 (note_text (noted m) ++ 44 ∷ l.body) refl lacks_it)

  no_text : (b x : List ℕ) → (b ++ 10 ∷ []) ++ x ≡ [] → ⊥
  no_text [] x same = cc
  no_text (c ∷ b) x same = cc

  first_lines : (lines : List (List ℕ)) (made : List Made) (x : List ℕ) → All IsFed lines → All FitsLine made → joined lines ++ x ≡ flat_map line made
      → AreFirst columns key lines made
  first_lines [] made x fed fits same = record { fit = omega arith; same = refl }
  first_lines (one ∷ lines) [] x fed fits same =
      let its = All-head IsFed one lines fed in
      absurd (no_text its.body (joined lines ++ x) (ap (λ l. l ++ (joined lines ++ x)) (sym its.fed) ∙ sym (append_assoc one (joined lines) x) ∙ same))
  first_lines (one ∷ lines) (m ∷ made) x fed fits same =
      let its = All-head IsFed one lines fed in
      let left : joined (one ∷ lines) ++ x ≡ its.body ++ 10 ∷ (joined lines ++ x) =
      append_assoc one (joined lines) x ∙ ap (λ l. l ++ (joined lines ++ x)) its.fed ∙ append_assoc its.body (10 ∷ []) (joined lines ++ x) in
      let right : flat_map line (m ∷ made) ≡ body_of m ++ 10 ∷ flat_map line made =
      ap (λ l. l ++ flat_map line made) (line_cut m) ∙ append_assoc (body_of m) (10 ∷ []) (flat_map line made) in
      let cut = cut_once 10 its.body (body_of m) (joined lines ++ x) (flat_map line made) its.one
      (body_lacks m (All-head FitsLine m made fits)) (sym left ∙ same ∙ right) in
      let more = first_lines lines made x (All-tail IsFed one lines fed) (All-tail FitsLine m made fits) cut.1 in
      let here : one ≡ line m = its.fed ∙ ap (λ l. l ++ 10 ∷ []) cut.0 ∙ sym (line_cut m) in
      record { fit = omega (arith, more.fit); same = (λ i. here i ++ more.same i) }

-- the first of some runs, and those behind them
module _ (tree : Data) (sweep : Sweep) (first past runs : ℕ) (made later : List Made) (are : AreMadeBetween tree sweep first past made) (fit : first + runs ≤ past)
    (behind : AreMadeBetween tree sweep (first + runs) past later) where
  both_made : AreMadeBetween tree sweep first past (take runs made ++ later)
  both_made =
      let all = drop first (runs_of sweep) in
      let count = past - first in
      let left = past - (first + runs) in
      let sum : runs + left ≡ count = omega (arith, fit) in
      let front : take runs (take count all) ≡ take runs all = take-take runs count all (omega (arith, fit)) in
      let back : drop runs all ≡ drop (first + runs) (runs_of sweep) = drop-drop runs first (runs_of sweep) in
      let whole : take runs all ++ take left (drop (first + runs) (runs_of sweep)) ≡ take count all =
      ap (λ l. take runs all ++ take left l) (sym back) ∙ sym (take-add runs left all) ∙ ap (λ n. take n all) sum in
      subst (λ l. AllZip (IsMadeAs tree) l (take runs made ++ later)) whole
      (zipped_both (IsMadeAs tree) (take runs all) (take left (drop (first + runs) (runs_of sweep))) (take runs made) later
      (subst (λ l. AllZip (IsMadeAs tree) l (take runs made)) front (zipped_first (IsMadeAs tree) (take count all) made runs are)) behind)

module _ (tree : Data) (mark : List ℕ) (sweep : Sweep) (p : Shard) (made : List Made) (text : List ℕ) (cut : IsCutShard tree mark sweep p made text) where
  abbrev columns : ColumnSet
  columns = columns_of tree

  abbrev header : List ℕ
  header = shard_header columns mark sweep p

  abbrev key : List ℕ
  key = sweep_key mark sweep

  abbrev own_key : LineKey
  own_key = key_of_text tree mark sweep

  abbrev first : ℕ
  first = first_run p (run_count sweep)

  abbrev Long : ℕ → ℕ → Type 0
  Long kept runs = IsLong own_key sweep first (runs_in sweep p) header text kept runs

  first_of : (kept runs : ℕ) (long : Long kept runs) → AreFirst columns key long.begins.lines made
  first_of kept runs long =
      let lines = flat_map (λ (one : List ℕ). one) long.begins.lines in
      let table = flat_map (noted_line columns key) made in
      let body : long.rest ++ cut.rest ≡ table =
      append_cancel_left header (long.rest ++ cut.rest) table (sym (append_assoc header long.rest cut.rest) ∙ ap (λ l. l ++ cut.rest) (sym long.written) ∙ cut.written) in
      let start : lines ++ (long.left ++ cut.rest) ≡ table = sym (append_assoc lines long.left cut.rest) ∙ ap (λ l. l ++ cut.rest) (sym long.begins.written) ∙ body in
      first_lines columns key long.begins.lines made (long.left ++ cut.rest) (all_fed own_key sweep first runs long.begins.lines long.begins.are) cut.fits start

  -- the first runs that were made, and those behind them, are the runs of the shard
  both_left : (runs : ℕ) (later : List Made) → first + runs ≤ past_run p (run_count sweep) → AreMadeBehind tree sweep p runs later → AreMadeBehind tree sweep p 0 (take runs made ++ later)
  both_left runs later few are =
      let past = past_run p (run_count sweep) in
      let same : first + runs ≡ first + 0 + runs = omega arith in
      both_made tree sweep (first + 0) past runs made later cut.are (omega (arith, few)) (subst (λ n. AreMadeBetween tree sweep n past later) same are)

  pub going_on : (kept runs : ℕ) (new : Option (List ℕ)) → IsBegun tree mark sweep p text kept runs → WritesRest tree mark sweep p kept runs (Some (take kept text)) new
      → WritesRest tree mark sweep p 0 0 (Some []) new
  going_on kept runs new begun writes = by begun.stands
    where
      made_lines : Made → List ℕ
      made_lines = noted_line columns key

      by : IsShort header text kept runs ⊎ Long kept runs → WritesRest tree mark sweep p 0 0 (Some []) new
      by (inl short) = record {
        made = writes.made;
        are = subst (λ n. AreMadeBehind tree sweep p n writes.made) short.no_run writes.are;
        written = goes_behind header text kept header (short_again header text kept short.rest short.written short.all) new (flat_map made_lines writes.made) writes.written;
      }
      by (inr long) =
          let its = first_of kept runs long in
          let lines = flat_map (λ (one : List ℕ). one) long.begins.lines in
          let count = lines_counted own_key sweep first runs long.begins.lines long.begins.are in
          let before : lines ≡ flat_map made_lines (take runs made) = its.same ∙ ap (λ n. flat_map made_lines (take n made)) count in
          let text_is : (header ++ lines) ++ flat_map made_lines writes.made ≡ header ++ flat_map made_lines (take runs made ++ writes.made) =
          append_assoc header lines (flat_map made_lines writes.made)
          ∙ ap (λ l. header ++ l) (ap (λ l. l ++ flat_map made_lines writes.made) before ∙ sym (flat_map-append made_lines (take runs made) writes.made)) in
          let again = long_again header text kept lines long.left (long.written ∙ ap (λ l. header ++ l) long.begins.written) long.stay in
          record {
            made = take runs made ++ writes.made;
            are = both_left runs writes.made begun.few writes.are;
            written = subst (Appends (Some []) new) text_is (goes_behind header text kept (header ++ lines) again new (flat_map made_lines writes.made) writes.written);
          }

  pub taken_for_one : RefusesBegun tree mark sweep p text begun_fault.Other → ⊥
  taken_for_one apart = on (one_begins_with_other text cut.rest header (flat_map (noted_line columns key) made) cut.written)
    where
      on : ((more : List ℕ) × (text ≡ header ++ more)) ⊎ ((more : List ℕ) × (header ≡ text ++ more)) → ⊥
      on (inl it) = apart.no_more it.0 it.1
      on (inr it) = apart.no_less it.0 it.1
