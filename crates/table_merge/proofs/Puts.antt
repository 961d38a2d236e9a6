-- Lines that are put with other checksums, one after the other.
use Rattle.std.proofs.Common.{◌≡◌, ◌==◌, ◌∙◌, ◌<◌, ◌≤◌, ◌+◌, ◌-◌, ℕ, false, List, [], ◌∷◌, ◌++◌, length, length-append, get_or, map, take, take_at, refl, sym, ap, subst, arith, append_assoc, append-nil}
use Rattle.std.specs.Prelude.{All, Option}
use Rattle.std.specs.List.{AllZip, flat_map, range_with_len}
use Rattle.std.specs.Io.KnownBytes.{Appends}
use Rattle.std.proofs.lemmas.List.{map-append, take_more}
use Rattle.std.proofs.lemmas.List.Concat.{flat_map-append}
use Rattle.std.proofs.lemmas.List.Elements.{All-append, All-cons, All-head, All-nil, All-tail}
use Rattle.trace.proofs.Beginnings.{Appends-none, Appends-then, Keeps-same}
use Rattle.line_sums.specs.Sums.{IsCut, summed}
use Rattle.line_sums.proofs.Cuts.{not_cut}
use Rattle.figures.specs.declared.summary.SettingSummary.{SettingSummary}
use Rattle.sweep.specs.Summaries.{IsGathered, summaries_in}
use Rattle.sweep.specs.declared.gathering.Gathering.{Gathering}
use Rattle.sweep_plan.proofs.Words.{cut_once}
use Rattle.table_rows.specs.Items.{BeginsWith}
use Rattle.table_rows.specs.Lines.{IsLine, Line, notes_of, shard_line}
use Rattle.table_rows.proofs.OneLine.{same_line}
use Rattle.table_rows.proofs.Read.{zipped_both}
use Rattle.shard_merge.specs.Behind.{GathersMore}
use Rattle.sweep.proofs.Numbers.{range_more}
use Rattle.table_merge.specs.Seeds.{Ranged, in_turn, of_setting}
use Rattle.table_merge.specs.Tables.{PutsAll, starts_in}
use Rattle.table_merge.specs.declared.lines.Table.{Table}
use Rattle.table_merge.specs.Lines.{BeginsWithIt, PutsLines, behind_sum, resummed}

-- ---- one after the other

pub none_put : (key : List ℕ) (g : Gathering) (held : Option (List ℕ)) → PutsLines key [] g g held held
none_put key g held = record {
  lines = [];
  sound = All-nil IsLine;
  begin = tt;
  written = Appends-none held held (Keeps-same held);
  gathered = λ each notes had. subst (λ l. IsGathered each l g) (sym (append-nil notes)) had;
}

pub both_put : (key : List ℕ) (xs ys : List (List ℕ)) (g between h : Gathering) (old mid new : Option (List ℕ)) → PutsLines key xs g between old mid → PutsLines key ys between h mid new
    → PutsLines key (xs ++ ys) g h old new
both_put key xs ys g between h old mid new a b =
    let texts : map (resummed key) (a.lines ++ b.lines) ≡ map (resummed key) a.lines ++ map (resummed key) b.lines = map-append (resummed key) a.lines b.lines in
    record {
      lines = a.lines ++ b.lines;
      sound = All-append IsLine a.lines b.lines a.sound b.sound;
      begin = zipped_both BeginsWithIt xs ys a.lines b.lines a.begin b.begin;
      written = subst (Appends old new) (sym (flat_map-append shard_line (map (resummed key) a.lines) (map (resummed key) b.lines)) ∙ ap (flat_map shard_line) (sym texts))
          (Appends-then old mid new _ _ a.written b.written);
      gathered = λ each notes had.
          subst (λ l. IsGathered each l h) (append_assoc notes (notes_of a.lines) (notes_of b.lines) ∙ ap (λ l. notes ++ l) (sym (map-append (λ (l : Line). l.note) a.lines b.lines)))
          (b.gathered each (notes ++ notes_of a.lines) (a.gathered each notes had));
    }

-- nothing more is put, and the table stays
pub still_put : (key : List ℕ) (xs ys : List (List ℕ)) (g h : Gathering) (old new : Option (List ℕ)) → xs ≡ ys → PutsLines key xs g h old new → PutsLines key ys g h old new
still_put key xs ys g h old new is put = subst (λ l. PutsLines key l g h old new) is put

-- ---- one line

-- lines with which the same texts begin are the same
pub same_starts : (starts : List (List ℕ)) (xs ys : List Line) → AllZip BeginsWithIt starts xs → AllZip BeginsWithIt starts ys → All IsLine xs → All IsLine ys → xs ≡ ys
same_starts [] [] [] a b sound also = refl
same_starts [] [] (y ∷ ys) a b sound also = absurd b
same_starts [] (x ∷ xs) ys a b sound also = absurd a
same_starts (s ∷ ss) [] ys a b sound also = absurd a
same_starts (s ∷ ss) (x ∷ xs) [] a b sound also = absurd b
same_starts (s ∷ ss) (x ∷ xs) (y ∷ ys) a b sound also =
    let one = same_line x y a.0.0 b.0.0 (All-head IsLine x xs sound) (All-head IsLine y ys also) (sym a.0.1 ∙ b.0.1) in
    let more = same_starts ss xs ys a.1 b.1 (All-tail IsLine x xs sound) (All-tail IsLine y ys also) in
    (λ i. one.0 i ∷ more i)

-- what stands before what is left is the line
pub line_before : (text left : List ℕ) (l : Line) → text ≡ shard_line l ++ left → take (length text - length left) text ≡ shard_line l
line_before text left l is =
    let long : length text ≡ length (shard_line l) + length left = ap length is ∙ length-append (shard_line l) left in
    ap (take (length text - length left)) is ∙ take_at (shard_line l) left (length text - length left) (omega (arith, long))

pub left_short : (text left : List ℕ) (l : Line) → text ≡ shard_line l ++ left → length left ≤ length text
left_short text left l is = omega (arith, ap length is, length-append (shard_line l) left)

-- and what stands behind its checksum is what else it has
pub behind_cut : (line front back : List ℕ) (l : Line) → IsLine l → line ≡ shard_line l → IsCut 32 line front back → back ≡ behind_sum l
behind_cut line front back l sound is cut = (cut_once 32 front l.sum back (behind_sum l) cut.lacks sound.spaceless (sym cut.written ∙ is)).1

pub line_put : (key start left : List ℕ) (g h : Gathering) (old new : Option (List ℕ)) (l : Line) → IsLine l → start ≡ shard_line l ++ left → GathersMore g h (l.note ∷ [])
    → Appends old new (shard_line (resummed key l)) → PutsLines key (start ∷ []) g h old new
line_put key start left g h old new l sound is gathers put = record {
  lines = l ∷ [];
  sound = All-cons IsLine l [] sound (All-nil IsLine);
  begin = ((left, is), tt);
  written = subst (Appends old new) (sym (append-nil (shard_line (resummed key l)))) put;
  gathered = gathers;
}

-- a line has a space before what else it has
pub must_cut : (line : List ℕ) → (l : Line) × IsLine l × (line ≡ shard_line l) → All (λ x. (x == 32) ≡ false) line → ⊥
must_cut line its lacks = not_cut 32 line its.0.sum (behind_sum its.0) lacks its.2

pub resummed_line : (key line front back : List ℕ) (l : Line) → IsLine l → line ≡ shard_line l → IsCut 32 line front back → summed key back ≡ shard_line (resummed key l)
resummed_line key line front back l sound is cut = ap (summed key) (behind_cut line front back l sound is cut)

-- what a line that was read, and put, comes to
module _ (start left : List ℕ) (read : BeginsWith IsLine shard_line start left) where
  pub line_there : (line : List ℕ) → line ≡ take (length start - length left) start → (l : Line) × IsLine l × (line ≡ shard_line l)
  line_there line is = (read.one, read.sound, is ∙ line_before start left read.one read.written)

  pub line_read_put : (key : List ℕ) (g h : Gathering) (old new : Option (List ℕ)) (line : List ℕ) → line ≡ take (length start - length left) start → GathersMore g h (read.one.note ∷ [])
      → ((l : Line) → IsLine l → line ≡ shard_line l → Appends old new (shard_line (resummed key l))) → PutsLines key (start ∷ []) g h old new
  line_read_put key g h old new line is gathers put =
      line_put key start left g h old new read.one read.sound read.written gathers (put read.one read.sound (is ∙ line_before start left read.one read.written))

-- ---- one table more, and one setting

pub tables_more : (number : ℕ) (tables : List Table) (i : ℕ) (t : Table) (starts : List (List ℕ)) → t ≡ get_or tables i t → i < length tables → starts ≡ of_setting number (starts_in t)
    → flat_map (of_setting number) (map starts_in (take i tables)) ++ starts ≡ flat_map (of_setting number) (map starts_in (take (i + 1) tables))
tables_more number tables i t starts here within is =
    let f : Ranged (List ℕ) → List (List ℕ) = of_setting number in
    let list : take (i + 1) tables ≡ take i tables ++ t ∷ [] = take_more tables i t within ∙ ap (λ (x : Table). take i tables ++ x ∷ []) (sym here) in
    ap (λ l. flat_map f (map starts_in (take i tables)) ++ l) (is ∙ sym (append-nil (f (starts_in t))))
    ∙ sym (flat_map-append f (map starts_in (take i tables)) (starts_in t ∷ [])) ∙ ap (flat_map f) (sym (map-append starts_in (take i tables) (t ∷ [])))
    ∙ ap (λ l. flat_map f (map starts_in l)) (sym list)

pub settings_more : (number : ℕ) (tables : List (Ranged (List ℕ))) → in_turn number tables ++ flat_map (of_setting number) tables ≡ in_turn (number + 1) tables
settings_more number tables =
    let f : ℕ → List (List ℕ) = λ k. flat_map (of_setting k) tables in
    let at : 0 + number ≡ number = omega arith in
    ap (λ l. in_turn number tables ++ l) (ap f (sym at) ∙ sym (append-nil (f (0 + number))))
    ∙ sym (flat_map-append f (range_with_len 0 number) ((0 + number) ∷ [])) ∙ ap (flat_map f) (sym (range_more 0 number))

-- ---- all settings

pub puts_all : (key k : List ℕ) (settings n each m : ℕ) (starts : List (Ranged (List ℕ))) (g h : Gathering) (old new : Option (List ℕ)) (summaries : List SettingSummary) → key ≡ k → settings ≡ n
    → each ≡ m → PutsLines key (in_turn settings starts) g h old new → IsGathered each [] g → summaries ≡ summaries_in h → PutsAll k (in_turn n starts) m old new summaries
puts_all key k settings n each m starts g h old new summaries same_key same_settings same_each put none is_summed =
    let own = subst (λ q. PutsLines q (in_turn n starts) g h old new) same_key (subst (λ q. PutsLines key (in_turn q starts) g h old new) same_settings put) in
    record {
      lines = own.lines;
      sound = own.sound;
      begin = own.begin;
      written = own.written;
      gathering = h;
      gathered = own.gathered m [] (subst (λ q. IsGathered q [] g) same_each none);
      summed = is_summed;
    }
