-- The first line of a text.
use Rattle.std.proofs.Common.{◌≡◌, ◌∙◌, ℕ, List, [], ◌∷◌, ◌++◌, lit<, refl, sym, ap, subst, append_assoc}
use Rattle.std.specs.Prelude.{Option, Some, None}
use Rattle.std.specs.Borrow.{Bor}
use Rattle.std.specs.Option.{MatchOption}
use Rattle.std.proofs.lemmas.Str.Pattern.{IsSplitOnceResult, split_after, split_parts}
use Rattle.sweep_plan.proofs.Words.{cut_once, lacks_each, unlike}
use Rattle.figures.specs.Notes.{Note, IsNoteWord, note_text}
use Rattle.table_rows.specs.Lines.{HasLine, IsBehindSum, Line, IsLine, ReadsLine, shard_line}
use Rattle.figures.proofs.SameNotes.{note_lacks, same_note}

abbrev Parted : Type 0
Parted = Option (Bor (List ℕ) × Bor (List ℕ))

-- a line and what comes behind it
abbrev behind : Line → List ℕ → List ℕ
behind l left = note_text l.note ++ 44 ∷ (l.body ++ 10 ∷ left)

pub laid : (l : Line) (left : List ℕ) → shard_line l ++ left ≡ l.sum ++ 32 ∷ behind l left
laid l left =
    append_assoc l.sum (32 ∷ behind l []) left
    ∙ ap (λ x. l.sum ++ 32 ∷ x)
    (append_assoc (note_text l.note) (44 ∷ (l.body ++ 10 ∷ [])) left ∙ ap (λ x. note_text l.note ++ 44 ∷ x) (append_assoc l.body (10 ∷ []) left))

-- lines with which one text begins are one, and leave the same
pub same_line : (a b : Line) (x y : List ℕ) → IsLine a → IsLine b → shard_line a ++ x ≡ shard_line b ++ y → (a ≡ b) × (x ≡ y)
same_line a b x y sound sound_too same =
    let space = cut_once 32 a.sum b.sum (behind a x) (behind b y) sound.spaceless sound_too.spaceless (sym (laid a x) ∙ same ∙ laid b y) in
    let comma = cut_once 44 (note_text a.note) (note_text b.note) (a.body ++ 10 ∷ x) (b.body ++ 10 ∷ y) (note_lacks 44 (lit< tt) refl a.note sound.small) (note_lacks 44 (lit< tt) refl b.note sound_too.small)
    space.1 in
    let feed = cut_once 10 a.body b.body x y sound.one sound_too.one comma.1 in
    let note = same_note a.note b.note sound.small sound_too.small comma.0 in
    ((λ i. record { sum = space.0 i; note = note i; body = feed.0 i }), feed.1)

-- a text is cut at its first space, or has none
pub sum_behind : (text : List ℕ) (parted : Parted) (sum rest : Bor (List ℕ)) → parted ≡ Some (sum, rest) → IsSplitOnceResult 32 text parted → IsBehindSum text rest.now
sum_behind text parted sum rest is cut =
    let space = rw is at (split_parts 32 text parted cut (lit< tt)) in
    record { sum = sum.now; spaceless = lacks_each 32 sum.now space.1; written = space.0 }

pub no_space : (text : List ℕ) (parted : Parted) → parted ≡ None → IsSplitOnceResult 32 text parted → (rest : List ℕ) → ¬ (IsBehindSum text rest)
no_space text parted is cut rest so = rw is at (split_after 32 text so.sum rest parted cut (lit< tt) so.written (unlike 32 so.sum so.spaceless))

-- behind its first space a text is cut at its first comma, and the rest at its first line feed: the first line
pub line_read : (text noted : List ℕ) (so : IsBehindSum text noted) (parted : Parted) (word rest : Bor (List ℕ)) (cut : Parted) (body left : Bor (List ℕ)) (note : Note) (Gathers : Note → Type 0)
    → parted ≡ Some (word, rest) → IsSplitOnceResult 44 noted parted → cut ≡ Some (body, left) → IsSplitOnceResult 10 rest.now cut → IsNoteWord word.now note
    → Gathers note → ReadsLine text left.now Gathers
line_read text noted so parted word rest cut body left note Gathers first is_first second is_second said gathers =
    let comma = rw first at (split_parts 44 noted parted is_first (lit< tt)) in
    let feed = rw second at (split_parts 10 rest.now cut is_second (lit< tt)) in
    let line : Line = record { sum = so.sum; note = note; body = body.now } in
    record {
      begins = record {
        one = line;
        sound = record { spaceless = so.spaceless; small = said.small; one = lacks_each 10 body.now feed.1 };
        written = so.written
            ∙ ap (λ l. so.sum ++ 32 ∷ l) (comma.0 ∙ ap (λ l. word.now ++ 44 ∷ l) feed.0 ∙ ap (λ w. w ++ 44 ∷ (body.now ++ 10 ∷ left.now)) (sym said.written))
            ∙ sym (laid line left.now);
      };
      gathered = gathers;
    }

-- a text that begins with a line has its comma, its line feed and its note
module _ (text : List ℕ) (line : HasLine text) where
  abbrev one : Line
  one = line.1.one

  pub space_there : ((rest : List ℕ) → ¬ (IsBehindSum text rest)) → ⊥
  space_there none = none (behind one line.0) (record { sum = one.sum; spaceless = line.1.sound.spaceless; written = line.1.written ∙ laid one line.0 })

  noted_is : (noted : List ℕ) → IsBehindSum text noted → noted ≡ behind one line.0
  noted_is noted so = (cut_once 32 so.sum one.sum noted (behind one line.0) so.spaceless line.1.sound.spaceless (sym so.written ∙ line.1.written ∙ laid one line.0)).1

  pub comma_there : (noted : List ℕ) → IsBehindSum text noted → (parted : Parted) → IsSplitOnceResult 44 noted parted → MatchOption parted ⊥ (λ x. (x.0.now ≡ note_text one.note) × (x.1.now ≡ one.body ++ 10 ∷ line.0))
  comma_there noted so parted cut =
      split_after 44 noted (note_text one.note) (one.body ++ 10 ∷ line.0) parted cut (lit< tt) (noted_is noted so)
      (unlike 44 (note_text one.note) (note_lacks 44 (lit< tt) refl one.note line.1.sound.small))

  pub feed_there : (rest : List ℕ) (parted : Parted) → rest ≡ one.body ++ 10 ∷ line.0 → IsSplitOnceResult 10 rest parted → MatchOption parted ⊥ (λ x. (x.0.now ≡ one.body) × (x.1.now ≡ line.0))
  feed_there rest parted same cut = split_after 10 rest one.body line.0 parted cut (lit< tt) same (unlike 10 one.body line.1.sound.one)

  pub note_there : (word : List ℕ) → word ≡ note_text one.note → IsNoteWord word one.note
  note_there word same = record { written = sym same; small = line.1.sound.small }

-- a line that was read, whose note is gathered
pub gathered_so : (text left : List ℕ) (note : Note) → ReadsLine text left (λ n. n ≡ note) → (Gathers : Note → Type 0) → Gathers note → ReadsLine text left Gathers
gathered_so text left note reads Gathers here = record { begins = reads.begins; gathered = subst Gathers (sym reads.gathered) here }
