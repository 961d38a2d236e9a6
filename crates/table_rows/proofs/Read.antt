-- Lines and settings that are read until their text ends.
use Rattle.std.proofs.Common.{◌≡◌, ◌∙◌, ◌+◌, ℕ, List, [], ◌∷◌, ◌++◌, length, sym, ap, subst, append_assoc, append-nil}
use Rattle.std.specs.List.{AllZip}
use Rattle.std.proofs.lemmas.List.{map-append}
use Rattle.figures.specs.Notes.{Note}
use Rattle.figures.specs.declared.summary.SettingSummary.{SettingSummary}
use Rattle.table_rows.specs.Lines.{Line, IsLine, ReadsLine, ReadsLines, notes_of, shard_line}
use Rattle.table_rows.specs.Settings.{IsSetting, ReadsSettings, SumsUpSetting, SumsUpLines, shard_setting}
use Rattle.table_rows.proofs.Items.{Reads, all_read, none_read, one_more}

pub zipped_both : {X Y : Type 0} (R : X → Y → Type 0) (xs zs : List X) (ys ws : List Y) → AllZip R xs ys → AllZip R zs ws → AllZip R (xs ++ zs) (ys ++ ws)
zipped_both R [] zs [] ws a b = b
zipped_both R [] zs (y ∷ ys) ws a b = absurd a
zipped_both R (x ∷ xs) zs [] ws a b = absurd a
zipped_both R (x ∷ xs) zs (y ∷ ys) ws a b = (a.0, zipped_both R xs zs ys ws a.1 b)

-- ---- lines, whose notes are gathered

-- what is kept of notes, and of more behind them
abbrev pub Gathers : (ℕ → List Note → Type 0) → (ℕ → List Note → Type 0) → List Note → Type 0
Gathers Had Has more = (each : ℕ) (notes : List Note) → Had each notes → Has each (notes ++ more)

abbrev pub ReadsSome : (ℕ → List Note → Type 0) → (ℕ → List Note → Type 0) → List ℕ → List ℕ → ℕ → Type 0
ReadsSome Had Has text left count = Reads IsLine shard_line (λ lines. Gathers Had Has (notes_of lines)) text left count

pub no_lines : (Had : ℕ → List Note → Type 0) (text : List ℕ) → ReadsSome Had Had text text 0
no_lines Had text = none_read IsLine shard_line (λ lines. Gathers Had Had (notes_of lines)) text (λ each notes had. subst (Had each) (sym (append-nil notes)) had)

pub lines_more : (Had Between Has : ℕ → List Note → Type 0) (text left next : List ℕ) (count : ℕ) → ReadsSome Had Between text left count
    → ReadsLine left next (λ note. Gathers Between Has (note ∷ [])) → ReadsSome Had Has text next (count + 1)
lines_more Had Between Has text left next count so one =
    let line = one.begins.one in
    one_more IsLine shard_line (λ ls. Gathers Had Between (notes_of ls)) (λ ls. Gathers Had Has (notes_of ls)) text left next count so one.begins
    (λ each notes had.
    subst (Has each) (append_assoc notes (notes_of so.items) (line.note ∷ []) ∙ ap (λ l. notes ++ l) (sym (map-append (λ (l : Line). l.note) so.items (line ∷ []))))
    (one.gathered each (notes ++ notes_of so.items) (so.holds each notes had)))

pub lines_read : (Had Has : ℕ → List Note → Type 0) (text left : List ℕ) (at count : ℕ) → at ≡ count → length left ≡ 0 → ReadsSome Had Has text left at → ReadsLines text count (Gathers Had Has)
lines_read Had Has text left at count counted none so =
    let all = all_read IsLine shard_line (λ ls. Gathers Had Has (notes_of ls)) text left at count counted none so in
    record { are = all.0; gathered = all.1 }

-- ---- settings, which are summed up

-- the summaries of settings come behind others
pub record AreSummedUp (before after : List SettingSummary) (own : List (List Line)) : Type 0 where
  pub summaries : List SettingSummary
  pub summed : AllZip SumsUpLines own summaries
  pub added : after ≡ before ++ summaries

module _ (width each : ℕ) where
  abbrev pub SumsUpSome : List ℕ → List ℕ → List SettingSummary → List SettingSummary → ℕ → Type 0
  SumsUpSome text left before after count = Reads (IsSetting width each) shard_setting (AreSummedUp before after) text left count

  pub no_settings : (text : List ℕ) (settings : List SettingSummary) → SumsUpSome text text settings settings 0
  no_settings text settings = none_read (IsSetting width each) shard_setting (AreSummedUp settings settings) text (record { summaries = []; summed = tt; added = sym (append-nil settings) })

  pub settings_more : (text left next : List ℕ) (before between after : List SettingSummary) (count : ℕ) → SumsUpSome text left before between count
      → SumsUpSetting width each left next between after → SumsUpSome text next before after (count + 1)
  settings_more text left next before between after count so one =
      one_more (IsSetting width each) shard_setting (AreSummedUp before between) (AreSummedUp before after) text left next count so one.begins
      (record {
        summaries = so.holds.summaries ++ one.summary ∷ [];
        summed = zipped_both SumsUpLines so.items (one.begins.one ∷ []) so.holds.summaries (one.summary ∷ []) so.holds.summed (one.summed, tt);
        added = one.added ∙ ap (λ l. l ++ one.summary ∷ []) so.holds.added ∙ append_assoc before so.holds.summaries (one.summary ∷ []);
      })

  pub settings_read : (text left : List ℕ) (before after : List SettingSummary) (at count : ℕ) → at ≡ count → length left ≡ 0 → SumsUpSome text left before after at
      → ReadsSettings width each text count before after
  settings_read text left before after at count counted none so =
      let all = all_read (IsSetting width each) shard_setting (AreSummedUp before after) text left at count counted none so in
      record { are = all.0; summaries = all.1.summaries; summed = all.1.summed; added = all.1.added }
