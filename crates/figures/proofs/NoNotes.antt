-- Words that say no note, and figures that no note has.
use Rattle.std.proofs.Common.{◌≡◌, ◌≢◌, ◌<◌, ◌≤◌, ◌-◌, ◌%◌, ◌^◌, ◌==◌, ℕ, zero, suc, List, [], ◌∷◌, map, length, length-drop, get_or, take, drop, codes, refl, sym, ap, subst, ◌∙◌, arith}
use Rattle.std.specs.Prelude.{Option, Some, None, All}
use Rattle.std.specs.Option.{ForSome}
use Rattle.std.specs.List.{flat_map, slice_split}
use Rattle.std.proofs.lemmas.List.{take_all}
use Rattle.std.proofs.lemmas.List.Elements.{All-head, All-tail}
use Rattle.reports.specs.Text.{figure}
use Rattle.decimals.specs.Numbers.{IsDecimal}
use Rattle.incident_figures.specs.declared.run.RunCounts.{RunCounts}
use Rattle.figures.specs.declared.crashes.CrashTimes.{CrashTimes}
use Rattle.figures.specs.declared.note_words.MetadataFault.{MetadataFault}
use Rattle.figures.specs.declared.note_words.MetadataFault.TheVariants as unread
use Rattle.figures.specs.Notes.{Note, AreFigureWords, AreWordsOf, IsFigureWord, IsWordOf, RefusesCounts, RefusesFigures, RefusesNote, RefusesNoteOf, RefusesTimes, counts_in_order, counts_part, note_figures, times_in_order, times_part}
use Rattle.figures.proofs.NoteParts.{behind_first, parts_joined, parts_of, times_long}
use Rattle.figures.proofs.SameFigures.{figures_cut, same_figures}

-- a word that is no dash and no number says no figure
pub no_figure : (word : List ℕ) → word ≢ codes "-" → ((n : ℕ) → ¬ (IsDecimal word n)) → (f : Option ℕ) → ¬ (IsFigureWord word f)
no_figure word other none None is = other (sym is.written)
no_figure word other none (Some n) is = none n (record { written = is.written; low = is.small n refl })

-- an item that says none is that of no figures
pub no_figures : (text_of : Option ℕ → List ℕ) (items : List (List ℕ)) (k : ℕ) (word : List ℕ) → k < length items → word ≡ get_or items k word → ((f : Option ℕ) → ¬ (IsWordOf text_of word f))
    → (fs : List (Option ℕ)) → ¬ (AreWordsOf text_of items fs)
no_figures text_of items k word inside at none fs are =
    let same = sym are.written in
    let there : k < length (map text_of fs) = subst (λ (l : List (List ℕ)). k < length l) same inside in
    let here : word ≡ get_or (map text_of fs) k word = subst (λ (l : List (List ℕ)). word ≡ get_or l k word) same at in
    said fs k there here are.small
  where
    said : (gs : List (Option ℕ)) (j : ℕ) → j < length (map text_of gs) → word ≡ get_or (map text_of gs) j word → All (λ f. ForSome f (λ m. m < 2 ^ 63)) gs → ⊥
    said [] j inside at small = absurd (omega (arith, inside))
    said (g ∷ gs) zero inside at small = none g (record { written = sym at; small = All-head (λ f. ForSome f (λ m. m < 2 ^ 63)) g gs small })
    said (g ∷ gs) (suc j) inside at small = said gs j (omega (arith, inside)) at (All-tail (λ f. ForSome f (λ m. m < 2 ^ 63)) g gs small)

-- figures that aren't three for each crash
pub no_times : (fs : List (Option ℕ)) → length fs % 3 ≢ 0 → (ts : List CrashTimes) → flat_map times_in_order ts ≢ fs
no_times fs uneven ts is =
    let long = times_long ts in
    let same : length (flat_map times_in_order ts) ≡ length fs = ap length is in
    uneven (omega (arith, long, same))

-- a note has five figures, and then those of its crashes
pub too_few : (fs : List (Option ℕ)) → length fs < 5 → (n : Note) → note_figures n ≢ fs
too_few fs few n is =
    let same : length (note_figures n) ≡ length fs = ap length is in
    omega (arith, same, few)

pub no_note_of : (fs : List (Option ℕ)) (e : MetadataFault) → ((n : Note) → note_figures n ≢ fs) → RefusesNoteOf fs e
no_note_of fs unread.Word none = none
no_note_of fs unread.Memory none = tt

pub first_missing : (fs : List (Option ℕ)) (d : Option ℕ) → get_or fs 0 d ≡ None → (n : Note) → note_figures n ≢ fs
first_missing fs d none n is = let there : get_or fs 0 d ≡ Some n.false_suspect = ap (λ l. get_or l 0 d) (sym is) in cc

pub second_missing : (fs : List (Option ℕ)) (d : Option ℕ) → get_or fs 1 d ≡ None → (n : Note) → note_figures n ≢ fs
second_missing fs d none n is = let there : get_or fs 1 d ≡ Some n.thrown_out = ap (λ l. get_or l 1 d) (sym is) in cc

pub third_missing : (fs : List (Option ℕ)) (d : Option ℕ) → get_or fs 2 d ≡ None → (n : Note) → note_figures n ≢ fs
third_missing fs d none n is = let there : get_or fs 2 d ≡ Some n.revived = ap (λ l. get_or l 2 d) (sym is) in cc

pub fourth_missing : (fs : List (Option ℕ)) (d : Option ℕ) → get_or fs 3 d ≡ None → (n : Note) → note_figures n ≢ fs
fourth_missing fs d none n is = let there : get_or fs 3 d ≡ Some n.sent = ap (λ l. get_or l 3 d) (sym is) in cc

pub fifth_missing : (fs : List (Option ℕ)) (d : Option ℕ) → get_or fs 4 d ≡ None → (n : Note) → note_figures n ≢ fs
fifth_missing fs d none n is = let there : get_or fs 4 d ≡ Some n.member_ticks = ap (λ l. get_or l 4 d) (sym is) in cc

-- what is behind the first five of a note's figures
behind_note : (fs : List (Option ℕ)) (n : Note) → note_figures n ≡ fs → behind_first n.incidents n.crashes ≡ drop 5 fs
behind_note fs n is = ap (drop 5) is

pub counts_refused : (fs rest : List (Option ℕ)) (e : MetadataFault) → rest ≡ drop 5 fs → RefusesCounts rest e → RefusesNoteOf fs e
counts_refused fs rest unread.Memory behind none = tt
counts_refused fs rest unread.Word behind none = λ n is.
    none n.incidents (sym (parts_of n.incidents n.crashes).0 ∙ ap counts_part (behind_note fs n is ∙ sym behind))

pub times_refused : (fs rest times : List (Option ℕ)) (e : MetadataFault) → rest ≡ drop 5 fs → times ≡ times_part rest → RefusesTimes times e → RefusesNoteOf fs e
times_refused fs rest times unread.Memory behind are none = tt
times_refused fs rest times unread.Word behind are none = λ n is.
    none n.crashes (sym (parts_of n.incidents n.crashes).1 ∙ ap times_part (behind_note fs n is ∙ sym behind) ∙ sym are)

pub no_counts_of : (fs : List (Option ℕ)) (e : MetadataFault) → ((counts : Option RunCounts) → counts_in_order counts ≢ counts_part fs) → RefusesCounts fs e
no_counts_of fs unread.Word none = none
no_counts_of fs unread.Memory none = tt

-- five figures that are there, and the two parts behind them
pub note_made : (fs rest times : List (Option ℕ)) (n : Note) → 5 ≤ length fs → (a b c d e : Option ℕ) → get_or fs 0 a ≡ Some n.false_suspect → get_or fs 1 b ≡ Some n.thrown_out
    → get_or fs 2 c ≡ Some n.revived → get_or fs 3 d ≡ Some n.sent → get_or fs 4 e ≡ Some n.member_ticks → rest ≡ drop 5 fs → counts_in_order n.incidents ≡ counts_part rest
    → times ≡ times_part rest → flat_map times_in_order n.crashes ≡ times → note_figures n ≡ fs
note_made fs rest times n many a b c d e claims thrown back sends lasts behind counts are made =
    let later : behind_first n.incidents n.crashes ≡ drop 5 fs = parts_joined rest n.incidents n.crashes counts (made ∙ are) ∙ behind in
    sym (five fs many claims thrown back sends lasts (sym later))
  where
    five : (l : List (Option ℕ)) → 5 ≤ length l → get_or l 0 a ≡ Some n.false_suspect → get_or l 1 b ≡ Some n.thrown_out → get_or l 2 c ≡ Some n.revived → get_or l 3 d ≡ Some n.sent
        → get_or l 4 e ≡ Some n.member_ticks → drop 5 l ≡ behind_first n.incidents n.crashes → l ≡ note_figures n
    five [] many claims thrown back sends lasts later = absurd (omega (arith, many))
    five (p ∷ []) many claims thrown back sends lasts later = absurd (omega (arith, many))
    five (p ∷ q ∷ []) many claims thrown back sends lasts later = absurd (omega (arith, many))
    five (p ∷ q ∷ r ∷ []) many claims thrown back sends lasts later = absurd (omega (arith, many))
    five (p ∷ q ∷ r ∷ s ∷ []) many claims thrown back sends lasts later = absurd (omega (arith, many))
    five (p ∷ q ∷ r ∷ s ∷ t ∷ l) many claims thrown back sends lasts later = (λ i. claims i ∷ thrown i ∷ back i ∷ sends i ∷ lasts i ∷ later i)

-- what is left behind five of a list
pub behind_five : (fs : List (Option ℕ)) → take (length fs - 5) (drop 5 fs) ≡ drop 5 fs
behind_five fs = take_all (length fs - 5) (drop 5 fs) (omega (arith, length-drop 5 fs))

-- a word that says no figures, or those of no note, says no note
pub figures_refused : (word : List ℕ) (e : MetadataFault) → RefusesFigures (slice_split (λ byte. byte == 32) word) e → RefusesNote word e
figures_refused word unread.Memory none = tt
figures_refused word unread.Word none = λ n is.
    none (note_figures n) (record {
      written = sym (figures_cut (note_figures n) (omega arith) is.small) ∙ ap (slice_split (λ byte. byte == 32)) is.written;
      small = is.small;
    })

pub note_refused : (word : List ℕ) (fs given : List (Option ℕ)) (e : MetadataFault) → AreFigureWords (slice_split (λ byte. byte == 32) word) fs → given ≡ fs → RefusesNoteOf given e → RefusesNote word e
note_refused word fs given unread.Memory are same none = tt
note_refused word fs given unread.Word are same none = λ n is.
    let cut : map figure (note_figures n) ≡ map figure fs =
    sym (figures_cut (note_figures n) (omega arith) is.small) ∙ ap (slice_split (λ byte. byte == 32)) is.written ∙ sym are.written in
    none n (same_figures (note_figures n) fs is.small are.small cut ∙ sym same)
