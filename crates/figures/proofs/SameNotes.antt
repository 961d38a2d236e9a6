-- The words of notes: which bytes they don't have, and that notes of one word are one.
use Rattle.std.proofs.Common.{◌≡◌, ◌<◌, ◌^◌, ◌==◌, ◌∙◌, ℕ, suc, false, List, [], ◌∷◌, map, length, drop, decimal, lit<, arith, refl, sym, ap}
use Rattle.std.specs.Prelude.{Option, Some, None, All}
use Rattle.std.specs.Option.{ForSome}
use Rattle.std.specs.List.{flat_map, join_with_byte, slice_split}
use Rattle.std.specs.Str.{IsAscii}
use Rattle.std.proofs.lemmas.Bool.Decides.{nat_tests}
use Rattle.std.proofs.lemmas.Fmt.{IsAscii-decimal}
use Rattle.std.proofs.lemmas.List.Elements.{All-append, All-cons, All-head, All-map, All-nil, All-tail, All-weaker}
use Rattle.std.proofs.lemmas.Str.Ascii.{All-from_ascii, IsAscii-from_all}
use Rattle.reports.specs.Text.{figure}
use Rattle.sweep_plan.proofs.Words.{Lacks, decimal_lacks}
use Rattle.figures.specs.declared.crashes.CrashTimes.{CrashTimes}
use Rattle.figures.specs.Notes.{Note, IsSmall, counts_part, note_figures, note_text, times_in_order, times_part}
use Rattle.figures.proofs.NoteParts.{behind_first, parts_of, same_counts}
use Rattle.figures.proofs.SameFigures.{Small, figures_cut, low64, same_figures}

-- ---- bytes that lists have, and don't

pub all_joined : (P : ℕ → Type 0) (byte : ℕ) (parts : List (List ℕ)) → P byte → All (All P) parts → All P (join_with_byte byte parts)
all_joined P byte [] here all = All-nil P
all_joined P byte (part ∷ []) here all = All-head (All P) part [] all
all_joined P byte (part ∷ next ∷ parts) here all =
    All-append P part (byte ∷ join_with_byte byte (next ∷ parts)) (All-head (All P) part (next ∷ parts) all)
    (All-cons P byte (join_with_byte byte (next ∷ parts)) here (all_joined P byte (next ∷ parts) here (All-tail (All P) part (next ∷ parts) all)))

-- the byte is neither a space nor a dash nor a digit, all of which are greater than it or the space
figure_lacks : (c : ℕ) → c < 45 → (f : Option ℕ) → ForSome f (λ n. n < 2 ^ 63) → Lacks c (figure f)
figure_lacks c low (Some n) small = let fits : n < 2 ^ 63 = small n refl in decimal_lacks n c (omega (arith, fits)) (omega (arith, low))
figure_lacks c low None small = All-cons (λ y. (y == c) ≡ false) 45 [] (grind (arith, nat_tests, low)) (All-nil (λ y. (y == c) ≡ false))

pub note_lacks : (c : ℕ) → c < 45 → (32 == c) ≡ false → (n : Note) → IsSmall n → Lacks c (note_text n)
note_lacks c low spaceless n small =
    all_joined (λ y. (y == c) ≡ false) 32 (map figure (note_figures n)) spaceless
    (All-map (Lacks c) figure (note_figures n) (All-weaker (λ f. ForSome f (λ m. m < 2 ^ 63)) (λ f. Lacks c (figure f)) (figure_lacks c low) (note_figures n) small))

figure_ascii : (f : Option ℕ) → Small f → All (λ b. b < 128) (figure f)
figure_ascii (Some n) small = All-from_ascii (decimal n) (IsAscii-decimal n (low64 n (small n refl)))
figure_ascii None small = All-cons (λ b. b < 128) 45 [] (lit< tt) (All-nil (λ b. b < 128))

pub note_ascii : (n : Note) → IsSmall n → IsAscii (note_text n)
note_ascii n small =
    IsAscii-from_all (note_text n)
    (all_joined (λ b. b < 128) 32 (map figure (note_figures n)) (lit< tt)
    (All-map (All (λ b. b < 128)) figure (note_figures n) (All-weaker Small (λ f. All (λ b. b < 128) (figure f)) figure_ascii (note_figures n) small)))

-- ---- notes of one word

same_times : (ts us : List CrashTimes) → flat_map times_in_order ts ≡ flat_map times_in_order us → ts ≡ us
same_times [] [] same = refl
same_times [] (u ∷ us) same = let none : 0 ≡ suc (suc (suc (length (flat_map times_in_order us)))) = ap length same in absurd (omega arith)
same_times (t ∷ ts) [] same = let none : suc (suc (suc (length (flat_map times_in_order ts)))) ≡ 0 = ap length same in absurd (omega arith)
same_times (t ∷ ts) (u ∷ us) same =
    let first : t.suspected ≡ u.suspected = cc in
    let second : t.confirmed ≡ u.confirmed = cc in
    let third : t.last ≡ u.last = cc in
    let rest : flat_map times_in_order ts ≡ flat_map times_in_order us = cc in
    let more = same_times ts us rest in
    (λ i. record { suspected = first i; confirmed = second i; last = third i } ∷ more i)

pub same_note : (m n : Note) → IsSmall m → IsSmall n → note_text m ≡ note_text n → m ≡ n
same_note m n low high same =
    let parts : map figure (note_figures m) ≡ map figure (note_figures n) =
    sym (figures_cut (note_figures m) (omega arith) low) ∙ ap (slice_split (λ byte. byte == 32)) same ∙ figures_cut (note_figures n) (omega arith) high in
    told (same_figures (note_figures m) (note_figures n) low high parts)
  where
    told : note_figures m ≡ note_figures n → m ≡ n
    told same =
        let first : m.false_suspect ≡ n.false_suspect = cc in
        let second : m.thrown_out ≡ n.thrown_out = cc in
        let third : m.revived ≡ n.revived = cc in
        let fourth : m.sent ≡ n.sent = cc in
        let fifth : m.member_ticks ≡ n.member_ticks = cc in
        let rest : behind_first m.incidents m.crashes ≡ behind_first n.incidents n.crashes = ap (drop 5) same in
        let mine = parts_of m.incidents m.crashes in
        let others = parts_of n.incidents n.crashes in
        let counts = same_counts m.incidents n.incidents (sym mine.0 ∙ ap counts_part rest ∙ others.0) in
        let more = same_times m.crashes n.crashes (sym mine.1 ∙ ap times_part rest ∙ others.1) in
        (λ i. record { crashes = more i; false_suspect = first i; thrown_out = second i; revived = third i; sent = fourth i; member_ticks = fifth i; incidents = counts i })
