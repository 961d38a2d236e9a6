-- Figures of one text are the same.
use Rattle.std.proofs.Common.{◌≡◌, ◌<◌, ◌^◌, ◌==◌, ℕ, suc, List, [], ◌∷◌, map, length, get_or, false, decimal, lit<, arith, refl, sym, ap}
use Rattle.std.specs.Prelude.{Option, Some, None, All}
use Rattle.std.specs.Option.{ForSome}
use Rattle.std.specs.List.{slice_split, join_with_byte}
use Rattle.std.proofs.lemmas.Fmt.{decimal_injective, decimal_is_IsNumeral}
use Rattle.std.proofs.lemmas.Str.Parse.{digit_at}
use Rattle.std.proofs.lemmas.List.Elements.{All-cons, All-head, All-map, All-nil, All-tail, All-weaker}
use Rattle.reports.specs.Text.{figure}
use Rattle.sweep_plan.proofs.Words.{Lacks, decimal_lacks, joined_split}

abbrev pub Small : Option ℕ → Type 0
Small f = ForSome f (λ n. n < 2 ^ 63)

pub low64 : (n : ℕ) → n < 2 ^ 63 → n < 2 ^ 64
low64 n low = omega (arith, low)

no_digit : (n : ℕ) → n < 2 ^ 63 → decimal n ≡ 45 ∷ [] → ⊥
no_digit n low same =
    let digits = decimal_is_IsNumeral n (omega (arith, low)) in
    let digit = digit_at (decimal n) 0 digits.0.1 digits.0.0 in
    let first : get_or (decimal n) 0 0 ≡ 45 = ap (λ bytes. get_or bytes 0 0) same in
    omega (arith, digit.0, first)

same_figure : (f g : Option ℕ) → Small f → Small g → figure f ≡ figure g → f ≡ g
same_figure (Some m) (Some n) low high same = ap Some (decimal_injective m n (low64 m (low m refl)) (low64 n (high n refl)) same)
same_figure (Some m) None low high same = absurd (no_digit m (low m refl) same)
same_figure None (Some n) low high same = absurd (no_digit n (high n refl) (sym same))
same_figure None None low high same = refl

pub same_figures : (fs gs : List (Option ℕ)) → All Small fs → All Small gs → map figure fs ≡ map figure gs → fs ≡ gs
same_figures [] [] low high same = refl
same_figures [] (g ∷ gs) low high same = let none : 0 ≡ suc (length (map figure gs)) = ap length same in absurd (omega arith)
same_figures (f ∷ fs) [] low high same = let none : suc (length (map figure fs)) ≡ 0 = ap length same in absurd (omega arith)
same_figures (f ∷ fs) (g ∷ gs) low high same =
    let first : figure f ≡ figure g = cc in
    let rest : map figure fs ≡ map figure gs = cc in
    let one = same_figure f g (All-head Small f fs low) (All-head Small g gs high) first in
    let more = same_figures fs gs (All-tail Small f fs low) (All-tail Small g gs high) rest in
    (λ i. one i ∷ more i)

figure_lacks_space : (f : Option ℕ) → Small f → Lacks 32 (figure f)
figure_lacks_space (Some n) small = decimal_lacks n 32 (low64 n (small n refl)) (lit< tt)
figure_lacks_space None small = All-cons (λ y. (y == 32) ≡ false) 45 [] refl (All-nil (λ y. (y == 32) ≡ false))

-- figures with spaces between them are cut there again
pub figures_cut : (fs : List (Option ℕ)) → 0 < length fs → All Small fs → slice_split (λ byte. byte == 32) (join_with_byte 32 (map figure fs)) ≡ map figure fs
figures_cut [] some small = absurd (omega (arith, some))
figures_cut (f ∷ fs) some small =
    joined_split 32 (map figure (f ∷ fs)) (omega arith) (All-map (Lacks 32) figure (f ∷ fs) (All-weaker Small (λ g. Lacks 32 (figure g)) figure_lacks_space (f ∷ fs) small))
