-- Times counted one by one in their bins.
use Rattle.std.proofs.Common.{◌≡◌, ◌+◌, ◌/◌, ◌<◌, ◌≤◌, ◌==◌, ℕ, Bool, true, false, List, [], ◌∷◌, length, get_or, set, replicate, take, max, refl, sym, ap, ◌∙◌, arith, eq-eqb, eqb-true}
use Rattle.std.specs.Prelude.{All, slice_index, slice_set}
use Rattle.std.specs.List.{fold, reduce}
use Rattle.std.specs.Option.{unwrap_or}
use Rattle.std.proofs.Math.Nat.{div-lt_iff_lt-mul}
use Rattle.std.proofs.lemmas.Bool.{false≢true}
use Rattle.std.proofs.lemmas.List.{get_or-set_same, get_or-set_other, length-set}
use Rattle.std.proofs.lemmas.List.Elements.{All-nil, All-cons, All-weaker}
use Rattle.std.proofs.lemmas.List.FromFn.{fill_by_all, get_or-map-range_with_len, length-map-range_with_len}
use Rattle.std.proofs.lemmas.List.Sums.{count_by_more_yes, count_by_more_no, count_by-le-length}
use Rattle.figures.specs.Histograms.{bin_width, in_bin, bins_of}

-- ---- the width

-- the greatest is above all
all_below : (first : ℕ) (rest : List ℕ) → (first ≤ fold max first rest) × All (λ time. time ≤ fold max first rest) rest
all_below first [] = (omega arith, All-nil (λ time. time ≤ first))
all_below first (next ∷ rest) =
    let later = all_below (max first next) rest in
    let top : ℕ = fold max (max first next) rest in
    (omega (arith, later.0), All-cons (λ time. time ≤ top) next rest (omega (arith, later.0)) later.1)

none_above : (times : List ℕ) → All (λ time. time ≤ unwrap_or (reduce max times) 0) times
none_above [] = All-nil (λ time. time ≤ 0)
none_above (first ∷ rest) =
    let those = all_below first rest in
    All-cons (λ time. time ≤ fold max first rest) first rest those.0 those.1

falls_within : (greatest width time : ℕ) → width ≡ greatest / 20 + 1 → time ≤ greatest → time / width < 20
falls_within greatest width time is low = (div-lt_iff_lt-mul {k = width} (omega (arith, is))).1 (omega (arith, is, low))

-- each time falls into a bin
pub all_within : (times : List ℕ) (width : ℕ) → width ≡ bin_width times → All (λ time. time / width < 20) times
all_within times width is =
    All-weaker (λ time. time ≤ unwrap_or (reduce max times) 0) (λ time. time / width < 20) (λ time low. falls_within (unwrap_or (reduce max times) 0) width time is low) times (none_above times)

-- ---- the bins

-- how many fall into a bin
bin_at : (times : List ℕ) (width bin : ℕ) → bin < 20 → get_or (bins_of width times) bin 0 ≡ in_bin width times bin
unfolding bins_of
bin_at times width bin low = get_or-map-range_with_len (in_bin width times) 0 20 bin bin 0 low (omega arith)

all_bins : (times : List ℕ) (width : ℕ) → length (bins_of width times) ≡ 20
unfolding bins_of
all_bins times width = length-map-range_with_len (in_bin width times) 0 20

-- as many as a list has at each place
are_bins : (times : List ℕ) (width : ℕ) (bins : List ℕ) → length bins ≡ 20 → ((bin : ℕ) → bin < 20 → get_or bins bin 0 ≡ in_bin width times bin) → bins ≡ bins_of width times
unfolding bins_of
are_bins times width bins long each = fill_by_all (in_bin width times) bins 20 0 long each

-- no times
pub none_yet : (width : ℕ) → replicate 20 0 ≡ bins_of width []
unfolding bins_of
none_yet width = refl

module _ (times : List ℕ) (width i d : ℕ) (lt : i < length times) (bins : List ℕ) (so_far : bins ≡ bins_of width (take i times)) (at : ℕ) (place : at ≡ get_or times i d / width) (within : at < 20) where
  abbrev falls : ℕ → ℕ → Bool
  falls bin time = time / width == bin

  counted_so : (bin : ℕ) → bin < 20 → get_or bins bin 0 ≡ in_bin width (take i times) bin
  counted_so bin low = ap (λ l. get_or l bin 0) so_far ∙ bin_at (take i times) width bin low

  long : length bins ≡ 20
  long = ap length so_far ∙ all_bins (take i times) width

  each : (bin : ℕ) → bin < 20 → (b : Bool) → (at == bin) ≡ b → get_or (set bins at (get_or bins at 0 + 1)) bin 0 ≡ in_bin width (take (i + 1) times) bin
  each bin low true held =
      let same : at ≡ bin = eqb-true at bin held in
      let here : get_or (set bins at (get_or bins at 0 + 1)) at 0 ≡ in_bin width (take (i + 1) times) at =
      get_or-set_same bins at (get_or bins at 0 + 1) 0 (omega (arith, within, long)) ∙ ap (λ n. n + 1) (counted_so at within)
      ∙ sym (count_by_more_yes (falls at) times i d lt (eq-eqb (get_or times i d / width) at (sym place))) in
      ap (λ b. get_or (set bins at (get_or bins at 0 + 1)) b 0) (sym same) ∙ here ∙ ap (in_bin width (take (i + 1) times)) same
  each bin low false other =
      get_or-set_other bins at bin (get_or bins at 0 + 1) 0 (λ same. false≢true (sym other ∙ eq-eqb at bin (sym same)))
      ∙ counted_so bin low
      ∙ sym (count_by_more_no (falls bin) times i d lt (ap (λ p. p == bin) (sym place) ∙ other))

  -- one time more
  pub one_more : slice_set bins at (slice_index bins at + 1) ≡ bins_of width (take (i + 1) times)
  one_more = are_bins (take (i + 1) times) width (set bins at (get_or bins at 0 + 1)) (length-set bins at (get_or bins at 0 + 1) ∙ long) (λ bin low. each bin low (at == bin) refl)

  -- no bin has more than the times so far
  pub few : slice_index bins at ≤ length (take i times)
  few = omega (arith, counted_so at within, count_by-le-length (falls at) (take i times))
