-- Peers to which messages are sent, or which are heard, one after the other.
use Rattle.std.proofs.Common.{◌≡◌, ◌≢◌, ℕ, ◌+◌, ◌<◌, ◌≤◌, List, [], ◌∷◌, ◌++◌, map, length, get_or, take, drop, slice_set, ap, ◌∙◌, sym, subst, refl}
use Rattle.std.specs.List.{AllByRecursion, slice_get}
use Rattle.std.proofs.Math.ListN.{drop_of_length-le}
use Rattle.std.proofs.Math.Seq.{map-set_same, take-append_seam}
use Rattle.std.proofs.lemmas.List.{length-map, drop-map, drop_more, take-append-drop}
use Rattle.base.specs.Rising.{IsRising}
use Rattle.base.proofs.Rising.{all_back}
use Rattle.lookahead_windows.proofs.Bounded.{rising_last}

-- ---- the numbers of the peers

module _ {A : Type 0} (f : A → ℕ) where
  -- one that keeps its number leaves the numbers as they were
  pub numbers_stay : (now : List A) (numbers : List ℕ) (i : ℕ) (d y : A) → map f now ≡ numbers → f y ≡ f (get_or now i d) → map f (slice_set now i y) ≡ numbers
  numbers_stay now numbers i d y so_far same = map-set_same f now i y d same ∙ so_far

  -- also where the walk is left
  pub numbers_back : (old now : List A) (count : ℕ) → count ≡ length old → map f now ≡ map f old → map f (take count (now ++ drop (length now) old)) ≡ map f old
  numbers_back old now count many same =
      let as_many : count ≡ length now = many ∙ sym (length-map old f) ∙ ap length (sym same) ∙ length-map now f in
      ap (λ n. map f (take n (now ++ drop (length now) old))) as_many ∙ ap (map f) (take-append_seam now (drop (length now) old)) ∙ same

  -- the number of the next one is the first of those to come
  pub next_to_come : (now : List A) (numbers : List ℕ) (i : ℕ) (d : A) → map f now ≡ numbers → i < length now → drop i numbers ≡ f (get_or now i d) ∷ drop (i + 1) numbers
  next_to_come now numbers i d so_far low =
      subst (λ ns. drop i ns ≡ f (get_or now i d) ∷ drop (i + 1) ns) so_far
      (drop-map f i now ∙ ap (map f) (drop_more now i d low) ∙ ap (λ ns. f (get_or now i d) ∷ ns) (sym (drop-map f (i + 1) now)))

  -- past the last one none is to come
  pub none_to_come : (now : List A) (numbers : List ℕ) (i : ℕ) → map f now ≡ numbers → length now ≤ i → drop i numbers ≡ []
  none_to_come now numbers i so_far past = subst (λ ns. drop i ns ≡ []) so_far (drop-map f i now ∙ ap (map f) (drop_of_length-le now past))

-- ---- lists of which each is for one number

module _ {A : Type 0} (before : List A) where
  -- the lists of these numbers are as they were
  abbrev pub AreUntouched : List A → List ℕ → Type 0
  AreUntouched now = AllByRecursion (λ n. slice_get now n ≡ slice_get before n)

  pub untouched : (ns : List ℕ) → AreUntouched before ns
  untouched [] = tt
  untouched (n ∷ ns) = (refl, untouched ns)

  -- also once that of another number is touched
  pub still_untouched : (now after : List A) (n : ℕ) (ns : List ℕ) → AllByRecursion (λ m. n ≢ m) ns → ((m : ℕ) → m ≢ n → slice_get after m ≡ slice_get now m) → AreUntouched now ns → AreUntouched after ns
  still_untouched now after n [] others same all = tt
  still_untouched now after n (m ∷ ns) others same all = (same m (λ is. others.0 (sym is)) ∙ all.0, still_untouched now after n ns others.1 same all.1)

-- ---- the next one's number

module _ {A : Type 0} (f : A → ℕ) (now : List A) (numbers : List ℕ) (i : ℕ) (d : A) (so_far : map f now ≡ numbers) (low : i < length now) where
  abbrev n : ℕ
  n = f (get_or now i d)

  -- what holds of all numbers holds of it and of those behind it
  from_next : (P : ℕ → Type 0) → AllByRecursion P numbers → AllByRecursion P (n ∷ drop (i + 1) numbers)
  from_next P all = subst (AllByRecursion P) (next_to_come f now numbers i d so_far low) (all_back P (take i numbers) (drop i numbers) (subst (AllByRecursion P) (sym (take-append-drop i numbers)) all))

  pub of_next : (P : ℕ → Type 0) → AllByRecursion P numbers → P n
  of_next P all = (from_next P all).0

  -- numbers that differ from those behind them
  differs_from_later : IsRising (λ m n. m ≢ n) numbers → AllByRecursion (λ m. n ≢ m) (drop (i + 1) numbers)
  differs_from_later up =
      (subst (IsRising (λ m n. m ≢ n)) (next_to_come f now numbers i d so_far low)
      (rising_last (λ m n. m ≢ n) (take i numbers) (drop i numbers) (subst (IsRising (λ m n. m ≢ n)) (sym (take-append-drop i numbers)) up))).0

  module _ {B : Type 0} (before lists : List B) (up : IsRising (λ m n. m ≢ n) numbers) (all : AreUntouched before lists (drop i numbers)) where
    -- its list is as it was, and once it is touched those behind it still are
    pub untouched_next : slice_get lists n ≡ slice_get before n
    untouched_next = (subst (AreUntouched before lists) (next_to_come f now numbers i d so_far low) all).0

    pub untouched_later : (after : List B) → ((m : ℕ) → m ≢ n → slice_get after m ≡ slice_get lists m) → AreUntouched before after (drop (i + 1) numbers)
    untouched_later after same =
        still_untouched before lists after n (drop (i + 1) numbers) (differs_from_later up) same (subst (AreUntouched before lists) (next_to_come f now numbers i d so_far low) all).1
