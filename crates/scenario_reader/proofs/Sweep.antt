-- Two items of a list that a test holds of: one more item, another order, and the sweep over sorted spans.
use Rattle.std.proofs.Common.{◌≡◌, ◌≢◌, ◌≤◌, ◌<◌, ◌+◌, ℕ, zero, suc, List, [], ◌∷◌, ◌++◌, ◌||◌, ◌&&◌, Bool, true, false, map, length, take, drop, get_or, nat_eq, nat_lt, refl, ap, sym, ◌∙◌, arith, append_assoc, cond, eqb-true, eq-eqb}
use Rattle.std.specs.List.{list_any, swap}
use Rattle.std.specs.List.Sorted.{IsPermutation, IsSorted}
use Rattle.std.specs.Ordering.{is_lt, ordering_then, nat_cmp, MatchOrdering}
use Rattle.std.specs.Cmp.{IsTotalOrder, nat_cmp_total, on_total, then_total, ranks}
use Rattle.std.specs.declared.cmp.Ordering.{Ordering}
use Rattle.std.specs.declared.cmp.Ordering.TheVariants.{Less, Equal, Greater}
use Rattle.std.proofs.lemmas.Bool.{or_left, or_right, false≢true}
use Rattle.std.proofs.lemmas.Bool.Decides.{nat_tests}
use Rattle.std.proofs.lemmas.List.{map_more, append-nil, take-append-drop, map-append}
use Rattle.std.proofs.lemmas.List.Edits.{Swapped, swapped_from_swap, length-swap}
use Rattle.std.proofs.lemmas.List.Elements.{All-from_get_or}
use Rattle.std.proofs.lemmas.List.Folds.{list_any-append, list_any_none, list_any_at}
use Rattle.std.proofs.lemmas.List.Sorted.{IsPermutation-keeps, IsPermutation-sym, ranks_by, sorted_far}
use Rattle.schema.proofs.Trees.{any-map}
use Rattle.scenario_reader.specs.Rules.{any_two, overlaps}
use Rattle.scenario_reader.specs.Spans.{slow_of, span_cmp}
use Rattle.scenario_reader.specs.declared.pairs.Span.{Span}
use Rattle.scenario_reader.proofs.Find.{neither, both}

not_eq : (m n : ℕ) → nat_eq m n ≡ false → m ≢ n
not_eq m n h = λ same. false≢true (sym h ∙ eq-eqb m n same)

not_less : (m n : ℕ) → (m < n → ⊥) → n ≤ m
not_less m n h = less_by m n (nat_lt m n) h refl
  where
    less_by : (m n : ℕ) (b : Bool) → (m < n → ⊥) → nat_lt m n ≡ b → n ≤ m
    less_by m n true h e = absurd (h (grind (arith, nat_tests)))
    less_by m n false h e = grind (arith, nat_tests)

regroup : (a b c d : Bool) → ((a || (b || false)) || (c || d)) ≡ ((b || c) || (a || d))
regroup true true c d = refl
regroup true false true d = refl
regroup true false false d = refl
regroup false true c d = refl
regroup false false c d = refl

-- where the item of a place stood before two were swapped
abbrev place : ℕ → ℕ → ℕ → ℕ
place a b m = cond (nat_eq m a) b (cond (nat_eq m b) a m)

place_within : (a b m n : ℕ) → a < n → b < n → m < n → place a b m < n
place_within a b m n x y z = grind (arith, nat_tests)

place_apart : (a b j k : ℕ) → j ≢ k → place a b j ≢ place a b k
place_apart a b j k apart = λ same. grind (arith, nat_tests)

moved_is : {A : Type 0} (f g : ℕ → A) (a b : ℕ) → Swapped f g a b → (m : ℕ) (p q : Bool) → nat_eq m a ≡ p → nat_eq m b ≡ q → g m ≡ f (place a b m)
moved_is f g a b moved m true q x y = ap g (eqb-true m a x) ∙ moved.0 ∙ sym (ap (λ r. f (cond r b (cond (nat_eq m b) a m))) x)
moved_is f g a b moved m false true x y = ap g (eqb-true m b y) ∙ moved.1 ∙ sym (ap (λ r. f (cond r b (cond (nat_eq m b) a m))) x ∙ ap (λ r. f (cond r a m)) y)
moved_is f g a b moved m false false x y = moved.2 m (not_eq m a x) (not_eq m b y) ∙ sym (ap (λ r. f (cond r b (cond (nat_eq m b) a m))) x ∙ ap (λ r. f (cond r a m)) y)

module _ {A : Type 0} (test : A → A → Bool) where
  -- one more item
  pub two_last : (xs : List A) (x : A) → any_two test (xs ++ x ∷ []) ≡ (list_any (λ y. test y x) xs || any_two test xs)
  two_last [] x = refl
  two_last (y ∷ xs) x =
      ap (λ more. more || any_two test (xs ++ x ∷ [])) (list_any-append (test y) xs (x ∷ []))
      ∙ ap (λ more. (list_any (test y) xs || (test y x || false)) || more) (two_last xs x)
      ∙ regroup (list_any (test y) xs) (test y x) (list_any (λ z. test z x) xs) (any_two test xs)

  two_kept : (xs ys : List A) → any_two test xs ≡ true → any_two test (xs ++ ys) ≡ true
  two_kept xs [] found = ap (any_two test) (append-nil xs) ∙ found
  two_kept xs (y ∷ ys) found =
      ap (any_two test) (sym (append_assoc xs (y ∷ []) ys))
      ∙ two_kept (xs ++ y ∷ []) ys (two_last xs y ∙ or_right (list_any (λ z. test z y) xs) (any_two test xs) found)

  module _ {V : Type 0} (f : V → A) (vs : List V) (i : ℕ) (v : V) where
    -- the item at the index has a pair before it, or none
    pub pair_there : i < length vs → get_or vs i v ≡ v → list_any (λ y. test y (f v)) (map f (take i vs)) ≡ true → any_two test (map f vs) ≡ true
    pair_there within here found =
        let more : any_two test (map f (take (i + 1) vs)) ≡ true =
        ap (any_two test) (map_more f vs i v within ∙ ap (λ w. map f (take i vs) ++ f w ∷ []) here) ∙ two_last (map f (take i vs)) (f v)
        ∙ or_left (list_any (λ y. test y (f v)) (map f (take i vs))) (any_two test (map f (take i vs))) found in
        ap (λ ws. any_two test (map f ws)) (sym (take-append-drop (i + 1) vs)) ∙ ap (any_two test) (map-append f (take (i + 1) vs) (drop (i + 1) vs))
        ∙ two_kept (map f (take (i + 1) vs)) (map f (drop (i + 1) vs)) more

    pub pair_missing : i < length vs → get_or vs i v ≡ v → list_any (λ y. test y (f v)) (map f (take i vs)) ≡ false → any_two test (map f (take i vs)) ≡ false
        → any_two test (map f (take (i + 1) vs)) ≡ false
    pair_missing within here none fine =
        ap (any_two test) (map_more f vs i v within ∙ ap (λ w. map f (take i vs) ++ f w ∷ []) here) ∙ two_last (map f (take i vs)) (f v)
        ∙ ap (λ b. b || any_two test (map f (take i vs))) none ∙ fine

  pub two-map : {V : Type 0} (f : V → A) (vs : List V) → any_two test (map f vs) ≡ any_two (λ a b. test (f a) (f b)) vs
  two-map f [] = refl
  two-map f (v ∷ vs) = (λ i. any-map (test (f v)) f vs i || two-map f vs i)

  -- no two items, at any two places
  abbrev pub IsClear : A → List A → Type 0
  IsClear d xs = (j k : ℕ) → j < length xs → k < length xs → j ≢ k → test (get_or xs j d) (get_or xs k d) ≡ false

  pub two-from_clear : (d : A) (xs : List A) → ((j k : ℕ) → j < k → k < length xs → test (get_or xs j d) (get_or xs k d) ≡ false) → any_two test xs ≡ false
  two-from_clear d [] clear = refl
  two-from_clear d (x ∷ xs) clear =
      ap (λ b. b || any_two test xs) (list_any_none (test x) xs (All-from_get_or (λ y. test x y ≡ false) xs d (λ i within. clear 0 (suc i) (omega arith) (omega arith))))
      ∙ two-from_clear d xs (λ j k early within. clear (suc j) (suc k) (omega arith) (omega arith))

  one_clear_by : (p : A → Bool) (xs : List A) (i : ℕ) (d : A) (b : Bool) → i < length xs → list_any p xs ≡ false → p (get_or xs i d) ≡ b → b ≡ false
  one_clear_by p xs i d true within none at = absurd (false≢true (sym none ∙ list_any_at p xs i d within at))
  one_clear_by p xs i d false within none at = refl

  one_clear : (p : A → Bool) (xs : List A) (i : ℕ) (d : A) → i < length xs → list_any p xs ≡ false → p (get_or xs i d) ≡ false
  one_clear p xs i d within none = one_clear_by p xs i d (p (get_or xs i d)) within none refl

  pairs_clear : (d : A) (xs : List A) → any_two test xs ≡ false → (j k : ℕ) → j < k → k < length xs → test (get_or xs j d) (get_or xs k d) ≡ false
  pairs_clear d [] none j k early within = absurd (omega arith)
  pairs_clear d (x ∷ xs) none j zero early within = absurd (omega arith)
  pairs_clear d (x ∷ xs) none zero (suc k) early within = one_clear (test x) xs k d (omega arith) (neither (list_any (test x) xs) (any_two test xs) none).0
  pairs_clear d (x ∷ xs) none (suc j) (suc k) early within = pairs_clear d xs (neither (list_any (test x) xs) (any_two test xs) none).1 j k (omega arith) (omega arith)

  two_at_by : (d : A) (xs : List A) (j k : ℕ) (b : Bool) → j < k → k < length xs → test (get_or xs j d) (get_or xs k d) ≡ true → any_two test xs ≡ b → b ≡ true
  two_at_by d xs j k true early within at none = refl
  two_at_by d xs j k false early within at none = absurd (false≢true (sym (pairs_clear d xs none j k early within) ∙ at))

  -- two items that the test holds of
  pub two_at : (d : A) (xs : List A) (j k : ℕ) → j < k → k < length xs → test (get_or xs j d) (get_or xs k d) ≡ true → any_two test xs ≡ true
  two_at d xs j k early within at = two_at_by d xs j k (any_two test xs) early within at refl

  module _ (flip : (a b : A) → test a b ≡ test b a) where
    clear_by : (d : A) (xs : List A) (j k : ℕ) (b : Bool) → any_two test xs ≡ false → j < length xs → k < length xs → j ≢ k → nat_lt j k ≡ b → test (get_or xs j d) (get_or xs k d) ≡ false
    clear_by d xs j k true none in_j in_k apart early = let h : j < k = grind (arith, nat_tests) in pairs_clear d xs none j k h in_k
    clear_by d xs j k false none in_j in_k apart late =
        let h : k ≤ j = grind (arith, nat_tests) in
        flip (get_or xs j d) (get_or xs k d) ∙ pairs_clear d xs none k j (omega arith) in_j

    pub clear_of : (d : A) (xs : List A) → any_two test xs ≡ false → IsClear d xs
    clear_of d xs none j k in_j in_k apart = clear_by d xs j k (nat_lt j k) none in_j in_k apart refl

    clear_swapped : (d : A) (xs : List A) (a b : ℕ) → a < length xs → b < length xs → IsClear d xs → IsClear d (swap xs a b)
    clear_swapped d xs a b in_a in_b clear j k in_j in_k apart =
        let same = length-swap xs a b in
        let moved = swapped_from_swap xs (swap xs a b) a b d in_a in_b refl in
        let left = moved_is (λ m. get_or xs m d) (λ m. get_or (swap xs a b) m d) a b moved j (nat_eq j a) (nat_eq j b) refl refl in
        let right = moved_is (λ m. get_or xs m d) (λ m. get_or (swap xs a b) m d) a b moved k (nat_eq k a) (nat_eq k b) refl refl in
        ap (λ x. test x (get_or (swap xs a b) k d)) left ∙ ap (test (get_or xs (place a b j) d)) right
        ∙ clear (place a b j) (place a b k) (place_within a b j (length xs) in_a in_b (omega (arith, same))) (place_within a b k (length xs) in_a in_b (omega (arith, same))) (place_apart a b j k apart)

    clear_moved : (d : A) (xs ys : List A) → IsPermutation xs ys → IsClear d xs → IsClear d ys
    clear_moved d xs ys order clear = IsPermutation-keeps xs (IsClear d) clear (clear_swapped d) ys order

    moved_by : (d : A) (xs ys : List A) (a b : Bool) → IsPermutation xs ys → any_two test xs ≡ a → any_two test ys ≡ b → a ≡ b
    moved_by d xs ys true true order here there = refl
    moved_by d xs ys false false order here there = refl
    moved_by d xs ys true false order here there =
        absurd (false≢true (sym (two-from_clear d xs (λ j k early within. clear_moved d ys xs (IsPermutation-sym xs ys order) (clear_of d ys there) j k (omega arith) within (omega arith))) ∙ here))
    moved_by d xs ys false true order here there =
        absurd (false≢true (sym (two-from_clear d ys (λ j k early within. clear_moved d xs ys order (clear_of d xs here) j k (omega arith) within (omega arith))) ∙ there))

    -- the order doesn't matter
    pub two_moved : (d : A) (xs ys : List A) → IsPermutation xs ys → any_two test xs ≡ any_two test ys
    two_moved d xs ys order = moved_by d xs ys (any_two test xs) (any_two test ys) order refl refl

-- ---- spans

abbrev pub meet : Span → Span → Bool
meet a b = overlaps (slow_of a) (slow_of b)

abbrev pub no_span : Span
no_span = record { member = 0; from = 0; until = 0; item = 0 }

pub meet-flip : (a b : Span) → meet a b ≡ meet b a
meet-flip a b = grind (arith, nat_tests)

record IsMeeting (a b : Span) : Type 0 where
  member : a.member ≡ b.member
  first : a.from < b.until
  second : b.from < a.until

meeting : (a b : Span) → meet a b ≡ true → IsMeeting a b
meeting a b h =
    let parts = both (nat_eq a.member b.member) (nat_lt a.from b.until && nat_lt b.from a.until) h in
    let times = both (nat_lt a.from b.until) (nat_lt b.from a.until) parts.1 in
    record { member = eqb-true a.member b.member parts.0; first = let t = times.0 in grind (arith, nat_tests); second = let t = times.1 in grind (arith, nat_tests) }

apart_spans : (a b : Span) → meet a b ≡ false → a.member ≡ b.member → a.from < b.until → b.from < a.until → ⊥
apart_spans a b h member first second = grind (arith, nat_tests)

span_total : IsTotalOrder span_cmp
unfolding span_cmp
span_total =
    then_total (on_total (λ (s : Span). s.member) nat_cmp_total)
    (then_total (on_total (λ (s : Span). s.from) nat_cmp_total) (then_total (on_total (λ (s : Span). s.until) nat_cmp_total) (on_total (λ (s : Span). s.item) nat_cmp_total)))

ranked : (m n f g : ℕ) (o p r : Ordering) → MatchOrdering o (m < n) (m ≡ n) (n < m) → MatchOrdering p (f < g) (f ≡ g) (g < f) → is_lt (ordering_then o (ordering_then p r)) ≡ false
    → (n ≤ m) × (n ≡ m → g ≤ f)
ranked m n f g Less p r a b h = absurd (false≢true (sym h))
ranked m n f g Equal Less r a b h = absurd (false≢true (sym h))
ranked m n f g Equal Equal r a b h = (omega arith, λ _. omega arith)
ranked m n f g Equal Greater r a b h = (omega arith, λ _. omega arith)
ranked m n f g Greater p r a b h = (omega arith, λ same. absurd (omega arith))

-- spans in their order: members rise, and of one member the beginnings
pub rising : (xs : List Span) → IsSorted span_cmp xs → (j k : ℕ) → j ≤ k → k < length xs
    → ((get_or xs j no_span).member ≤ (get_or xs k no_span).member) × ((get_or xs j no_span).member ≡ (get_or xs k no_span).member → (get_or xs j no_span).from ≤ (get_or xs k no_span).from)
unfolding span_cmp
rising xs sorted j k early within =
    let a = get_or xs j no_span in
    let b = get_or xs k no_span in
    ranked b.member a.member b.from a.from (nat_cmp b.member a.member) (nat_cmp b.from a.from) (ordering_then (nat_cmp b.until a.until) (nat_cmp b.item a.item)) (ranks b.member a.member) (ranks b.from a.from)
    (sorted_far (λ x y. is_lt (span_cmp x y)) (ranks_by span_total (λ x. x)) xs sorted j k no_span early within)

-- what a sweep knows of the spans before the index: no two meet, and the one that it keeps is of the last member and lasts longest
pub record IsSwept (xs : List Span) (i kept : ℕ) : Type 0 where
  pub before : kept < i
  pub clear : (j k : ℕ) → j < i → k < i → j ≢ k → meet (get_or xs j no_span) (get_or xs k no_span) ≡ false
  pub last : (j : ℕ) → j < i → (get_or xs j no_span).member ≤ (get_or xs kept no_span).member
  pub longest : (j : ℕ) → j < i → (get_or xs j no_span).member ≡ (get_or xs kept no_span).member → (get_or xs j no_span).until ≤ (get_or xs kept no_span).until

pub swept_first : (xs : List Span) → IsSwept xs 1 0
swept_first xs = record {
  before = omega arith;
  clear = λ j k a b apart. absurd (omega arith);
  last = λ j a. let zero_is : j ≡ 0 = omega arith in omega (arith, ap (λ n. (get_or xs n no_span).member) zero_is);
  longest = λ j a _. let zero_is : j ≡ 0 = omega arith in omega (arith, ap (λ n. (get_or xs n no_span).until) zero_is);
}

module _ (xs : List Span) (i kept : ℕ) (sorted : IsSorted span_cmp xs) (within : i < length xs) (swept : IsSwept xs i kept) where
  next_by : (j : ℕ) (b c : Bool) → j < i → meet (get_or xs kept no_span) (get_or xs i no_span) ≡ false → meet (get_or xs j no_span) (get_or xs i no_span) ≡ b → nat_eq j kept ≡ c → b ≡ false
  next_by j false c early none here same = refl
  next_by j true true early none here same =
      let j_is : j ≡ kept = eqb-true j kept same in
      absurd (false≢true (sym none ∙ ap (λ n. meet (get_or xs n no_span) (get_or xs i no_span)) (sym j_is) ∙ here))
  next_by j true false early none here apart =
      let x = get_or xs j no_span in
      let l = get_or xs kept no_span in
      let e = get_or xs i no_span in
      let m = meeting x e here in
      let last = swept.last j early in
      let k_up = rising xs sorted kept i (let b = swept.before in omega arith) within in
      let same_member : l.member ≡ e.member = omega (arith, last, k_up.0, m.member) in
      let mine : x.member ≡ l.member = omega (arith, same_member, m.member) in
      let wide = swept.longest j early mine in
      let from_up = k_up.1 same_member in
      let over : e.until ≤ l.from = not_less l.from e.until (λ h. apart_spans l e none same_member h (let s = m.second in omega (arith, wide))) in
      let other : j ≢ kept = not_eq j kept apart in
      let clear = swept.clear j kept early swept.before other in
      absurd (apart_spans x l clear mine (let f = m.first in let s = m.second in omega (arith, over, from_up, wide)) (let s = m.second in omega (arith, from_up)))

  -- a span that doesn't meet the kept one meets none before it
  pub next_clear : (j : ℕ) → j < i → meet (get_or xs kept no_span) (get_or xs i no_span) ≡ false → meet (get_or xs j no_span) (get_or xs i no_span) ≡ false
  next_clear j early none = next_by j (meet (get_or xs j no_span) (get_or xs i no_span)) (nat_eq j kept) early none refl refl

  more_by : (j k : ℕ) (b c : Bool) → meet (get_or xs kept no_span) (get_or xs i no_span) ≡ false → j < i + 1 → k < i + 1 → j ≢ k → nat_lt j i ≡ b → nat_lt k i ≡ c → meet (get_or xs j no_span) (get_or xs k no_span) ≡ false
  more_by j k true true none in_j in_k apart a b = let x : j < i = grind (arith, nat_tests) in let y : k < i = grind (arith, nat_tests) in swept.clear j k x y apart
  more_by j k true false none in_j in_k apart a b =
      let x : j < i = grind (arith, nat_tests) in
      let y : k ≡ i = grind (arith, nat_tests) in
      ap (λ n. meet (get_or xs j no_span) (get_or xs n no_span)) y ∙ next_clear j x none
  more_by j k false true none in_j in_k apart a b =
      let x : j ≡ i = grind (arith, nat_tests) in
      let y : k < i = grind (arith, nat_tests) in
      ap (λ n. meet (get_or xs n no_span) (get_or xs k no_span)) x ∙ meet-flip (get_or xs i no_span) (get_or xs k no_span) ∙ next_clear k y none
  more_by j k false false none in_j in_k apart a b = absurd (let x : i ≤ j = grind (arith, nat_tests) in let y : i ≤ k = grind (arith, nat_tests) in omega arith)

  -- the sweep goes on with the span in place of the kept one
  pub swept_replaced : meet (get_or xs kept no_span) (get_or xs i no_span) ≡ false
      → ((get_or xs i no_span).member ≡ (get_or xs kept no_span).member → (get_or xs kept no_span).until < (get_or xs i no_span).until) → IsSwept xs (i + 1) i
  swept_replaced none better = record {
    before = omega arith;
    clear = λ j k a b apart. more_by j k (nat_lt j i) (nat_lt k i) none a b apart refl refl;
    last = λ j a. (rising xs sorted j i (omega arith) within).0;
    longest = λ j a same. longest_by j (nat_lt j i) a same refl;
  }
    where
      longest_by : (j : ℕ) (b : Bool) → j < i + 1 → (get_or xs j no_span).member ≡ (get_or xs i no_span).member → nat_lt j i ≡ b → (get_or xs j no_span).until ≤ (get_or xs i no_span).until
      longest_by j false a same e = let j_is : j ≡ i = grind (arith, nat_tests) in omega (arith, ap (λ n. (get_or xs n no_span).until) j_is)
      longest_by j true a same e =
          let early : j < i = grind (arith, nat_tests) in
          let last = swept.last j early in
          let up = (rising xs sorted kept i (let b = swept.before in omega arith) within).0 in
          let own : (get_or xs i no_span).member ≡ (get_or xs kept no_span).member = omega (arith, last, up, same) in
          let wider = better own in
          let wide = swept.longest j early (omega (arith, own, same)) in
          omega (arith, wide, wider)

  -- or with the kept one
  pub swept_kept : meet (get_or xs kept no_span) (get_or xs i no_span) ≡ false → (get_or xs i no_span).member ≡ (get_or xs kept no_span).member
      → (get_or xs i no_span).until ≤ (get_or xs kept no_span).until → IsSwept xs (i + 1) kept
  swept_kept none same shorter = record {
    before = let b = swept.before in omega arith;
    clear = λ j k a b apart. more_by j k (nat_lt j i) (nat_lt k i) none a b apart refl refl;
    last = λ j a. last_by j (nat_lt j i) a refl;
    longest = λ j a mine. longest_by j (nat_lt j i) a mine refl;
  }
    where
      last_by : (j : ℕ) (b : Bool) → j < i + 1 → nat_lt j i ≡ b → (get_or xs j no_span).member ≤ (get_or xs kept no_span).member
      last_by j true a e = let early : j < i = grind (arith, nat_tests) in swept.last j early
      last_by j false a e = let j_is : j ≡ i = grind (arith, nat_tests) in omega (arith, ap (λ n. (get_or xs n no_span).member) j_is)

      longest_by : (j : ℕ) (b : Bool) → j < i + 1 → (get_or xs j no_span).member ≡ (get_or xs kept no_span).member → nat_lt j i ≡ b → (get_or xs j no_span).until ≤ (get_or xs kept no_span).until
      longest_by j true a mine e = let early : j < i = grind (arith, nat_tests) in swept.longest j early mine
      longest_by j false a mine e = let j_is : j ≡ i = grind (arith, nat_tests) in omega (arith, ap (λ n. (get_or xs n no_span).until) j_is)

-- after the last span no two meet
pub swept_all : (xs : List Span) (i kept : ℕ) → length xs ≤ i → IsSwept xs i kept → any_two meet xs ≡ false
swept_all xs i kept past swept = two-from_clear meet no_span xs (λ j k early within. swept.clear j k (omega arith) (omega arith) (omega arith))
