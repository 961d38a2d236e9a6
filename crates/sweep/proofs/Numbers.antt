-- What is held against numbers that follow one another.
use Rattle.std.proofs.Common.{◌≡◌, ◌∙◌, ◌+◌, ◌-◌, ◌<◌, ◌≤◌, ℕ, zero, suc, List, [], ◌∷◌, ◌++◌, add-zero, arith, ap, length, sym, subst}
use Rattle.std.specs.Prelude.{All}
use Rattle.std.specs.List.{AllZip, flat_map, range_with_len}
use Rattle.std.proofs.lemmas.List.{map-id}
use Rattle.std.proofs.lemmas.List.Elements.{All-cons, All-nil}
use Rattle.std.proofs.lemmas.List.FromFn.{map-range_with_len_more}
use Rattle.rayon.proofs.ListFacts.{All-parts}
use Rattle.rayon.proofs.ToStd.{nat_range-All, chunks_of-concat}
use Rattle.rayon.specs.Lists.{chunks_of}

-- one number more
pub range_more : (a n : ℕ) → range_with_len a (n + 1) ≡ range_with_len a n ++ (a + n) ∷ []
range_more a n =
    sym (map-id (range_with_len a (n + 1))) ∙ map-range_with_len_more (λ (x : ℕ). x) a n (a + n) (omega arith)
    ∙ ap (λ xs. xs ++ (a + n) ∷ []) (map-id (range_with_len a n))

-- numbers in a row are the first of them and those behind
pub range_split : (first a b : ℕ) → range_with_len first (a + b) ≡ range_with_len first a ++ range_with_len (first + a) b
range_split first zero b =
    let sum : zero + b ≡ b = omega arith in
    ap (λ n. range_with_len first n) sum ∙ ap (λ n. range_with_len n b) (sym (add-zero first))
range_split first (suc a) b =
    let sum : suc a + b ≡ suc (a + b) = omega arith in
    let next : first + 1 + a ≡ first + suc a = omega arith in
    ap (λ n. range_with_len first n) sum
    ∙ ap (λ l. first ∷ l) (range_split (first + 1) a b ∙ ap (λ n. range_with_len (first + 1) a ++ range_with_len n b) next)

-- the numbers to before one are less
pub all_less : (from till most : ℕ) → till ≤ most → All (λ n. n < most) (range_with_len from (till - from))
all_less from till most le = nat_range-All (λ n. n < most) from till (λ n low high. omega (arith, le, high))

-- what holds of all items holds of all items of each chunk
pub All-chunks : {X : Type 0} (P : X → Type 0) (size : ℕ) (xs : List X) → 0 < size → All P xs → All (All P) (chunks_of size xs)
All-chunks {X = X} P size xs some all = of_each (chunks_of size xs) (subst (All P) (sym (chunks_of-concat size xs some)) all)
  where
    of_each : (lists : List (List X)) → All P (flat_map (λ l. l) lists) → All (All P) lists
    of_each [] all = All-nil (All P)
    of_each (l ∷ ls) all =
        let parts = All-parts P l (flat_map (λ l. l) ls) all in
        All-cons (All P) l ls parts.0 (of_each ls parts.1)

module _ {Y : Type 0} (R : ℕ → Y → Type 0) (next till : ℕ) where
  -- what is held against the next number, and what is against those behind it
  pub record IsNext (y : Y) (ys : List Y) : Type 0 where
    pub low : next < till
    pub here : R next y
    pub rest : AllZip R (range_with_len (next + 1) (till - (next + 1))) ys

  pub is_next : (y : Y) (ys all : List Y) → all ≡ y ∷ ys → AllZip R (range_with_len next (till - next)) all → IsNext y ys
  is_next y ys all split zipped = by (till - next) (omega arith) (subst (AllZip R (range_with_len next (till - next))) split zipped)
    where
      by : (left : ℕ) → left ≡ till - next → AllZip R (range_with_len next left) (y ∷ ys) → IsNext y ys
      by zero none zipped = absurd zipped
      by (suc left) some zipped =
          let less : left ≡ till - (next + 1) = omega (arith, some) in
          record { low = omega (arith, some); here = zipped.0; rest = subst (λ n. AllZip R (range_with_len (next + 1) n) ys) less zipped.1 }

  -- against none of them
  pub none_left : (ys : List Y) → length ys ≡ 0 → AllZip R (range_with_len next (till - next)) ys → till ≤ next
  none_left (y ∷ ys) none zipped = absurd (omega (arith, none))
  none_left [] none zipped = by (till - next) (omega arith) zipped
    where
      by : (left : ℕ) → left ≡ till - next → AllZip R (range_with_len next left) [] → till ≤ next
      by zero none zipped = omega (arith, none)
      by (suc left) some zipped = absurd zipped
