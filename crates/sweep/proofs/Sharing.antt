-- How shares of runs follow one another.
use Rattle.std.proofs.Common.{◌≡◌, ◌∙◌, ◌+◌, ◌-◌, ◌≤◌, ℕ, List, [], ◌∷◌, ◌++◌, refl, sym, ap, subst, arith, map, append-nil}
use Rattle.std.specs.Prelude.{All}
use Rattle.std.specs.List.{flat_map, range_with_len}
use Rattle.std.proofs.lemmas.List.Concat.{flat_map-append}
use Rattle.std.proofs.lemmas.List.Elements.{All-nil, All-push, All-weaker}
use Rattle.rayon.specs.Shown.{run-append}
use Rattle.sweep.specs.Shares.{AreShares, numbers_of}
use Rattle.sweep.specs.declared.shares.Share.{Share}

-- one list after the other, of items' lists
pub lists_of : {X Y : Type 0} (f : X → List Y) (xs : List X) → flat_map (λ l. l) (map f xs) ≡ flat_map f xs
lists_of f [] = refl
lists_of f (x ∷ xs) = ap (λ l. f x ++ l) (lists_of f xs)

-- no run is shared out yet
pub none_shared : (from : ℕ) → AreShares from from []
none_shared from =
    let none : 0 ≡ from - from = omega arith in
    record { whole = ap (range_with_len from) none; within = All-nil (λ (share : Share). share.till ≤ from) }

-- one share more
pub one_shared : (first from till : ℕ) (share : Share) (shares all : List Share) → first ≤ from → from ≤ till → share.from ≡ from → share.till ≡ till → all ≡ shares ++ share ∷ []
    → AreShares first from shares → AreShares first till all
one_shared first from till share shares all low high starts ends more are =
    let here : first + (from - first) ≡ share.from = omega (arith, low, starts) in
    let sum : (from - first) + (share.till - share.from) ≡ till - first = omega (arith, low, high, starts, ends) in
    let numbers : flat_map numbers_of (shares ++ share ∷ []) ≡ range_with_len first (till - first) =
    flat_map-append numbers_of shares (share ∷ []) ∙ (λ i. are.whole i ++ append-nil (numbers_of share) i)
    ∙ ap (λ n. range_with_len first (from - first) ++ range_with_len n (share.till - share.from)) (sym here)
    ∙ run-append first (from - first) (share.till - share.from) ∙ ap (range_with_len first) sum in
    record {
      whole = ap (flat_map numbers_of) more ∙ numbers;
      within = subst (All (λ (share : Share). share.till ≤ till)) (sym more)
          (All-push (λ (share : Share). share.till ≤ till) shares share
          (All-weaker (λ (share : Share). share.till ≤ from) (λ (share : Share). share.till ≤ till) (λ share le. omega (arith, le, high)) shares are.within) (omega (arith, ends)));
    }

-- a share of no run is none
pub none_more : (first from till : ℕ) (shares : List Share) → from ≡ till → AreShares first from shares → AreShares first till shares
none_more first from till shares same are = subst (λ n. AreShares first n shares) same are

-- the runs of the shares are among the first, so many
pub within_all : (from till most : ℕ) (shares : List Share) → till ≤ most → AreShares from till shares → All (λ share. share.till ≤ most) shares
within_all from till most shares high are =
    All-weaker (λ (share : Share). share.till ≤ till) (λ (share : Share). share.till ≤ most) (λ share le. omega (arith, le, high)) shares are.within
