-- The restarts parted: the text's own, those of crashes, and those of leaves.
use Rattle.std.proofs.Common.{◌≡◌, ℕ, ◌+◌, ◌-◌, List, [], ◌∷◌, ◌++◌, length, take, drop, refl, ap, ◌∙◌, arith, append_assoc, length-append}

module _ {X : Type 0} where
  front : (a b : List X) (n : ℕ) → n ≡ length a → take n (a ++ b) ≡ a
  front [] b n is = ap (λ k. take k b) is
  front (x ∷ a) b n is = ap (λ k. take k (x ∷ (a ++ b))) is ∙ ap (λ l. x ∷ l) (front a b (length a) refl)

  behind : (a b : List X) (n : ℕ) → n ≡ length a → drop n (a ++ b) ≡ b
  behind [] b n is = ap (λ k. drop k b) is
  behind (x ∷ a) b n is = ap (λ k. drop k (x ∷ (a ++ b))) is ∙ behind a b (length a) refl

  module _ (all own of_crashes of_leaves : List X) (crashes leaves : ℕ) (whole : all ≡ own ++ of_crashes ++ of_leaves) (c : crashes ≡ length of_crashes) (l : leaves ≡ length of_leaves) where
    parts : all ≡ own ++ (of_crashes ++ of_leaves)
    parts = whole ∙ append_assoc own of_crashes of_leaves

    mid : length all - (crashes + leaves) ≡ length own
    mid = omega (arith, ap length whole, length-append (own ++ of_crashes) of_leaves, length-append own of_crashes, c, l)

    pub own_first : take (length all - (crashes + leaves)) all ≡ own
    own_first = ap (take (length all - (crashes + leaves))) parts ∙ front own (of_crashes ++ of_leaves) (length all - (crashes + leaves)) mid

    back : drop (length all - (crashes + leaves)) all ≡ of_crashes ++ of_leaves
    back = ap (drop (length all - (crashes + leaves))) parts ∙ behind own (of_crashes ++ of_leaves) (length all - (crashes + leaves)) mid

    pub crashes_next : take crashes (drop (length all - (crashes + leaves)) all) ≡ of_crashes
    crashes_next = ap (take crashes) back ∙ front of_crashes of_leaves crashes c

    pub leaves_last : drop crashes (drop (length all - (crashes + leaves)) all) ≡ of_leaves
    leaves_last = ap (drop crashes) back ∙ behind of_crashes of_leaves crashes c
