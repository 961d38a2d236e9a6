-- Two texts with which one text begins.
use Rattle.std.proofs.Common.{◌≡◌, ◌⊎◌, ℕ, List, [], ◌∷◌, ◌++◌, inl, inr, refl, sym}

-- one of them begins with the other
pub one_begins_with_other : (text rest front back : List ℕ) → text ++ rest ≡ front ++ back → ((more : List ℕ) × (text ≡ front ++ more)) ⊎ ((more : List ℕ) × (front ≡ text ++ more))
one_begins_with_other [] rest front back same = inr (front, refl)
one_begins_with_other (x ∷ text) rest [] back same = inl (x ∷ text, refl)
one_begins_with_other (x ∷ text) rest (y ∷ front) back same =
    let first : x ≡ y = cc in
    let later : text ++ rest ≡ front ++ back = cc in
    on (one_begins_with_other text rest front back later) first
  where
    on : ((more : List ℕ) × (text ≡ front ++ more)) ⊎ ((more : List ℕ) × (front ≡ text ++ more)) → x ≡ y
        → ((more : List ℕ) × (x ∷ text ≡ y ∷ front ++ more)) ⊎ ((more : List ℕ) × (y ∷ front ≡ x ∷ text ++ more))
    on (inl it) first = inl (it.0, (λ i. first i ∷ it.1 i))
    on (inr it) first = inr (it.0, (λ i. sym first i ∷ it.1 i))
