-- The members that are read ahead of the mark.
use Rattle.std.proofs.Common.{◌≡◌, ◌≢◌, ℕ, zero, suc, ◌+◌, ◌-◌, ◌<◌, ◌%◌, List, [], ◌∷◌, length, slice_get, slice_index_or, Some, ap, ◌∙◌, arith}
use Rattle.probing.specs.Ahead.{AreAhead}

module _ (members : List ℕ) (from a b c d e f g h i j k l m n o p : ℕ) where
  -- one after the other
  pub sixteen_read : (from - from % 16 < length members → slice_get members (from - from % 16) ≡ Some a)
      → (from - from % 16 + 1 < length members → slice_get members (from - from % 16 + 1) ≡ Some b)
      → (from - from % 16 + 2 < length members → slice_get members (from - from % 16 + 2) ≡ Some c)
      → (from - from % 16 + 3 < length members → slice_get members (from - from % 16 + 3) ≡ Some d)
      → (from - from % 16 + 4 < length members → slice_get members (from - from % 16 + 4) ≡ Some e)
      → (from - from % 16 + 5 < length members → slice_get members (from - from % 16 + 5) ≡ Some f)
      → (from - from % 16 + 6 < length members → slice_get members (from - from % 16 + 6) ≡ Some g)
      → (from - from % 16 + 7 < length members → slice_get members (from - from % 16 + 7) ≡ Some h)
      → (from - from % 16 + 8 < length members → slice_get members (from - from % 16 + 8) ≡ Some i)
      → (from - from % 16 + 9 < length members → slice_get members (from - from % 16 + 9) ≡ Some j)
      → (from - from % 16 + 10 < length members → slice_get members (from - from % 16 + 10) ≡ Some k)
      → (from - from % 16 + 11 < length members → slice_get members (from - from % 16 + 11) ≡ Some l)
      → (from - from % 16 + 12 < length members → slice_get members (from - from % 16 + 12) ≡ Some m)
      → (from - from % 16 + 13 < length members → slice_get members (from - from % 16 + 13) ≡ Some n)
      → (from - from % 16 + 14 < length members → slice_get members (from - from % 16 + 14) ≡ Some o)
      → (from - from % 16 + 15 < length members → slice_get members (from - from % 16 + 15) ≡ Some p)
      → AreAhead members from (a ∷ b ∷ c ∷ d ∷ e ∷ f ∷ g ∷ h ∷ i ∷ j ∷ k ∷ l ∷ m ∷ n ∷ o ∷ p ∷ [])
  sixteen_read first second third fourth fifth sixth seventh eighth ninth tenth eleventh twelfth thirteenth fourteenth fifteenth sixteenth place other after same within = at (place % 16) (omega arith) (omega arith)
    where
      at : (rest : ℕ) → place ≡ from - from % 16 + rest → rest < 16 → slice_get members place ≡ Some (slice_index_or (a ∷ b ∷ c ∷ d ∷ e ∷ f ∷ g ∷ h ∷ i ∷ j ∷ k ∷ l ∷ m ∷ n ∷ o ∷ p ∷ []) rest other)
      at zero is low = ap (slice_get members) (let q : place ≡ from - from % 16 = omega arith in q) ∙ first (omega arith)
      at (suc zero) is low = ap (slice_get members) (let q : place ≡ from - from % 16 + 1 = omega arith in q) ∙ second (omega arith)
      at (suc (suc zero)) is low = ap (slice_get members) (let q : place ≡ from - from % 16 + 2 = omega arith in q) ∙ third (omega arith)
      at (suc (suc (suc zero))) is low = ap (slice_get members) (let q : place ≡ from - from % 16 + 3 = omega arith in q) ∙ fourth (omega arith)
      at (suc (suc (suc (suc zero)))) is low = ap (slice_get members) (let q : place ≡ from - from % 16 + 4 = omega arith in q) ∙ fifth (omega arith)
      at (suc (suc (suc (suc (suc zero))))) is low = ap (slice_get members) (let q : place ≡ from - from % 16 + 5 = omega arith in q) ∙ sixth (omega arith)
      at (suc (suc (suc (suc (suc (suc zero)))))) is low = ap (slice_get members) (let q : place ≡ from - from % 16 + 6 = omega arith in q) ∙ seventh (omega arith)
      at (suc (suc (suc (suc (suc (suc (suc zero))))))) is low = ap (slice_get members) (let q : place ≡ from - from % 16 + 7 = omega arith in q) ∙ eighth (omega arith)
      at (suc (suc (suc (suc (suc (suc (suc (suc zero)))))))) is low = ap (slice_get members) (let q : place ≡ from - from % 16 + 8 = omega arith in q) ∙ ninth (omega arith)
      at (suc (suc (suc (suc (suc (suc (suc (suc (suc zero))))))))) is low = ap (slice_get members) (let q : place ≡ from - from % 16 + 9 = omega arith in q) ∙ tenth (omega arith)
      at (suc (suc (suc (suc (suc (suc (suc (suc (suc (suc zero)))))))))) is low = ap (slice_get members) (let q : place ≡ from - from % 16 + 10 = omega arith in q) ∙ eleventh (omega arith)
      at (suc (suc (suc (suc (suc (suc (suc (suc (suc (suc (suc zero))))))))))) is low = ap (slice_get members) (let q : place ≡ from - from % 16 + 11 = omega arith in q) ∙ twelfth (omega arith)
      at (suc (suc (suc (suc (suc (suc (suc (suc (suc (suc (suc (suc zero)))))))))))) is low = ap (slice_get members) (let q : place ≡ from - from % 16 + 12 = omega arith in q) ∙ thirteenth (omega arith)
      at (suc (suc (suc (suc (suc (suc (suc (suc (suc (suc (suc (suc (suc zero))))))))))))) is low = ap (slice_get members) (let q : place ≡ from - from % 16 + 13 = omega arith in q) ∙ fourteenth (omega arith)
      at (suc (suc (suc (suc (suc (suc (suc (suc (suc (suc (suc (suc (suc (suc zero)))))))))))))) is low = ap (slice_get members) (let q : place ≡ from - from % 16 + 14 = omega arith in q) ∙ fifteenth (omega arith)
      at (suc (suc (suc (suc (suc (suc (suc (suc (suc (suc (suc (suc (suc (suc (suc zero))))))))))))))) is low = ap (slice_get members) (let q : place ≡ from - from % 16 + 15 = omega arith in q) ∙ sixteenth (omega arith)
      at (suc (suc (suc (suc (suc (suc (suc (suc (suc (suc (suc (suc (suc (suc (suc (suc rest)))))))))))))))) is low = absurd (omega arith)

-- from the next place on, unless sixteen divides that
pub still_ahead : (members : List ℕ) (from before : ℕ) (ahead : List ℕ) → from % 16 ≢ 0 → before + 1 ≡ from → AreAhead members before ahead → AreAhead members from ahead
still_ahead members from before ahead amid next so_far place other after same within = so_far place other (omega arith) (omega arith) within
