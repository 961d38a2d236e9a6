-- Heights, span by span.
use Rattle.std.proofs.Common.{◌≡◌, ℕ, zero, suc, ◌+◌, ◌-◌, ◌<◌, List, [], ◌∷◌, ◌++◌, map, min, refl, sym, ap, ◌∙◌, arith, add-one}
use Rattle.std.specs.List.{range_with_len}
use Rattle.std.proofs.lemmas.List.FromFn.{map-range_with_len_more}
use Rattle.member_timelines.specs.Heights.{level, shown, height, heights}

-- how many are in a state before the next span
pub level_more : (came went : ℕ → ℕ) (first n : ℕ) → level came went first (n + 1) ≡ level came went first n + came n - went n
level_more came went first n = ap (level came went first) (add-one n)

-- one span more
pub heights_more : (came went : ℕ → ℕ) (first most n before after x : ℕ) (xs : List ℕ) → xs ≡ heights came went n first most → before ≡ level came went first n
    → after ≡ before + came n - went n → x ≡ min (shown (came n) after) most → xs ++ x ∷ [] ≡ heights came went (n + 1) first most
heights_more came went first most n before after x xs so_far here later is =
    ap (λ l. l ++ x ∷ []) so_far
    ∙ ap (λ y. heights came went n first most ++ y ∷ [])
    (is ∙ ap (λ a. min (shown (came n) a) most) (later ∙ ap (λ b. b + came n - went n) here ∙ sym (level_more came went first n)))
    ∙ sym (map-range_with_len_more (height came went first most) 0 n n (omega arith))

-- ---- the same of counts that are the same

level_same : (c d w v : ℕ → ℕ) (first n : ℕ) → ((k : ℕ) → k < n → c k ≡ d k) → ((k : ℕ) → k < n → w k ≡ v k) → level c w first n ≡ level d v first n
level_same c d w v first zero came went = refl
level_same c d w v first (suc n) came went =
    ap (λ l. l + c n - w n) (level_same c d w v first n (λ k low. came k (later k n low)) (λ k low. went k (later k n low)))
    ∙ ap (λ x. level d v first n + x - w n) (came n (last n)) ∙ ap (λ x. level d v first n + d n - x) (went n (last n))
  where
    later : (a b : ℕ) → a < b → a < suc b
    later a b low = omega (arith, low)

    last : (a : ℕ) → a < suc a
    last a = omega arith

map-more : (h : ℕ → ℕ) (n : ℕ) → map h (range_with_len 0 (suc n)) ≡ map h (range_with_len 0 n) ++ h n ∷ []
map-more h n = ap (λ k. map h (range_with_len 0 k)) (sym (add-one n)) ∙ map-range_with_len_more h 0 n n (omega arith)

map_same : (f g : ℕ → ℕ) (n : ℕ) → ((k : ℕ) → k < n → f k ≡ g k) → map f (range_with_len 0 n) ≡ map g (range_with_len 0 n)
map_same f g zero same = refl
map_same f g (suc n) same =
    map-more f n ∙ ap (λ l. l ++ f n ∷ []) (map_same f g n (λ k low. same k (later k n low)))
    ∙ ap (λ x. map g (range_with_len 0 n) ++ x ∷ []) (same n (last n)) ∙ sym (map-more g n)
  where
    later : (a b : ℕ) → a < b → a < suc b
    later a b low = omega (arith, low)

    last : (a : ℕ) → a < suc a
    last a = omega arith

pub heights_same : (c d w v : ℕ → ℕ) (n first most : ℕ) → ((k : ℕ) → k < n → c k ≡ d k) → ((k : ℕ) → k < n → w k ≡ v k)
    → heights c w n first most ≡ heights d v n first most
heights_same c d w v n first most came went = map_same (height c w first most) (height d v first most) n each
  where
    each : (k : ℕ) → k < n → height c w first most k ≡ height d v first most k
    each k low =
        ap (λ x. min (shown x (level c w first (k + 1))) most) (came k low)
        ∙ ap (λ a. min (shown (d k) a) most) (level_same c d w v first (k + 1) (λ i below. came i (omega (arith, below, low))) (λ i below. went i (omega (arith, below, low))))
