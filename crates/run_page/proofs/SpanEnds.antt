-- Numbers at the ends of spans.
use Rattle.std.proofs.Common.{◌≡◌, ℕ, zero, suc, ◌+◌, ◌-◌, ◌<◌, List, [], ◌∷◌, ◌++◌, map, min, refl, sym, ap, ◌∙◌, arith, add-one}
use Rattle.std.specs.List.{range_with_len}
use Rattle.std.proofs.lemmas.List.FromFn.{map-range_with_len_more}
use Rattle.member_timelines.specs.Heights.{level}
use Rattle.member_timelines.proofs.Levels.{level_more}
use Rattle.run_page.specs.Health.{end_height, ends}

-- one span more
pub ends_more : (came went : ℕ → ℕ) (most n before after x : ℕ) (xs : List ℕ) → xs ≡ ends came went n most → before ≡ level came went 0 n
    → after ≡ before + came n - went n → x ≡ min after most → xs ++ x ∷ [] ≡ ends came went (n + 1) most
ends_more came went most n before after x xs so_far here later is =
    ap (λ l. l ++ x ∷ []) so_far
    ∙ ap (λ y. ends came went n most ++ y ∷ [])
    (is ∙ ap (λ a. min a most) (later ∙ ap (λ b. b + came n - went n) here ∙ sym (level_more came went 0 n)))
    ∙ sym (map-range_with_len_more (end_height came went most) 0 n n (omega arith))

-- ---- the same of counts that are the same

level_same : (c d w v : ℕ → ℕ) (n : ℕ) → ((k : ℕ) → k < n → c k ≡ d k) → ((k : ℕ) → k < n → w k ≡ v k) → level c w 0 n ≡ level d v 0 n
level_same c d w v zero came went = refl
level_same c d w v (suc n) came went =
    ap (λ l. l + c n - w n) (level_same c d w v n (λ k low. came k (later k n low)) (λ k low. went k (later k n low)))
    ∙ ap (λ x. level d v 0 n + x - w n) (came n (last n)) ∙ ap (λ x. level d v 0 n + d n - x) (went n (last n))
  where
    later : (a b : ℕ) → a < b → a < suc b
    later a b low = omega (arith, low)

    last : (a : ℕ) → a < suc a
    last a = omega arith

map-more : (h : ℕ → ℕ) (n : ℕ) → map h (range_with_len 0 (suc n)) ≡ map h (range_with_len 0 n) ++ h n ∷ []
map-more h n = ap (λ k. map h (range_with_len 0 k)) (sym (add-one n)) ∙ map-range_with_len_more h 0 n n (omega arith)

map_same : (f g : ℕ → ℕ) (n : ℕ) → ((k : ℕ) → k < n → f k ≡ g k) → map f (range_with_len 0 n) ≡ map g (range_with_len 0 n)
map_same f g zero same = refl
map_same f g (suc n) same =
    map-more f n ∙ ap (λ l. l ++ f n ∷ []) (map_same f g n (λ k low. same k (later k n low)))
    ∙ ap (λ x. map g (range_with_len 0 n) ++ x ∷ []) (same n (last n)) ∙ sym (map-more g n)
  where
    later : (a b : ℕ) → a < b → a < suc b
    later a b low = omega (arith, low)

    last : (a : ℕ) → a < suc a
    last a = omega arith

pub ends_same : (c d w v : ℕ → ℕ) (n most : ℕ) → ((k : ℕ) → k < n → c k ≡ d k) → ((k : ℕ) → k < n → w k ≡ v k) → ends c w n most ≡ ends d v n most
ends_same c d w v n most came went = map_same (end_height c w most) (end_height d v most) n each
  where
    each : (k : ℕ) → k < n → end_height c w most k ≡ end_height d v most k
    each k low = ap (λ a. min a most) (level_same c d w v (k + 1) (λ i below. came i (omega (arith, below, low))) (λ i below. went i (omega (arith, below, low))))
