-- Members of one group start at one moment.
use Rattle.std.proofs.Common.{◌≡◌, ℕ, ◌+◌, ◌-◌, ◌<◌, ◌≤◌, Bool, true, false, cond, nat_lt, List, [], ◌∷◌, refl, sym, ap, arith}
use Rattle.std.specs.Option.{option_map_or}
use Rattle.std.specs.List.{slice_get}
use Rattle.std.proofs.lemmas.Bool.{ltb-true, ltb-false}
use Rattle.scenario.specs.Setup.{Setup, Group, group_at, start_of}

-- by whether each of three numbers is below another: where the least and the greatest stand on one side, so does what is between
group_between : (n a b c A B C : ℕ) → a ≤ b → b ≤ c → (n ≤ a → A ≡ C → B ≡ A) → (x y z : Bool) → nat_lt a n ≡ x → nat_lt b n ≡ y → nat_lt c n ≡ z
    → cond x 0 (1 + A) ≡ cond z 0 (1 + C) → cond y 0 (1 + B) ≡ cond x 0 (1 + A)
group_between n a b c A B C low high rest true true z ax by cz same = refl
group_between n a b c A B C low high rest true false true ax by cz same =
    let below : c < n = ltb-true c n cz in let above : n ≤ b = ltb-false b n by in absurd (omega (arith, high))
group_between n a b c A B C low high rest true false false ax by cz same = absurd (omega (arith, same))
group_between n a b c A B C low high rest false y true ax by cz same =
    let below : c < n = ltb-true c n cz in let above : n ≤ a = ltb-false a n ax in absurd (omega (arith, low, high))
group_between n a b c A B C low high rest false true false ax by cz same =
    let below : b < n = ltb-true b n by in let above : n ≤ a = ltb-false a n ax in absurd (omega (arith, low))
group_between n a b c A B C low high rest false false false ax by cz same =
    let above : n ≤ a = ltb-false a n ax in
    let ends : A ≡ C = omega (arith, same) in
    ap (λ m. 1 + m) (rest above ends)

-- a member between two of one group is in that group
pub same_group : (gs : List Group) (a b c : ℕ) → a ≤ b → b ≤ c → group_at gs c ≡ group_at gs a → group_at gs b ≡ group_at gs a
same_group [] a b c low high same = refl
same_group (g ∷ gs) a b c low high same =
    group_between g.count a b c (group_at gs (a - g.count)) (group_at gs (b - g.count)) (group_at gs (c - g.count)) low high
    (λ above ends. same_group gs (a - g.count) (b - g.count) (c - g.count) (omega arith) (omega arith) (sym ends))
    (nat_lt a g.count) (nat_lt b g.count) (nat_lt c g.count) refl refl refl (sym same)

-- so it starts when they do
pub same_start : (s : Setup) (a b c : ℕ) → a ≤ b → b ≤ c → group_at s.groups c ≡ group_at s.groups a → start_of s b ≡ start_of s a
same_start s a b c low high same = ap (λ n. option_map_or (λ (g : Group). g.start) (slice_get s.groups n) 0) (same_group s.groups a b c low high same)
