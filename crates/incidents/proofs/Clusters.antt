-- The members of a scenario, one more at a time.
use Rattle.std.proofs.Common.{◌≡◌, ℕ, ◌+◌, ◌<◌, ◌≤◌, ◌==◌, arith, Bool, true, false, ◌&&◌, refl, length, get_or, take, append_assoc, List, [], ◌∷◌, ◌++◌, map, sym, ap, ◌∙◌, zero-add}
use Rattle.std.proofs.lemmas.List.{take_more, map-append}
use Rattle.std.proofs.lemmas.List.FromFn.{map-range_with_len_more, length-map-range_with_len}
use Rattle.std.proofs.lemmas.Bool.{false≢true}
use Rattle.scenario.specs.Setup.{Setup, start_of}
use Rattle.incidents.specs.Lives.{members}
use Rattle.incidents.specs.Cluster.{starts_first}

pub founders_more : (s : Setup) (old new : List Bool) (m start : ℕ) → old ≡ map (starts_first s) (members m) → start ≡ start_of s m → new ≡ old ++ (start == 0) ∷ []
    → new ≡ map (starts_first s) (members (m + 1))
founders_more s old new m start before is more =
    more ∙ ap (λ xs. xs ++ (start == 0) ∷ []) before ∙ ap (λ y. map (starts_first s) (members m) ++ (y == 0) ∷ []) is
    ∙ sym (map-range_with_len_more (starts_first s) 0 m m (zero-add m))

-- a list made of another by a function, one item more at a time
pub mapped_more : {X Y : Type 0} (f : X → Y) (xs : List X) (start now new : List Y) (i : ℕ) (x : X) → i < length xs → now ≡ start ++ map f (take i xs) → x ≡ get_or xs i x
    → new ≡ now ++ f x ∷ [] → new ≡ start ++ map f (take (i + 1) xs)
mapped_more f xs start now new i x low so_far is more =
    more ∙ ap (λ l. l ++ f x ∷ []) so_far ∙ append_assoc start (map f (take i xs)) (f x ∷ [])
    ∙ ap (λ l. start ++ l) (sym (map-append f (take i xs) (x ∷ [])) ∙ ap (λ y. map f (take i xs ++ y ∷ [])) is ∙ ap (map f) (sym (take_more xs i x low)))

pub few_founders : (s : Setup) (founders : List Bool) (n : ℕ) → founders ≡ map (starts_first s) (members n) → n ≤ 16384 → length founders ≤ 16384
few_founders s founders n are few = let long = ap length are ∙ length-map-range_with_len (starts_first s) 0 n in omega (arith, long, few)

-- ---- two tests at once

pub and_first : (a b : Bool) → (a && b) ≡ true → a ≡ true
and_first true b both = refl
and_first false b both = both

pub and_rest : (a b : Bool) → (a && b) ≡ true → b ≡ true
and_rest true b both = both
and_rest false b both = absurd (false≢true both)
