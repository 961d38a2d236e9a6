-- Tables in which all are held to be alive.
use Rattle.std.proofs.Common.{◌≡◌, ℕ, ◌+◌, ◌<◌, Bool, true, false, cond, List, [], ◌∷◌, ◌++◌, map, length, get_or, take, Option, Some, refl, sym, ap, ◌∙◌}
use Rattle.std.specs.Ordering.{nat_cmp, eq_by_cmp}
use Rattle.std.specs.Cmp.{nat_cmp_total}
use Rattle.std.specs.FinMap.{get, insert, find, get-from_entries, get-insert, same_map, nat_cmp-IsAntisymmetric}
use Rattle.std.proofs.lemmas.List.{take_more}
use Rattle.incarnation.specs.declared.Claim.{Claim}
use Rattle.incarnation.specs.declared.Claim.TheVariants.{Alive}
use Rattle.membership.specs.Table.{Known, all_alive}

abbrev pub put_all : List ℕ → List (ℕ × (Claim × ℕ))
put_all xs = map (λ m. (m, (Alive, 0))) xs

pub get-alive : (xs : List ℕ) (q : ℕ) → get (all_alive xs) q ≡ find nat_cmp q (put_all xs)
unfolding all_alive
get-alive xs q = get-from_entries nat_cmp_total (put_all xs) q

swapped : (a b : Bool) (o : Option (Claim × ℕ)) → cond a (Some (Alive, 0)) (cond b (Some (Alive, 0)) o) ≡ cond b (Some (Alive, 0)) (cond a (Some (Alive, 0)) o)
swapped true true o = refl
swapped true false o = refl
swapped false true o = refl
swapped false false o = refl

find-more : (xs : List ℕ) (m q : ℕ) → find nat_cmp q (put_all (xs ++ m ∷ [])) ≡ cond (eq_by_cmp nat_cmp q m) (Some (Alive, 0)) (find nat_cmp q (put_all xs))
find-more [] m q = refl
find-more (x ∷ xs) m q =
    ap (cond (eq_by_cmp nat_cmp q x) (Some (Alive, 0))) (find-more xs m q) ∙ swapped (eq_by_cmp nat_cmp q x) (eq_by_cmp nat_cmp q m) (find nat_cmp q (put_all xs))

alive-more : (xs : List ℕ) (m : ℕ) → insert (all_alive xs) m (Alive, 0) ≡ all_alive (xs ++ m ∷ [])
alive-more xs m =
    same_map nat_cmp_total nat_cmp-IsAntisymmetric _ _ (λ q.
    get-insert nat_cmp_total (all_alive xs) m (Alive, 0) q ∙ ap (cond (eq_by_cmp nat_cmp q m) (Some (Alive, 0))) (get-alive xs q)
    ∙ sym (get-alive (xs ++ m ∷ []) q ∙ find-more xs m q))

-- one member more is alive
pub alive_next : (xs : List ℕ) (i m : ℕ) (old new : Known) → i < length xs → m ≡ get_or xs i m → old ≡ all_alive (take i xs) → new ≡ insert old m (Alive, 0)
    → new ≡ all_alive (take (i + 1) xs)
alive_next xs i m old new h is so_far more =
    more ∙ ap (λ t. insert t m (Alive, 0)) so_far ∙ alive-more (take i xs) m
    ∙ ap all_alive (sym (take_more xs i m h ∙ ap (λ y. take i xs ++ y ∷ []) (sym is)))
