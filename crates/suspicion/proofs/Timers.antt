-- Timers and accusers of the suspicions that stand.
use Rattle.std.proofs.Common.{◌≡◌, ◌==◌, ℕ, ◌+◌, ◌≤◌, Bool, true, false, not, cond, ◌&&◌, ◌||◌, ltb, List, [], ◌∷◌, ◌++◌, length-append, refl, sym, ap, subst, ◌∙◌, arith, Option, Some, None}
use Rattle.std.specs.Option.{option_map_or, option_and_then}
use Rattle.std.specs.List.{list_any, count_by}
use Rattle.std.specs.Ordering.{nat_cmp, eq_by_cmp}
use Rattle.std.specs.Cmp.{nat_cmp_total, eq_by_cmp_equiv}
use Rattle.std.specs.FinMap.{get, insert, remove, get-insert, get-remove}
use Rattle.std.proofs.lemmas.Bool.{eqb-true, ltb-true}
use Rattle.std.proofs.lemmas.List.Sums.{sum_by-append, sum_by-cons}
use Rattle.suspicion.specs.Times.{most_accusers}
use Rattle.suspicion.specs.Suspicions.{HeldSuspicion, HeldSuspicions, accused, with_accuser, accused_of, after_accusation, is_due, is_accuser, counts, accusers_counted, CountsAccusersOnce}

itself : (k : ℕ) → eq_by_cmp nat_cmp k k ≡ true
itself k = (eq_by_cmp_equiv nat_cmp_total).refl k

-- the timer of a suspicion that was put in
pub is_due-insert : (held : HeldSuspicions) (s : HeldSuspicion) (k h : ℕ) → is_due (insert held k s) k h ≡ (s.timer == h)
is_due-insert held s k h =
    ap (λ o. option_map_or (λ s. s.timer == h) o false) (get-insert nat_cmp_total held k s k ∙ ap (λ b. cond b (Some s) (get held k)) (itself k))

-- and of one that was taken out
pub is_due-remove : (held : HeldSuspicions) (k h : ℕ) → is_due (remove held k) k h ≡ false
is_due-remove held k h =
    ap (λ o. option_map_or (λ s. s.timer == h) o false) (get-remove nat_cmp_total held k k ∙ ap (λ b. cond b None (get held k)) (itself k))

timer_by_test : (s t : HeldSuspicion) (accuser g : ℕ) (b : Bool) → cond b (Some (with_accuser s accuser g)) None ≡ Some t → t.timer ≡ g
timer_by_test s t accuser g true e = let same : with_accuser s accuser g ≡ t = cc in sym (ap (λ (u : HeldSuspicion). u.timer) same)
timer_by_test s t accuser g false e = cc

timer_of : (o : Option HeldSuspicion) (t : HeldSuspicion) (accuser g : ℕ) → option_and_then (λ s. accused s accuser g) o ≡ Some t → t.timer ≡ g
timer_of None t accuser g e = cc
timer_of (Some s) t accuser g e = timer_by_test s t accuser g (counts s accuser) e

-- and of one with an accuser more
pub is_due-accused : (held : HeldSuspicions) (s : HeldSuspicion) (k accuser g h : ℕ) → accused_of held k accuser g ≡ Some s → is_due (after_accusation held k accuser g) k h ≡ (g == h)
is_due-accused held s k accuser g h e =
    ap (λ o. is_due (option_map_or (insert held k) o held) k h) e ∙ is_due-insert held s k h ∙ ap (λ t. t == h) (timer_of (get held k) s accuser g e)

-- ---- each accuser once

count-append : (m a : ℕ) (xs : List ℕ) → count_by (λ x. x == m) (xs ++ a ∷ []) ≡ count_by (λ x. x == m) xs + cond (a == m) 1 0
count-append m a xs = let e = sum_by-append (λ x. cond (x == m) 1 0) xs (a ∷ []) in omega (arith, e)

none_by_head : (m : ℕ) (xs : List ℕ) (b rest : Bool) → (b || rest) ≡ false → (rest ≡ false → count_by (λ x. x == m) xs ≡ 0) → cond b 1 0 + count_by (λ x. x == m) xs ≡ 0
none_by_head m xs true rest e none = cc
none_by_head m xs false rest e none = let zero = none e in omega (arith, zero)

count-none : (m : ℕ) (xs : List ℕ) → list_any (λ x. x == m) xs ≡ false → count_by (λ x. x == m) xs ≡ 0
count-none m [] e = refl
count-none m (x ∷ xs) e = sum_by-cons (λ x. cond (x == m) 1 0) x xs ∙ none_by_head m xs (x == m) (list_any (λ x. x == m) xs) e (count-none m xs)

one_more : (s : HeldSuspicion) (accuser m : ℕ) (b : Bool) → (accuser == m) ≡ b → is_accuser s accuser ≡ false → count_by (λ x. x == m) (s.first ∷ s.further) ≤ 1
    → count_by (λ x. x == m) (s.first ∷ s.further) + cond b 1 0 ≤ 1
one_more s accuser m true same new once =
    let none : count_by (λ x. x == accuser) (s.first ∷ s.further) ≡ 0 = count-none accuser (s.first ∷ s.further) new in
    let e : count_by (λ x. x == accuser) (s.first ∷ s.further) ≡ count_by (λ x. x == m) (s.first ∷ s.further) = ap (λ k. count_by (λ x. x == k) (s.first ∷ s.further)) (eqb-true accuser m same) in
    omega (arith, none, e)
one_more s accuser m false same new once = omega (arith, once)

fair_by_test : (s t : HeldSuspicion) (accuser g : ℕ) (on few new : Bool) → s.terms.shortens ≡ on → ltb (accusers_counted s) (most_accusers s.terms s.members) ≡ few → is_accuser s accuser ≡ new
    → CountsAccusersOnce s → cond (on && few && not new) (Some (with_accuser s accuser g)) None ≡ Some t → CountsAccusersOnce t
fair_by_test s t accuser g true true false o f n fair e =
    let same : with_accuser s accuser g ≡ t = cc in
    let below = ltb-true (accusers_counted s) (most_accusers s.terms s.members) f in
    let longer = length-append s.further (accuser ∷ []) in
    let it : CountsAccusersOnce (with_accuser s accuser g) = record {
      once = λ m.
          let e = count-append m accuser (s.first ∷ s.further) in
          let h = one_more s accuser m (accuser == m) refl n (fair.once m) in
          omega (arith, e, h);
      few = omega (arith, below, longer);
    } in
    subst CountsAccusersOnce same it
fair_by_test s t accuser g true true true o f n fair e = cc
fair_by_test s t accuser g true false new o f n fair e = cc
fair_by_test s t accuser g false few new o f n fair e = cc

-- an accuser more keeps it so
pub CountsAccusersOnce-accused : (s t : HeldSuspicion) (accuser g : ℕ) → CountsAccusersOnce s → accused s accuser g ≡ Some t → CountsAccusersOnce t
CountsAccusersOnce-accused s t accuser g fair e =
    fair_by_test s t accuser g s.terms.shortens (ltb (accusers_counted s) (most_accusers s.terms s.members)) (is_accuser s accuser) refl refl refl fair e
