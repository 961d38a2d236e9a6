-- What one row more makes of how many pairs miss each other, and of when the cluster was made whole.
use Rattle.std.proofs.Common.{◌≡◌, ◌≢◌, ℕ, ◌+◌, ◌≤◌, ◌<◌, ◌^◌, Bool, true, false, cond, ◌&&◌, ◌||◌, ◌==◌, List, [], ◌∷◌, ◌++◌, Option, Some, None, map, refl, sym, ap, subst, ◌∙◌, inl, inr, arith, append-nil}
use Rattle.std.specs.Prelude.{not, filter, count_by, if◌then◌else◌, length, Result, Ok, Err, OnOk, IfSome}
use Rattle.std.specs.Option.{option_map_or}
use Rattle.std.specs.List.{last_or}
use Rattle.std.proofs.Math.Bool.{and-false}
use Rattle.std.proofs.lemmas.Bool.{cases_eq, eq-eqb, ne_eqb, and_from}
use Rattle.trace.specs.declared.row.Row.{Row}
use Rattle.trace.specs.declared.row.What.TheVariants as what
use Rattle.trace_rows.specs.Rows.{Placed, rows_in_place, has_kind}
use Rattle.trace_rows.proofs.Places.{with_later, last_placed, kept-push}
use Rattle.incidents.specs.declared.cluster.Cluster.{Cluster}
use Rattle.incidents.specs.declared.lives.Lives.{Lives}
use Rattle.incidents.specs.declared.pairs.Pairs.{Pairs}
use Rattle.incidents.specs.declared.wholeness.Wholeness.{Wholeness}
use Rattle.incidents.specs.Lives.{weight, members, begins, is_turn, is_turn_of, is_up, restarts}
use Rattle.incidents.specs.Views.{claims, is_one_of, is_founder, holds}
use Rattle.incidents.specs.Whole.{misses, is_whole, makes_whole, made_whole_at, whole_since}
use Rattle.incidents.specs.Flags.{is_up_in, has_restarted_in}
use Rattle.incidents.specs.Pairs.{has, has_with, has_without}
use Rattle.incidents.specs.Kept.{count_of, placed, is_heard, AreLivesOf}
use Rattle.incidents.specs.Missed.{differs, first_in, misses_in, pair_count, pairs_around, AreViewsOf, IsWholenessOf}
use Rattle.incidents.proofs.Sums.{same_pairs, same_around, one_pair, apart_from, around_and_apart, few_members, none_count, no_pairs, no_pair}
use Rattle.incidents.proofs.Holding.{IsOddOf, misses_is, first_is, odd-push, dropped_one, kept_one, heard_one, other_pair, lives-same}

-- nobody misses itself
pub no_own_miss : (founders : List Bool) (rows : List Row) (i : ℕ) → misses founders rows i i ≡ false
no_own_miss founders rows i = ap (λ b. not b && (is_up rows i && (is_up rows i && not (holds founders rows i i)))) (eq-eqb i i refl)

-- ---- a row with which a life begins or ends

-- what a row of others leaves as it was
not_theirs : (row : Row) (a : ℕ) → a ≢ row.member → (row.member == a) ≡ false
not_theirs row a apart = ne_eqb row.member a (λ is. apart (sym is))

other_up : (old new : Lives) (row : Row) (a : ℕ) → a ≢ row.member → is_up_in new a ≡ (if is_turn_of a row then begins row else is_up_in old a) → is_up_in new a ≡ is_up_in old a
other_up old new row a apart is = is ∙ ap (λ b. if b && is_turn row then begins row else is_up_in old a) (not_theirs row a apart)

or_false : (b : Bool) → (b || false) ≡ b
or_false true = refl
or_false false = refl

other_restarted : (old new : Lives) (row : Row) (a : ℕ) → a ≢ row.member → has_restarted_in new a ≡ (has_restarted_in old a || restarts a row) → has_restarted_in new a ≡ has_restarted_in old a
other_restarted old new row a apart is = is ∙ ap (λ b. has_restarted_in old a || (b && has_kind what.Restart row)) (not_theirs row a apart) ∙ or_false (has_restarted_in old a)

other_odd : (old new : Pairs) (row : Row) (a b : ℕ) → a ≢ row.member → has new a b ≡ has_without row.member (has old) a b → has new a b ≡ has old a b
other_odd old new row a b apart is = is ∙ ap (λ x. if x then false else has old a b) (not_theirs row a apart)

-- pairs of others miss each other as before
others_miss : (odd dropped : Pairs) (cluster : Cluster) (old new : Lives) (row : Row)
    → ((m : ℕ) → is_up_in new m ≡ (if is_turn_of m row then begins row else is_up_in old m))
    → ((m : ℕ) → has_restarted_in new m ≡ (has_restarted_in old m || restarts m row))
    → ((a b : ℕ) → has dropped a b ≡ has_without row.member (has odd) a b)
    → (a b : ℕ) → a ≢ row.member → b ≢ row.member → misses_in dropped cluster new a b ≡ misses_in odd cluster old a b
others_miss odd dropped cluster old new row up again without a b first second =
    let founders : Bool = is_founder cluster.founders.items a && is_founder cluster.founders.items b in
    ap (λ u. not (a == b) && (u && (is_up_in new b && not (differs (first_in cluster new a b) (has dropped a b))))) (other_up old new row a first (up a))
    ∙ ap (λ u. not (a == b) && (is_up_in old a && (u && not (differs (first_in cluster new a b) (has dropped a b))))) (other_up old new row b second (up b))
    ∙ ap (λ r. not (a == b) && (is_up_in old a && (is_up_in old b && not (differs (founders && not r) (has dropped a b))))) (other_restarted old new row a first (again a))
    ∙ ap (λ o. not (a == b) && (is_up_in old a && (is_up_in old b && not (differs (first_in cluster old a b) o)))) (other_odd odd dropped row a b first (without a b))

apart_where : (i a b : ℕ) (x y : Bool) → (a ≢ i → b ≢ i → x ≡ y) → ((not (a == i) && not (b == i)) && x) ≡ ((not (a == i) && not (b == i)) && y)
apart_where i a b x y same =
    elim (cases_eq a i) [
      | inl first ↦ ap (λ t. (not t && not (b == i)) && x) (eq-eqb a i first) ∙ sym (ap (λ t. (not t && not (b == i)) && y) (eq-eqb a i first))
      | inr first ↦ elim (cases_eq b i) [
        | inl second ↦ ap (λ t. t && x) (none (not (a == i)) (b == i) (eq-eqb b i second)) ∙ sym (ap (λ t. t && y) (none (not (a == i)) (b == i) (eq-eqb b i second)))
        | inr second ↦ ap (λ z. (not (a == i) && not (b == i)) && z) (same first second)
      ]
    ]
  where
    none : (p q : Bool) → q ≡ true → (p && not q) ≡ false
    none p q is = ap (λ t. p && not t) is ∙ and-false p

-- the number of pairs that miss each other, after such a row
pub turn-missed : (odd dropped : Pairs) (cluster : Cluster) (old new : Lives) (rows : List Row) (row : Row) (missed before after now : ℕ)
    → row.member < count_of cluster
    → IsOddOf odd cluster rows → AreLivesOf old (count_of cluster) rows
    → IsOddOf dropped cluster (rows ++ row ∷ []) → AreLivesOf new (count_of cluster) (rows ++ row ∷ [])
    → ((m : ℕ) → is_up_in new m ≡ (if is_turn_of m row then begins row else is_up_in old m))
    → ((m : ℕ) → has_restarted_in new m ≡ (has_restarted_in old m || restarts m row))
    → ((a b : ℕ) → has dropped a b ≡ has_without row.member (has odd) a b)
    → missed ≡ pair_count (count_of cluster) (misses cluster.founders.items rows)
    → before ≡ pairs_around (count_of cluster) (misses_in odd cluster old) row.member
    → after ≡ pairs_around (count_of cluster) (misses_in dropped cluster new) row.member
    → (before ≤ missed) × (now + before ≡ missed + after → now ≡ pair_count (count_of cluster) (misses cluster.founders.items (rows ++ row ∷ [])))
turn-missed odd dropped cluster old new rows row missed before after now low were lives are next up again without counted first last =
    let i = row.member in
    let n = count_of cluster in
    let m : ℕ → ℕ → Bool = misses cluster.founders.items rows in
    let m' : ℕ → ℕ → Bool = misses cluster.founders.items (rows ++ row ∷ []) in
    let was : before ≡ pairs_around n m i = first ∙ same_around n (misses_in odd cluster old) m i (misses_is odd cluster old n rows lives were) in
    let is : after ≡ pairs_around n m' i = last ∙ same_around n (misses_in dropped cluster new) m' i (misses_is dropped cluster new n (rows ++ row ∷ []) next are) in
    let old_split = around_and_apart n m i low (no_own_miss cluster.founders.items rows i) in
    let new_split = around_and_apart n m' i low (no_own_miss cluster.founders.items (rows ++ row ∷ []) i) in
    let rest : pair_count n (apart_from i m') ≡ pair_count n (apart_from i m) =
    same_pairs n (apart_from i m') (apart_from i m) (λ a b. apart_where i a b (m' a b) (m a b) (λ one two.
    sym (misses_is dropped cluster new n (rows ++ row ∷ []) next are a b) ∙ others_miss odd dropped cluster old new row up again without a b one two ∙ misses_is odd cluster old n rows lives were a b)) in
    (omega (arith, counted, was, old_split), λ sum. omega (arith, sum, counted, was, is, old_split, new_split, rest))

-- nobody misses one that isn't up, nor does it miss anybody
pub none_around : (odd : Pairs) (cluster : Cluster) (lives : Lives) (count i : ℕ) → is_up_in lives i ≡ false → 0 ≡ pairs_around count (misses_in odd cluster lives) i
none_around odd cluster lives count i off =
    let held : ℕ → ℕ → Bool = λ a b. not (differs (first_in cluster lives a b) (has odd a b)) in
    let first : count_by (misses_in odd cluster lives i) (members count) ≡ 0 =
    none_count (misses_in odd cluster lives i) 0 count (λ k. ap (λ u. not (i == k) && (u && (is_up_in lives k && held i k))) off ∙ and-false (not (i == k))) in
    let second : count_by (λ k. misses_in odd cluster lives k i) (members count) ≡ 0 =
    none_count (λ k. misses_in odd cluster lives k i) 0 count (λ k.
    ap (λ u. not (k == i) && (is_up_in lives k && (u && held k i))) off ∙ ap (λ b. not (k == i) && b) (and-false (is_up_in lives k)) ∙ and-false (not (k == i))) in
    omega (arith, first, second)

pub few_around : (count : ℕ) (test : ℕ → ℕ → Bool) (i : ℕ) → count ≤ 2 ^ 16 → pairs_around count test i ≤ 2 ^ 17
few_around count test i few = let first = few_members count (test i) in let second = few_members count (λ k. test k i) in omega (arith, first, second, few)

-- what is kept after a row with which a life begins or ends
pub views-turn : (old new : Wholeness) (cluster : Cluster) (lives after : Lives) (rows : List Row) (row : Row) (before now : ℕ)
    → is_turn row ≡ true → row.member < count_of cluster → AreViewsOf old cluster rows → AreLivesOf lives (count_of cluster) rows
    → AreLivesOf after (count_of cluster) (rows ++ row ∷ [])
    → ((m : ℕ) → is_up_in after m ≡ (if is_turn_of m row then begins row else is_up_in lives m))
    → ((m : ℕ) → has_restarted_in after m ≡ (has_restarted_in lives m || restarts m row))
    → ((a b : ℕ) → has new.odd a b ≡ has_without row.member (has old.odd) a b)
    → length new.odd.columns.items ≡ length old.odd.columns.items
    → before ≡ pairs_around (count_of cluster) (misses_in old.odd cluster lives) row.member
    → now ≡ pairs_around (count_of cluster) (misses_in new.odd cluster after) row.member
    → new.missed + before ≡ old.missed + now
    → AreViewsOf new cluster (rows ++ row ∷ [])
views-turn old new cluster lives after rows row before now turn low views are next up again without room first last sum =
    let odd : IsOddOf new.odd cluster (rows ++ row ∷ []) =
    odd-push old.odd new.odd (is_up_in lives) (first_in cluster lives) cluster rows row are.up (first_is cluster lives (count_of cluster) rows are) views.odd
    (λ a b. without a b ∙ dropped_one claims row (is_up_in lives) (λ x y. differs (first_in cluster lives x y) (has_kind what.Alive row)) (has old.odd) turn a b) in
    record {
      odd = odd;
      missed = (turn-missed old.odd new.odd cluster lives after rows row old.missed before now new.missed low views.odd are odd next up again without views.missed first last).1 sum;
      members = room ∙ views.members;
    }

-- those around a member are among all
pub around_within : (whole : Wholeness) (cluster : Cluster) (lives : Lives) (rows : List Row) (i before : ℕ) → i < count_of cluster → AreViewsOf whole cluster rows
    → AreLivesOf lives (count_of cluster) rows → before ≡ pairs_around (count_of cluster) (misses_in whole.odd cluster lives) i → before ≤ whole.missed
around_within whole cluster lives rows i before low views are is =
    let m : ℕ → ℕ → Bool = misses cluster.founders.items rows in
    let was : before ≡ pairs_around (count_of cluster) m i = is ∙ same_around (count_of cluster) (misses_in whole.odd cluster lives) m i (misses_is whole.odd cluster lives (count_of cluster) rows are views.odd) in
    let split = around_and_apart (count_of cluster) m i low (no_own_miss cluster.founders.items rows i) in
    omega (arith, was, split, views.missed)

-- ---- a row with which none does

-- one that isn't heard
pub views-same : (whole : Wholeness) (cluster : Cluster) (lives : Lives) (rows : List Row) (row : Row) → is_turn row ≡ false
    → ((a b : ℕ) → is_heard claims (is_up_in lives) a b row ≡ false) → AreViewsOf whole cluster rows → AreLivesOf lives (count_of cluster) rows
    → AreViewsOf whole cluster (rows ++ row ∷ [])
views-same whole cluster lives rows row none unheard views are =
    let n = count_of cluster in
    let m : ℕ → ℕ → Bool = misses cluster.founders.items rows in
    let m' : ℕ → ℕ → Bool = misses cluster.founders.items (rows ++ row ∷ []) in
    let odd : IsOddOf whole.odd cluster (rows ++ row ∷ []) =
    odd-push whole.odd whole.odd (is_up_in lives) (first_in cluster lives) cluster rows row are.up (first_is cluster lives n rows are) views.odd
    (kept_one claims row (is_up_in lives) (λ x y. differs (first_in cluster lives x y) (has_kind what.Alive row)) (has whole.odd) none unheard) in
    record {
      odd = odd;
      missed = views.missed ∙ same_pairs n m m' (λ a b. sym (misses_is whole.odd cluster lives n rows are views.odd a b)
          ∙ misses_is whole.odd cluster lives n (rows ++ row ∷ []) (lives-same lives n rows row none are) odd a b);
      members = views.members;
    }

-- one that is: its member holds another from now on, or doesn't
pub views-hold : (old new : Wholeness) (cluster : Cluster) (lives : Lives) (rows : List Row) (row : Row) (j : ℕ) (alive : Bool) → is_turn row ≡ false
    → (is_one_of claims row && is_up_in lives row.member) ≡ true → row.about ≡ Some j → alive ≡ has_kind what.Alive row
    → row.member < count_of cluster → j < count_of cluster → AreViewsOf old cluster rows → AreLivesOf lives (count_of cluster) rows
    → ((a b : ℕ) → has new.odd a b ≡ has_with row.member j (differs (first_in cluster lives row.member j) alive) (has old.odd) a b)
    → new.missed + weight (misses_in old.odd cluster lives row.member j) ≡ old.missed + weight (misses_in new.odd cluster lives row.member j)
    → length new.odd.columns.items ≡ length old.odd.columns.items
    → AreViewsOf new cluster (rows ++ row ∷ [])
views-hold old new cluster lives rows row j alive none heard about is first second views are put sum room =
    let n = count_of cluster in
    let i = row.member in
    let m : ℕ → ℕ → Bool = misses cluster.founders.items rows in
    let m' : ℕ → ℕ → Bool = misses cluster.founders.items (rows ++ row ∷ []) in
    let next = lives-same lives n rows row none are in
    let odd : IsOddOf new.odd cluster (rows ++ row ∷ []) =
    odd-push old.odd new.odd (is_up_in lives) (first_in cluster lives) cluster rows row are.up (first_is cluster lives n rows are) views.odd
    (λ a b. put a b ∙ heard_one claims row (is_up_in lives) j (differs (first_in cluster lives i j) alive) (λ x y. differs (first_in cluster lives x y) (has_kind what.Alive row)) (has old.odd) none heard about
    (ap (differs (first_in cluster lives i j)) (sym is)) a b) in
    let were : (a b : ℕ) → misses_in old.odd cluster lives a b ≡ m a b = misses_is old.odd cluster lives n rows are views.odd in
    let now : (a b : ℕ) → misses_in new.odd cluster lives a b ≡ m' a b = misses_is new.odd cluster lives n (rows ++ row ∷ []) next odd in
    let cell = one_pair n m m' i j first second (λ a b apart. sym (now a b)
    ∙ ap (λ o. not (a == b) && (is_up_in lives a && (is_up_in lives b && not (differs (first_in cluster lives a b) o)))) (put a b ∙ other_pair i j _ (has old.odd) a b apart)
    ∙ were a b) in
    let was : weight (misses_in old.odd cluster lives i j) ≡ weight (m i j) = ap weight (were i j) in
    let is_now : weight (misses_in new.odd cluster lives i j) ≡ weight (m' i j) = ap weight (now i j) in
    record {
      odd = odd;
      missed = omega (arith, sum, cell, was, is_now, views.missed);
      members = room ∙ views.members;
    }

-- a pair that misses each other is counted
pub counted_pair : (whole : Wholeness) (cluster : Cluster) (lives : Lives) (rows : List Row) (i j : ℕ) → AreViewsOf whole cluster rows → AreLivesOf lives (count_of cluster) rows
    → i < count_of cluster → j < count_of cluster → misses_in whole.odd cluster lives i j ≡ true → 1 ≤ whole.missed
counted_pair whole cluster lives rows i j views are first second miss =
    let n = count_of cluster in
    let m : ℕ → ℕ → Bool = misses cluster.founders.items rows in
    let none : ℕ → ℕ → Bool = λ a b. m a b && not ((a == i) && (b == j)) in
    let cell = one_pair n m none i j first second (λ a b apart. unless (m a b) ((a == i) && (b == j)) (other_place a b i j apart)) in
    let is : weight (m i j) ≡ 1 = ap weight (sym (misses_is whole.odd cluster lives n rows are views.odd i j) ∙ miss) in
    let gone : weight (none i j) ≡ 0 = ap weight (taken (m i j) ((i == i) && (j == j)) (and_from (i == i) (j == j) (eq-eqb i i refl) (eq-eqb j j refl))) in
    omega (arith, cell, is, gone, views.missed)
  where
    unless : (x t : Bool) → t ≡ false → (x && not t) ≡ x
    unless true t is = ap not is
    unless false t is = refl

    taken : (x t : Bool) → t ≡ true → (x && not t) ≡ false
    taken x t is = ap (λ u. x && not u) is ∙ and-false x

    other_place : (a b i j : ℕ) → (a ≡ i → b ≡ j → ⊥) → ((a == i) && (b == j)) ≡ false
    other_place a b i j apart = elim (cases_eq a i) [
      | inl first ↦ ap (λ t. (a == i) && t) (ne_eqb b j (apart first)) ∙ and-false (a == i)
      | inr first ↦ ap (λ t. t && (b == j)) (ne_eqb a i first)
    ]

-- ---- since when

at_of : Placed → ℕ
at_of p = p.row.at

last_later : (row : Row) (o : Option Placed) (ps : List Placed) (o' : Option Placed) → option_map_or (λ p. p.row.at) o' 0 ≡ option_map_or (λ p. p.row.at) o 0
    → option_map_or (λ p. p.row.at) (last_or o' (map (with_later row) ps)) 0 ≡ option_map_or (λ p. p.row.at) (last_or o ps) 0
last_later row o [] o' same = same
last_later row o (p ∷ ps) o' same = last_later row (Some p) ps (Some (with_later row p)) refl

last-append : (o : Option Placed) (ps : List Placed) (p : Placed) → last_or o (ps ++ p ∷ []) ≡ Some p
last-append o [] p = refl
last-append o (q ∷ ps) p = last-append (Some q) ps p

last_kept : (row : Row) (ps : List Placed) (p : Placed) (keep : Bool)
    → option_map_or (λ q. q.row.at) (last_or None (map (with_later row) ps ++ cond keep (p ∷ []) [])) 0 ≡ (if keep then p.row.at else option_map_or (λ q. q.row.at) (last_or None ps) 0)
last_kept row ps p true = ap (λ o. option_map_or (λ (q : Placed). q.row.at) o 0) (last-append None (map (with_later row) ps) p)
last_kept row ps p false = ap (λ l. option_map_or (λ (q : Placed). q.row.at) (last_or None l) 0) (append-nil (map (with_later row) ps)) ∙ last_later row None ps None refl

pub since-push : (founders : List Bool) (rows : List Row) (row : Row) → made_whole_at founders (rows ++ row ∷ []) ≡ (if makes_whole founders (placed rows row) then row.at else made_whole_at founders rows)
since-push founders rows row =
    ap (λ l. option_map_or (λ (q : Placed). q.row.at) (last_or None l) 0) (kept-push (makes_whole founders) rows row (λ p. refl))
    ∙ last_kept row (filter (makes_whole founders) (rows_in_place rows)) (last_placed rows row) (makes_whole founders (placed rows row))

-- by how many pairs miss each other before and after a row, whether it made the cluster whole
pub made_whole : (cluster : Cluster) (rows : List Row) (row : Row) (old new : ℕ) → old ≡ pair_count (count_of cluster) (misses cluster.founders.items rows)
    → new ≡ pair_count (count_of cluster) (misses cluster.founders.items (rows ++ row ∷ [])) → (not (old == 0) && (new == 0)) ≡ makes_whole cluster.founders.items (placed rows row)
made_whole cluster rows row old new before after =
    ap (λ n. not (n == 0) && (new == 0)) before ∙ ap (λ n. not (pair_count (count_of cluster) (misses cluster.founders.items rows) == 0) && (n == 0)) after
    ∙ sym (ap (λ w. not w && is_whole cluster.founders.items (rows ++ row ∷ [])) (no_pair (count_of cluster) (misses cluster.founders.items rows))
    ∙ ap (λ w. not (pair_count (count_of cluster) (misses cluster.founders.items rows) == 0) && w) (no_pair (count_of cluster) (misses cluster.founders.items (rows ++ row ∷ []))))

-- nobody misses anybody before the first row
pub none_missed : (founders : List Bool) (count : ℕ) → 0 ≡ pair_count count (misses founders [])
none_missed founders count = sym (no_pairs count (misses founders []) (λ a b. and-false (not (a == b))))

-- since when the cluster is whole, by what is kept
pub since_is : (whole : Wholeness) (cluster : Cluster) (rows : List Row) → IsWholenessOf whole cluster rows
    → (if whole.missed == 0 then Some whole.since else None) ≡ whole_since cluster.founders.items rows
since_is whole cluster rows are =
    ap (λ n. if n == 0 then Some whole.since else None) are.views.missed
    ∙ ap (λ s. if pair_count (count_of cluster) (misses cluster.founders.items rows) == 0 then Some s else None) are.since
    ∙ ap (λ b. if b then Some (made_whole_at cluster.founders.items rows) else None) (sym (no_pair (count_of cluster) (misses cluster.founders.items rows)))

-- and with a row more
pub since-more : (cluster : Cluster) (rows : List Row) (row : Row) (before after old kept new : ℕ) → before ≡ pair_count (count_of cluster) (misses cluster.founders.items rows)
    → after ≡ pair_count (count_of cluster) (misses cluster.founders.items (rows ++ row ∷ [])) → old ≡ made_whole_at cluster.founders.items rows → kept ≡ old
    → new ≡ (if not (before == 0) && (after == 0) then row.at else kept) → new ≡ made_whole_at cluster.founders.items (rows ++ row ∷ [])
since-more cluster rows row before after old kept new were are so_far same is =
    is ∙ ap (λ b. if b then row.at else kept) (made_whole cluster rows row before after were are)
    ∙ ap (λ s. if makes_whole cluster.founders.items (placed rows row) then row.at else s) (same ∙ so_far)
    ∙ sym (since-push cluster.founders.items rows row)

-- what is said of whom a row is about, where it is about this one
pub some_such : {X : Type 0} (P : X → Type 0) (o : Option X) (x : X) → o ≡ Some x → IfSome o P → P x
some_such P None x is holds = absurd (cc)
some_such P (Some y) x is holds = let same : y ≡ x = cc in subst P same holds

pub on_ok_two : {A E : Type 0} (r : Result A E) {P S Q : Type 0} → (P → S → Q) → OnOk r P → OnOk r S → OnOk r Q
on_ok_two (Ok x) f held too = f held too
on_ok_two (Err e) f held too = tt
