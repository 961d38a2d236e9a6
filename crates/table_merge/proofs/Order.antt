-- Tables in the order of their seeds.
use Rattle.std.proofs.Common.{◌≡◌, ◌∙◌, ◌<◌, ◌≤◌, ◌+◌, ◌-◌, ℕ, zero, suc, Bool, true, false, List, [], ◌∷◌, ◌++◌, length, get_or, map, take, inl, inr, refl, sym, ap, subst, arith}
use Rattle.std.specs.Prelude.{All, nat_le, nat_lt, ◌⊎◌}
use Rattle.std.specs.List.{Contains, insert}
use Rattle.std.proofs.lemmas.Bool.Decides.{nat_tests}
use Rattle.std.proofs.lemmas.List.{get_or_default, map-append, take_more}
use Rattle.std.proofs.lemmas.List.Elements.{All-cons, All-head, All-nil, All-push, All-tail, Contains-get_or}
use Rattle.sweep_plan.specs.declared.seeds.Seeds.{Seeds}
use Rattle.table_merge.specs.Seeds.{AreInTurn}
use Rattle.table_merge.specs.Found.{AreApart, ShareSeed}
use Rattle.table_merge.specs.Reasons.{LeaveGap}
use Rattle.table_merge.specs.declared.finding.Found.{Found}

abbrev Apart : Seeds → Found → Type 0
Apart seeds f = ¬ (ShareSeed f.seeds seeds)

-- of two ranges with no seed in common the one ends before the other begins
ends_before : (a b : Seeds) → ¬ (ShareSeed a b) → a.first ≤ b.first → b.first ≤ b.last → a.last < b.first
ends_before a b none low ordered = by (nat_le b.first a.last) refl
  where
    by : (t : Bool) → nat_le b.first a.last ≡ t → a.last < b.first
    by true e =
        let le : b.first ≤ a.last = grind (arith, nat_tests) in
        absurd (none (record { seed = b.first; first_low = low; first_high = le; second_low = omega arith; second_high = ordered }))
    by false e = grind (arith, nat_tests)

begins_behind : (a b : Seeds) → ¬ (ShareSeed a b) → b.first ≤ a.first → a.first ≤ a.last → b.last < a.first
begins_behind a b none low ordered = by (nat_le a.first b.last) refl
  where
    by : (t : Bool) → nat_le a.first b.last ≡ t → b.last < a.first
    by true e =
        let le : a.first ≤ b.last = grind (arith, nat_tests) in
        absurd (none (record { seed = a.first; first_low = omega arith; first_high = ordered; second_low = low; second_high = le }))
    by false e = grind (arith, nat_tests)

pub insert_apart : (from : ℕ) (xs : List Found) (at : ℕ) (x : Found) → from ≤ x.seeds.first → x.seeds.first ≤ x.seeds.last → AreApart from xs → All (Apart x.seeds) xs → at ≤ length xs
    → ((k : ℕ) (d : Found) → k < at → (get_or xs k d).seeds.first < x.seeds.first) → ((d : Found) → at < length xs → x.seeds.first ≤ (get_or xs at d).seeds.first)
    → AreApart from (insert xs at x)
insert_apart from [] zero x low ordered apart none within before behind = (low, ordered, tt)
insert_apart from [] (suc at) x low ordered apart none within before behind = absurd (omega (arith, within))
insert_apart from (y ∷ ys) zero x low ordered apart none within before behind =
    let next = begins_behind y.seeds x.seeds (All-head (Apart x.seeds) y ys none) (behind x (omega arith)) apart.1 in
    (low, ordered, (omega (arith, next), apart.1, apart.2))
insert_apart from (y ∷ ys) (suc at) x low ordered apart none within before behind =
    let first : y.seeds.first < x.seeds.first = before 0 x (omega arith) in
    let last = ends_before y.seeds x.seeds (All-head (Apart x.seeds) y ys none) (omega (arith, first)) ordered in (
      apart.0,
      apart.1,
      insert_apart (y.seeds.last + 1) ys at x (omega (arith, last)) ordered apart.2 (All-tail (Apart x.seeds) y ys none) (omega (arith, within))
          (λ k d less. before (suc k) d (omega (arith, less))) (λ d less. behind d (omega (arith, less))),
    )

-- ---- which come before which

apart_low : (from : ℕ) (xs : List Found) (i : ℕ) (d : Found) → AreApart from xs → i < length xs → from ≤ (get_or xs i d).seeds.first
apart_low from [] i d apart within = absurd (omega (arith, within))
apart_low from (y ∷ ys) zero d apart within = apart.0
apart_low from (y ∷ ys) (suc i) d apart within =
    let first = apart.0 in
    let ordered = apart.1 in
    let later = apart_low (y.seeds.last + 1) ys i d apart.2 (omega (arith, within)) in
    omega arith

pub apart_ordered : (from : ℕ) (xs : List Found) (i : ℕ) (d : Found) → AreApart from xs → i < length xs → (get_or xs i d).seeds.first ≤ (get_or xs i d).seeds.last
apart_ordered from [] i d apart within = absurd (omega (arith, within))
apart_ordered from (y ∷ ys) zero d apart within = apart.1
apart_ordered from (y ∷ ys) (suc i) d apart within = apart_ordered (y.seeds.last + 1) ys i d apart.2 (omega (arith, within))

pub apart_pair : (from : ℕ) (xs : List Found) (i j : ℕ) (d : Found) → AreApart from xs → i < j → j < length xs → (get_or xs i d).seeds.last < (get_or xs j d).seeds.first
apart_pair from [] i j d apart less within = absurd (omega (arith, within))
apart_pair from (y ∷ ys) i zero d apart less within = absurd (omega (arith, less))
apart_pair from (y ∷ ys) zero (suc j) d apart less within =
    let later = apart_low (y.seeds.last + 1) ys j d apart.2 (omega (arith, within)) in
    omega arith
apart_pair from (y ∷ ys) (suc i) (suc j) d apart less within = apart_pair (y.seeds.last + 1) ys i j d apart.2 (omega (arith, less)) (omega (arith, within))

-- one more range
pub turn_more : (from past : ℕ) (rs : List Seeds) (r : Seeds) → AreInTurn from rs past → r.first ≡ past → r.first ≤ r.last → AreInTurn from (rs ++ r ∷ []) (r.last + 1)
turn_more from past [] r turn next ordered = (next ∙ sym turn, ordered, refl)
turn_more from past (q ∷ rs) r turn next ordered = (turn.0, turn.1, turn_more (q.last + 1) past rs r turn.2 next ordered)

-- a gap between a table and the next
pub gap_between : (tables : List Found) (i : ℕ) (d : Found) → AreApart 0 tables → i + 1 < length tables → (get_or tables i d).seeds.last + 1 < (get_or tables (i + 1) d).seeds.first
    → LeaveGap tables (get_or tables i d).place (get_or tables (i + 1) d).place
gap_between tables i d apart within gap = record {
  below = get_or tables i d;
  below_in = Contains-get_or tables i d (omega (arith, within));
  below_at = refl;
  above = get_or tables (i + 1) d;
  above_in = Contains-get_or tables (i + 1) d within;
  above_at = refl;
  apart = gap;
  none = each;
}
  where
    at : (k : ℕ) → k < length tables → (b c : Bool) → nat_lt k i ≡ b → nat_lt (i + 1) k ≡ c
        → ((get_or tables k d).seeds.last ≤ (get_or tables i d).seeds.last) ⊎ ((get_or tables (i + 1) d).seeds.first ≤ (get_or tables k d).seeds.first)
    at k inside true c e f =
        let less : k < i = grind (arith, nat_tests) in
        let before = apart_pair 0 tables k i d apart less (omega (arith, within)) in
        let ordered = apart_ordered 0 tables i d apart (omega (arith, within)) in
        inl (omega arith)
    at k inside false true e f =
        let more : i + 1 < k = grind (arith, nat_tests) in
        let before = apart_pair 0 tables (i + 1) k d apart more inside in
        let ordered = apart_ordered 0 tables (i + 1) d apart within in
        inr (omega arith)
    at k inside false false e f = same (nat_le k i) refl
      where
        high : k ≤ i + 1
        high = grind (arith, nat_tests)

        low : i ≤ k
        low = grind (arith, nat_tests)

        same : (b : Bool) → nat_le k i ≡ b
            → ((get_or tables k d).seeds.last ≤ (get_or tables i d).seeds.last) ⊎ ((get_or tables (i + 1) d).seeds.first ≤ (get_or tables k d).seeds.first)
        same true g =
            let le : k ≤ i = grind (arith, nat_tests) in
            let is : k ≡ i = omega (arith, le, low) in
            inl (subst (λ n. (get_or tables n d).seeds.last ≤ (get_or tables i d).seeds.last) (sym is) (omega arith))
        same false g =
            let gt : i < k = grind (arith, nat_tests) in
            let is : k ≡ i + 1 = omega (arith, gt, high) in
            inr (subst (λ n. (get_or tables (i + 1) d).seeds.first ≤ (get_or tables n d).seeds.first) (sym is) (omega arith))

    each : (f : Found) → Contains tables f → (f.seeds.last ≤ (get_or tables i d).seeds.last) ⊎ ((get_or tables (i + 1) d).seeds.first ≤ f.seeds.first)
    each f in_them =
        let is : get_or tables in_them.0 d ≡ f = get_or_default tables in_them.0 d f in_them.1 ∙ in_them.2 in
        subst (λ (g : Found). (g.seeds.last ≤ (get_or tables i d).seeds.last) ⊎ ((get_or tables (i + 1) d).seeds.first ≤ g.seeds.first)) is
        (at in_them.0 in_them.1 (nat_lt in_them.0 i) (nat_lt (i + 1) in_them.0) refl refl)

-- what holds of the first items, and the next, holds of one more
pub all_next : {X : Type 0} (P : X → Type 0) (xs : List X) (i : ℕ) (d : X) → i < length xs → All P (take i xs) → P (get_or xs i d) → All P (take (i + 1) xs)
all_next P xs i d within all here = subst (All P) (sym (take_more xs i d within)) (All-push P (take i xs) (get_or xs i d) all here)

-- what holds of what is made of each item
pub all_mapped : {X Y : Type 0} (P : Y → Type 0) (f : X → Y) (xs : List X) → All P (map f xs) → All (λ x. P (f x)) xs
all_mapped P f [] all = All-nil (λ x. P (f x))
all_mapped P f (x ∷ xs) all = All-cons (λ x. P (f x)) x xs (All-head P (f x) (map f xs) all) (all_mapped P f xs (All-tail P (f x) (map f xs) all))

-- one more table that follows
pub follows_more : (tables : List Found) (first place : ℕ) (last d : Found) → AreApart 0 tables → 1 ≤ place → place < length tables → last ≡ get_or tables (place - 1) d
    → AreInTurn first (map (λ (f : Found). f.seeds) (take place tables)) (last.seeds.last + 1) → (get_or tables place d).seeds.first - last.seeds.last ≤ 1
    → AreInTurn first (map (λ (f : Found). f.seeds) (take (place + 1) tables)) ((get_or tables place d).seeds.last + 1)
follows_more tables first place last d apart some within is turn near =
    let next = get_or tables place d in
    let before : (get_or tables (place - 1) d).seeds.last < next.seeds.first = apart_pair 0 tables (place - 1) place d apart (omega (arith, some)) within in
    let same : last.seeds.last ≡ (get_or tables (place - 1) d).seeds.last = ap (λ (f : Found). f.seeds.last) is in
    let adjoins : next.seeds.first ≡ last.seeds.last + 1 = omega (arith, before, same, near) in
    subst (λ rs. AreInTurn first rs (next.seeds.last + 1))
    (sym (ap (map (λ (f : Found). f.seeds)) (take_more tables place d within) ∙ map-append (λ (f : Found). f.seeds) (take place tables) (next ∷ [])))
    (turn_more first (last.seeds.last + 1) (map (λ (f : Found). f.seeds) (take place tables)) next.seeds turn adjoins (apart_ordered 0 tables place d apart within))

-- or leaves a gap
pub gap_there : (tables : List Found) (place : ℕ) (last d : Found) → AreApart 0 tables → 1 ≤ place → place < length tables → last ≡ get_or tables (place - 1) d
    → 1 < (get_or tables place d).seeds.first - last.seeds.last → LeaveGap tables last.place (get_or tables place d).place
gap_there tables place last d apart some within is far =
    let next : place - 1 + 1 ≡ place = omega (arith, some) in
    let same : last.seeds.last ≡ (get_or tables (place - 1) d).seeds.last = ap (λ (f : Found). f.seeds.last) is in
    let at : (get_or tables (place - 1 + 1) d).seeds.first ≡ (get_or tables place d).seeds.first = ap (λ n. (get_or tables n d).seeds.first) next in
    let gap = gap_between tables (place - 1) d apart (omega (arith, next, within)) (omega (arith, far, same, at)) in
    subst (λ n. LeaveGap tables last.place (get_or tables n d).place) next (subst (λ (f : Found). LeaveGap tables f.place (get_or tables (place - 1 + 1) d).place) (sym is) gap)
