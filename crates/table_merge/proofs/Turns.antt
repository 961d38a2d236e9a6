-- What tables have, in the order of the whole.
use Rattle.std.proofs.Common.{◌≡◌, ◌∙◌, ◌<◌, ◌≤◌, ◌+◌, ◌-◌, ◌*◌, ℕ, zero, suc, List, [], ◌∷◌, ◌++◌, length, length-append, length-drop, map, take, drop, refl, sym, ap, subst, arith, suc-mul}
use Rattle.std.specs.Prelude.{All, Some}
use Rattle.std.specs.List.{AllZip, flat_map, range_with_len}
use Rattle.std.proofs.Math.Seq.{take-add, length-take-le}
use Rattle.std.proofs.lemmas.Nat.{mul-le}
use Rattle.std.proofs.lemmas.List.{drop-drop, drop-map, take-map, take_all, take_at, drop_at, map-append}
use Rattle.std.proofs.lemmas.List.Elements.{All-append, All-cons, All-drop, All-head, All-nil, All-tail, All-take, All-weaker}
use Rattle.sweep_plan.specs.Sweep.{seed_count}
use Rattle.sweep_plan.specs.declared.seeds.Seeds.{Seeds}
use Rattle.table_merge.specs.Seeds.{AreInTurn, Ranged, in_turn, of_setting, part, seeds_of_tables}

-- ---- what is made of each number in a row

pub same_each : {X : Type 0} (f g : ℕ → List X) (a m : ℕ) → ((k : ℕ) → k < a + m → f k ≡ g k) → flat_map f (range_with_len a m) ≡ flat_map g (range_with_len a m)
same_each f g a zero same = refl
same_each f g a (suc m) same =
    let here = same a (omega arith) in
    let more = same_each f g (a + 1) m (λ k low. same k (omega (arith, low))) in
    (λ i. here i ++ more i)

pub same_of_all : {X Y : Type 0} (f g : X → List Y) (xs : List X) → All (λ x. f x ≡ g x) xs → flat_map f xs ≡ flat_map g xs
same_of_all f g [] all = refl
same_of_all f g (x ∷ xs) all =
    let here = All-head (λ x. f x ≡ g x) x xs all in
    let more = same_of_all f g xs (All-tail (λ x. f x ≡ g x) x xs all) in
    (λ i. here i ++ more i)

pub mapped_each : {X Y Z : Type 0} (f : Y → Z) (g : X → List Y) (xs : List X) → map f (flat_map g xs) ≡ flat_map (λ x. map f (g x)) xs
mapped_each f g [] = refl
mapped_each f g (x ∷ xs) = map-append f (g x) (flat_map g xs) ∙ ap (λ l. map f (g x) ++ l) (mapped_each f g xs)

pub each_mapped : {X Y Z : Type 0} (f : X → Y) (g : Y → List Z) (xs : List X) → flat_map g (map f xs) ≡ flat_map (λ x. g (f x)) xs
each_mapped f g [] = refl
each_mapped f g (x ∷ xs) = ap (λ l. g (f x) ++ l) (each_mapped f g xs)

module _ {X : Type 0} where
  -- the block of this number among blocks of one length
  pub block_at : (f : ℕ → List X) (c a m number : ℕ) → number < m → ((k : ℕ) → k < a + m → length (f k) ≡ c) → take c (drop (number * c) (flat_map f (range_with_len a m))) ≡ f (a + number)
  block_at f c a zero number within long = absurd (omega (arith, within))
  block_at f c a (suc m) zero within long =
      let none : 0 * c ≡ 0 = omega arith in
      let at : a ≡ a + 0 = omega arith in
      ap (λ n. take c (drop n (flat_map f (range_with_len a (suc m))))) none
      ∙ take_at (f a) (flat_map f (range_with_len (a + 1) m)) c (long a (omega arith)) ∙ ap f at
  block_at f c a (suc m) (suc number) within long =
      let split : suc number * c ≡ c + number * c = omega (arith, suc-mul number c) in
      let at : a + 1 + number ≡ a + suc number = omega arith in
      let whole = flat_map f (range_with_len a (suc m)) in
      let behind : drop c whole ≡ flat_map f (range_with_len (a + 1) m) = drop_at (f a) (flat_map f (range_with_len (a + 1) m)) c (long a (omega arith)) in
      ap (λ n. take c (drop n whole)) split
      ∙ ap (take c) (sym (drop-drop (number * c) c whole) ∙ ap (drop (number * c)) behind)
      ∙ block_at f c (a + 1) m number (omega (arith, within)) (λ k low. long k (omega (arith, low))) ∙ ap f at

  pub flat_long : (f : ℕ → List X) (c a m : ℕ) → ((k : ℕ) → k < a + m → length (f k) ≡ c) → length (flat_map f (range_with_len a m)) ≡ m * c
  flat_long f c a zero long = omega arith
  flat_long f c a (suc m) long =
      let here = long a (omega arith) in
      let more = flat_long f c (a + 1) m (λ k low. long k (omega (arith, low))) in
      omega (arith, here, more, suc-mul m c, length-append (f a) (flat_map f (range_with_len (a + 1) m)))

  -- blocks one after the other are the whole
  pub blocks : (c a m : ℕ) (all : List X) → flat_map (λ k. take c (drop (k * c) all)) (range_with_len a m) ≡ take (m * c) (drop (a * c) all)
  blocks c a zero all = let none : 0 ≡ 0 * c = omega arith in ap (λ n. take n (drop (a * c) all)) none
  blocks c a (suc m) all =
      let sum : c + m * c ≡ suc m * c = omega (arith, suc-mul m c) in
      let next : a * c + c ≡ (a + 1) * c = omega arith in
      ap (λ l. take c (drop (a * c) all) ++ l)
      (blocks c (a + 1) m all ∙ ap (λ n. take (m * c) (drop n all)) (sym next) ∙ ap (take (m * c)) (sym (drop-drop c (a * c) all)))
      ∙ sym (take-add c (m * c) (drop (a * c) all)) ∙ ap (λ n. take n (drop (a * c) all)) sum

-- ---- ranges that follow one another

pub turn_le : (from past : ℕ) (rs : List Seeds) → AreInTurn from rs past → from ≤ past
turn_le from past [] turn = omega (arith, turn)
turn_le from past (r ∷ rs) turn = omega (arith, turn.0, turn.1, turn_le (r.last + 1) past rs turn.2)

-- each range lies between
pub record IsWithin (from past : ℕ) (r : Seeds) : Type 0 where
  pub low : from ≤ r.first
  pub ordered : r.first ≤ r.last
  pub high : r.last < past

pub all_within : (from past : ℕ) (rs : List Seeds) → AreInTurn from rs past → All (IsWithin from past) rs
all_within from past [] turn = All-nil (IsWithin from past)
all_within from past (r ∷ rs) turn =
    let later = turn_le (r.last + 1) past rs turn.2 in
    All-cons (IsWithin from past) r rs (record { low = omega (arith, turn.0); ordered = turn.1; high = omega (arith, later) })
    (All-weaker (IsWithin (r.last + 1) past) (IsWithin from past) (λ q is. record { low = omega (arith, is.low, turn.0, turn.1); ordered = is.ordered; high = is.high }) rs
    (all_within (r.last + 1) past rs turn.2))

-- what lies in each range, one after the other, is what lies from the first seed to before the last one's end
module _ {X : Type 0} (all : List X) (base first : ℕ) where
  abbrev pub piece : Seeds → List X
  piece r = take (seed_count (Some r)) (drop (base + (r.first - first)) all)

  pub pieces : (from past : ℕ) (rs : List Seeds) → first ≤ from → AreInTurn from rs past → flat_map piece rs ≡ take (past - from) (drop (base + (from - first)) all)
  pieces from past [] low turn = let none : 0 ≡ past - from = omega (arith, turn) in ap (λ n. take n (drop (base + (from - first)) all)) none
  pieces from past (r ∷ rs) low turn =
      let n = seed_count (Some r) in
      let next = r.last + 1 in
      let later = turn_le next past rs turn.2 in
      let sum : n + (past - next) ≡ past - from = omega (arith, turn.0, turn.1, later) in
      let same : base + (r.first - first) ≡ base + (from - first) = omega (arith, turn.0) in
      let behind : base + (next - first) ≡ base + (from - first) + n = omega (arith, turn.0, turn.1, low) in
      (λ i. take n (drop (same i) all)
      ++ (pieces next past rs (omega (arith, turn.0, turn.1, low)) turn.2 ∙ ap (λ q. take (past - next) (drop q all)) behind
      ∙ ap (take (past - next)) (sym (drop-drop n (base + (from - first)) all))) i)
      ∙ sym (take-add n (past - next) (drop (base + (from - first)) all)) ∙ ap (λ q. take q (drop (base + (from - first)) all)) sum

-- ---- tables of what a whole has

module _ {X : Type 0} (settings each first : ℕ) (all : List X) where
  abbrev pub ranged_part : Seeds → Ranged X
  ranged_part r = record { seeds = r; things = part settings each first all r }

  module _ (long : length all ≡ settings * each) where
    piece_long : (r : Seeds) → IsWithin first (first + each) r → (k : ℕ) → k < settings
        → length (take (seed_count (Some r)) (drop (k * each + (r.first - first)) all)) ≡ seed_count (Some r)
    piece_long r is k low =
        let rows : k * each + each ≤ settings * each = omega (arith, suc-mul k each, mul-le (suc k) each settings each (omega (arith, low)) (omega arith)) in
        let q = k * each + (r.first - first) in
        length-take-le (seed_count (Some r)) (drop q all) (omega (arith, length-drop q all, long, rows, is.low, is.ordered, is.high))

    pub part_long : (r : Seeds) → IsWithin first (first + each) r → length (part settings each first all r) ≡ settings * seed_count (Some r)
    part_long r is =
        flat_long (λ k. take (seed_count (Some r)) (drop (k * each + (r.first - first)) all)) (seed_count (Some r)) 0 settings (λ k low. piece_long r is k (omega (arith, low)))

    setting_of_part : (r : Seeds) → IsWithin first (first + each) r → (k : ℕ) → k < settings → of_setting k (ranged_part r) ≡ piece all (k * each) first r
    setting_of_part r is k low =
        let at : 0 + k ≡ k = omega arith in
        block_at (λ number. take (seed_count (Some r)) (drop (number * each + (r.first - first)) all)) (seed_count (Some r)) 0 settings k low (λ n less. piece_long r is n (omega (arith, less)))
        ∙ ap (λ n. take (seed_count (Some r)) (drop (n * each + (r.first - first)) all)) at

    -- the tables of ranges that follow one another have all of it
    pub parts_in_turn : (rs : List Seeds) → AreInTurn first rs (first + each) → in_turn settings (map ranged_part rs) ≡ all
    parts_in_turn rs turn =
        same_each (λ k. flat_map (of_setting k) (map ranged_part rs)) (λ k. take each (drop (k * each) all)) 0 settings each_setting
        ∙ blocks each 0 settings all ∙ whole
      where
        within : All (IsWithin first (first + each)) rs
        within = all_within first (first + each) rs turn

        each_setting : (k : ℕ) → k < 0 + settings → flat_map (of_setting k) (map ranged_part rs) ≡ take each (drop (k * each) all)
        each_setting k low =
            let inside : k < settings = omega (arith, low) in
            let width : first + each - first ≡ each = omega arith in
            let at : k * each + (first - first) ≡ k * each = omega arith in
            each_mapped ranged_part (of_setting k) rs
            ∙ same_of_all (λ r. of_setting k (ranged_part r)) (piece all (k * each) first) rs
            (All-weaker (IsWithin first (first + each)) (λ r. of_setting k (ranged_part r) ≡ piece all (k * each) first r) (λ r is. setting_of_part r is k inside) rs within)
            ∙ pieces all (k * each) first first (first + each) rs (omega arith) turn ∙ (λ i. take (width i) (drop (at i) all))

        whole : take (settings * each) (drop (0 * each) all) ≡ all
        whole =
            let none : 0 * each ≡ 0 = omega arith in
            ap (λ n. take (settings * each) (drop n all)) none ∙ take_all (settings * each) all (omega (arith, long))

    -- the runs with all seeds are all
    pub part_all : (r : Seeds) → r.first ≡ first → seed_count (Some r) ≡ each → part settings each first all r ≡ all
    part_all r at whole_range =
        same_each (λ k. take (seed_count (Some r)) (drop (k * each + (r.first - first)) all)) (λ k. take each (drop (k * each) all)) 0 settings
        (λ k low. (let skip : k * each + (r.first - first) ≡ k * each = omega (arith, at) in λ i. take (whole_range i) (drop (skip i) all)))
        ∙ blocks each 0 settings all ∙ whole_list
      where
        whole_list : take (settings * each) (drop (0 * each) all) ≡ all
        whole_list =
            let none : 0 * each ≡ 0 = omega arith in
            ap (λ n. take (settings * each) (drop n all)) none ∙ take_all (settings * each) all (omega (arith, long))

-- what holds of all things holds of those with some seeds
pub all_part : {X : Type 0} (P : X → Type 0) (settings each first : ℕ) (all : List X) (r : Seeds) → All P all → All P (part settings each first all r)
all_part P settings each first all r holds = by 0 settings
  where
    by : (a m : ℕ) → All P (flat_map (λ number. take (seed_count (Some r)) (drop (number * each + (r.first - first)) all)) (range_with_len a m))
    by a zero = All-nil P
    by a (suc m) =
        All-append P (take (seed_count (Some r)) (drop (a * each + (r.first - first)) all))
        (flat_map (λ number. take (seed_count (Some r)) (drop (number * each + (r.first - first)) all)) (range_with_len (a + 1) m))
        (All-take P (seed_count (Some r)) (drop (a * each + (r.first - first)) all) (All-drop P (a * each + (r.first - first)) all holds)) (by (a + 1) m)

-- and what holds of those of all tables holds of them in their turn
pub all_in_turn : {X : Type 0} (P : X → Type 0) (settings : ℕ) (tables : List (Ranged X)) → All (λ t. All P t.things) tables → All P (in_turn settings tables)
all_in_turn {X = X} P settings tables holds = by 0 settings
  where
    of_tables : (k : ℕ) (ts : List (Ranged X)) → All (λ t. All P t.things) ts → All P (flat_map (of_setting k) ts)
    of_tables k [] all = All-nil P
    of_tables k (t ∷ ts) all =
        let n = seed_count (Some t.seeds) in
        All-append P (of_setting k t) (flat_map (of_setting k) ts)
        (All-take P n (drop (k * n) t.things) (All-drop P (k * n) t.things (All-head (λ t. All P t.things) t ts all))) (of_tables k ts (All-tail (λ t. All P t.things) t ts all))

    by : (a m : ℕ) → All P (flat_map (λ k. flat_map (of_setting k) tables) (range_with_len a m))
    by a zero = All-nil P
    by a (suc m) = All-append P (flat_map (of_setting a) tables) (flat_map (λ k. flat_map (of_setting k) tables) (range_with_len (a + 1) m)) (of_tables a tables holds) (by (a + 1) m)

-- tables have as many things as their ranges have seeds
abbrev pub IsLong : {X : Type 0} → ℕ → Ranged X → Type 0
IsLong settings t = length t.things ≡ settings * seed_count (Some t.seeds)

setting_long : {X : Type 0} (settings k first past : ℕ) (ts : List (Ranged X)) → k < settings → AreInTurn first (seeds_of_tables ts) past → All (IsLong settings) ts
    → length (flat_map (of_setting k) ts) ≡ past - first
setting_long settings k first past [] within turn long = omega (arith, turn)
setting_long settings k first past (t ∷ ts) within turn long =
    let n = seed_count (Some t.seeds) in
    let rows : k * n + n ≤ settings * n = omega (arith, suc-mul k n, mul-le (suc k) n settings n (omega (arith, within)) (omega arith)) in
    let here : length (take n (drop (k * n) t.things)) ≡ n = length-take-le n (drop (k * n) t.things) (omega (arith, length-drop (k * n) t.things, All-head (IsLong settings) t ts long, rows)) in
    let more = setting_long settings k (t.seeds.last + 1) past ts within turn.2 (All-tail (IsLong settings) t ts long) in
    let later = turn_le (t.seeds.last + 1) past (seeds_of_tables ts) turn.2 in
    omega (arith, here, more, later, turn.0, turn.1, length-append (of_setting k t) (flat_map (of_setting k) ts))

pub turn_long : {X : Type 0} (settings first past : ℕ) (ts : List (Ranged X)) → AreInTurn first (seeds_of_tables ts) past → All (IsLong settings) ts → length (in_turn settings ts) ≡ settings * (past - first)
turn_long settings first past ts turn long =
    flat_long (λ k. flat_map (of_setting k) ts) (past - first) 0 settings (λ k low. setting_long settings k first past ts (omega (arith, low)) turn long)

-- ---- what is made of each thing

abbrev pub ranged_map : {X Y : Type 0} → (X → Y) → Ranged X → Ranged Y
ranged_map f t = record { seeds = t.seeds; things = map f t.things }

pub setting_mapped : {X Y : Type 0} (f : X → Y) (number : ℕ) (t : Ranged X) → of_setting number (ranged_map f t) ≡ map f (of_setting number t)
setting_mapped f number t =
    let n = seed_count (Some t.seeds) in
    ap (take n) (drop-map f (number * n) t.things) ∙ take-map f n (drop (number * n) t.things)

pub turn_mapped : {X Y : Type 0} (f : X → Y) (settings : ℕ) (tables : List (Ranged X)) → in_turn settings (map (ranged_map f) tables) ≡ map f (in_turn settings tables)
turn_mapped {X = X} f settings tables =
    same_each (λ k. flat_map (of_setting k) (map (ranged_map f) tables)) (λ k. map f (flat_map (of_setting k) tables)) 0 settings each_setting
    ∙ sym (mapped_each f (λ k. flat_map (of_setting k) tables) (range_with_len 0 settings))
  where
    each_setting : (k : ℕ) → k < 0 + settings → flat_map (of_setting k) (map (ranged_map f) tables) ≡ map f (flat_map (of_setting k) tables)
    each_setting k low =
        each_mapped (ranged_map f) (of_setting k) tables ∙ of_tables tables ∙ sym (mapped_each f (of_setting k) tables)
      where
        of_tables : (ts : List (Ranged X)) → flat_map (λ t. of_setting k (ranged_map f t)) ts ≡ flat_map (λ t. map f (of_setting k t)) ts
        of_tables [] = refl
        of_tables (t ∷ ts) = (λ i. setting_mapped f k t i ++ of_tables ts i)

-- ---- two kinds of things of the same tables

module _ {X Y : Type 0} (R : X → Y → Type 0) where
  pub zipped_take : (n : ℕ) (xs : List X) (ys : List Y) → AllZip R xs ys → AllZip R (take n xs) (take n ys)
  zipped_take zero xs ys all = tt
  zipped_take (suc n) [] [] all = tt
  zipped_take (suc n) [] (y ∷ ys) all = absurd all
  zipped_take (suc n) (x ∷ xs) [] all = absurd all
  zipped_take (suc n) (x ∷ xs) (y ∷ ys) all = (all.0, zipped_take n xs ys all.1)

  pub zipped_drop : (n : ℕ) (xs : List X) (ys : List Y) → AllZip R xs ys → AllZip R (drop n xs) (drop n ys)
  zipped_drop zero xs ys all = all
  zipped_drop (suc n) [] [] all = tt
  zipped_drop (suc n) [] (y ∷ ys) all = absurd all
  zipped_drop (suc n) (x ∷ xs) [] all = absurd all
  zipped_drop (suc n) (x ∷ xs) (y ∷ ys) all = zipped_drop n xs ys all.1

  pub zipped_append : (xs zs : List X) (ys ws : List Y) → AllZip R xs ys → AllZip R zs ws → AllZip R (xs ++ zs) (ys ++ ws)
  zipped_append [] zs [] ws a b = b
  zipped_append [] zs (y ∷ ys) ws a b = absurd a
  zipped_append (x ∷ xs) zs [] ws a b = absurd a
  zipped_append (x ∷ xs) zs (y ∷ ys) ws a b = (a.0, zipped_append xs zs ys ws a.1 b)

  abbrev pub AreAlikeAll : List (Ranged X) → List (Ranged Y) → Type 0
  AreAlikeAll ss ts = AllZip (λ s t. (s.seeds ≡ t.seeds) × AllZip R s.things t.things) ss ts

  zipped_setting : (k : ℕ) (ss : List (Ranged X)) (ts : List (Ranged Y)) → AreAlikeAll ss ts → AllZip R (flat_map (of_setting k) ss) (flat_map (of_setting k) ts)
  zipped_setting k [] [] all = tt
  zipped_setting k [] (t ∷ ts) all = absurd all
  zipped_setting k (s ∷ ss) [] all = absurd all
  zipped_setting k (s ∷ ss) (t ∷ ts) all =
      let n = seed_count (Some t.seeds) in
      let same : seed_count (Some s.seeds) ≡ n = ap (λ (r : Seeds). seed_count (Some r)) all.0.0 in
      let here : AllZip R (take n (drop (k * n) s.things)) (take n (drop (k * n) t.things)) = zipped_take n _ _ (zipped_drop (k * n) s.things t.things all.0.1) in
      zipped_append (of_setting k s) (flat_map (of_setting k) ss) (of_setting k t) (flat_map (of_setting k) ts)
      (subst (λ m. AllZip R (take m (drop (k * m) s.things)) (of_setting k t)) (sym same) here) (zipped_setting k ss ts all.1)

  pub zipped_turn : (settings : ℕ) (ss : List (Ranged X)) (ts : List (Ranged Y)) → AreAlikeAll ss ts → AllZip R (in_turn settings ss) (in_turn settings ts)
  zipped_turn settings ss ts all = by 0 settings
    where
      by : (a m : ℕ) → AllZip R (flat_map (λ k. flat_map (of_setting k) ss) (range_with_len a m)) (flat_map (λ k. flat_map (of_setting k) ts) (range_with_len a m))
      by a zero = tt
      by a (suc m) =
          zipped_append (flat_map (of_setting a) ss) (flat_map (λ k. flat_map (of_setting k) ss) (range_with_len (a + 1) m)) (flat_map (of_setting a) ts)
          (flat_map (λ k. flat_map (of_setting k) ts) (range_with_len (a + 1) m)) (zipped_setting a ss ts all) (by (a + 1) m)
