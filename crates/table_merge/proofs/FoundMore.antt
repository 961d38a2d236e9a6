-- Which text is a table with which seeds, one text more at a time, and why texts aren't put together.
use Rattle.std.proofs.Common.{◌≡◌, ◌≢◌, ◌∙◌, ◌<◌, ◌≤◌, ◌+◌, ◌^◌, ◌⊎◌, ℕ, Bool, true, false, List, [], ◌∷◌, ◌++◌, length, map, take, drop, inl, inr, refl, sym, ap, subst, arith}
use Rattle.std.specs.Prelude.{All, Vec, nat_eq, IfOk, Result, Ok, Err}
use Rattle.std.specs.List.{Contains, insert}
use Rattle.std.specs.declared.alloc.Global.{Global}
use Rattle.std.proofs.lemmas.Bool.Decides.{nat_tests}
use Rattle.std.proofs.lemmas.List.{take-append-drop}
use Rattle.std.proofs.lemmas.Option.{slice_get_within}
use Rattle.std.proofs.lemmas.List.Edits.{length-insert}
use Rattle.std.proofs.lemmas.List.Elements.{All-append, All-cons, All-contains, All-drop, All-nil, All-take, All-weaker, Contains-append_cases, Contains-append_left, Contains-append_right}
use Rattle.sweep_plan.specs.Sweep.{Sweep, run_count}
use Rattle.sweep_plan.specs.declared.seeds.Seeds.{Seeds}
use Rattle.shards.specs.declared.shard.Shard.{Shard}
use Rattle.shards.specs.Shards.{whole}
use Rattle.shards.proofs.Whole.{whole_is_shard}
use Rattle.sweep.specs.Runs.{IsAskedFor}
use Rattle.sweep.specs.Shards.{shard_header}
use Rattle.shard_merge.specs.Joined.{IsMark}
use Rattle.shard_merge.specs.Reasons.{BeginsAs, HasNoHead, IsFirst, IsNoShard, IsTextAt}
use Rattle.shard_merge.proofs.PlacesMore.{one_text}
use Rattle.shard_merge.specs.Reasons.{IsReason as IsShardsReason}
use Rattle.shard_merge.specs.declared.fault.JoinFault.{JoinFault}
use Rattle.shard_merge.specs.declared.fault.JoinFault.TheVariants as shards
use Rattle.table_merge.specs.Seeds.{AreInTurn, with_seeds}
use Rattle.table_merge.specs.Found.{AreApart, AreFound, AreSeveral, BeginsAsTable, HaveRange, HaveSeeds, IsFound, IsTableAt}
use Rattle.table_merge.specs.Reasons.{IsOfShards, IsOtherTable, IsReason, IsTooMany, RefusesIn, RefusesOrder, RefusesTable}
use Rattle.table_merge.specs.declared.fault.MergeFault.{MergeFault}
use Rattle.table_merge.specs.declared.fault.MergeFault.TheVariants as fault
use Rattle.table_merge.specs.declared.finding.Found.{Found}
use Rattle.table_merge.proofs.Turns.{turn_le}
use Rattle.table_merge.proofs.Ones.{again_with, asked_range, one_head, one_range, range_at}
use Rattle.figures.specs.declared.column_set.ColumnSet.{ColumnSet}

-- ---- one table more

-- what is in a list is in it with one more
stays : (xs : List Found) (at : ℕ) (x y : Found) → Contains xs y → Contains (insert xs at x) y
stays xs at x y there = by (Contains-append_cases (take at xs) (drop at xs) y (subst (λ l. Contains l y) (sym (take-append-drop at xs)) there))
  where
    by : Contains (take at xs) y ⊎ Contains (drop at xs) y → Contains (insert xs at x) y
    by (inl front) = Contains-append_left (take at xs) (x ∷ drop at xs) y front
    by (inr back) = Contains-append_right (take at xs) (x ∷ drop at xs) y (Contains-append_right (x ∷ []) (drop at xs) y back)

taken : (xs : List Found) (at : ℕ) (x : Found) → Contains (insert xs at x) x
taken xs at x = Contains-append_right (take at xs) (x ∷ drop at xs) x (0, omega arith, refl)

-- the last of ranges that follow one another
last_range : (from past : ℕ) (f : Found) (tables : List Found) → AreInTurn from (map (λ (g : Found). g.seeds) (f ∷ tables)) past → (g : Found) × Contains (f ∷ tables) g × (g.seeds.last + 1 ≡ past)
last_range from past f [] turn = (f, (0, omega arith, refl), turn.2)
last_range from past f (g ∷ tables) turn =
    let last = last_range (f.seeds.last + 1) past g tables turn.2 in
    (last.0, Contains-append_right (f ∷ []) (g ∷ tables) last.0 last.1, last.2)

module _ (texts : List (Vec ℕ Global)) (mark : List ℕ) (columns : ColumnSet) (sweep : Sweep) where
  pub none_found : AreFound texts mark columns sweep [] 0
  none_found = record {
    as_many = refl;
    each = All-nil (IsFound texts mark columns sweep 0);
    apart = tt;
    kept = λ place r before there. absurd (omega (arith, before));
  }

  pub found_more : (tables more : List Found) (at place : ℕ) (r : Seeds) → AreFound texts mark columns sweep tables place → IsTableAt texts mark columns sweep place r → at ≤ length tables
      → more ≡ insert tables at (record { place = place; seeds = r }) → AreApart 0 more → AreFound texts mark columns sweep more (place + 1)
  found_more tables more at place r so there within is apart =
      let own : Found = record { place = place; seeds = r } in
      let Later : Found → Type 0 = IsFound texts mark columns sweep (place + 1) in
      let later : All Later tables =
      All-weaker (IsFound texts mark columns sweep place) Later (λ f held. record { before = omega (arith, held.before); table = held.table }) tables so.each in
      record {
        as_many = ap length is ∙ length-insert tables at own within ∙ ap (λ n. n + 1) so.as_many;
        each = subst (All Later) (sym is)
            (All-append Later (take at tables) (own ∷ drop at tables) (All-take Later at tables later)
            (All-cons Later own (drop at tables) (record { before = omega arith; table = there }) (All-drop Later at tables later)));
        apart = apart;
        kept = λ k q before at_k. subst (λ l. HaveRange l q) (sym is) (kept k q before at_k (nat_eq k place) refl);
      }
    where
      kept : (k : ℕ) (q : Seeds) → k < place + 1 → IsTableAt texts mark columns sweep k q → (b : Bool) → nat_eq k place ≡ b
          → HaveRange (insert tables at (record { place = place; seeds = r })) q
      kept k q before at_k true e =
          let same : k ≡ place = grind (arith, nat_tests) in
          let one : r ≡ q = range_at texts mark columns sweep place r q there (subst (λ n. IsTableAt texts mark columns sweep n q) same at_k) in
          (record { place = place; seeds = r }, taken tables at (record { place = place; seeds = r }), one)
      kept k q before at_k false e =
          let differs : k ≢ place = λ same. let yes : nat_eq k place ≡ true = grind (arith, nat_tests) in cc in
          let old = so.kept k q (omega (arith, before, differs)) at_k in
          (old.0, stays tables at (record { place = place; seeds = r }) old.0 old.1, old.2)

  -- ---- why not

  module _ (seeds : Seeds) (several : AreSeveral texts mark columns sweep seeds) where
    pub overlap_reason : (tables : List Found) (place : ℕ) (r : Seeds) (f : MergeFault) → AreFound texts mark columns sweep tables place → IsTableAt texts mark columns sweep place r
        → RefusesIn tables (record { place = place; seeds = r }) f → IsReason texts f
    overlap_reason tables place r (fault.Overlap at other) so there h =
        let g = h.1.0 in
        let held = All-contains (IsFound texts mark columns sweep place) tables g so.each h.1.1 in
        record {
          mark = mark;
          columns = columns;
          sweep = sweep;
          seeds = seeds;
          are = several;
          before = omega (arith, held.before, h.1.2, h.0);
          own = r;
          own_there = subst (λ n. IsTableAt texts mark columns sweep n r) (sym h.0) there;
          its = g.seeds;
          its_there = subst (λ n. IsTableAt texts mark columns sweep n g.seeds) (sym h.1.2) held.table;
          shared = h.1.3;
        }
    overlap_reason tables place r (fault.Shards cause) so there h = subst (IsOfShards texts) (sym h) tt
    overlap_reason tables place r (fault.Gap at other) so there h = absurd h
    overlap_reason tables place r fault.TooMany so there h = absurd h

    pub gap_reason : (tables : List Found) (f : MergeFault) → AreFound texts mark columns sweep tables (length texts) → RefusesOrder tables f → IsReason texts f
    gap_reason tables (fault.Gap place other) so h = record {
      mark = mark;
      columns = columns;
      sweep = sweep;
      seeds = seeds;
      are = several;
      below = h.below.seeds;
      below_there = subst (λ n. IsTableAt texts mark columns sweep n h.below.seeds) h.below_at
          (All-contains (IsFound texts mark columns sweep (length texts)) tables h.below so.each h.below_in).table;
      above = h.above.seeds;
      above_there = subst (λ n. IsTableAt texts mark columns sweep n h.above.seeds) h.above_at
          (All-contains (IsFound texts mark columns sweep (length texts)) tables h.above so.each h.above_in).table;
      apart = h.apart;
      none = λ at r there.
          let held = so.kept at r (slice_get_within texts at there.there.0 there.there.1) there in
          subst (λ (q : Seeds). (q.last ≤ h.below.seeds.last) ⊎ (h.above.seeds.first ≤ q.first)) held.2 (h.none held.0 held.1);
    }
    gap_reason tables (fault.Shards cause) so h = absurd h
    gap_reason tables (fault.Overlap place other) so h = absurd h
    gap_reason tables fault.TooMany so h = absurd h

    pub table_reason : (text : List ℕ) (place : ℕ) (f : JoinFault) → IsTextAt texts place text → RefusesTable text mark columns sweep place f → IsOfShards texts f
    table_reason text place (shards.NoShard at) there h = subst (IsNoShard texts) (sym h.0) (inr (text, there, h.1))
    table_reason text place (shards.Other at) there h =
        inr (subst (IsOtherTable texts) (sym h.0) (record { mark = mark; columns = columns; sweep = sweep; seeds = seeds; are = several; text = text; there = there; none = h.1 }))
    table_reason text place shards.Memory there h = tt
    table_reason text place shards.Write there h = absurd h
    table_reason text place (shards.Doubled at) there h = absurd h
    table_reason text place (shards.Torn at) there h = absurd h
    table_reason text place (shards.Older at) there h = absurd h
    table_reason text place (shards.Missing number) there h = absurd h

    -- the seeds of all tables, the first and the last of which are there
    pub many_reason : (tables : List Found) (all : Seeds) → AreFound texts mark columns sweep tables (length texts) → 0 < length tables
        → AreInTurn all.first (map (λ (f : Found). f.seeds) tables) (all.last + 1) → 1000000 < run_count (with_seeds sweep all) → IsTooMany texts
    many_reason [] all so some turn many = absurd (omega (arith, some))
    many_reason (f ∷ tables) all so some turn many =
        let last = last_range all.first (all.last + 1) f tables turn in
        let first = All-contains (IsFound texts mark columns sweep (length texts)) (f ∷ tables) f so.each (0, omega arith, refl) in
        let greatest = All-contains (IsFound texts mark columns sweep (length texts)) (f ∷ tables) last.0 so.each last.1 in
        let same_first : all.first ≡ f.seeds.first = sym turn.0 in
        let same_last : all.last ≡ last.0.seeds.last = omega (arith, last.2) in
        record {
          mark = mark;
          columns = columns;
          sweep = sweep;
          seeds = seeds;
          are = several;
          least = f.seeds;
          at_least = f.place;
          least_there = first.table;
          greatest = last.0.seeds;
          at_greatest = last.0.place;
          greatest_there = greatest.table;
          many = subst (λ (r : Seeds). 1000000 < run_count (with_seeds sweep r)) (λ i. record { first = same_first i; last = same_last i }) many;
        }

    -- from the first seed of all to the last, of which one table has each
    pub all_range : (tables : List Found) (all : Seeds) → AreFound texts mark columns sweep tables (length texts) → 0 < length tables
        → AreInTurn all.first (map (λ (f : Found). f.seeds) tables) (all.last + 1) → (all.first ≤ all.last) × (all.last < 2 ^ 63)
    all_range [] all so some turn = absurd (omega (arith, some))
    all_range (f ∷ tables) all so some turn =
        let last = last_range all.first (all.last + 1) f tables turn in
        let greatest = (All-contains (IsFound texts mark columns sweep (length texts)) (f ∷ tables) last.0 so.each last.1).table in
        let range = asked_range (with_seeds sweep last.0.seeds) sweep last.0.seeds greatest.begins.asked refl in
        let later = turn_le (f.seeds.last + 1) (all.last + 1) (map (λ (g : Found). g.seeds) tables) turn.2 in
        (omega (arith, turn.0, turn.1, later), omega (arith, last.2, range.1))

-- ---- the first text alone

pub head_reason : (texts : List (Vec ℕ Global)) (f : JoinFault) → IsShardsReason texts f → HasNoHead f → IsOfShards texts f
head_reason texts (shards.NoShard place) reason h = reason
head_reason texts shards.Memory reason h = tt
head_reason texts shards.Write reason h = tt
head_reason texts (shards.Other place) reason h = absurd h
head_reason texts (shards.Doubled place) reason h = absurd h
head_reason texts (shards.Torn place) reason h = absurd h
head_reason texts (shards.Older place) reason h = absurd h
head_reason texts (shards.Missing number) reason h = absurd h

pub shards_reason : (texts : List (Vec ℕ Global)) (f : JoinFault) → ¬ (HaveSeeds texts) → IsShardsReason texts f → IsOfShards texts f
shards_reason texts (shards.NoShard place) none reason = reason
shards_reason texts (shards.Other place) none reason = inl (none, reason)
shards_reason texts (shards.Doubled place) none reason = reason
shards_reason texts (shards.Torn place) none reason = reason
shards_reason texts (shards.Older place) none reason = reason
shards_reason texts (shards.Missing number) none reason = reason
shards_reason texts shards.Write none reason = tt
shards_reason texts shards.Memory none reason = tt

-- ---- what a text begins as

pub begins_if : {E : Type 0} (text mark m : List ℕ) (columns b : ColumnSet) (plan s : Sweep) (p : Shard) (r : Seeds) → IsMark mark → IsAskedFor s → m ≡ mark → s ≡ with_seeds plan r → b ≡ columns → p ≡ whole
    → (result : Result Bool E) → IfOk result (λ it. it ≡ true → (rest : List ℕ) × (text ≡ shard_header b m s p ++ rest))
    → IfOk result (λ it. it ≡ true → BeginsAsTable text mark columns plan r)
begins_if text mark m columns b plan s p r marked asked marks sweep column shard (Ok it) begins = λ yes.
    let front = begins yes in
    record {
      asked = subst IsAskedFor sweep asked;
      marked = marked;
      sound = whole_is_shard;
      rest = front.0;
      written = front.1 ∙ (λ i. shard_header (column i) (marks i) (sweep i) (shard i) ++ front.0);
    }
begins_if text mark m columns b plan s p r marked asked marks sweep column shard (Err e) begins = tt

pub other_if : {E : Type 0} (text mark m : List ℕ) (columns b : ColumnSet) (plan s : Sweep) (p : Shard) (r : Seeds) → m ≡ mark → s ≡ with_seeds plan r → b ≡ columns → p ≡ whole
    → (result : Result Bool E) → IfOk result (λ it. it ≡ false → (rest : List ℕ) → ¬ (text ≡ shard_header b m s p ++ rest))
    → IfOk result (λ it. it ≡ false → ¬ (BeginsAsTable text mark columns plan r))
other_if text mark m columns b plan s p r marks sweep column shard (Ok it) other = λ no begins.
    other no begins.rest (begins.written ∙ (λ i. shard_header (sym column i) (sym marks i) (sym sweep i) (sym shard i) ++ begins.rest))
other_if text mark m columns b plan s p r marks sweep column shard (Err e) other = tt

-- the first text isn't a table with seeds
pub none_several : (texts : List (Vec ℕ Global)) (mark : List ℕ) (columns : ColumnSet) (plan : Sweep) (p : Shard) → IsFirst texts mark columns plan p
    → ((r : Seeds) → p.of ≡ 1 → ¬ (plan ≡ with_seeds plan r)) → ¬ (HaveSeeds texts)
none_several texts mark columns plan p first none have =
    let table = have.are.first in
    let begins = subst (λ t. BeginsAsTable t have.mark have.columns have.sweep have.seeds) (one_text texts 0 first.text table.text first.there table.there) table.begins in
    let one = one_head first.text mark have.mark columns have.columns plan (with_seeds have.sweep have.seeds) p whole first.begins begins in
    none have.seeds (ap (λ (q : Shard). q.of) one.shard) (again_with plan have.sweep have.seeds one.sweep)

-- a text that begins as no shard of such a table begins as no table
pub others_none : (text words mark : List ℕ) (columns : ColumnSet) (plan : Sweep) → words ≡ text → ((m : List ℕ) (s : Sweep) (p : Shard) → ¬ (BeginsAs words m columns s p))
    → (r : Seeds) → ¬ (BeginsAsTable text mark columns plan r)
others_none text words mark columns plan same none r begins =
    none mark (with_seeds plan r) whole (subst (λ t. BeginsAsTable t mark columns plan r) (sym same) begins)

-- one that begins as another shard begins as none
pub none_begin : (text words mark m : List ℕ) (columns b : ColumnSet) (plan s : Sweep) (p : Shard) → words ≡ text → BeginsAs words m b s p → ((r : Seeds) → p.of ≡ 1 → ¬ (s ≡ with_seeds s r))
    → (r : Seeds) → ¬ (BeginsAsTable text mark columns plan r)
none_begin text words mark m columns b plan s p same its none r begins =
    let one = one_head words m mark b columns s (with_seeds plan r) p whole its (subst (λ t. BeginsAsTable t mark columns plan r) (sym same) begins) in
    none r (ap (λ (q : Shard). q.of) one.shard) (again_with s plan r one.sweep)

-- one that begins as a table with these seeds begins as none with others
pub other_seeds : (text words mark m : List ℕ) (columns b : ColumnSet) (plan s : Sweep) (p : Shard) (q : Seeds) → words ≡ text → BeginsAs words m b s p → s ≡ with_seeds s q
    → ¬ (BeginsAsTable text mark columns plan q) → (r : Seeds) → ¬ (BeginsAsTable text mark columns plan r)
other_seeds text words mark m columns b plan s p q same its own none r begins =
    let one = one_head words m mark b columns s (with_seeds plan r) p whole its (subst (λ t. BeginsAsTable t mark columns plan r) (sym same) begins) in
    let seeds : r ≡ q = one_range plan s r q (sym one.sweep ∙ own) in
    none (subst (BeginsAsTable text mark columns plan) seeds begins)
