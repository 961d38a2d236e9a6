-- What shards have of the things of a whole, be they runs' lines or settings.
use Rattle.std.proofs.Common.{◌≡◌, ◌∙◌, ◌<◌, ◌≤◌, ◌+◌, ◌-◌, ◌*◌, ◌/◌, ℕ, zero, suc, Bool, true, false, List, ◌++◌, length, length-drop, map, take, drop, refl, sym, ap, arith, div-lt_iff_lt-mul}
use Rattle.std.specs.Prelude.{All, nat_le}
use Rattle.std.specs.List.{flat_map}
use Rattle.std.proofs.Math.Seq.{take-add, take-append-le, drop-append-le, drop_at, length-take-le}
use Rattle.std.proofs.lemmas.Bool.Decides.{nat_tests}
use Rattle.std.proofs.lemmas.List.{drop-map, take-map, take_all}
use Rattle.std.proofs.lemmas.List.Elements.{All-drop, All-take}
use Rattle.shards.specs.declared.shard.Shard.{Shard}
use Rattle.shards.specs.Shards.{IsShard, first_run, past_run, whole}
use Rattle.shards.proofs.Bounds.{share_grows, share_within, whole_share}
use Rattle.shards.proofs.Whole.{first_of_whole, past_of_whole, whole_is_shard}
use Rattle.table_rows.proofs.Items.{same_items}
use Rattle.shard_merge.specs.Among.{shard_at}
use Rattle.shard_merge.specs.Behind.{share, share_of}
use Rattle.shard_merge.specs.Joined.{AreShared}

-- no share is none of them
pub no_share : (of total : ℕ) → 0 < of → 0 * total / of ≡ 0
no_share of total some =
    let none : 0 * total < 1 * of = omega (arith, some) in
    let below : 0 * total / of < 1 = (div-lt_iff_lt-mul some).1 none in
    omega (arith, below)

-- the share of a shard is within the whole
pub share_in : (p : Shard) (total : ℕ) → IsShard p → first_run p total + share total p ≤ total
share_in p total sound =
    let some : 0 < p.of = omega (arith, sound.least, sound.most) in
    let grows : first_run p total ≤ past_run p total = share_grows (p.number - 1) p.number p.of total (omega arith) some in
    let within : past_run p total ≤ total = share_within p.number p.of total sound.most some in
    omega (arith, grows, within)

-- the only shard has all
pub share_of_whole : {X : Type 0} (total : ℕ) (things : List X) → length things ≡ total → share_of total whole things ≡ things
share_of_whole total things many =
    ap (λ n. take (past_run whole total - n) (drop n things)) (first_of_whole total)
    ∙ take_all (past_run whole total - 0) things (omega (arith, past_of_whole total, many))

-- those before a number stay, whatever comes behind
pub share_kept : {X : Type 0} (things more : List X) (total : ℕ) (p : Shard) → past_run p total ≤ length things → share_of total p (things ++ more) ≡ share_of total p things
share_kept things more total p le = by (nat_le (first_run p total) (past_run p total)) refl
  where
    by : (b : Bool) → nat_le (first_run p total) (past_run p total) ≡ b → share_of total p (things ++ more) ≡ share_of total p things
    by true e =
        let ordered : first_run p total ≤ past_run p total = grind (arith, nat_tests) in
        let left : share total p ≤ length (drop (first_run p total) things) = omega (arith, le, length-drop (first_run p total) things) in
        ap (take (share total p)) (drop-append-le (first_run p total) things more (omega (arith, ordered, le))) ∙ take-append-le (share total p) (drop (first_run p total) things) more left
    by false e =
        let past : past_run p total < first_run p total = grind (arith, nat_tests) in
        let none : share total p ≡ 0 = omega (arith, past) in
        ap (λ n. take n (drop (first_run p total) (things ++ more))) none ∙ sym (ap (λ n. take n (drop (first_run p total) things)) none)

-- those behind are the last
pub share_behind : {X : Type 0} (things more : List X) (total : ℕ) (p : Shard) → length things ≡ first_run p total → length more ≡ share total p → share_of total p (things ++ more) ≡ more
share_behind things more total p at long =
    ap (take (share total p)) (drop_at things more (first_run p total) at) ∙ take_all (share total p) more (omega (arith, long))

-- the shares of the first shards are the first things
module _ (of total : ℕ) where
  abbrev pub upto : ℕ → ℕ
  upto count = count * total / of

  pub first_is : (number : ℕ) → first_run (shard_at number of) total ≡ upto number
  first_is number = let less : number + 1 - 1 ≡ number = omega arith in ap upto less

  pub grows : (number : ℕ) → 0 < of → upto number ≤ upto (number + 1)
  grows number some = share_grows number (number + 1) of total (omega arith) some

  module _ {X : Type 0} (some : 0 < of) where
    pub share_more : (number : ℕ) (things : List X) → take (upto (number + 1)) things ≡ take (upto number) things ++ share_of total (shard_at number of) things
    share_more number things =
        let count = share total (shard_at number of) in
        let first = first_is number in
        let more = grows number some in
        let sum : upto number + count ≡ upto (number + 1) = omega (arith, first, more) in
        ap (λ n. take n things) (sym sum) ∙ take-add (upto number) count things ∙ ap (λ n. take (upto number) things ++ take count (drop n things)) (sym first)

    module _ (xs ys : List X) (same : (number : ℕ) → number < of → share_of total (shard_at number of) xs ≡ share_of total (shard_at number of) ys) where
      same_first : (count : ℕ) → count ≤ of → take (upto count) xs ≡ take (upto count) ys
      same_first zero le =
          let none : upto 0 ≡ 0 = no_share of total some in
          ap (λ n. take n xs) none ∙ sym (ap (λ n. take n ys) none)
      same_first (suc number) le =
          let next : suc number ≡ number + 1 = omega arith in
          let so = same_first number (omega (arith, le)) in
          let here = same number (omega (arith, le)) in
          ap (λ n. take (upto n) xs) next ∙ share_more number xs ∙ (λ i. so i ++ here i) ∙ sym (ap (λ n. take (upto n) ys) next ∙ share_more number ys)

      -- lists of which all shards have the same
      pub same_by_shards : length xs ≡ total → length ys ≡ total → xs ≡ ys
      same_by_shards long long_too =
          let all : upto of ≡ total = whole_share of total some in
          sym (take_all (upto of) xs (omega (arith, all, long))) ∙ same_first of (omega arith) ∙ take_all (upto of) ys (omega (arith, all, long_too))

-- a share of what is made of each thing is made of the share
pub share_map : {X Y : Type 0} (f : X → Y) (total : ℕ) (p : Shard) (things : List X) → share_of total p (map f things) ≡ map f (share_of total p things)
share_map f total p things = ap (take (share total p)) (drop-map f (first_run p total) things) ∙ take-map f (share total p) (drop (first_run p total) things)

-- shards with the texts of those of other things have these, where one text is of one list of them
module _ {X : Type 0} (Sound : X → Type 0) (text_of : X → List ℕ) (one : (a b : X) (x y : List ℕ) → Sound a → Sound b → text_of a ++ x ≡ text_of b ++ y → (a ≡ b) × (x ≡ y))
    (total : ℕ) (Holds : List X → Type 0) (body : Shard → List ℕ) (are : AreShared Sound text_of total Holds body) (of : ℕ) (some : 0 < of) (few : of ≤ 10000) (things : List X)
    (sound : All Sound things) (many : length things ≡ total)
    (there : (number : ℕ) → number < of → body (shard_at number of) ≡ flat_map text_of (share_of total (shard_at number of) things)) where
  share_long : (number : ℕ) → number < of → (xs : List X) → length xs ≡ total → length (share_of total (shard_at number of) xs) ≡ share total (shard_at number of)
  share_long number within xs long =
      let p = shard_at number of in
      let le : past_run p total ≤ total = share_within (number + 1) of total (omega (arith, within)) some in
      length-take-le (share total p) (drop (first_run p total) xs) (omega (arith, le, long, length-drop (first_run p total) xs))

  share_sound : (p : Shard) (xs : List X) → All Sound xs → All Sound (share_of total p xs)
  share_sound p xs all = All-take Sound (share total p) (drop (first_run p total) xs) (All-drop Sound (first_run p total) xs all)

  share_same : (number : ℕ) → number < of → share_of total (shard_at number of) are.things ≡ share_of total (shard_at number of) things
  share_same number within =
      let p = shard_at number of in
      let shard : IsShard p = record { least = omega arith; most = omega (arith, within); few = few } in
      same_items Sound text_of one _ _ (share_sound p are.things are.sound) (share_sound p things sound)
      (share_long number within are.things are.many ∙ sym (share_long number within things many)) (sym (are.behind p shard) ∙ there number within)

  pub same_things : are.things ≡ things
  same_things = same_by_shards of total some are.things things share_same are.many many

  -- and behind the first line of the only shard stand all of them
  pub all_behind : body whole ≡ flat_map text_of things
  all_behind = are.behind whole whole_is_shard ∙ ap (flat_map text_of) (share_of_whole total are.things are.many ∙ same_things)
