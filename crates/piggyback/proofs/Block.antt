-- The others that go before all that were sent move forward together, and what is behind them is merged.
use Rattle.std.proofs.Common.{◌≡◌, ℕ, suc, ◌+◌, ◌-◌, ◌<◌, ◌≤◌, true, false, List, [], ◌∷◌, ◌++◌, length, get_or, take, drop, refl, sym, ap, subst, ◌∙◌, inl, inr, arith, take_all, take_at, drop_at, take-take, drop-drop, length-drop, length-take-le}
use Rattle.std.specs.List.{position_or_len}
use Rattle.std.proofs.lemmas.Bool.{cases_Bool}
use Rattle.std.proofs.lemmas.List.{append_assoc, append-nil, drop_all, drop-take}
use borrow.Rule.Slice.PartMut.{put_mid}
use Rattle.piggyback.specs.Picked.{Counted, goes_before}
use Rattle.piggyback.specs.Keyed.{is_in_order, all_placed}
use Rattle.piggyback.proofs.Sorting.{IsInOrder}
use Rattle.piggyback.proofs.Sending.{order_is}
use Rattle.piggyback.proofs.Merging.{next_first, drop_at as from_place}

none_passed : (x y : Counted) (ys : List Counted) → goes_before x y ≡ true → position_or_len (goes_before x) (y ∷ ys) ≡ 0
none_passed x y ys first = rw first refl

one_passed : (x y : Counted) (ys : List Counted) → goes_before x y ≡ false → position_or_len (goes_before x) (y ∷ ys) ≡ suc (position_or_len (goes_before x) ys)
one_passed x y ys later = rw later (omega arith)

-- what the first of those that were sent passes by comes before all of those
block_first : (x : Counted) (xs ys : List Counted) → IsInOrder (x ∷ xs) → all_placed ys (x ∷ xs) ≡ take (position_or_len (goes_before x) ys) ys ++ all_placed (drop (position_or_len (goes_before x) ys) ys) (x ∷ xs)
block_first x xs [] ordered = refl
block_first x xs (y ∷ ys) ordered =
    let after = λ (k : ℕ). take k (y ∷ ys) ++ all_placed (drop k (y ∷ ys)) (x ∷ xs) in
    elim (cases_Bool (goes_before x y)) [
      | inl first ↦ ap after (sym (none_passed x y ys first))
      | inr later ↦ next_first x y ys xs ordered later ∙ ap (λ l. y ∷ l) (block_first x xs ys ordered) ∙ ap after (sym (one_passed x y ys later))
    ]

-- what is behind a block, and what stands when something else is written there
module _ (block front rest : List Counted) (n k : ℕ) (of_block : length block ≡ k) (of_front : length front ≡ n) where
  abbrev whole : List Counted
  whole = (block ++ front) ++ rest

  behind : drop k whole ≡ front ++ rest
  behind = ap (drop k) (append_assoc block front rest) ∙ drop_at block (front ++ rest) k of_block

  before : take k whole ≡ block
  before = ap (take k) (append_assoc block front rest) ∙ take_at block (front ++ rest) k of_block

  left_behind : drop n (take (length whole - k) (drop k whole)) ≡ rest
  left_behind = ap (drop n) (take_all (length whole - k) (drop k whole) (omega (arith, length-drop k whole)) ∙ behind) ∙ drop_at front rest n of_front

  nothing_left : drop (length whole - k) (drop k whole) ≡ []
  nothing_left = drop_all (length whole - k) (drop k whole) (omega (arith, length-drop k whole))

  written_behind : (merged : List Counted) → put_mid k (length whole - k) whole merged ≡ block ++ merged
  written_behind merged = (λ i. before i ++ (merged ++ nothing_left i)) ∙ ap (λ l. block ++ l) (append-nil merged)

-- the block before those that were sent, which the first of them passes by, and what is merged behind it
module _ (these sent : List Counted) (k : ℕ) (x : Counted) (ordered : is_in_order sent ≡ true) (some : 0 < length sent) (fits : length sent + k ≤ length these) (is : x ≡ get_or sent 0 x) (passed : k ≡ position_or_len (goes_before x) (drop (length sent) these)) where
  abbrev block : List Counted
  block = take k (drop (length sent) these)

  abbrev front : List Counted
  front = take (length sent) these

  abbrev pub rest : List Counted
  rest = drop (length sent + k) these

  of_block : length block ≡ k
  of_block = length-take-le k (drop (length sent) these) (omega (arith, fits, length-drop (length sent) these))

  of_front : length front ≡ length sent
  of_front = length-take-le (length sent) these (omega (arith, fits))

  both_are : block ++ all_placed rest sent ≡ all_placed (drop (length sent) these) sent
  both_are =
      let others = drop (length sent) these in
      let sent_is : sent ≡ x ∷ drop 1 sent = from_place sent 0 x some is in
      ap (λ l. block ++ all_placed l sent) (sym (drop-drop k (length sent) these))
      ∙ ap (λ n. take n others ++ all_placed (drop n others) sent) passed
      ∙ ap (λ l. take (position_or_len (goes_before x) others) others ++ all_placed (drop (position_or_len (goes_before x) others) others) l) sent_is
      ∙ sym (block_first x (drop 1 sent) others (subst IsInOrder sent_is (order_is sent ordered)))
      ∙ ap (all_placed others) (sym sent_is)

  turned_is : (part : List Counted) → part ≡ drop (length sent) (take (length sent + k) these) ++ take (length sent) (take (length sent + k) these) → part ++ rest ≡ (block ++ front) ++ rest
  turned_is part turned =
      ap (λ l. l ++ rest) (turned ∙ (λ i. drop-take (length sent) k these i ++ take-take (length sent) (length sent + k) these (omega arith) i))

  pub moved_block : (part merged : List Counted) → part ≡ drop (length sent) (take (length sent + k) these) ++ take (length sent) (take (length sent + k) these) → merged ≡ all_placed (drop (length sent) (take (length (part ++ rest) - k) (drop k (part ++ rest)))) sent → put_mid k (length (part ++ rest) - k) (part ++ rest) merged ≡ all_placed (drop (length sent) these) sent
  moved_block part merged turned is_merged =
      let same = turned_is part turned in
      let merged_is = is_merged ∙ ap (λ l. all_placed (drop (length sent) (take (length l - k) (drop k l))) sent) same ∙ ap (λ l. all_placed l sent) (left_behind block front rest (length sent) k of_block of_front) in
      ap (λ l. put_mid k (length l - k) l merged) same
      ∙ written_behind block front rest (length sent) k of_block of_front merged
      ∙ ap (λ l. block ++ l) merged_is
      ∙ both_are
