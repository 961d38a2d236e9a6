-- Items that draw in turn, one more at a time, and the room that is left for what `every` makes.
use Rattle.std.proofs.Common.{◌≡◌, ◌<◌, ◌≤◌, ℕ, suc, ◌+◌, ◌-◌, Bool, Result, Ok, Err, IsErrAnd, true, false, cond, List, [], ◌∷◌, ◌++◌, map, append_assoc, length, get_or, drop, refl, sym, ap, ◌∙◌, arith, if◌then◌else◌}
use Rattle.std.proofs.lemmas.List.{drop_more, drop_all, append-nil}
use Rattle.std.proofs.lemmas.List.Sums.{sum_by-append, sum_by-cons}
use Rattle.streams.specs.Draw.{Words}
use Rattle.script_draws.specs.Turns.{behind, in_turn}
use Rattle.plain_entries.specs.declared.plain.Plain.{Plain}
use Rattle.std.proofs.lemmas.Grind.{get_or_default_zero}
use Rattle.plain_entries.specs.Entries.{made_again, plain_at, start_in, turn_of, Timing}

pub made_again-append : {T : Type 0} (xs ys : List (Plain T)) → made_again (xs ++ ys) ≡ made_again xs + made_again ys
made_again-append {T} xs ys = sum_by-append (λ (it : Plain T). cond it.again 1 0) xs ys

-- `every` makes all of the entries at these times, or none
pub made_again-times : {T : Type 0} (entry member : ℕ) (again : Bool) (times : List T) → made_again (map (plain_at entry member again) times) ≡ (if again then length times else 0)
made_again-times {T} entry member true [] = refl
made_again-times {T} entry member true (time ∷ times) =
    let more = sum_by-cons (λ (it : Plain T). cond it.again 1 0) (plain_at entry member true time) (map (plain_at entry member true) times) in
    let rest = made_again-times entry member true times in
    omega (arith, more, rest)
made_again-times {T} entry member false [] = refl
made_again-times {T} entry member false (time ∷ times) =
    let more = sum_by-cons (λ (it : Plain T). cond it.again 1 0) (plain_at entry member false time) (map (plain_at entry member false) times) in
    let rest = made_again-times entry member false times in
    omega (arith, more, rest)

-- so much room is left where these are made
pub room_kept : (again : Bool) (room used count old now : ℕ) → used ≡ (if again then count else 0) → (again ≡ true → count ≤ room) → now ≡ old + (if again then count else 0)
    → room - used + now ≡ room + old
room_kept true room used count old now used_is low now_is = let few = low refl in omega arith
room_kept false room used count old now used_is low now_is = omega arith

pub made_again-all : {T : Type 0} (entry member : ℕ) (again : Bool) (times : List T) → again ≡ true → made_again (map (plain_at entry member again) times) ≡ length times
made_again-all {T} entry member again times is = made_again-times entry member again times ∙ ap (λ (b : Bool). if b then length times else 0) is

-- what is handed on as it is, is what was met
pub met : {T U E : Type 0} (r : Result T E) (s : Result U E) (e f : E) → IsErrAnd r (λ y. y ≡ e) → s ≡ Err e → r ≡ Err f → s ≡ Err f
met (Ok x) s e f gives was is = absurd gives
met (Err y) s e f gives was is = let same : y ≡ f = cc in was ∙ ap Err (sym gives ∙ same)

module _ {A T : Type 0} (make : ℕ → A → Words → List (Plain T) × Words) (items : List A) where
  -- what is made so far and what the other items make is the whole, and of so much room this is left
  pub record IsOn (whole : List (Plain T) × Words) (all_room : ℕ) (place : ℕ) (made : List (Plain T)) (words : Words) (room : ℕ) : Type 0 where
    pub all : behind made (in_turn make place (drop place items) words) ≡ whole
    pub counted : room + made_again made ≡ all_room

  -- what the item at a place makes comes behind what was made, and before what the others make
  one_more : (made : List (Plain T)) (place : ℕ) (d : A) (words : Words) → place < length items
      → behind (behind made (make place (get_or items place d) words)).0 (in_turn make (place + 1) (drop (place + 1) items) (make place (get_or items place d) words).1)
      ≡ behind made (in_turn make place (drop place items) words)
  one_more made place d words low =
      let item = get_or items place d in
      let first = make place item words in
      let next : suc place ≡ place + 1 = omega arith in
      let others = in_turn make (suc place) (drop (place + 1) items) first.1 in
      ap (λ (n : ℕ). behind (behind made first).0 (in_turn make n (drop (place + 1) items) first.1)) (sym next)
      ∙ ap (λ (l : List (Plain T)). (l, others.1)) (append_assoc made first.0 others.0)
      ∙ ap (λ (l : List A). behind made (in_turn make place l words)) (sym (drop_more items place d low))

  pub turn_made : (whole : List (Plain T) × Words) (all_room place : ℕ) (made : List (Plain T)) (words : Words) (room : ℕ) (d : A) (now : List (Plain T)) (rest : Words) (left : ℕ)
      → IsOn whole all_room place made words room → place < length items
      → (now, rest) ≡ behind made (make place (get_or items place d) words) → left + made_again now ≡ room + made_again made
      → IsOn whole all_room (place + 1) now rest left
  turn_made whole all_room place made words room d now rest left is low one counted =
      record {
        all =
            ap (λ (p : List (Plain T) × Words). behind p.0 (in_turn make (place + 1) (drop (place + 1) items) p.1)) one
            ∙ one_more made place d words low
            ∙ is.all;
        counted = counted ∙ is.counted;
      }

  -- at the end all is made
  pub turns_over : (whole : List (Plain T) × Words) (all_room place : ℕ) (made : List (Plain T)) (words : Words) (room : ℕ)
      → IsOn whole all_room place made words room → length items ≤ place → (made, words) ≡ whole
  turns_over whole all_room place made words room is over =
      ap (λ (l : List (Plain T)). (l, words)) (sym (append-nil made))
      ∙ ap (λ (l : List A). behind made (in_turn make place l words)) (sym (drop_all place items over))
      ∙ is.all

  -- where one item makes more than there is room for, so does the whole
  pub no_room : (whole : List (Plain T) × Words) (all_room place : ℕ) (made : List (Plain T)) (words : Words) (room : ℕ) (d : A)
      → IsOn whole all_room place made words room → place < length items
      → room < made_again (make place (get_or items place d) words).0 → all_room < made_again whole.0
  no_room whole all_room place made words room d is low more =
      let first = make place (get_or items place d) words in
      let others = in_turn make (place + 1) (drop (place + 1) items) first.1 in
      let all : made_again ((made ++ first.0) ++ others.0) ≡ made_again whole.0 =
      ap (λ (p : List (Plain T) × Words). made_again p.0) (one_more made place d words low ∙ is.all) in
      let front = made_again-append (made ++ first.0) others.0 in
      let made_so_far = made_again-append made first.0 in
      let counted = is.counted in
      omega (arith, all, front, made_so_far, counted, more)

-- the turn of the member at a place of these, and of one that starts when it says
pub at_turn : {W T : Type 0} (timing : Timing W T) (entry k member index start : ℕ) (when : W) (members starts : List ℕ) (words : Words)
    → member ≡ get_or members k member → index ≡ member → start ≡ get_or starts index start → index < length starts
    → turn_of timing when (record { entry = entry; k = k; member = member; start = start }) words
    ≡ turn_of timing when (record { entry = entry; k = k; member = get_or members k member; start = start_in starts (get_or members k member) }) words
at_turn timing entry k member index start when members starts words at index_is start_is low =
    let started : start ≡ start_in starts member = start_is ∙ get_or_default_zero starts index start low ∙ ap (start_in starts) index_is in
    let begun : start ≡ start_in starts (get_or members k member) = started ∙ ap (start_in starts) at in
    ap (λ (m : ℕ). turn_of timing when (record { entry = entry; k = k; member = m; start = start }) words) at
    ∙ ap (λ (s : ℕ). turn_of timing when (record { entry = entry; k = k; member = get_or members k member; start = s }) words) begun
