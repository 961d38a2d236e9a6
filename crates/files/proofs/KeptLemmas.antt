-- Files in memory by their names: what storing one does to its own name, and to the others.
use Rattle.std.proofs.Common.{◌≡◌, ◌≢◌, ℕ, Bool, true, false, List, [], ◌∷◌, ◌++◌, Option, Some, None, get_or, set, find, position, length, ◌≤◌, sym, ap, ◌∙◌, string_bytes, is_some, ◌<◌, OnOk, OnErr, Result, Ok, Err, cond, subst, bytes_eq, ◌+◌, ◌⊎◌, inl, inr, arith, refl}
use Rattle.std.specs.List.{position_or_len}
use Rattle.std.specs.Option.{option_or, option_and_then}
use Rattle.std.proofs.lemmas.List.Folds.{find_at, find-set, find_past, find-append}
use Rattle.std.proofs.lemmas.List.Quantifiers.{position-Some}
use Rattle.std.specs.List.{slice_get}
use Rattle.std.proofs.Math.Seq.{get_or-append_seam}
use Rattle.std.proofs.lemmas.List.{get_or_append_left, length-append}
use Rattle.std.proofs.lemmas.List.Sums.{position_or_len_is, fails_before_first}
use Rattle.std.proofs.lemmas.Slice.Eq.{bytes_eq-Decides}
use Rattle.std.proofs.lemmas.Grind.{common_steps}
use Rattle.std.proofs.lemmas.Option.{slice_get_past, slice_get_cases}
use Rattle.files.specs.declared.testing.Kept.{Kept}
use Rattle.files.specs.Memory.{has_name, bytes_of, bytes_under, kept_bytes, has_place}
use Rattle.files.specs.declared.testing.MemoryFiles.{MemoryFiles}

-- a file has one name
one_name : (file : Kept) (name other : List ℕ) → has_name name file ≡ true → other ≢ name → has_name other file ≡ false
one_name file name other is differs = go (has_name other file) refl
  where
    go : (b : Bool) → has_name other file ≡ b → has_name other file ≡ false
    go true e = absurd (differs (sym ((bytes_eq-Decides (string_bytes file.name) other).0 e) ∙ (bytes_eq-Decides (string_bytes file.name) name).0 is))
    go false e = e

pub has_own_name : (file : Kept) (name : List ℕ) → string_bytes file.name ≡ name → has_name name file ≡ true
has_own_name file name is = (bytes_eq-Decides (string_bytes file.name) name).1 is

-- the name of the file at the place that was found
pub name_at : (kept : List Kept) (i : ℕ) (d : Kept) (name : List ℕ) → position (has_name name) kept ≡ Some i → has_name name (get_or kept i d) ≡ true
name_at kept i d name at = (position-Some (has_name name) kept i d at).1

-- a file of the name in the place of the one that had it
pub replaced : (kept : List Kept) (i : ℕ) (file : Kept) (name : List ℕ) → position (has_name name) kept ≡ Some i → has_name name file ≡ true
    → bytes_under (set kept i file) name ≡ bytes_of file
replaced kept i file name at is =
    let there = position-Some (has_name name) kept i file at in
    let first : position_or_len (has_name name) kept ≡ i = position_or_len_is (has_name name) kept i file (omega arith) there.2 (λ _. there.1) in
    ap (option_and_then bytes_of) (find-set (has_name name) kept i file (sym first) there.0 is)

pub replaced_others : (kept : List Kept) (i : ℕ) (file : Kept) (name other : List ℕ) → position (has_name name) kept ≡ Some i → has_name name file ≡ true
    → other ≢ name → bytes_under (set kept i file) other ≡ bytes_under kept other
replaced_others kept i file name other at is differs =
    let there = position-Some (has_name name) kept i file at in
    ap (option_and_then bytes_of) (find_past (has_name other) kept i file file (one_name (get_or kept i file) name other there.1 differs) (one_name file name other is differs))

-- where no file is found at a place, none is found
find_nowhere : (test : Kept → Bool) (kept : List Kept) → position test kept ≡ None → find test kept ≡ None
find_nowhere test kept none =
    let past : length kept ≤ position_or_len test kept = grind (arith, common_steps) in
    find_at test kept ∙ slice_get_past kept (position_or_len test kept) past

-- no file has the name
pub absent : (kept : List Kept) (name : List ℕ) → position (has_name name) kept ≡ None → bytes_under kept name ≡ None
absent kept name none = ap (option_and_then bytes_of) (find_nowhere (has_name name) kept none)

after_none : (o : Option Kept) → option_or o None ≡ o
after_none None = refl
after_none (Some x) = refl

-- a file of a new name after the others
pub added : (kept : List Kept) (file : Kept) (name : List ℕ) → position (has_name name) kept ≡ None → has_name name file ≡ true
    → bytes_under (kept ++ file ∷ []) name ≡ bytes_of file
added kept file name none is =
    let test = has_name name in
    let found : find test (kept ++ file ∷ []) ≡ Some file = find-append test kept (file ∷ []) ∙ rw (find_nowhere test kept none, is) refl in
    ap (option_and_then bytes_of) found

pub added_others : (kept : List Kept) (file : Kept) (name other : List ℕ) → has_name name file ≡ true → other ≢ name
    → bytes_under (kept ++ file ∷ []) other ≡ bytes_under kept other
added_others kept file name other is differs =
    let test = has_name other in
    let fails : test file ≡ false = one_name file name other is differs in
    let found : find test (kept ++ file ∷ []) ≡ find test kept = find-append test kept (file ∷ []) ∙ rw fails (after_none (find test kept)) in
    ap (option_and_then bytes_of) found

-- a place at the end, with no bytes, changes no file
pub place_added : (kept : List Kept) (file : Kept) (other : List ℕ) → bytes_of file ≡ None → bytes_under (kept ++ file ∷ []) other ≡ bytes_under kept other
place_added kept file other none = ap (option_and_then bytes_of) (find-append (has_name other) kept (file ∷ [])) ∙ go (find (has_name other) kept) (has_name other file)
  where
    go : (o : Option Kept) (b : Bool) → option_and_then bytes_of (option_or o (cond b (Some file) None)) ≡ option_and_then bytes_of o
    go (Some x) b = refl
    go None true = none
    go None false = refl

-- the place that was added is the first of its name
pub place_at_end : (kept : List Kept) (file : Kept) (name : List ℕ) → position (has_name name) kept ≡ None → has_name name file ≡ true
    → position (has_name name) (kept ++ file ∷ []) ≡ Some (length kept)
place_at_end kept file name none is =
    let test = has_name name in
    let past : length kept ≤ position_or_len test kept = grind (arith, common_steps) in
    let size : length (kept ++ file ∷ []) ≡ length kept + 1 = length-append kept (file ∷ []) in
    let at_end : position_or_len test (kept ++ file ∷ []) ≡ length kept = position_or_len_is test (kept ++ file ∷ []) (length kept) file (omega (arith, size))
    (λ k low. ap test (get_or_append_left kept (file ∷ []) file k low) ∙ fails_before_first test kept k file (omega arith))
    (λ _. ap test (get_or-append_seam kept file [] file) ∙ is) in
    grind (arith, common_steps)

-- no place is lost by one at the end
pub places_after : (kept : List Kept) (file : Kept) (other : List ℕ) → is_some (find (has_name other) kept) ≡ true → is_some (find (has_name other) (kept ++ file ∷ [])) ≡ true
places_after kept file other there = ap is_some (find-append (has_name other) kept (file ∷ [])) ∙ go (find (has_name other) kept) there
  where
    go : (o : Option Kept) → is_some o ≡ true → is_some (option_or o (find (has_name other) (file ∷ []))) ≡ true
    go (Some x) t = refl
    go None t = cc

-- nor by another file of the name in the place of one
pub places_replaced : (kept : List Kept) (i : ℕ) (file : Kept) (name other : List ℕ) → position (has_name name) kept ≡ Some i → has_name name file ≡ true
    → is_some (find (has_name other) kept) ≡ true → is_some (find (has_name other) (set kept i file)) ≡ true
places_replaced kept i file name other at is there = go (bytes_eq other name) refl
  where
    go : (b : Bool) → bytes_eq other name ≡ b → is_some (find (has_name other) (set kept i file)) ≡ true
    go true e =
        let same : other ≡ name = (bytes_eq-Decides other name).0 e in
        let first = position-Some (has_name name) kept i file at in
        let at_first : position_or_len (has_name name) kept ≡ i = position_or_len_is (has_name name) kept i file (omega arith) first.2 (λ _. first.1) in
        subst (λ n. is_some (find (has_name n) (set kept i file)) ≡ true) (sym same) (ap is_some (find-set (has_name name) kept i file (sym at_first) first.0 is))
    go false e =
        let differs : other ≢ name = λ h. let yes_eq = (bytes_eq-Decides other name).1 h in cc in
        let first = position-Some (has_name name) kept i file at in
        ap is_some (find_past (has_name other) kept i file file (one_name (get_or kept i file) name other first.1 differs) (one_name file name other is differs)) ∙ there

-- a place that was found is there
pub placed : (files : MemoryFiles) (i : ℕ) (name : List ℕ) → position (has_name name) files.kept.items ≡ Some i → has_place files name ≡ true
placed files i name at = go (slice_get_cases kept i).1
  where
    kept : List Kept
    kept = files.kept.items

    at_first : position_or_len (has_name name) kept ≡ i
    at_first = grind (arith, common_steps)

    inside : i < length kept
    inside = grind (arith, common_steps)

    go : ((x : Kept) × (i < length kept) × (slice_get kept i ≡ Some x) × (get_or kept i x ≡ x)) ⊎ ((length kept ≤ i) × (slice_get kept i ≡ None))
        → has_place files name ≡ true
    go (inl found) = ap is_some (find_at (has_name name) kept ∙ (ap (slice_get kept) at_first ∙ found.2))
    go (inr past) = absurd (omega (arith, past.0, inside))

-- no place, no name
pub unplaced : (files : MemoryFiles) (name : List ℕ) → position (has_name name) files.kept.items ≡ None → has_place files name ≡ false
unplaced files name none = ap is_some (find_nowhere (has_name name) files.kept.items none)

-- a file that holds bytes has its place
pub held_is_placed : (files : MemoryFiles) (name bytes : List ℕ) → kept_bytes files name ≡ Some bytes → has_place files name ≡ true
held_is_placed files name bytes held = go (find (has_name name) files.kept.items) held
  where
    go : (o : Option Kept) → option_and_then bytes_of o ≡ Some bytes → is_some o ≡ true
    go (Some x) h = refl
    go None h = cc

-- what holds of all that has its place
pub where_placed : {T E P : Type 0} (r : Result T E) (files : MemoryFiles) (name : List ℕ) → OnOk r P → OnErr r (has_place files name ≡ false)
    → has_place files name ≡ true → P
where_placed (Ok x) files name p none there = p
where_placed (Err e) files name p none there = cc
