-- Names of keys, byte by byte, and the first key of a name.
use Rattle.std.proofs.Common.{◌≡◌, ◌≢◌, ◌<◌, ◌&&◌, ◌+◌, ℕ, Option, Some, None, cond, find, map, filter, drop, length, get_or, List, ◌∷◌, ◌++◌, Bool, true, false, bytes_eq, refl, sym, ap, ◌∙◌}
use Rattle.std.proofs.lemmas.Bool.{false_from_ne_true, false≢true}
use Rattle.std.proofs.lemmas.List.{append_cancel_left, drop_more}
use Rattle.std.proofs.lemmas.List.Folds.{find-append}
use Rattle.std.proofs.lemmas.Slice.Eq.{bytes_eq-Decides}
use Rattle.std.specs.List.{flat_map}
use Rattle.std.specs.Option.{option_or}
use Rattle.schema.specs.declared.schema.FormatKey.{FormatKey}
use Rattle.schema.specs.declared.schema.KeyRule.{KeyRule}
use Rattle.sweep_plan.specs.Keys.{dotted, in_table, is_plain, is_named, keys_of_table, keys_of_row}
use Rattle.sweep_plan.specs.declared.keys.SweptKey.{SweptKey}
use Rattle.sweep_plan.specs.declared.set_keys.SetKey.TheVariants.{Plain}

pub bytes_eq_true : (a b : List ℕ) → bytes_eq a b ≡ true → a ≡ b
bytes_eq_true a b = (bytes_eq-Decides a b).0

pub bytes_eq_same : (a b : List ℕ) → a ≡ b → bytes_eq a b ≡ true
bytes_eq_same a b = (bytes_eq-Decides a b).1

pub bytes_eq_false : (a b : List ℕ) → a ≢ b → bytes_eq a b ≡ false
bytes_eq_false a b other = false_from_ne_true (bytes_eq a b) (λ same. other (bytes_eq_true a b same))

-- what comes after the table's name decides
pub after_table : (table key rest word : List ℕ) (b : Bool) → word ≡ table ++ rest → b ≡ bytes_eq rest (46 ∷ key) → b ≡ bytes_eq (dotted table key) word
after_table table key rest word true is found =
    let same : rest ≡ 46 ∷ key = bytes_eq_true rest (46 ∷ key) (sym found) in
    sym (bytes_eq_same (dotted table key) word (ap (λ more. table ++ more) (sym same) ∙ sym is))
after_table table key rest word false is found =
    sym (bytes_eq_false (dotted table key) word (λ same. differ (cancel table (46 ∷ key) rest (same ∙ is))))
  where
    cancel : (front a b : List ℕ) → front ++ a ≡ front ++ b → a ≡ b
    cancel front a b = append_cancel_left front a b

    differ : 46 ∷ key ≡ rest → ⊥
    differ same = false≢true (found ∙ bytes_eq_same rest (46 ∷ key) (sym same))

pub no_table : (table key word : List ℕ) → ((rest : List ℕ) → word ≢ table ++ rest) → bytes_eq (dotted table key) word ≡ false
no_table table key word none = bytes_eq_false (dotted table key) word (λ same. none (46 ∷ key) (sym same))

-- ---- the first key of a name, row by row

abbrev found_in_table : FormatKey → List ℕ → List KeyRule → Option SweptKey
found_in_table t word rows = find (is_named word) (keys_of_table t rows)

abbrev row_gives : FormatKey → List ℕ → KeyRule → Bool
row_gives t word row = is_plain row.kind && is_named word (in_table t (Plain row.key))

table_step : (t : FormatKey) (word : List ℕ) (row : KeyRule) (rows : List KeyRule)
    → found_in_table t word (row ∷ rows) ≡ cond (row_gives t word row) (Some (in_table t (Plain row.key))) (found_in_table t word rows)
table_step t word row rows =
    let left : List KeyRule = filter (λ r. is_plain r.kind) rows in
    let key : KeyRule → SweptKey = λ r. in_table t (Plain r.key) in
    elim (is_plain row.kind) as (λ b. find (is_named word) (map key (cond b (row ∷ left) left)) ≡ cond (b && is_named word (key row)) (Some (key row)) (find (is_named word) (map key left))) [
      | true ↦ refl
      | false ↦ refl
    ]

-- a row that gives the key of this name, and one that doesn't
pub row_found : (t : FormatKey) (word : List ℕ) (rows : List KeyRule) (i : ℕ) (d : KeyRule) (r : Bool) → i < length rows → r ≡ row_gives t word (get_or rows i d) → r ≡ true
    → found_in_table t word rows ≡ found_in_table t word (drop i rows) → Some (in_table t (Plain (get_or rows i d).key)) ≡ found_in_table t word rows
row_found t word rows i d r inside is gives_it so_far =
    let row = get_or rows i d in
    let gives : row_gives t word row ≡ true = sym is ∙ gives_it in
    sym (so_far ∙ ap (found_in_table t word) (drop_more rows i d inside) ∙ table_step t word row (drop (i + 1) rows) ∙ ap (λ b. cond b (Some (in_table t (Plain row.key))) (found_in_table t word (drop (i + 1) rows))) gives)

pub row_passed : (t : FormatKey) (word : List ℕ) (rows : List KeyRule) (i : ℕ) (d : KeyRule) (r : Bool) → i < length rows → r ≡ row_gives t word (get_or rows i d) → r ≡ false
    → found_in_table t word rows ≡ found_in_table t word (drop i rows) → found_in_table t word rows ≡ found_in_table t word (drop (i + 1) rows)
row_passed t word rows i d r inside is passes so_far =
    let row = get_or rows i d in
    let gives : row_gives t word row ≡ false = sym is ∙ passes in
    so_far ∙ ap (found_in_table t word) (drop_more rows i d inside) ∙ table_step t word row (drop (i + 1) rows) ∙ ap (λ b. cond b (Some (in_table t (Plain row.key))) (found_in_table t word (drop (i + 1) rows))) gives

-- the same of the rows of the whole text
abbrev found_in_rows : List ℕ → List KeyRule → Option SweptKey
found_in_rows word rows = find (is_named word) (flat_map keys_of_row rows)

rows_step : (word : List ℕ) (rows : List KeyRule) (i : ℕ) (d : KeyRule) (r : Option SweptKey) → i < length rows → r ≡ find (is_named word) (keys_of_row (get_or rows i d))
    → found_in_rows word rows ≡ found_in_rows word (drop i rows) → found_in_rows word rows ≡ option_or r (found_in_rows word (drop (i + 1) rows))
rows_step word rows i d r inside is so_far =
    so_far ∙ ap (found_in_rows word) (drop_more rows i d inside)
    ∙ find-append (is_named word) (keys_of_row (get_or rows i d)) (flat_map keys_of_row (drop (i + 1) rows))
    ∙ ap (λ o. option_or o (found_in_rows word (drop (i + 1) rows))) (sym is)

pub rows_found : (word : List ℕ) (rows : List KeyRule) (i : ℕ) (d : KeyRule) (r : Option SweptKey) (k : SweptKey) → i < length rows → r ≡ find (is_named word) (keys_of_row (get_or rows i d)) → r ≡ Some k
    → found_in_rows word rows ≡ found_in_rows word (drop i rows) → Some k ≡ found_in_rows word rows
rows_found word rows i d r k inside is some so_far =
    sym (rows_step word rows i d r inside is so_far ∙ ap (λ o. option_or o (found_in_rows word (drop (i + 1) rows))) some)

pub rows_passed : (word : List ℕ) (rows : List KeyRule) (i : ℕ) (d : KeyRule) (r : Option SweptKey) → i < length rows → r ≡ find (is_named word) (keys_of_row (get_or rows i d)) → r ≡ None
    → found_in_rows word rows ≡ found_in_rows word (drop i rows) → found_in_rows word rows ≡ found_in_rows word (drop (i + 1) rows)
rows_passed word rows i d r inside is none so_far =
    rows_step word rows i d r inside is so_far ∙ ap (λ o. option_or o (found_in_rows word (drop (i + 1) rows))) none
