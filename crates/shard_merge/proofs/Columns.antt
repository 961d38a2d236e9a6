-- Headers with which one text begins have the same columns.
use Rattle.std.proofs.Common.{◌≡◌, ◌<◌, ℕ, true, false, List, [], ◌∷◌, ◌++◌, map, length, get_or, codes, arith, refl, sym, ap, ◌∙◌, append_assoc}
use Rattle.std.specs.List.{join_with_byte}
use Rattle.std.proofs.lemmas.List.{append_cancel_left, map-append}
use Rattle.csv.specs.Writing.{default_writer, field_text}
use Rattle.figures.specs.declared.column_set.ColumnSet.{ColumnSet}
use Rattle.figures.specs.declared.column_set.ColumnSet.TheVariants.{First, WithRevived, WithIncidents}
use Rattle.figures.specs.Lines.{claim_names, header_line, protocol_names, table_line}

-- a list whose items are joined, with a first part that has some
joined_parts : (c : ℕ) (xs : List (List ℕ)) (y : List ℕ) (ys : List (List ℕ)) → 0 < length xs
    → join_with_byte c (xs ++ y ∷ ys) ≡ join_with_byte c xs ++ c ∷ join_with_byte c (y ∷ ys)
joined_parts c [] y ys some = absurd (omega (arith, some))
joined_parts c (x ∷ []) y ys some = refl
joined_parts c (x ∷ z ∷ xs) y ys some =
    ap (λ l. x ++ c ∷ l) (joined_parts c (z ∷ xs) y ys (omega arith))
    ∙ sym (append_assoc x (c ∷ join_with_byte c (z ∷ xs)) (c ∷ join_with_byte c (y ∷ ys)))

-- what stands before the columns that only some tables have
abbrev before : List (List ℕ) → List (List ℕ)
before names = names ++ codes "seed" ∷ claim_names

abbrev cells : List (List ℕ) → List ℕ
cells names = join_with_byte 44 (map (field_text default_writer) (before names))

-- a header, and what comes behind it, with a column and those behind it
laid : (names : List (List ℕ)) (column : List ℕ) (columns : List (List ℕ)) (rest : List ℕ)
    → table_line (names ++ codes "seed" ∷ (claim_names ++ column ∷ columns)) ++ rest
    ≡ cells names ++ 44 ∷ (join_with_byte 44 (map (field_text default_writer) (column ∷ columns)) ++ (10 ∷ rest))
unfolding table_line
laid names column columns rest =
    let text = field_text default_writer in
    let behind = join_with_byte 44 (map text (column ∷ columns)) in
    let parted : map text (names ++ codes "seed" ∷ (claim_names ++ column ∷ columns)) ≡ map text (before names) ++ map text (column ∷ columns) =
    ap (map text) (sym (append_assoc names (codes "seed" ∷ claim_names) (column ∷ columns))) ∙ map-append text (before names) (column ∷ columns) in
    ap (λ l. (l ++ codes "\n") ++ rest) (ap (join_with_byte 44) parted ∙ joined_parts 44 (map text (before names)) (text column) (map text columns) (some names))
    ∙ append_assoc (cells names ++ 44 ∷ behind) (10 ∷ []) rest ∙ append_assoc (cells names) (44 ∷ behind) (10 ∷ rest)
  where
    some : (names : List (List ℕ)) → 0 < length (map (field_text default_writer) (before names))
    some [] = omega arith
    some (name ∷ names) = omega arith

-- a header with a column differs from one with another in that place: behind the comma in its first letter, or later where what follows is the same
abbrev later : List (List ℕ)
later = codes "alarms" ∷ codes "deaths" ∷ codes "deaths_well" ∷ codes "restarts" ∷ codes "whole" ∷ protocol_names

differ : (names : List (List ℕ)) (x y : List ℕ) → header_line WithRevived names ++ x ≡ header_line First names ++ y → ⊥
differ names x y same =
    let with_it = laid names (codes "revived") protocol_names x in
    let without = laid names (codes "accuse") (codes "refute" ∷ codes "fail" ∷ codes "health" ∷ codes "sent" ∷ codes "lost" ∷ []) y in
    let behind = append_cancel_left (cells names) _ _ (sym with_it ∙ same ∙ without) in
    let letter : 114 ≡ 97 = ap (λ l. get_or l 1 0) behind in
    omega (arith, letter)

differ_more : (names : List (List ℕ)) (x y : List ℕ) → header_line WithIncidents names ++ x ≡ header_line First names ++ y → ⊥
differ_more names x y same =
    let with_it = laid names (codes "revived") later x in
    let without = laid names (codes "accuse") (codes "refute" ∷ codes "fail" ∷ codes "health" ∷ codes "sent" ∷ codes "lost" ∷ []) y in
    let behind = append_cancel_left (cells names) _ _ (sym with_it ∙ same ∙ without) in
    let letter : 114 ≡ 97 = ap (λ l. get_or l 1 0) behind in
    omega (arith, letter)

-- `alarms` and `accuse` in their second
differ_later : (names : List (List ℕ)) (x y : List ℕ) → header_line WithIncidents names ++ x ≡ header_line WithRevived names ++ y → ⊥
differ_later names x y same =
    let with_it = laid names (codes "revived") later x in
    let without = laid names (codes "revived") protocol_names y in
    let behind = append_cancel_left (cells names) _ _ (sym with_it ∙ same ∙ without) in
    let letter : 108 ≡ 99 = ap (λ l. get_or l 10 0) behind in
    omega (arith, letter)

pub same_columns : (r b : ColumnSet) (names : List (List ℕ)) (x y : List ℕ) → header_line r names ++ x ≡ header_line b names ++ y → r ≡ b
same_columns First First names x y same = refl
same_columns First WithRevived names x y same = absurd (differ names y x (sym same))
same_columns First WithIncidents names x y same = absurd (differ_more names y x (sym same))
same_columns WithRevived First names x y same = absurd (differ names x y same)
same_columns WithRevived WithRevived names x y same = refl
same_columns WithRevived WithIncidents names x y same = absurd (differ_later names y x (sym same))
same_columns WithIncidents First names x y same = absurd (differ_more names x y same)
same_columns WithIncidents WithRevived names x y same = absurd (differ_later names x y same)
same_columns WithIncidents WithIncidents names x y same = refl

-- and so the same comes behind them
pub behind_header : (r b : ColumnSet) (names : List (List ℕ)) (x y : List ℕ) → header_line r names ++ x ≡ header_line b names ++ y → x ≡ y
behind_header r b names x y same =
    let one = same_columns r b names x y same in
    append_cancel_left (header_line b names) x y (ap (λ q. header_line q names ++ x) (sym one) ∙ same)
