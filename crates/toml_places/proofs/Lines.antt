-- Lines and columns, byte by byte.
use Rattle.std.proofs.Common.{◌≡◌, ℕ, ◌+◌, ◌<◌, List, ◌∷◌, length, get_or, drop, refl, ap, drop-cons, add-one}
use Rattle.toml_places.specs.Places.{line_from, column_from, next_line, next_column}

-- the line after what is left is that after the next byte and what is then left
pub line_step : (i line : ℕ) (bytes : List ℕ) → i < length bytes → line_from line (drop i bytes) ≡ line_from (next_line line (get_or bytes i 0)) (drop (i + 1) bytes)
line_step i line bytes h =
    let e : drop i bytes ≡ get_or bytes i 0 ∷ drop (i + 1) bytes = rw (add-one, drop-cons bytes i 0) refl in
    ap (λ rest. line_from line rest) e

-- the column after what is left is that after the next byte and what is then left
pub column_step : (i column : ℕ) (bytes : List ℕ) → i < length bytes → column_from column (drop i bytes) ≡ column_from (next_column column (get_or bytes i 0)) (drop (i + 1) bytes)
column_step i column bytes h =
    let e : drop i bytes ≡ get_or bytes i 0 ∷ drop (i + 1) bytes = rw (add-one, drop-cons bytes i 0) refl in
    ap (λ rest. column_from column rest) e
