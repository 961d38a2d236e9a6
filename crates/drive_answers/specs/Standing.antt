-- The text of a value as it stands in a longer text, by the pieces of that: no blanks between its tokens, and of two members of one
-- name only the later.
use Rattle.std.specs.Prelude.{ℕ, Bool, true, false, ◌||◌, List, [], ◌∷◌, ◌++◌, drop, get_or, if◌then◌else◌, Option, Some, None}
use Rattle.std.specs.Str.{bytes_eq}
use Rattle.json.specs.Json.{Json, null, boolean, number, string, array, object, Items, no_items, item, Members, no_members, member}
use Rattle.drive_answers.specs.Pieces.{Piece}

abbrev pub first_piece : List Piece → Piece
first_piece ps = get_or ps 0 []

-- the pieces behind a value that stands first among these: those of its own are as many as its tokens
abbrev mutual
  pub behind : Json → List Piece → List Piece
  behind null ps = drop 1 ps
  behind (boolean b) ps = drop 1 ps
  behind (number s) ps = drop 1 ps
  behind (string s) ps = drop 1 ps
  behind (array js) ps = behind_items js (drop 1 ps)
  behind (object ms) ps = behind_members ms (drop 1 ps)

  -- with the closing bracket
  pub behind_items : Items → List Piece → List Piece
  behind_items no_items ps = drop 1 ps
  behind_items (item j js) ps = behind_items js (behind j ps)

  pub behind_members : Members → List Piece → List Piece
  behind_members no_members ps = drop 1 ps
  behind_members (member k j ms) ps = behind_members ms (behind j (drop 1 ps))

-- one of these members has the name
abbrev pub is_named : List ℕ → Members → Bool
is_named name no_members = false
is_named name (member k j ms) = bytes_eq k name || is_named name ms

-- a comma, where a member or an item stands before
abbrev pub comma_if : Bool → List ℕ
comma_if later = if later then 44 ∷ [] else []

abbrev mutual
  pub standing : Json → List Piece → List ℕ
  standing null ps = first_piece ps
  standing (boolean b) ps = first_piece ps
  standing (number s) ps = first_piece ps
  standing (string s) ps = first_piece ps
  standing (array js) ps = 91 ∷ standing_items false js (drop 1 ps)
  standing (object ms) ps = 123 ∷ standing_members false ms (drop 1 ps)

  -- with the closing bracket
  pub standing_items : Bool → Items → List Piece → List ℕ
  standing_items later no_items ps = 93 ∷ []
  standing_items later (item j js) ps = comma_if later ++ (standing j ps ++ standing_items true js (behind j ps))

  pub standing_members : Bool → Members → List Piece → List ℕ
  standing_members later no_members ps = 125 ∷ []
  standing_members later (member k j ms) ps =
      if is_named k ms
      then standing_members later ms (behind j (drop 1 ps))
      else comma_if later ++ (first_piece ps ++ 58 ∷ (standing j (drop 1 ps) ++ standing_members true ms (behind j (drop 1 ps))))

-- the text of the last member of a name among members that stand first, without the opening bracket
abbrev pub standing_member : List ℕ → Members → List Piece → Option (List ℕ)
standing_member name no_members ps = None
standing_member name (member k j ms) ps =
    if is_named name ms then standing_member name ms (behind j (drop 1 ps))
    else (if bytes_eq k name then Some (standing j (drop 1 ps)) else None)

-- the same of a value that may be an object
abbrev pub standing_in : List ℕ → Json → List Piece → Option (List ℕ)
standing_in name (object ms) ps = standing_member name ms (drop 1 ps)
standing_in name _ ps = None
