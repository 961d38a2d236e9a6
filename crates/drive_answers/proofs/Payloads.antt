-- The last member of a name, walked from the front.
use Rattle.std.proofs.Common.{◌≡◌, Bool, true, false, ◌&&◌, ◌||◌, List, ℕ, drop, Option, Some, None, refl, sym}
use Rattle.std.specs.Prelude.{not, if◌then◌else◌}
use Rattle.std.specs.Str.{bytes_eq}
use Rattle.std.proofs.lemmas.Bool.{false≢true}
use Rattle.json.specs.Json.{Json, Members, no_members, member}
use Rattle.drive_answers.specs.Pieces.{Piece}
use Rattle.drive_answers.specs.Standing.{behind, standing, standing_member, is_named}

choose_none : (is named : Bool) (here : List ℕ) (rest : Option (List ℕ)) → (is || named) ≡ false → (if named then rest else (if is then Some here else None)) ≡ None
choose_none true true here rest h = absurd (false≢true (sym h))
choose_none true false here rest h = absurd (false≢true (sym h))
choose_none false true here rest h = absurd (false≢true (sym h))
choose_none false false here rest h = refl

not_named : (name : List ℕ) (ms : Members) (ps : List Piece) → is_named name ms ≡ false → standing_member name ms ps ≡ None
not_named name no_members ps h = refl
not_named name (member k j ms) ps h = choose_none (bytes_eq k name) (is_named name ms) _ _ h

take_it : (is named : Bool) (here : List ℕ) (rest : Option (List ℕ)) → (is && not named) ≡ true → Some here ≡ (if named then rest else (if is then Some here else None))
take_it true true here rest h = absurd (false≢true h)
take_it true false here rest h = refl
take_it false true here rest h = absurd (false≢true h)
take_it false false here rest h = absurd (false≢true h)

pass_it : (is named : Bool) (here : List ℕ) (rest : Option (List ℕ)) → (named ≡ false → rest ≡ None) → (is && not named) ≡ false
    → rest ≡ (if named then rest else (if is then Some here else None))
pass_it is true here rest none h = refl
pass_it true false here rest none h = absurd (false≢true (sym h))
pass_it false false here rest none h = none refl

-- the member is the last of its name
pub taken : (name k : List ℕ) (j : Json) (ms : Members) (ps : List Piece) → (bytes_eq k name && not (is_named name ms)) ≡ true
    → Some (standing j (drop 1 ps)) ≡ standing_member name (member k j ms) ps
taken name k j ms ps h = take_it (bytes_eq k name) (is_named name ms) _ _ h

-- or it isn't
pub passed : (name k : List ℕ) (j : Json) (ms : Members) (ps : List Piece) → (bytes_eq k name && not (is_named name ms)) ≡ false
    → standing_member name ms (behind j (drop 1 ps)) ≡ standing_member name (member k j ms) ps
passed name k j ms ps h = pass_it (bytes_eq k name) (is_named name ms) _ _ (λ named. not_named name ms _ named) h
