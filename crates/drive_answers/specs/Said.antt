-- What an object of an answer says: an action, or none. Names of members are still texts.
use Rattle.std.specs.Prelude.{◌≡◌, ◌&&◌, ◌^◌, ◌-◌, ℕ, Bool, true, false, ◌≤◌, List, [], ◌∷◌, codes, decimal, Option, Some}
use Rattle.std.specs.Option.{option_and_then, is_some}
use Rattle.std.specs.Bool.{MatchBool}
use Rattle.std.specs.List.{list_any}
use Rattle.std.specs.Str.{bytes_eq}
use Rattle.json.specs.Json.{Json, object, Members, no_members, member}
use Rattle.json.specs.Find.{get, as_str, as_number, as_bool}
use Rattle.trace.specs.declared.row.What.{What}
use Rattle.trace.specs.Text.{word_of}
use Rattle.drive_answers.specs.Kinds.{is_message, is_told, is_about_a_member}

-- the object has no members but those of these names
abbrev pub has_only_members : List (List ℕ) → Members → Bool
has_only_members names no_members = true
has_only_members names (member k j ms) = list_any (bytes_eq k) names && has_only_members names ms

abbrev pub has_only : List (List ℕ) → Json → Bool
has_only names (object ms) = has_only_members names ms
has_only names _ = false

-- a member is there, and is a text, a truth or a number
abbrev pub IsText : List ℕ → Json → List ℕ → Type 0
IsText name j text = option_and_then as_str (get name j) ≡ Some text

abbrev pub IsTruth : List ℕ → Json → Bool → Type 0
IsTruth name j b = option_and_then as_bool (get name j) ≡ Some b

-- A whole number in a range: what is written is its decimal text, so it has no fraction, no exponent and no sign.
pub record IsWhole (name : List ℕ) (j : Json) (least most n : ℕ) : Type 0 where
  pub written : option_and_then as_number (get name j) ≡ Some (decimal n)
  pub no_less : least ≤ n
  pub no_more : n ≤ most

-- a member that may be absent has this value, or it is absent, and the value is the usual one
abbrev pub OrUsual : {A : Type 0} → List ℕ → Json → (A → Type 0) → A → A → Type 0
OrUsual name j Says usual a = MatchBool (is_some (get name j)) (Says a) (a ≡ usual)

-- the greatest value of a row, a message or a timer's number
abbrev pub greatest_value : ℕ
greatest_value = 2 ^ 63 - 1

-- A message to a member: what it is called, whether it goes over a stream, and its value.
pub record SaysSend (j : Json) (what : What) (to : List ℕ) (value : ℕ) (stream : Bool) : Type 0 where
  pub only : has_only (codes "send" ∷ codes "to" ∷ codes "value" ∷ codes "payload" ∷ codes "stream" ∷ []) j ≡ true
  pub word : IsText (codes "send") j (word_of what)
  pub message : is_message what ≡ true
  pub says_to : IsText (codes "to") j to
  pub says_value : OrUsual (codes "value") j (IsWhole (codes "value") j 0 greatest_value) 0 value
  pub says_stream : OrUsual (codes "stream") j (IsTruth (codes "stream") j) false stream

-- A timer, by a number of the member's own: it comes so many ticks later.
pub record SaysTimer (j : Json) (id after : ℕ) : Type 0 where
  pub only : has_only (codes "timer" ∷ codes "after" ∷ []) j ≡ true
  pub says_id : IsWhole (codes "timer") j 0 greatest_value id
  pub says_after : IsWhole (codes "after") j 1 (2 ^ 40) after

-- A row of the trace.
pub record SaysRow (j : Json) (what : What) (about : Option (List ℕ)) (value : ℕ) : Type 0 where
  pub only : has_only (codes "row" ∷ codes "about" ∷ codes "value" ∷ []) j ≡ true
  pub word : IsText (codes "row") j (word_of what)
  pub told : is_told what ≡ true
  pub says_about : option_and_then as_str (get (codes "about") j) ≡ about
  pub named : is_some (get (codes "about") j) ≡ is_about_a_member what
  pub a_text : is_some about ≡ is_about_a_member what
  pub says_value : OrUsual (codes "value") j (IsWhole (codes "value") j 0 greatest_value) 0 value

-- So many words of the member's stream are used.
pub record SaysUsed (j : Json) (words : ℕ) : Type 0 where
  pub only : has_only (codes "used" ∷ []) j ≡ true
  pub says_words : IsWhole (codes "used") j 1 (2 ^ 20) words

-- The member's process ends.
pub record SaysExit (j : Json) : Type 0 where
  pub only : has_only (codes "exit" ∷ []) j ≡ true
  pub says_so : IsTruth (codes "exit") j true
