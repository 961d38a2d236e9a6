-- What a line answers: a JSON list of actions, or why it is none.
use Rattle.std.specs.Prelude.{◌≡◌, ◌≢◌, ◌<◌, ◌⊎◌, ℕ, ◌+◌, Bool, true, List, [], ◌∷◌, drop, codes, Some}
use Rattle.std.specs.Option.{IfSome, option_map, is_some}
use Rattle.std.specs.Str.{IsUtf8}
use Rattle.json.specs.Json.{Json, array, Items, no_items, item, value}
use Rattle.json.specs.Lex.{tokens}
use Rattle.serde_json.specs.Read.{of_json, max_depth}
use Rattle.scenario.specs.Setup.{Setup, member_count, name_of}
use Rattle.drive_answers.specs.declared.action.Action.{Action}
use Rattle.drive_answers.specs.declared.action.Action.TheVariants as action
use Rattle.drive_answers.specs.declared.error.AnswerError.{AnswerError}
use Rattle.drive_answers.specs.declared.error.AnswerError.TheVariants as cause
use Rattle.trace.specs.declared.row.What.{What}
use Rattle.drive_answers.specs.Pieces.{Piece, pieces}
use Rattle.drive_answers.specs.Standing.{behind, standing_in}
use Rattle.drive_answers.specs.Said.{SaysSend, SaysTimer, SaysRow, SaysUsed, SaysExit}
use Rattle.drive_answers.specs.SaidOf.{IsAction}

-- The line is this JSON: UTF-8, at most 127 lists and objects in one another, and each number in the range of floats.
pub record IsJson (line : List ℕ) (j : Json) : Type 0 where
  pub utf8 : IsUtf8 line
  pub whole : value max_depth (tokens line) ≡ Some (j, [])
  pub finite : is_some (of_json j) ≡ true

-- An item of an answer of member m, which stands first among these pieces, says the action.
abbrev pub SaysAction : Setup → ℕ → Json → List Piece → Action → Type 0
SaysAction s m j ps (action.Send x) =
    SaysSend j x.what (name_of s x.to) x.value x.stream × (x.to < member_count s) × (x.to ≢ m) × (x.payload ≡ standing_in (codes "payload") j ps)
SaysAction s m j ps (action.Timer t) = SaysTimer j t.id t.after
SaysAction s m j ps (action.Noted r) = SaysRow j r.what (option_map (name_of s) r.about) r.value × IfSome r.about (λ a. a < member_count s)
SaysAction s m j ps (action.Used words) = SaysUsed j words
SaysAction s m j ps action.Exit = SaysExit j

-- these items say these actions, one each
abbrev pub SaysActions : Setup → ℕ → Items → List Piece → List Action → Type 0
SaysActions s m no_items ps [] = Unit {0}
SaysActions s m no_items ps (a ∷ rest) = ⊥
SaysActions s m (item j js) ps [] = ⊥
SaysActions s m (item j js) ps (a ∷ rest) = SaysAction s m j ps a × SaysActions s m js (behind j ps) rest

abbrev pub count_items : Items → ℕ
count_items no_items = 0
count_items (item j js) = count_items js + 1

-- a process that ends does so where it may, by an action before no others
abbrev pub MayStand : Bool → ℕ → Json → Type 0
MayStand exits left j = SaysExit j → (exits ≡ true) × (left ≡ 0)

-- so each of these items stands
abbrev pub ExitsLast : Bool → Items → Type 0
ExitsLast exits no_items = Unit {0}
ExitsLast exits (item j js) = MayStand exits (count_items js) j × ExitsLast exits js

-- The line answers an event of member m, whose process may end now or not, by these actions.
pub record IsAnswer (s : Setup) (m : ℕ) (exits : Bool) (line : List ℕ) (actions : List Action) : Type 0 where
  pub items : Items
  pub json : IsJson line (array items)
  pub last : ExitsLast exits items
  pub says : SaysActions s m items (drop 1 (pieces line)) actions

-- ---- why a line is no answer

abbrev pub AreActions : Items → Type 0
AreActions no_items = Unit {0}
AreActions (item j js) = IsAction j × AreActions js

-- the line is no JSON
abbrev pub IsNoJson : List ℕ → Type 0
IsNoJson line = (j : Json) → ¬ (IsJson line j)

-- the line is JSON, but no list of actions, or it ends a process that may not end or goes on behind it
pub record IsNoList (exits : Bool) (line : List ℕ) : Type 0 where
  pub json : Json
  pub is : IsJson line json
  pub not : (items : Items) → json ≡ array items → ¬ (AreActions items × ExitsLast exits items)

-- no member has the name
abbrev pub IsNobody : Setup → List ℕ → Type 0
IsNobody s name = (m : ℕ) → m < member_count s → ¬ (name_of s m ≡ name)

-- the item says an action of member m that goes to itself, or goes to nobody or is about nobody
pub data NamesNobody (s : Setup) (m : ℕ) (j : Json) : Type 0 where
  itself : (what : What) (value : ℕ) (stream : Bool) → SaysSend j what (name_of s m) value stream → NamesNobody s m j
  to_nobody : (what : What) (to : List ℕ) (value : ℕ) (stream : Bool) → SaysSend j what to value stream → IsNobody s to → NamesNobody s m j
  about_nobody : (what : What) (name : List ℕ) (value : ℕ) → SaysRow j what (Some name) value → IsNobody s name → NamesNobody s m j

-- one of the items is so
abbrev pub OneOf : (Json → Type 0) → Items → Type 0
OneOf P no_items = ⊥
OneOf P (item j js) = P j ⊎ OneOf P js

-- the line is a list of actions, of which one names nobody whom it could name
pub record IsNobodys (s : Setup) (m : ℕ) (exits : Bool) (line : List ℕ) : Type 0 where
  pub items : Items
  pub is : IsJson line (array items)
  pub actions : AreActions items
  pub last : ExitsLast exits items
  pub one : OneOf (NamesNobody s m) items

-- what holds by the cause: nothing where memory was refused
abbrev pub IsCause : Type 0 → Type 0 → Type 0 → AnswerError → Type 0
IsCause json action member cause.Memory = Unit {0}
IsCause json action member cause.Json = json
IsCause json action member cause.Action = action
IsCause json action member cause.Member = member
