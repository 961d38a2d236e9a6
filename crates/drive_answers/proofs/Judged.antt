-- What is said of a line, by what its reading came to.
use Rattle.std.proofs.Common.{◌≡◌, ℕ, Bool, true, false, List, [], ◌∷◌, ◌++◌, drop, Option, Some, None, unwrap_or, ap, ◌∙◌, sym, refl, subst, append_assoc, inl, ◌+◌, length, arith}
use Rattle.std.proofs.lemmas.Bool.{false≢true}
use Rattle.std.specs.Prelude.{◌↔◌, IfSome, IsNone, IsTrue}
use Rattle.std.specs.Option.{is_some, option_and_then}
use Rattle.std.specs.Str.{IsUtf8}
use Rattle.json.specs.Token.{Token}
use Rattle.json.specs.Json.{Json, null, boolean, number, string, array, object, Items, item, value, if_last}
use Rattle.json.specs.Find.{as_array}
use Rattle.json.specs.Lex.{tokens}
use Rattle.serde_json.specs.Read.{read, of_json, max_depth}
use Rattle.scenario.specs.Setup.{Setup}
use Rattle.trace.specs.declared.row.What.{What}
use Rattle.drive_answers.specs.declared.action.Action.{Action}
use Rattle.drive_answers.specs.declared.error.AnswerError.{AnswerError}
use Rattle.drive_answers.specs.declared.error.AnswerError.TheVariants as cause
use Rattle.drive_answers.specs.declared.said.Said.{Said}
use Rattle.drive_answers.specs.declared.said.Said.TheVariants as says
use Rattle.drive_answers.specs.Pieces.{Piece, pieces}
use Rattle.drive_answers.specs.Standing.{behind}
use Rattle.drive_answers.specs.Said.{SaysSend, SaysTimer, SaysRow, SaysUsed, SaysExit}
use Rattle.drive_answers.specs.SaidOf.{Says, IsAction, send, timer, told, used, exit}
use Rattle.drive_answers.specs.Answer.{IsJson, IsNoJson, IsNoList, IsNobodys, NamesNobody, OneOf, AreActions, SaysAction, SaysActions, IsAnswer, IsCause, count_items, ExitsLast}
use Rattle.json.specs.Value.{items_view}
use Rattle.json.specs.declared.value.Value.{Value}
use Rattle.std.proofs.lemmas.List.{length-drop}

-- ---- an item

pub no_action : (j : Json) → ((what : What) (to : List ℕ) (value : ℕ) (stream : Bool) → ¬ (SaysSend j what to value stream)) → ((id after : ℕ) → ¬ (SaysTimer j id after))
    → ((what : What) (about : Option (List ℕ)) (value : ℕ) → ¬ (SaysRow j what about value)) → ((words : ℕ) → ¬ (SaysUsed j words)) → ¬ (SaysExit j) → ¬ (IsAction j)
no_action j s t r u x (send what to value stream h) = s what to value stream h
no_action j s t r u x (timer id after h) = t id after h
no_action j s t r u x (told what about value h) = r what about value h
no_action j s t r u x (used words h) = u words h
no_action j s t r u x (exit h) = x h

says_action : (j : Json) (x : Said) → Says j x → IsAction j
says_action j (says.Send x) h = send x.what x.to.now x.value x.stream h
says_action j (says.Timer t) h = timer t.id t.after h
says_action j (says.Row r) h = told r.what _ r.value h
says_action j (says.Used words) h = used words h
says_action j says.Exit h = exit h

pub is_said : (j : Json) (o : Option Said) → IfSome o (Says j) → (IsNone o → ¬ (IsAction j)) → (IsTrue (is_some o) ↔ IsAction j)
is_said j None some none = (λ t. absurd (false≢true t), λ a. absurd (none refl a))
is_said j (Some x) some none = (λ _. says_action j x some, λ _. refl)

-- ---- a list

pub as_list : (j : Json) (js : Items) → Some js ≡ as_array j → j ≡ array js
as_list null js h = absurd (false≢true (sym (ap is_some h)))
as_list (boolean b) js h = absurd (false≢true (sym (ap is_some h)))
as_list (number s) js h = absurd (false≢true (sym (ap is_some h)))
as_list (string s) js h = absurd (false≢true (sym (ap is_some h)))
as_list (array ks) js h = ap array (sym (ap (λ o. unwrap_or o js) h))
as_list (object ms) js h = absurd (false≢true (sym (ap is_some h)))

pub no_list : (exits : Bool) (line : List ℕ) (j : Json) → IsJson line j → None ≡ as_array j → IsNoList exits line
no_list exits line j json none = record { json = j; is = json; not = λ js is acts. false≢true (ap is_some (none ∙ ap as_array is)) }

pub not_all : (exits : Bool) (line : List ℕ) (j : Json) (js : Items) → IsJson line j → Some js ≡ as_array j → ¬ (AreActions js × ExitsLast exits js) → IsNoList exits line
not_all exits line j js json is not = record {
  json = j;
  is = json;
  not = λ ks same acts. not (subst (λ xs. AreActions xs × ExitsLast exits xs) (sym (ap (λ o. unwrap_or o js) (is ∙ ap as_array same))) acts);
}

pub whole_answer : (s : Setup) (m : ℕ) (exits : Bool) (line : List ℕ) (j : Json) (js : Items) (ps : List Piece) (actions : List Action) → IsJson line j → Some js ≡ as_array j
    → ExitsLast exits js → ps ≡ drop 1 (pieces line) → SaysActions s m js ps actions → IsAnswer s m exits line actions
whole_answer s m exits line j js ps actions json is last cut says_them =
    record { items = js; json = subst (IsJson line) (as_list j js is) json; last = last; says = subst (λ qs. SaysActions s m js qs actions) cut says_them }

pub whole_refused : (s : Setup) (m : ℕ) (exits : Bool) (line : List ℕ) (j : Json) (js : Items) (e : AnswerError) → IsJson line j → Some js ≡ as_array j → AreActions js
    → ExitsLast exits js → IsCause ⊥ ⊥ (OneOf (NamesNobody s m) js) e → IsCause ⊥ (IsNoList exits line) (IsNobodys s m exits line) e
whole_refused s m exits line j js cause.Memory json is all last h = tt
whole_refused s m exits line j js cause.Json json is all last h = absurd h
whole_refused s m exits line j js cause.Action json is all last h = absurd h
whole_refused s m exits line j js cause.Member json is all last h =
    record { items = js; is = subst (IsJson line) (as_list j js is) json; actions = all; last = last; one = h }

-- ---- where a process ends

pub counts_items : {A : Type 0} → (xs : List (Value A)) → count_items (items_view xs) ≡ length xs
counts_items [] = refl
counts_items (x ∷ xs) = ap (λ n. n + 1) (counts_items xs) ∙ omega arith

-- so many items are left behind this one
pub items_left : {A : Type 0} → (xs : List (Value A)) (i left : ℕ) → left + (i + 1) ≡ length xs → count_items (items_view (drop (i + 1) xs)) ≡ left
items_left xs i left count = counts_items (drop (i + 1) xs) ∙ omega (arith, count, length-drop (i + 1) xs)

-- ---- item by item

pub said_more : (s : Setup) (m : ℕ) (all here later : Items) (j : Json) (from ps on : List Piece) (made more : List Action) (a : Action)
    → here ≡ item j later → on ≡ behind j ps → more ≡ made ++ a ∷ [] → SaysAction s m j ps a
    → ((list : List Action) → SaysActions s m here ps list → SaysActions s m all from (made ++ list))
    → (list : List Action) → SaysActions s m later on list → SaysActions s m all from (more ++ list)
said_more s m all here later j from ps on made more a is behind_it grown says_it so_far list rest =
    subst (λ xs. SaysActions s m all from xs) (sym (append_assoc made (a ∷ []) list) ∙ ap (λ xs. xs ++ list) (sym grown))
    (so_far (a ∷ list) (subst (λ js. SaysActions s m js ps (a ∷ list)) (sym is) (says_it, subst (λ qs. SaysActions s m later qs list) behind_it rest)))

pub refused_here : (s : Setup) (m : ℕ) (all here later : Items) (j : Json) (e : AnswerError) → here ≡ item j later
    → (OneOf (NamesNobody s m) here → OneOf (NamesNobody s m) all) → IsCause ⊥ ⊥ (NamesNobody s m j) e → IsCause ⊥ ⊥ (OneOf (NamesNobody s m) all) e
refused_here s m all here later j cause.Memory is up h = tt
refused_here s m all here later j cause.Json is up h = h
refused_here s m all here later j cause.Action is up h = h
refused_here s m all here later j cause.Member is up h = up (subst (OneOf (NamesNobody s m)) (sym is) (inl h))

-- ---- the JSON of a text

read_as : (text : List ℕ) (j : Json) → value max_depth (tokens text) ≡ Some (j, []) → read text ≡ of_json j
read_as text j whole = ap (λ r. option_and_then of_json (option_and_then (λ p. if_last p.0 p.1) r)) whole

pub is_json : (text : List ℕ) (j : Json) → IsUtf8 text → is_some (read text) ≡ true → value max_depth (tokens text) ≡ Some (j, []) → IsJson text j
is_json text j utf8 good whole = record { utf8 = utf8; whole = whole; finite = ap is_some (sym (read_as text j whole)) ∙ good }

pub judged : (text : List ℕ) (e : AnswerError) → IsCause (read text ≡ None) ⊥ ⊥ e → IsCause (IsNoJson text) ⊥ ⊥ e
judged text cause.Memory h = tt
judged text cause.Json h = λ j is. false≢true (ap is_some (sym h ∙ read_as text j is.whole) ∙ is.finite)
judged text cause.Action h = h
judged text cause.Member h = h

pub no_tree : (text : List ℕ) (e : AnswerError) → IsCause ((j : Json) → ¬ (value max_depth (tokens text) ≡ Some (j, []))) ⊥ ⊥ e → IsCause (IsNoJson text) ⊥ ⊥ e
no_tree text cause.Memory h = tt
no_tree text cause.Json h = λ j is. h j is.whole
no_tree text cause.Action h = h
no_tree text cause.Member h = h

left_of : Option (Json × List Token) → List Token
left_of None = []
left_of (Some p) = p.1

is_nil : List Token → Bool
is_nil [] = true
is_nil (t ∷ ts) = false

-- something is left behind the value
pub more_left : (r : Option (Json × List Token)) (first : Json) (left rest : List Token) (t : Token) → r ≡ Some (first, left) → left ≡ t ∷ rest → (j : Json) → ¬ (r ≡ Some (j, []))
unfolding left_of is_nil
more_left r first left rest t whole is j none =
    false≢true (ap is_nil (sym is ∙ ap left_of (sym whole ∙ none)))
