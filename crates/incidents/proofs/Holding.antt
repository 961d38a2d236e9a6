-- What one row more makes of who holds whom.
use Rattle.std.proofs.Common.{◌≡◌, ℕ, Bool, true, false, ◌&&◌, ◌||◌, ◌==◌, List, [], ◌∷◌, ◌++◌, Option, Some, None, refl, sym, ap, subst, ◌∙◌, inl, inr}
use Rattle.std.specs.Prelude.{not, if◌then◌else◌}
use Rattle.std.specs.Option.{option_map_or}
use Rattle.std.proofs.Math.Bool.{and-false}
use Rattle.std.proofs.lemmas.Bool.{cases_eq, ne_eqb, eqb-true, false≢true}
use Rattle.trace.specs.declared.row.What.{What}
use Rattle.trace.specs.declared.row.What.TheVariants as what
use Rattle.trace.specs.declared.row.Row.{Row}
use Rattle.trace_rows.specs.Rows.{has_kind, is_about}
use Rattle.incidents.specs.declared.cluster.Cluster.{Cluster}
use Rattle.incidents.specs.declared.lives.Lives.{Lives}
use Rattle.incidents.specs.declared.pairs.Pairs.{Pairs}
use Rattle.incidents.specs.Lives.{begins, ends, is_turn, is_turn_of, is_up, restarts, has_restarted}
use Rattle.incidents.specs.Views.{claims, is_one_of, is_said, last_said, is_founder, holds_first, holds_by, holds}
use Rattle.incidents.specs.Whole.{misses}
use Rattle.incidents.specs.Flags.{is_up_in}
use Rattle.incidents.specs.Pairs.{has, has_with, has_without}
use Rattle.incidents.specs.Kept.{is_heard, AreLivesOf}
use Rattle.incidents.specs.Missed.{differs, departs_by, departs, first_in, misses_in, odd_with}
use Rattle.incidents.proofs.Turning.{turn_is_no_view, no_claim}
use Rattle.incidents.proofs.Pushes.{read-push, up-push, restarted-push}

-- ---- what is kept says who misses whom

pub differs_none : (first : Bool) → first ≡ differs first false
differs_none true = refl
differs_none false = refl

differs_twice : (first said : Bool) → said ≡ differs first (differs first said)
differs_twice true true = refl
differs_twice true false = refl
differs_twice false said = refl

held_by_row : (first beg said : Bool) → (if beg then first else said) ≡ differs first (not beg && differs first said)
held_by_row first true said = differs_none first
held_by_row first false said = differs_twice first said

-- what is held is what was held first, unless that was departed from
pub held : (first : Bool) (last : Option Row) → option_map_or (holds_by first) last first ≡ differs first (option_map_or (departs_by first) last false)
held first None = differs_none first
held first (Some row) = held_by_row first (begins row) (has_kind what.Alive row)

-- what departs, where these rows are there
abbrev pub IsOddOf : Pairs → Cluster → List Row → Type 0
IsOddOf odd cluster rows = (a b : ℕ) → has odd a b ≡ (is_up rows a && departs (holds_first cluster.founders.items rows a b) rows a b)

pub first_is : (cluster : Cluster) (lives : Lives) (count : ℕ) (rows : List Row) → AreLivesOf lives count rows
    → (a b : ℕ) → first_in cluster lives a b ≡ holds_first cluster.founders.items rows a b
first_is cluster lives count rows are a b = ap (λ r. (is_founder cluster.founders.items a && is_founder cluster.founders.items b) && not r) (are.restarted a)

missed_where_up : (up other : Bool) (first odd hold : Bool) (away : Bool) → (up ≡ true → hold ≡ differs first odd)
    → (not away && (up && (other && not (differs first odd)))) ≡ (not away && (up && (other && not hold)))
missed_where_up true other first odd hold away is = ap (λ h. not away && (true && (other && not h))) (sym (is refl))
missed_where_up false other first odd hold away is = refl

up_odd : (up odd departs : Bool) → odd ≡ (up && departs) → up ≡ true → odd ≡ departs
up_odd true odd departs is here = is
up_odd false odd departs is here = cc

pub misses_is : (odd : Pairs) (cluster : Cluster) (lives : Lives) (count : ℕ) (rows : List Row) → AreLivesOf lives count rows → IsOddOf odd cluster rows
    → (a b : ℕ) → misses_in odd cluster lives a b ≡ misses cluster.founders.items rows a b
misses_is odd cluster lives count rows are is a b =
    let first = holds_first cluster.founders.items rows a b in
    ap (λ f. not (a == b) && (is_up_in lives a && (is_up_in lives b && not (differs f (has odd a b))))) (first_is cluster lives count rows are a b)
    ∙ ap (λ u. not (a == b) && (u && (is_up_in lives b && not (differs first (has odd a b))))) (are.up a)
    ∙ ap (λ u. not (a == b) && (is_up rows a && (u && not (differs first (has odd a b))))) (are.up b)
    ∙ missed_where_up (is_up rows a) (is_up rows b) first (has odd a b) (holds cluster.founders.items rows a b) (a == b)
    (λ up. held first (last_said claims rows a b) ∙ ap (differs first) (sym (up_odd (is_up rows a) (has odd a b) (departs first rows a b) (is a b) up)))

-- ---- what departs, with a row more

pub departs-push : (first : Bool) (rows : List Row) (row : Row) (a b : ℕ) → departs first (rows ++ row ∷ []) a b ≡ (if is_said claims a b row then departs_by first row else departs first rows a b)
departs-push first rows row a b = read-push (departs_by first) false (is_said claims a b) rows row

or_false : (b : Bool) → (b || false) ≡ b
or_false true = refl
or_false false = refl

-- a row with which nobody starts again leaves what is held first
pub same_first : (founders : List Bool) (rows : List Row) (row : Row) (a b : ℕ) → restarts a row ≡ false → holds_first founders (rows ++ row ∷ []) a b ≡ holds_first founders rows a b
same_first founders rows row a b none =
    ap (λ r. (is_founder founders a && is_founder founders b) && not r) (restarted-push rows row a ∙ ap (λ r. has_restarted rows a || r) none ∙ or_false (has_restarted rows a))

-- the row isn't a restart of one whose row it isn't, or that begins no life
restarts_other : (own kind other rest : Bool) → own ≡ false → (own && kind) ≡ false
restarts_other own kind other rest none = ap (λ b. b && kind) none

odd_step : (own beg en claim about alive up odd : Bool) (first first' : Bool) (dep : Bool → Bool) → odd ≡ (up && dep first)
    → ((beg || en) ≡ true → claim ≡ false) → ((own && (beg || en)) ≡ false → first' ≡ first)
    → (if own && (beg || en) then false else (if own && (up && (claim && about)) then differs first alive else odd))
    ≡ ((if own && (beg || en) then beg else up) && (if own && (beg || (claim && about)) then not beg && differs first' alive else dep first'))
odd_step false beg en claim about alive up odd first first' dep is no_claim same = is ∙ ap (λ f. up && dep f) (sym (same refl))
odd_step true true en claim about alive up odd first first' dep is no_claim same = refl
odd_step true false true claim about alive up odd first first' dep is no_claim same = refl
odd_step true false false claim about alive true odd first first' dep is no_claim same =
    ap (λ o. if claim && about then differs first alive else o) is ∙ ap (λ f. if claim && about then differs f alive else dep f) (sym (same refl))
odd_step true false false claim about alive false odd first first' dep is no_claim same = is

restart_turns : (own start again end : Bool) → (own && ((start || again) || end)) ≡ false → (own && again) ≡ false
restart_turns false start again end none = refl
restart_turns true true again end none = cc
restart_turns true false true end none = cc
restart_turns true false false end none = refl

pub no_restart : (row : Row) (a : ℕ) → is_turn_of a row ≡ false → restarts a row ≡ false
no_restart row a none = restart_turns (row.member == a) (has_kind what.Start row) (has_kind what.Restart row) (ends row) none

pub odd-push : (before after : Pairs) (up : ℕ → Bool) (first : ℕ → ℕ → Bool) (cluster : Cluster) (rows : List Row) (row : Row)
    → ((m : ℕ) → up m ≡ is_up rows m)
    → ((a b : ℕ) → first a b ≡ holds_first cluster.founders.items rows a b)
    → IsOddOf before cluster rows
    → ((a b : ℕ) → has after a b ≡ odd_with up first row (has before) a b)
    → IsOddOf after cluster (rows ++ row ∷ [])
odd-push before after up first cluster rows row are_up are_first were is a b =
    let now = holds_first cluster.founders.items (rows ++ row ∷ []) a b in
    let was = holds_first cluster.founders.items rows a b in
    is a b
    ∙ ap (λ u. if is_turn_of a row then false else (if (row.member == a) && (u && (is_one_of claims row && is_about b row)) then differs (first a b) (has_kind what.Alive row) else has before a b)) (are_up a)
    ∙ ap (λ f. if is_turn_of a row then false else (if (row.member == a) && (is_up rows a && (is_one_of claims row && is_about b row)) then differs f (has_kind what.Alive row) else has before a b)) (are_first a b)
    ∙ odd_step (row.member == a) (begins row) (ends row) (is_one_of claims row) (is_about b row) (has_kind what.Alive row) (is_up rows a) (has before a b)
    was now (λ f. departs f rows a b) (were a b) (λ turn. no_claim row (turn_is_no_view row turn)) (λ none. same_first cluster.founders.items rows row a b (no_restart row a none))
    ∙ sym (ap (λ u. u && departs now (rows ++ row ∷ []) a b) (up-push rows row a) ∙ ap (λ s. (if is_turn_of a row then begins row else is_up rows a) && s) (departs-push now rows row a b))

-- ---- rows that aren't heard

no_own : (own turn : Bool) → turn ≡ false → (own && turn) ≡ false
no_own own turn none = ap (λ t. own && t) none ∙ and-false own

-- a row that begins or ends no life is no turn of anybody
pub no_turn_of : (row : Row) → is_turn row ≡ false → (a : ℕ) → is_turn_of a row ≡ false
no_turn_of row none a = no_own (row.member == a) (is_turn row) none

unheard_step : (own up claim about : Bool) → (own ≡ true → (up && (claim && about)) ≡ false) → (own && (up && (claim && about))) ≡ false
unheard_step true up claim about none = none refl
unheard_step false up claim about none = refl

-- a row isn't heard of which that holds whatever it is about
unheard : (kinds : List What) (row : Row) (up : ℕ → Bool) → ((b : ℕ) → (up row.member && (is_one_of kinds row && is_about b row)) ≡ false) → (a b : ℕ) → is_heard kinds up a b row ≡ false
unheard kinds row up none a b =
    unheard_step (row.member == a) (up a) (is_one_of kinds row) (is_about b row)
    (λ own. subst (λ m. (up m && (is_one_of kinds row && is_about b row)) ≡ false) (eqb-true row.member a own) (none b))

silent : (view up about : Bool) → (view && up) ≡ false → (up && (view && about)) ≡ false
silent true true about none = cc
silent true false about none = refl
silent false true about none = refl
silent false false about none = refl

-- one that says nothing of these, or whose member isn't up
pub unheard-silent : (kinds : List What) (row : Row) (up : ℕ → Bool) → (is_one_of kinds row && up row.member) ≡ false → (a b : ℕ) → is_heard kinds up a b row ≡ false
unheard-silent kinds row up none = unheard kinds row up (λ b. silent (is_one_of kinds row) (up row.member) (is_about b row) none)

about_none : (view up : Bool) → (up && (view && false)) ≡ false
about_none true true = refl
about_none true false = refl
about_none false true = refl
about_none false false = refl

-- one that is about nobody
pub unheard-none : (kinds : List What) (row : Row) (up : ℕ → Bool) → row.about ≡ None → (a b : ℕ) → is_heard kinds up a b row ≡ false
unheard-none kinds row up none = unheard kinds row up (λ b.
    ap (λ o. up row.member && (is_one_of kinds row && option_map_or (λ about. about == b) o false)) none ∙ about_none (is_one_of kinds row) (up row.member))

-- ---- a row that is heard changes one pair

heard_step : (own same up view : Bool) (v w p : Bool) → (own ≡ true → (view && up) ≡ true) → (own ≡ true → same ≡ true → w ≡ v)
    → (if own && same then v else p) ≡ (if own && (up && (view && same)) then w else p)
heard_step false same up view v w p heard is = refl
heard_step true true true true v w p heard is = sym (is refl refl)
heard_step true false true true v w p heard is = refl
heard_step true same true false v w p heard is = let no : false ≡ true = heard refl in absurd (false≢true no)
heard_step true same false true v w p heard is = let no : false ≡ true = heard refl in absurd (false≢true no)
heard_step true same false false v w p heard is = let no : false ≡ true = heard refl in absurd (false≢true no)

pub heard_one : (kinds : List What) (row : Row) (up : ℕ → Bool) (j : ℕ) (v : Bool) (w pairs : ℕ → ℕ → Bool) → is_turn row ≡ false
    → (is_one_of kinds row && up row.member) ≡ true → row.about ≡ Some j → w row.member j ≡ v
    → (a b : ℕ) → has_with row.member j v pairs a b ≡ (if is_turn_of a row then false else (if is_heard kinds up a b row then w a b else pairs a b))
heard_one kinds row up j v w pairs none heard about is a b =
    heard_step (row.member == a) (j == b) (up a) (is_one_of kinds row) v (w a b) (pairs a b)
    (λ own. subst (λ m. (is_one_of kinds row && up m) ≡ true) (eqb-true row.member a own) heard)
    (λ own same. let first : row.member ≡ a = eqb-true row.member a own in let second : j ≡ b = eqb-true j b same in
    subst (λ m. w m b ≡ v) first (subst (λ n. w row.member n ≡ v) second is))
    ∙ sym (ap (λ t. if t then false else (if is_heard kinds up a b row then w a b else pairs a b)) (no_turn_of row none a)
    ∙ ap (λ o. if (row.member == a) && (up a && (is_one_of kinds row && option_map_or (λ x. x == b) o false)) then w a b else pairs a b) about)

-- another pair stays
pub other_pair : (i j : ℕ) (v : Bool) (pairs : ℕ → ℕ → Bool) (a b : ℕ) → (a ≡ i → b ≡ j → ⊥) → has_with i j v pairs a b ≡ pairs a b
other_pair i j v pairs a b apart =
    elim (cases_eq i a) [
      | inl first ↦
          let second : (j ≡ b → ⊥) = λ is. apart (sym first) (sym is) in
          ap (λ t. if (i == a) && t then v else pairs a b) (ne_eqb j b second) ∙ ap (λ t. if t then v else pairs a b) (and-false (i == a))
      | inr first ↦ ap (λ t. if t && (j == b) then v else pairs a b) (ne_eqb i a first)
    ]

no_change : (turn heard : Bool) (new old : Bool) → turn ≡ false → heard ≡ false → old ≡ (if turn then false else (if heard then new else old))
no_change turn heard new old none too = sym (ap (λ t. if t then false else (if heard then new else old)) none ∙ ap (λ h. if h then new else old) too)

dropped_step : (own turn rest kind old : Bool) → turn ≡ true → (if own then false else old) ≡ (if own && turn then false else (if own && rest then kind else old))
dropped_step true turn rest kind old is = sym (ap (λ t. if t then false else (if rest then kind else old)) is)
dropped_step false turn rest kind old is = refl

-- a row with which a life begins or ends takes its member's pairs
pub dropped_one : (kinds : List What) (row : Row) (up : ℕ → Bool) (w pairs : ℕ → ℕ → Bool) → is_turn row ≡ true
    → (a b : ℕ) → has_without row.member pairs a b ≡ (if is_turn_of a row then false else (if is_heard kinds up a b row then w a b else pairs a b))
dropped_one kinds row up w pairs turn a b = dropped_step (row.member == a) (is_turn row) (up a && (is_one_of kinds row && is_about b row)) (w a b) (pairs a b) turn

-- and one that isn't heard leaves them
pub kept_one : (kinds : List What) (row : Row) (up : ℕ → Bool) (w pairs : ℕ → ℕ → Bool) → is_turn row ≡ false → ((a b : ℕ) → is_heard kinds up a b row ≡ false)
    → (a b : ℕ) → pairs a b ≡ (if is_turn_of a row then false else (if is_heard kinds up a b row then w a b else pairs a b))
kept_one kinds row up w pairs none unheard a b = no_change (is_turn_of a row) (is_heard kinds up a b row) (w a b) (pairs a b) (no_turn_of row none a) (unheard a b)

-- ---- lives where no life begins or ends

pub lives-same : (lives : Lives) (count : ℕ) (rows : List Row) (row : Row) → is_turn row ≡ false → AreLivesOf lives count rows → AreLivesOf lives count (rows ++ row ∷ [])
lives-same lives count rows row none are = record {
  up = λ m. are.up m ∙ sym (up-push rows row m ∙ ap (λ t. if t then begins row else is_up rows m) (no_turn_of row none m));
  restarted = λ m. are.restarted m ∙ sym (restarted-push rows row m ∙ ap (λ r. has_restarted rows m || r) (no_restart row m (no_turn_of row none m)) ∙ or_false (has_restarted rows m));
  members = are.members;
  also = are.also;
}
