-- The founders' starts, with which a run begins: the cluster stays whole.
use Rattle.std.proofs.Common.{◌≡◌, ℕ, Bool, true, false, ◌&&◌, ◌||◌, ◌==◌, List, [], ◌∷◌, ◌++◌, refl, sym, ap, subst, ◌∙◌}
use Rattle.std.specs.Prelude.{not, if◌then◌else◌}
use Rattle.std.proofs.Math.Bool.{and-false}
use Rattle.std.proofs.lemmas.Bool.{eqb-true, false≢true}
use denote.Enum.Bare.{same_true}
use Rattle.trace.specs.contracts.row.What.{the_type}
use Rattle.trace.specs.declared.row.What.TheVariants as what
use Rattle.trace.specs.declared.row.Row.{Row}
use Rattle.trace_rows.specs.Rows.{has_kind}
use Rattle.trace_rows.proofs.Tellings.{has_kind-same}
use Rattle.incidents.specs.declared.cluster.Cluster.{Cluster}
use Rattle.incidents.specs.declared.wholeness.Wholeness.{Wholeness}
use Rattle.incidents.specs.Lives.{begins, is_turn, is_up, restarts}
use Rattle.incidents.specs.Views.{claims, is_said, last_said, is_founder, holds_first, holds}
use Rattle.incidents.specs.Whole.{misses}
use Rattle.incidents.specs.Pairs.{has}
use Rattle.incidents.specs.Kept.{count_of}
use Rattle.incidents.specs.Missed.{differs, departs, pair_count, IsBeginning, IsWholenessOf}
use Rattle.incidents.proofs.Sums.{same_pairs}
use Rattle.incidents.proofs.Pushes.{up-push, restarted-push}
use Rattle.incidents.proofs.Holding.{differs_none, held, departs-push}
use Rattle.incidents.proofs.Wholes.{since-more}

-- ---- tests

and_first : (a b : Bool) → (a && b) ≡ true → a ≡ true
and_first true b both = refl
and_first false b both = both

and_rest : (a b : Bool) → (a && b) ≡ true → b ≡ true
and_rest true b both = both
and_rest false b both = absurd (false≢true both)

and_true : (b : Bool) → (b && true) ≡ b
and_true true = refl
and_true false = refl

never : (b : Bool) → (not b && b) ≡ false
never true = refl
never false = refl

-- ---- one more start

start_begins : (row : Row) → has_kind what.Start row ≡ true → begins row ≡ true
start_begins row is = ap (λ b. b || has_kind what.Restart row) is

start_is_no_restart : (row : Row) → has_kind what.Start row ≡ true → has_kind what.Restart row ≡ false
start_is_no_restart row is = has_kind-same what.Start what.Restart row (same_true the_type tt row.what what.Start is)

-- who is up then: the one that starts, or one that was
up_step : (own turn starts was founder : Bool) → (own ≡ true → founder ≡ true) → (was ≡ true → founder ≡ true) → (if own && turn then starts else was) ≡ true → founder ≡ true
up_step true turn starts was founder here before is = here refl
up_step false turn starts was founder here before is = before is

said_step : (said beg rest was : Bool) → beg ≡ true → was ≡ false → (if said then not beg && rest else was) ≡ false
said_step true beg rest was starts none = ap (λ b. not b && rest) starts
said_step false beg rest was starts none = none

begun : (founders : List Bool) (rows : List Row) (row : Row) → has_kind what.Start row ≡ true → is_founder founders row.member ≡ true → IsBeginning founders rows → IsBeginning founders (rows ++ row ∷ [])
begun founders rows row starts founder is = record {
  up = λ m up. up_step (row.member == m) (is_turn row) (begins row) (is_up rows m) (is_founder founders m)
      (λ own. subst (λ k. is_founder founders k ≡ true) (eqb-true row.member m own) founder) (is.up m) (sym (up-push rows row m) ∙ up);
  again = λ m. restarted-push rows row m ∙ ap (λ b. b || restarts m row) (is.again m)
      ∙ ap (λ b. (row.member == m) && b) (start_is_no_restart row starts) ∙ and-false (row.member == m);
  said = λ first i j. departs-push first rows row i j
      ∙ said_step (is_said claims i j row) (begins row) (differs first (has_kind what.Alive row)) (departs first rows i j) (start_begins row starts) (is.said first i j);
}

-- ---- founders that are up hold each other

holds_then : (founders : List Bool) (rows : List Row) (i j : ℕ) → IsBeginning founders rows → holds founders rows i j ≡ (is_founder founders i && is_founder founders j)
holds_then founders rows i j is =
    let first = holds_first founders rows i j in
    let both = is_founder founders i && is_founder founders j in
    held first (last_said claims rows i j) ∙ ap (differs first) (is.said first i j) ∙ sym (differs_none first)
    ∙ ap (λ r. both && not r) (is.again i) ∙ and_true both

held_step : (apart one two first second hold : Bool) → (one ≡ true → first ≡ true) → (two ≡ true → second ≡ true) → hold ≡ (first && second)
    → (apart && (one && (two && not hold))) ≡ false
held_step apart false two first second hold here there is = and-false apart
held_step apart true false first second hold here there is = and-false apart
held_step apart true true first second hold here there is = ap (λ h. apart && not h) (is ∙ ap (λ f. f && second) (here refl) ∙ there refl) ∙ and-false apart

none_then : (founders : List Bool) (rows : List Row) (i j : ℕ) → IsBeginning founders rows → misses founders rows i j ≡ false
none_then founders rows i j is =
    held_step (not (i == j)) (is_up rows i) (is_up rows j) (is_founder founders i) (is_founder founders j) (holds founders rows i j) (is.up i) (is.up j) (holds_then founders rows i j is)

-- what is kept stays, where a founder starts at the beginning
pub whole-begun : (whole : Wholeness) (cluster : Cluster) (rows : List Row) (row : Row)
    → (whole.is_beginning && (has_kind what.Start row && is_founder cluster.founders.items row.member)) ≡ true
    → IsWholenessOf whole cluster rows → IsWholenessOf whole cluster (rows ++ row ∷ [])
whole-begun whole cluster rows row starts are =
    let founders = cluster.founders.items in
    let n = count_of cluster in
    let more = rows ++ row ∷ [] in
    let rest = and_rest whole.is_beginning _ starts in
    let was : IsBeginning founders rows = are.begins (and_first whole.is_beginning _ starts) in
    let is : IsBeginning founders more = begun founders rows row (and_first (has_kind what.Start row) _ rest) (and_rest (has_kind what.Start row) _ rest) was in
    let missed : whole.missed ≡ pair_count n (misses founders more) =
    are.views.missed ∙ same_pairs n (misses founders rows) (misses founders more) (λ i j. none_then founders rows i j was ∙ sym (none_then founders more i j is)) in
    let said : (i j : ℕ) → has whole.odd i j ≡ false = λ i j.
    are.views.odd i j ∙ ap (λ d. is_up rows i && d) (was.said (holds_first founders rows i j) i j) ∙ and-false (is_up rows i) in
    record {
      views = record {
        odd = λ i j. said i j ∙ sym (ap (λ d. is_up more i && d) (is.said (holds_first founders more i j) i j) ∙ and-false (is_up more i));
        missed = missed;
        members = are.views.members;
      };
      since =
          since-more cluster rows row whole.missed whole.missed whole.since whole.since whole.since are.views.missed missed are.since refl
          (sym (ap (λ b. if b then row.at else whole.since) (never (whole.missed == 0))));
      begins = λ _. is;
    }
