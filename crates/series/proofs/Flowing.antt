-- What one change more makes of flows.
use Rattle.std.proofs.Common.{◌≡◌, ◌≢◌, ℕ, ◌+◌, ◌<◌, ◌^◌, Bool, true, false, cond, ◌&&◌, ◌==◌, not, List, [], ◌∷◌, ◌++◌, length, get_or, refl, sym, ap, subst, ◌∙◌, arith, add-zero, inl, inr}
use Rattle.std.specs.Prelude.{slice_index, slice_set}
use Rattle.std.proofs.lemmas.Bool.{cases_Bool}
use Rattle.std.proofs.lemmas.List.{get_or-set_other}
use Rattle.std.proofs.lemmas.Grind.{get_or-set_at}
use Rattle.std.proofs.lemmas.Option.{slice_get_read, get_or_from_slice_get}
use Rattle.series.specs.declared.flows.Flows.{Flows}
use Rattle.series.specs.Grid.{count_at}
use Rattle.series.specs.Changes.{Change, state_after, passing_after, comes, goes, came, went, AreFlowsOf}
use Rattle.series.proofs.Passing.{passing-push, passing-few, state-push}

abbrev pub change : ℕ → ℕ → ℕ → Change
change member state span = record { member = member; state = state; span = span }

-- ---- a member that is in that state already

unmoved_comes : (v k state span : ℕ) → ((v == state && k == span) && not (v == state)) ≡ false
unmoved_comes v k state span = elim (cases_Bool (v == state)) as (λ _. ((v == state && k == span) && not (v == state)) ≡ false) [ inl h ↦ grind (arith, h) | inr h ↦ grind (arith, h) ]

no_more : (a b : ℕ) (test : Bool) → test ≡ false → a ≡ b → a ≡ b + cond test 1 0
no_more a b test none same = same ∙ sym (ap (λ t. b + cond t 1 0) none ∙ add-zero b)

-- the states of all are as they were
same_state : (states : List ℕ) (changes : List Change) (member state span m : ℕ) → slice_index states m ≡ state_after changes m → state ≡ state_after changes member
    → slice_index states m ≡ state_after (changes ++ change member state span ∷ []) m
same_state states changes member state span m told is =
    told ∙ sym (state-push changes (change member state span) m
    ∙ elim (cases_Bool (member == m)) as (λ _. cond (member == m) state (state_after changes m) ≡ state_after changes m) [
      | inl h ↦ ap (λ t. cond t state (state_after changes m)) h ∙ is ∙ ap (state_after changes) (same_number member m h)
      | inr h ↦ ap (λ t. cond t state (state_after changes m)) h
    ])
  where
    same_number : (a b : ℕ) → (a == b) ≡ true → a ≡ b
    same_number a b h = grind (arith)

pub unmoved : (states : ℕ) (flows : Flows) (changes : List Change) (member state span : ℕ) → AreFlowsOf states flows changes
    → slice_index flows.states.items member ≡ state → AreFlowsOf states flows (changes ++ change member state span ∷ [])
unmoved states flows changes member state span are is =
    let here : state ≡ state_after changes member = sym is ∙ are.now member in
    record {
      now = λ m. same_state flows.states.items changes member state span m (are.now m) here;
      within = are.within;
      came = λ v k low. no_more _ _ _ (ap (λ x. (v == state && k == span) && not (v == x)) (sym here) ∙ unmoved_comes v k state span) (are.came v k low) ∙ sym (passing-push (comes v k) [] changes (change member state span));
      went = λ v k low. no_more _ _ _ (ap (λ x. (v == x && k == span) && not (v == state)) (sym here) ∙ unmoved_comes v k state span) (are.went v k low) ∙ sym (passing-push (goes v k) [] changes (change member state span));
    }

-- ---- a member that comes from another state

moved_comes : (v k a b span : ℕ) → a ≢ b → ((v == a && k == span) && not (v == b)) ≡ (v == a && k == span)
moved_comes v k a b span other = elim (cases_Bool (v == a)) as (λ _. ((v == a && k == span) && not (v == b)) ≡ (v == a && k == span)) [ inl h ↦ grind (arith, h, other) | inr h ↦ grind (arith, h) ]

set_state : (states : List ℕ) (changes : List Change) (member state span m : ℕ) → member < length states → slice_index states m ≡ state_after changes m
    → slice_index (slice_set states member state) m ≡ state_after (changes ++ change member state span ∷ []) m
set_state states changes member state span m within told =
    elim (cases_Bool (member == m)) as (λ _. slice_index (slice_set states member state) m ≡ cond (member == m) state (state_after changes m)) [
      | inl h ↦ get_or-set_at states member m state 0 (same_number member m h) within ∙ sym (ap (λ t. cond t state (state_after changes m)) h)
      | inr h ↦ get_or-set_other states member m state 0 (not_same member m h) ∙ told ∙ sym (ap (λ t. cond t state (state_after changes m)) h)
    ]
    ∙ sym (state-push changes (change member state span) m)
  where
    same_number : (a b : ℕ) → (a == b) ≡ true → b ≡ a
    same_number a b h = grind (arith)

    not_same : (a b : ℕ) → (a == b) ≡ false → b ≢ a
    not_same a b h = grind (arith)

set_within : (bound : ℕ) (states : List ℕ) (member state m : ℕ) → member < length states → state < bound → slice_index states m < bound → slice_index (slice_set states member state) m < bound
set_within bound states member state m within low told =
    elim (cases_Bool (member == m)) as (λ _. slice_index (slice_set states member state) m < bound) [
      | inl h ↦ subst (λ x. x < bound) (sym (get_or-set_at states member m state 0 (same_number member m h) within)) low
      | inr h ↦ subst (λ x. x < bound) (sym (get_or-set_other states member m state 0 (not_same member m h))) told
    ]
  where
    same_number : (a b : ℕ) → (a == b) ≡ true → b ≡ a
    same_number a b h = grind (arith)

    not_same : (a b : ℕ) → (a == b) ≡ false → b ≢ a
    not_same a b h = grind (arith)

pub moved : (states : ℕ) (old new : Flows) (changes : List Change) (member state span before : ℕ) → AreFlowsOf states old changes → state < states
    → member < length old.states.items → before ≡ slice_index old.states.items member → before ≢ state
    → new.states.items ≡ slice_set old.states.items member state
    → ((t k : ℕ) → k < 120 → count_at new.came t k ≡ count_at old.came t k + cond (t == state && k == span) 1 0)
    → ((t k : ℕ) → k < 120 → count_at new.went t k ≡ count_at old.went t k + cond (t == before && k == span) 1 0)
    → AreFlowsOf states new (changes ++ change member state span ∷ [])
moved states old new changes member state span before are low within was other is came went =
    let here : before ≡ state_after changes member = was ∙ are.now member in
    record {
      now = λ m. ap (λ l. slice_index l m) is ∙ set_state old.states.items changes member state span m within (are.now m);
      within = λ m. subst (λ l. slice_index l m < states) (sym is) (set_within states old.states.items member state m within low (are.within m));
      came = λ v k small. came v k small ∙ ap (λ n. n + cond (v == state && k == span) 1 0) (are.came v k small)
          ∙ ap (λ t. passing_after (comes v k) [] changes + cond t 1 0) (sym (ap (λ x. (v == state && k == span) && not (v == x)) (sym here) ∙ moved_comes v k state before span (λ same. other (sym same))))
          ∙ sym (passing-push (comes v k) [] changes (change member state span));
      went = λ v k small. went v k small ∙ ap (λ n. n + cond (v == before && k == span) 1 0) (are.went v k small)
          ∙ ap (λ t. passing_after (goes v k) [] changes + cond t 1 0) (sym (ap (λ x. (v == x && k == span) && not (v == state)) (sym here) ∙ moved_comes v k before state span other))
          ∙ sym (passing-push (goes v k) [] changes (change member state span));
    }

-- ---- flows whose places and counts are the same

pub same_flows : (states : ℕ) (old new : Flows) (changes : List Change) → ((m : ℕ) → slice_index new.states.items m ≡ slice_index old.states.items m)
    → ((t k : ℕ) → count_at new.came t k ≡ count_at old.came t k) → ((t k : ℕ) → count_at new.went t k ≡ count_at old.went t k)
    → AreFlowsOf states old changes → AreFlowsOf states new changes
same_flows states old new changes same came went are =
    record {
      now = λ m. same m ∙ are.now m;
      within = λ m. subst (λ x. x < states) (sym (same m)) (are.within m);
      came = λ v k low. came v k ∙ are.came v k low;
      went = λ v k low. went v k ∙ are.went v k low;
    }

-- ---- counts are no more than changes

pub few_came : (states : ℕ) (flows : Flows) (changes : List Change) (v k : ℕ) → AreFlowsOf states flows changes → length changes < 2 ^ 63 → k < 120 → count_at flows.came v k < 2 ^ 63
few_came states flows changes v k are few low = omega (arith, are.came v k low, passing-few (comes v k) [] changes, few)

pub few_went : (states : ℕ) (flows : Flows) (changes : List Change) (v k : ℕ) → AreFlowsOf states flows changes → length changes < 2 ^ 63 → k < 120 → count_at flows.went v k < 2 ^ 63
few_went states flows changes v k are few low = omega (arith, are.went v k low, passing-few (goes v k) [] changes, few)

-- ---- an item of a list at a place within

pub read_at : (xs : List ℕ) (place at x : ℕ) → place ≡ at → at < length xs → x ≡ get_or xs place x → get_or xs at 0 ≡ x
read_at xs place at x same within is =
    let here : x ≡ get_or xs at x = is ∙ ap (λ p. get_or xs p x) same in
    get_or_from_slice_get xs at x 0 (slice_get_read xs (length xs) at x refl within here)
