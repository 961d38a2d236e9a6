-- What is shown of deaths names members of the cluster.
use Rattle.std.proofs.Common.{◌≡◌, ℕ, zero, suc, ◌+◌, ◌<◌, Bool, true, false, List, [], ◌∷◌, ◌++◌, All, length, Option, Some, None, refl, sym, ap, subst, ◌∙◌, arith, append-nil, append_assoc}
use Rattle.std.specs.Prelude.{IfSome, filter, flat_map, nat_le, if◌then◌else◌, take, slice_get, slice_index_or}
use Rattle.std.specs.List.{list_any, last_or}
use Rattle.std.specs.Option.{option_map_or, option_to_list}
use Rattle.std.proofs.lemmas.Grind.{flat_map-append}
use Rattle.std.proofs.lemmas.List.{take_more}
use Rattle.std.proofs.lemmas.List.Elements.{All-nil, All-cons, All-head, All-tail, All-append, All-filter, All-map}
use Rattle.scenario.specs.Setup.{Setup, member_count}
use Rattle.trace.specs.Text.{NamesMembers}
use Rattle.trace.specs.declared.row.What.TheVariants as what
use Rattle.trace.specs.declared.row.Row.{Row}
use Rattle.reports.specs.Rows.{placed_after, rows_in_place}
use Rattle.series.specs.declared.standing.Refutation.{Refutation}
use Rattle.series.specs.declared.deaths.Death.{Death}
use Rattle.series.proofs.Dying.{filter-push, last-if}
use Rattle.series.specs.Deaths.{Reached, reached_at, reached, line_reached, since, reaches, is_new, accuses, IsDeathOf, IsToldOf, accusation_told, accusations, last_refutation, times_heard, begins_death, deaths_of}
use Rattle.ticks.specs.declared.tick.Tick.{Tick}
use Rattle.false_deaths.specs.Causes.{cause_words, cause, is_later, IsNamed, AreNamed, CanTell}

placed_named : (s : Setup) (earlier rows : List Row) → All (NamesMembers s) earlier → All (NamesMembers s) rows → All (λ p. IsNamed s (reached_at p)) (placed_after earlier rows)
placed_named s earlier [] before after = All-nil (λ p. IsNamed s (reached_at p))
placed_named s earlier (row ∷ rows) before after =
    All-cons (λ p. IsNamed s (reached_at p)) (record { earlier = earlier; row = row; later = rows }) (placed_after (earlier ++ row ∷ []) rows)
    (record { row = All-head (NamesMembers s) row rows after; earlier = before })
    (placed_named s (earlier ++ row ∷ []) rows
    (All-append (NamesMembers s) earlier (row ∷ []) before (All-cons (NamesMembers s) row [] (All-head (NamesMembers s) row rows after) (All-nil (NamesMembers s))))
    (All-tail (NamesMembers s) row rows after))

pub reached_named : (s : Setup) (rows : List Row) → All (NamesMembers s) rows → All (IsNamed s) (reached rows)
reached_named s rows named = All-map (IsNamed s) reached_at (rows_in_place rows) (placed_named s [] rows (All-nil (NamesMembers s)) named)

since_all : {X : Type 0} (P : X → Type 0) (test : X → Bool) (xs : List X) → All P xs → All P (since test xs)
since_all P test [] all = all
since_all {X = X} P test (x ∷ xs) all = by (list_any test xs) (since test xs) (since_all P test xs (All-tail P x xs all))
  where
    by : (t : Bool) (later : List X) → All P later → All P (if t then later else x ∷ xs)
    by true later held = held
    by false later held = all

pub accusers_named : (s : Setup) (subject : ℕ) (rows : List Row) → All (NamesMembers s) rows → AreNamed s (accusations subject rows)
accusers_named s subject rows named =
    let test = is_new what.Suspect subject in
    All-map (λ a. a.claim.member < member_count s) accusation_told (filter (accuses subject) (since test (reached rows)))
    (rows_only (filter (accuses subject) (since test (reached rows))) (All-filter (accuses subject) (IsNamed s) (since test (reached rows)) (since_all (IsNamed s) test (reached rows) (reached_named s rows named))))
  where
    rows_only : (xs : List Reached) → All (IsNamed s) xs → All (λ r. (accusation_told r).claim.member < member_count s) xs
    rows_only [] all = All-nil (λ r. (accusation_told r).claim.member < member_count s)
    rows_only (x ∷ xs) all = All-cons (λ r. (accusation_told r).claim.member < member_count s) x xs (All-head (IsNamed s) x xs all).row.member (rows_only xs (All-tail (IsNamed s) x xs all))

pub deaths_named : (s : Setup) (rows : List Row) → All (NamesMembers s) rows → All (IsNamed s) (deaths_of rows)
deaths_named s rows named = All-filter begins_death (IsNamed s) (reached rows) (reached_named s rows named)

-- what holds of all holds of what stands at a place
pub at_named : {X : Type 0} (P : X → Type 0) (xs : List X) (place : ℕ) → All P xs → IfSome (slice_get xs place) P
at_named P [] place all = tt
at_named P (x ∷ xs) zero all = All-head P x xs all
at_named P (x ∷ xs) (suc place) all = at_named P xs place (All-tail P x xs all)

-- the first so many and one more
pub take_next : {X : Type 0} (n : ℕ) (xs : List X) → take (n + 1) xs ≡ take n xs ++ option_to_list (slice_get xs n)
take_next n xs = ap (λ k. take k xs) (one n) ∙ by n xs
  where
    one : (k : ℕ) → k + 1 ≡ suc k
    one k = omega arith

    by : {X : Type 0} (k : ℕ) (l : List X) → take (suc k) l ≡ take k l ++ option_to_list (slice_get l k)
    by zero [] = refl
    by (suc k) [] = refl
    by zero (x ∷ l) = refl
    by (suc k) (x ∷ l) = ap (λ m. x ∷ m) (by k l)

-- the words of what is kept of a death are those of its row
pub cause_is : (time : Option Tick) (s : Setup) (death : Death) (r : Reached) (later : Bool) (refuted : Option Refutation) (heard : ℕ) → refuted ≡ death.standing.refuted → heard ≡ death.standing.heard → later ≡ option_map_or (nat_le (death.number + 1)) death.standing.suspected false → IsDeathOf death r
    → cause_words time s death.subject death.line death.number later (accusations death.subject r.earlier) refuted heard ≡ cause time s r
cause_is time s death r later refuted heard is_refuted is_heard is_so is =
    let subject = death.subject in
    let list = accusations subject r.earlier in
    let last = last_refutation subject r.earlier in
    let times = times_heard subject r.earlier in
    ap (λ o. cause_words time s subject death.line death.number later list o heard) (is_refuted ∙ is.standing.refuted)
    ∙ ap (λ n. cause_words time s subject death.line death.number later list last n) (is_heard ∙ is.standing.heard)
    ∙ ap (λ t. cause_words time s subject death.line death.number t list last times) (is_so ∙ sym (is.standing.suspected (death.number + 1)))
    ∙ ap (λ l. cause_words time s subject l death.number (list_any (reaches what.Suspect subject (death.number + 1)) r.earlier) list last times) is.line
    ∙ ap (λ n. cause_words time s subject (line_reached r) n (list_any (reaches what.Suspect subject (n + 1)) r.earlier) list last times) is.number
    ∙ sym (ap (λ o. option_map_or (λ who. cause_words time s who (line_reached r) r.row.value (is_later who r) (accusations who r.earlier) (last_refutation who r.earlier) (times_heard who r.earlier)) o []) is.subject)

-- a death that is kept can be shown, where its row's names are known
pub can_tell : (s : Setup) (slot : Option Death) (r : Option Reached) → IsToldOf slot r → IfSome r (IsNamed s) → IfSome slot (CanTell s)
can_tell s None r told named = tt
can_tell s (Some death) (Some r) told named = record { reached = r; is = told; named = named }
can_tell s (Some death) None told named = absurd told

-- what is said of a member that may be there is said of it
pub of_some : (P : ℕ → Type 0) (o : Option ℕ) (m : ℕ) → o ≡ Some m → IfSome o P → P m
of_some P o m is held = let Q : Option ℕ → Type 0 = λ x. IfSome x P in subst Q is held

one-told : {X : Type 0} (f : X → List ℕ) (o : Option X) → flat_map f (option_to_list o) ≡ option_map_or f o []
one-told f None = refl
one-told f (Some x) = append-nil (f x)

-- what is shown of the first so many of a list, and of the next
pub told_next : {X : Type 0} (f : X → List ℕ) (list : List X) (place : ℕ) (first before after : List ℕ)
    → before ≡ first ++ flat_map f (take place list) → after ≡ before ++ option_map_or f (slice_get list place) []
    → after ≡ first ++ flat_map f (take (place + 1) list)
told_next f list place first before after so_far is =
    is ∙ ap (λ b. b ++ option_map_or f (slice_get list place) []) so_far
    ∙ append_assoc first (flat_map f (take place list)) (option_map_or f (slice_get list place) [])
    ∙ ap (λ l. first ++ (flat_map f (take place list) ++ l)) (sym (one-told f (slice_get list place)))
    ∙ ap (λ l. first ++ l) (sym (flat_map-append f (take place list) (option_to_list (slice_get list place))))
    ∙ ap (λ l. first ++ flat_map f l) (sym (take_next place list))

-- the last so far, with one more
pub last_next : {X : Type 0} (test : X → Bool) (xs : List X) (n : ℕ) (d x : X) (old new : Option X) → n < length xs → x ≡ slice_index_or xs n d → old ≡ last_or None (filter test (take n xs))
    → new ≡ (if test x then Some x else old) → new ≡ last_or None (filter test (take (n + 1) xs))
last_next test xs n d x old new low at so_far is =
    is ∙ ap (λ o. if test x then Some x else o) so_far
    ∙ sym (last-if (filter test (take n xs)) (test x) x)
    ∙ ap (last_or None) (sym (filter-push test (take n xs) x))
    ∙ ap (λ l. last_or None (filter test l)) (sym (take_more xs n d low ∙ ap (λ y. take n xs ++ y ∷ []) (sym at)))
