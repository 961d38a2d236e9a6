-- Those that crash or leave can be back: their moments, and those of their restarts, are ones of 64 bits.
use Rattle.std.proofs.Common.{◌≡◌, ◌≤◌, ◌<◌, ℕ, zero, suc, ◌+◌, ◌*◌, ◌^◌, Bool, true, false, List, [], ◌∷◌, map, length, refl, sym, subst, arith, if◌then◌else◌, Some}
use Rattle.std.specs.Prelude.{nat_lt, All}
use Rattle.std.proofs.Math.Nat.{mul-le-mul_left}
use Rattle.std.proofs.lemmas.Bool.Decides.{nat_tests}
use Rattle.std.proofs.lemmas.List.Elements.{All-append, All-map, All-from_recursion, recursion_from_All}
use Rattle.std.specs.List.{AllByRecursion}
use Rattle.streams.specs.Draw.{Words}
use Rattle.script_draws.specs.declared.again.Recurrence.{Recurrence}
use Rattle.script_draws.specs.Again.{moments_on, moments_of, next_of, first_of_all}
use Rattle.script_draws.specs.Turns.{in_turn}
use Rattle.plain_entries.specs.declared.departures.Departure.{Departure}
use Rattle.plain_entries.specs.declared.departures.DepartureTime.{DepartureTime}
use Rattle.plain_entries.specs.declared.departures.DepartureTime.TheVariants as departure
use Rattle.plain_entries.specs.declared.entry.Entry.{Entry}
use Rattle.plain_entries.specs.declared.plain.Plain.{Plain}
use Rattle.plain_entries.specs.declared.turn.Turn.{Turn}
use Rattle.plain_entries.specs.Who.{who_of, turns_of}
use Rattle.plain_entries.specs.Entries.{plain_at, turn_of, entry_of, list_of, IsEntry}
use Rattle.plain_entries.specs.Departures.{departure_times, departure_timing, departure_recurs, gone_at, IsBack, IsDepartureTime, CanReturn}
use Rattle.plain_entries.proofs.Members.{few_turns}

-- ---- moments that come again and again

put_all : (b : Bool) (P : ℕ → Type 0) (m : ℕ) (others : List ℕ) → P m → AllByRecursion P others → AllByRecursion P (if b then m ∷ others else others)
put_all true P m others here all = (here, all)
put_all false P m others here all = all

pick : (P : ℕ → Type 0) (b : Bool) (made : List ℕ × Words) (words : Words) → (b ≡ true → AllByRecursion P made.0) → AllByRecursion P (if b then made else ([], words)).0
pick P true made words all = all refl
pick P false made words all = tt

is_before : (m n : ℕ) → nat_lt m n ≡ true → m < n
is_before m n test = grind (arith, nat_tests)

on_time : (times : ℕ) (r : Recurrence) (back start moment : ℕ) (words : Words) → AllByRecursion (λ m. m < r.until) (moments_on times r back start moment words).0
on_time zero r back start moment words = tt
on_time (suc times) r back start moment words =
    let P : ℕ → Type 0 = λ m. m < r.until in
    let next = next_of r (moment + back) words in
    let others = moments_on times r back start next.0 next.1 in
    pick P (nat_lt moment r.until) (if nat_lt start moment then moment ∷ others.0 else others.0, others.1) words
    (λ test. put_all (nat_lt start moment) P moment others.0 (is_before moment r.until test) (on_time times r back start next.0 next.1))

moments_on_time : (r : Recurrence) (back start : ℕ) (words : Words) → All (λ m. m < r.until) (moments_of r back start words).0
unfolding moments_of
moments_on_time r back start words =
    let first = first_of_all r words in
    All-from_recursion (λ m. m < r.until) (moments_on r.until r back start first.0 first.1).0 (on_time r.until r back start first.0 first.1)

-- ---- the times of one member

pub record IsGone (it : Departure) : Type 0 where
  pub at : it.at ≤ 2 ^ 60
  pub back : IsBack it.back

soon : (at k each : ℕ) → at ≤ 2 ^ 40 → each ≤ 2 ^ 40 → k < 16384 → at + k * each ≤ 2 ^ 60
soon at k each low slow few =
    let most = mul-le-mul_left k slow in
    omega (arith, most)

one_gone : (it : Departure) → IsGone it → All IsGone (it ∷ [])
one_gone it gone = All-from_recursion IsGone (it ∷ []) (gone, tt)

again_gone : (moments : List ℕ) (until : ℕ) (back : _) → until ≤ 2 ^ 40 → IsBack (Some back) → All (λ m. m < until) moments → All IsGone (map (gone_at (Some back)) moments)
again_gone moments until back low is_back all =
    All-map IsGone (gone_at (Some back)) moments (λ k d within. let early = all k d within in record { at = omega arith; back = is_back })

times_gone : (when : DepartureTime) (k start : ℕ) (words : Words) → IsDepartureTime when → k < 16384 → All IsGone (departure_times when k start words).0
times_gone (departure.Once at each back) k start words sound few =
    one_gone (gone_at back (at + k * each)) (record { at = soon at k each sound.0 sound.1 few; back = sound.2 })
times_gone (departure.Again recurrence back) k start words sound few =
    again_gone (moments_of recurrence back.after start words).0 recurrence.until back sound.0.until_low sound.1 (moments_on_time recurrence back.after start words)

-- ---- those of a list

-- what holds of all that each item makes holds of all
all_in_turn : {A B : Type 0} (P : B → Type 0) (Q : A → Type 0) (limit : ℕ) (make : ℕ → A → Words → List B × Words)
    → ((k : ℕ) (item : A) (words : Words) → k < limit → Q item → All P (make k item words).0)
    → (k : ℕ) (items : List A) (words : Words) → k + length items ≤ limit → AllByRecursion Q items → All P (in_turn make k items words).0
all_in_turn P Q limit make each k [] words few all = All-from_recursion P [] tt
all_in_turn P Q limit make each k (item ∷ items) words few all =
    let first = make k item words in
    let others = in_turn make (suc k) items first.1 in
    All-append P first.0 others.0 (each k item words (omega arith) all.0) (all_in_turn P Q limit make each (suc k) items first.1 (omega arith) all.1)

turn_returns : (when : DepartureTime) (turn : Turn) (words : Words) → IsDepartureTime when → turn.k < 16384 → All CanReturn (turn_of departure_timing when turn words).0
turn_returns when turn words sound few =
    let times = (departure_times when turn.k turn.start words).0 in
    let gone = times_gone when turn.k turn.start words sound few in
    All-map CanReturn (plain_at turn.entry turn.member (departure_recurs when)) times (λ k d within. let is = gone k d within in record { at = is.at; back = is.back })

anybody : (members : List ℕ) → AllByRecursion (λ (m : ℕ). Unit {0}) members
anybody [] = tt
anybody (m ∷ ms) = (tt, anybody ms)

entry_returns : (count : ℕ) (start : ℕ → ℕ) (place : ℕ) (entry : Entry DepartureTime) (words : Words) → IsEntry IsDepartureTime count entry → All CanReturn (entry_of departure_timing start place entry words).0
entry_returns count start place entry words sound =
    let who = who_of entry.who words in
    let turns = turns_of (departure_recurs entry.when) who.0 in
    all_in_turn CanReturn (λ (m : ℕ). Unit {0}) 16384 (λ k member. turn_of departure_timing entry.when (record { entry = place; k = k; member = member; start = start member }))
    (λ k member words few any. turn_returns entry.when (record { entry = place; k = k; member = member; start = start member }) words sound.when few)
    0 turns who.1 (few_turns count entry.who (departure_recurs entry.when) words sound.who) (anybody turns)

list_returns : (count : ℕ) (start : ℕ → ℕ) (entries : List (Entry DepartureTime)) (words : Words) → All (IsEntry IsDepartureTime count) entries → All CanReturn (list_of departure_timing start entries words).0
list_returns count start entries words sound =
    all_in_turn CanReturn (IsEntry IsDepartureTime count) (length entries) (entry_of departure_timing start)
    (λ k entry words low is. entry_returns count start k entry words is) 0 entries words (omega arith) (recursion_from_All (IsEntry IsDepartureTime count) entries sound)

pub all_return : (count : ℕ) (start : ℕ → ℕ) (entries : List (Entry DepartureTime)) (words rest : Words) (made : List (Plain Departure)) → All (IsEntry IsDepartureTime count) entries
    → (made, rest) ≡ list_of departure_timing start entries words → All CanReturn made
all_return count start entries words rest made sound is =
    let P : List (Plain Departure) × Words → Type 0 = λ p. All CanReturn p.0 in
    subst P (sym is) (list_returns count start entries words sound)
