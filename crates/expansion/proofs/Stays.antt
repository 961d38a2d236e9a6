-- Entries that are plain stand for themselves.
use Rattle.std.proofs.Common.{◌≡◌, ℕ, suc, ◌+◌, ◌*◌, Bool, false, List, [], ◌∷◌, ◌++◌, map, refl, ap, ◌∙◌, arith, Option, None}
use Rattle.std.specs.List.{AllByRecursion}
use Rattle.streams.specs.Draw.{Words}
use Rattle.script_draws.specs.Choice.{chosen_of}
use Rattle.script_draws.specs.Turns.{in_turn}
use Rattle.plain_entries.specs.declared.departures.DepartureTime.{DepartureTime}
use Rattle.plain_entries.specs.declared.departures.DepartureTime.TheVariants as departure
use Rattle.plain_entries.specs.declared.entry.Entry.{Entry}
use Rattle.plain_entries.specs.declared.plain.Plain.{Plain}
use Rattle.plain_entries.specs.Departures.{departure_timing, departure_recurs, departure_times, gone_at}
use Rattle.plain_entries.specs.Entries.{entry_of, list_of, members_of, plain_at, Timing}
use Rattle.plain_entries.specs.Who.{turns_of, who_of}
use Rattle.expansion.specs.Plain.{as_they_are, IsPlainEntry}

module _ {W T : Type 0} (timing : Timing W T) (start : ℕ → ℕ) where
  -- one entry
  one_stays : (place : ℕ) (entry : Entry W) (words : Words) (is : IsPlainEntry timing entry) → entry_of timing start place entry words ≡ (plain_at place is.member false is.time ∷ [], words)
  one_stays place entry words is =
      let m = is.member in
      let named : who_of entry.who words ≡ (m ∷ [], words) =
      ap (λ (c : Option ℕ). chosen_of c entry.who.members.items words) is.all ∙ ap (λ (l : List ℕ). (l, words)) is.alone in
      ap (λ (w : List ℕ × Words). members_of timing start place entry.when (turns_of (timing.recurs entry.when) w.0) w.1) named
      ∙ ap (λ (b : Bool). members_of timing start place entry.when (turns_of b (m ∷ [])) words) is.once
      ∙ ap (λ (p : List T × Words). (map (plain_at place m (timing.recurs entry.when)) p.0 ++ [], p.1)) (is.says (start m) words)
      ∙ ap (λ (b : Bool). (plain_at place m b is.time ∷ [], words)) is.once

  -- one after the other
  all_stay : (k : ℕ) (entries : List (Entry W)) (words : Words) (plain : AllByRecursion (IsPlainEntry timing) entries)
      → in_turn (entry_of timing start) k entries words ≡ (as_they_are timing k entries plain, words)
  all_stay k [] words plain = refl
  all_stay k (entry ∷ entries) words plain =
      let one = plain_at k plain.0.member false plain.0.time in
      let rest : List (Plain T) × Words → List (Plain T) × Words = λ p. (p.0 ++ (in_turn (entry_of timing start) (suc k) entries p.1).0, (in_turn (entry_of timing start) (suc k) entries p.1).1) in
      ap rest (one_stays k entry words plain.0) ∙ ap (λ (o : List (Plain T) × Words). (one ∷ o.0, o.1)) (all_stay (suc k) entries words plain.1)

  pub list_stays : (entries : List (Entry W)) (words : Words) (plain : AllByRecursion (IsPlainEntry timing) entries) → list_of timing start entries words ≡ (as_they_are timing 0 entries plain, words)
  list_stays entries words plain = all_stay 0 entries words plain

-- a crash or leave of one member at a moment
pub one_is_plain : (member at : ℕ) (entry : Entry DepartureTime) → entry.who.members.items ≡ member ∷ [] → entry.who.count ≡ None → entry.when ≡ departure.Once at 0 None
    → (plain : IsPlainEntry departure_timing entry) × (plain.member ≡ member) × (plain.time ≡ gone_at None at)
one_is_plain member at entry alone all when =
    let same : at + 0 * 0 ≡ at = omega arith in (
      record {
        member = member;
        time = gone_at None at;
        alone = alone;
        all = all;
        once = ap departure_recurs when;
        says = λ start words. ap (λ (w : DepartureTime). departure_times w 0 start words) when ∙ ap (λ (n : ℕ). (gone_at None n ∷ [], words)) same;
      },
      refl,
      refl,
    )
