-- The six lists of a plain text stand for themselves.
use Rattle.std.proofs.Common.{◌≡◌, ℕ, suc, List, [], ◌∷◌, ◌++◌, refl, ap, ◌∙◌, false}
use Rattle.std.specs.List.{AllByRecursion}
use Rattle.std.proofs.lemmas.List.{append-nil}
use Rattle.streams.specs.Draw.{Words}
use Rattle.scenario.specs.declared.spells.Spell.{Spell}
use Rattle.plain_entries.specs.declared.departures.Departure.{Departure}
use Rattle.plain_entries.specs.declared.departures.DepartureTime.{DepartureTime}
use Rattle.plain_entries.specs.declared.entry.Entry.{Entry}
use Rattle.plain_entries.specs.declared.plain.Plain.{Plain}
use Rattle.plain_entries.specs.declared.restarts.Restart.{Restart}
use Rattle.plain_entries.specs.declared.script.Script.{Script}
use Rattle.plain_entries.specs.Departures.{back_of, departure_timing, returns_of}
use Rattle.plain_entries.specs.Entries.{list_of, plain_at}
use Rattle.plain_entries.specs.Restarts.{restart_timing}
use Rattle.plain_entries.specs.Script.{plain_of, PlainLists}
use Rattle.plain_entries.specs.Spells.{spell_timing}
use Rattle.expansion.specs.Plain.{are_plain, as_they_are, lists_as_they_are, IsPlainDeparture, IsPlainScript}
use Rattle.expansion.proofs.Stays.{list_stays}

-- none of them is back
none_returns : (k : ℕ) (entries : List (Entry DepartureTime)) (all : AllByRecursion IsPlainDeparture entries) → returns_of (as_they_are departure_timing k entries (are_plain entries all)) ≡ []
none_returns k [] all = refl
none_returns k (entry ∷ entries) all =
    let one : Plain Departure = plain_at k all.0.plain.member false all.0.plain.time in
    ap (λ back. back_of back one ++ returns_of (as_they_are departure_timing (suc k) entries (are_plain entries all.1))) all.0.gone
    ∙ none_returns (suc k) entries all.1

abbrev whole : (c l : List (Plain Departure)) (r : List (Plain Restart)) (s p b : List (Plain Spell)) → PlainLists
whole c l r s p b = record { crashes = c; leaves = l; restarts = r ++ returns_of c ++ returns_of l; slows = s; pauses = p; blocks = b }

abbrev with_own : (c l : List (Plain Departure)) (s p b : List (Plain Spell)) → List (Plain Restart) → PlainLists
with_own c l s p b r = record { crashes = c; leaves = l; restarts = r; slows = s; pauses = p; blocks = b }

module _ (start : ℕ → ℕ) (script : Script) where
  abbrev with_blocks : (c l : List (Plain Departure)) (r : List (Plain Restart)) (s p : List (Plain Spell)) → List (Plain Spell) × Words → PlainLists
  with_blocks c l r s p x = whole c l r s p x.0

  abbrev with_pauses : (c l : List (Plain Departure)) (r : List (Plain Restart)) (s : List (Plain Spell)) → List (Plain Spell) × Words → PlainLists
  with_pauses c l r s x = with_blocks c l r s x.0 (list_of spell_timing start script.blocks.items x.1)

  abbrev with_slows : (c l : List (Plain Departure)) (r : List (Plain Restart)) → List (Plain Spell) × Words → PlainLists
  with_slows c l r x = with_pauses c l r x.0 (list_of spell_timing start script.pauses.items x.1)

  abbrev with_restarts : (c l : List (Plain Departure)) → List (Plain Restart) × Words → PlainLists
  with_restarts c l x = with_slows c l x.0 (list_of spell_timing start script.slows.items x.1)

  abbrev with_leaves : (c : List (Plain Departure)) → List (Plain Departure) × Words → PlainLists
  with_leaves c x = with_restarts c x.0 (list_of restart_timing start script.restarts.items x.1)

  abbrev with_crashes : List (Plain Departure) × Words → PlainLists
  with_crashes x = with_leaves x.0 (list_of departure_timing start script.leaves.items x.1)

  pub script_stays : (words : Words) (plain : IsPlainScript script) → plain_of start script words ≡ lists_as_they_are script plain
  unfolding plain_of
  script_stays words plain =
      let is = lists_as_they_are script plain in
      let c = is.crashes in
      let l = is.leaves in
      let r = is.restarts in
      let crashed = none_returns 0 script.crashes.items plain.crashes in
      let left = none_returns 0 script.leaves.items plain.leaves in
      let own : r ++ returns_of c ++ returns_of l ≡ r =
      ap (λ (x : List (Plain Restart)). r ++ x ++ returns_of l) crashed ∙ ap (λ (x : List (Plain Restart)). r ++ [] ++ x) left ∙ append-nil (r ++ []) ∙ append-nil r in
      ap with_crashes (list_stays departure_timing start script.crashes.items words (are_plain script.crashes.items plain.crashes))
      ∙ ap (with_leaves c) (list_stays departure_timing start script.leaves.items words (are_plain script.leaves.items plain.leaves))
      ∙ ap (with_restarts c l) (list_stays restart_timing start script.restarts.items words plain.restarts)
      ∙ ap (with_slows c l r) (list_stays spell_timing start script.slows.items words plain.slows)
      ∙ ap (with_pauses c l r is.slows) (list_stays spell_timing start script.pauses.items words plain.pauses)
      ∙ ap (with_blocks c l r is.slows is.pauses) (list_stays spell_timing start script.blocks.items words plain.blocks)
      ∙ ap (with_own c l is.slows is.pauses is.blocks) own
