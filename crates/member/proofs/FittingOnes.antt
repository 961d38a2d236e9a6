-- Intents that are gone through once, each of which rides where it fits.
use Rattle.std.proofs.Common.{ℕ, ◌-◌, ◌≤◌, Bool, true, false, cond, nat_le, List, [], ◌∷◌, arith}
use Rattle.std.specs.List.{count_by}
use Rattle.piggyback.proofs.Tally.{count_by-cons}
use Rattle.scenario.specs.Setup.{Setup}
use Rattle.incarnation.specs.declared.Update.{Update}
use Rattle.member.specs.Riding.{intent_bytes, intents_that_fit}

module _ (s : Setup) where
  -- so many of them pass a test as do of all at most
  pub fitting_few : (test : Update → Bool) (room : ℕ) (xs : List Update) → count_by test (intents_that_fit s room xs) ≤ count_by test xs
  fitting_few test room [] = omega arith
  fitting_few test room (x ∷ xs) = by_room (nat_le (intent_bytes s x) room) (fitting_few test (room - intent_bytes s x) xs) (fitting_few test room xs)
    where
      by_room : (b : Bool) → count_by test (intents_that_fit s (room - intent_bytes s x) xs) ≤ count_by test xs → count_by test (intents_that_fit s room xs) ≤ count_by test xs
          → count_by test (cond b (x ∷ intents_that_fit s (room - intent_bytes s x) xs) (intents_that_fit s room xs)) ≤ count_by test (x ∷ xs)
      by_room true fits stays = omega (arith, count_by-cons test x xs, count_by-cons test x (intents_that_fit s (room - intent_bytes s x) xs), fits)
      by_room false fits stays = omega (arith, count_by-cons test x xs, stays)
