-- Parts that were asked for and are kept.
use Rattle.std.proofs.Common.{◌≡◌, ℕ, ◌≤◌, refl, sym, subst, map-id, arith}
use Rattle.scenario.specs.Setup.{Setup}
use Rattle.scenario.specs.Division.{Deal}
use Rattle.partitioning.specs.Asked.{AreAsAsked, ticks_of_a_word}
use Rattle.partitioning.specs.Rounds.{IsLongRound, IsLeastWalkOf}

pub kept_parts : (s : Setup) (asked used : Deal) (hands long ticks parts : ℕ) → IsLongRound s long → IsLeastWalkOf s asked ticks → parts ≡ asked.parts → long ≤ ticks_of_a_word ticks parts → used ≡ asked → AreAsAsked s asked hands used
kept_parts s asked used hands long ticks parts enough walk same long_each is =
    let worth : long ≤ ticks_of_a_word ticks asked.parts = subst (λ p. long ≤ ticks_of_a_word ticks p) same long_each in
    rw is (record {
      long = long;
      enough = enough;
      ticks = ticks;
      walk = walk;
      kept = λ _. refl;
      joined = ((λ p. p), sym (map-id asked.part_of));
      fewer = λ short. absurd (omega (arith, short, worth));
    })
