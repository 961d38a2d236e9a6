-- The ranges of what a suspicion keeps.
use Rattle.std.specs.Prelude.{ℕ, ◌<◌, ◌≤◌, ◌^◌}
use Rattle.suspicion.specs.declared.terms.Terms.{Terms}

-- the scenario's ranges of the settings
pub record AreSound (terms : Terms) : Type 0 where
  pub period : terms.period ≤ 2 ^ 24
  pub alpha : terms.alpha ≤ 100
  pub beta : (0 < terms.beta) × (terms.beta ≤ 100)
  pub accusers_wanted : terms.accusers_wanted ≤ 9

-- a suspicion under sound terms, among a cluster's members, that started at a moment of a run
pub record IsKept (terms : Terms) (members since : ℕ) : Type 0 where
  pub sound : AreSound terms
  pub some : 1 ≤ members
  pub few : members ≤ 16384
  pub early : since ≤ 2 ^ 40
