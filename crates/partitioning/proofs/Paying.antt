-- The parts whose rounds are the longest, candidate after candidate.
use Rattle.std.proofs.Common.{◌≡◌, ◌⊎◌, ℕ, suc, ◌+◌, ◌<◌, ◌≤◌, List, [], ◌∷◌, length, inl, inr, refl, sym, subst, arith}
use Rattle.std.specs.List.{AllByRecursion, Contains}
use Rattle.scenario.specs.Setup.{Setup, member_count}
use Rattle.scenario.specs.Division.{Deal, in_turn}
use Rattle.partitioning.specs.Parts.{Divides}
use Rattle.partitioning.specs.Paying.{LastsBelow, AreOne, AreLongest, TakesLonger}
use Rattle.partitioning.specs.Rounds.{IsLeastWalkOf}

module _ (s : Setup) where
  -- what is below one limit is below a higher one
  below_higher : (low high : ℕ) → low ≤ high → (candidates : List Deal) → AllByRecursion (LastsBelow s low) candidates → AllByRecursion (LastsBelow s high) candidates
  below_higher low high upward [] _ = tt
  below_higher low high upward (deal ∷ candidates) all = ((all.0.0, all.0.1, omega (arith, upward, all.0.2)), below_higher low high upward candidates all.1)

  among_more : (candidates : List Deal) (deal used : Deal) → Contains candidates used → Contains (deal ∷ candidates) used
  among_more candidates deal used among =
      let within : suc among.0 < suc (length candidates) = omega (arith, among.1) in
      (suc among.0, within, among.2)

  module _ (long : ℕ) where
    -- of the candidates so far those with the longest rounds, which count as so many ticks
    abbrev pub IsBest : List Deal → Deal → ℕ → Type 0
    IsBest candidates used ticks = ((ticks ≡ long) × AreOne s long candidates used) ⊎ ((best : AreLongest s long candidates used) × (best.ticks ≡ ticks))

    -- before the first candidate all members are one part
    pub none_yet : (used : Deal) → used ≡ in_turn (member_count s) 1 → IsBest [] used long
    none_yet used one = inl (refl, record { one = one; short = tt })

    module _ (candidates : List Deal) (used deal : Deal) (ticks rounds : ℕ) (walk : IsLeastWalkOf s deal rounds) where
      -- shorter rounds change nothing
      kept : rounds < ticks → IsBest candidates used ticks → IsBest (deal ∷ candidates) used ticks
      kept shorter (inl whole) = inl (whole.0, record { one = whole.1.one; short = ((rounds, walk, omega (arith, shorter, whole.0)), whole.1.short) })
      kept shorter (inr best) = inr (
        record {
          among = among_more candidates deal used best.0.among;
          ticks = best.0.ticks;
          walk = best.0.walk;
          worth = best.0.worth;
          most = ((rounds, walk, omega (arith, shorter, best.1)), best.0.most);
        },
        best.1,
      )

      longest : long ≤ rounds → AllByRecursion (LastsBelow s (rounds + 1)) candidates → IsBest (deal ∷ candidates) deal rounds
      longest worth most =
          let first : 0 < suc (length candidates) = omega arith in
          inr (record { among = (0, first, refl); ticks = rounds; walk = walk; worth = worth; most = ((rounds, walk, omega arith), most) }, refl)

      -- rounds that are as long are taken
      taken : ticks ≤ rounds → IsBest candidates used ticks → IsBest (deal ∷ candidates) deal rounds
      taken longer (inl whole) = longest (omega (arith, whole.0, longer)) (below_higher long (rounds + 1) (omega (arith, whole.0, longer)) candidates whole.1.short)
      taken longer (inr best) =
          longest (omega (arith, best.0.worth, best.1, longer)) (below_higher (best.0.ticks + 1) (rounds + 1) (omega (arith, best.1, longer)) candidates best.0.most)

    -- one candidate more
    pub one_more : (candidates : List Deal) (used deal chosen : Deal) (ticks now : ℕ) → TakesLonger s used ticks deal chosen now → IsBest candidates used ticks → IsBest (deal ∷ candidates) chosen now
    one_more candidates used deal chosen ticks now step best =
        elim (step.2) as (λ _. IsBest (deal ∷ candidates) chosen now) [
          | inl still ↦ subst (λ d. IsBest (deal ∷ candidates) d now) (sym still.1) (subst (IsBest (deal ∷ candidates) used) (sym still.2) (kept candidates used deal ticks step.0 step.1 still.0 best))
          | inr longer ↦ subst (λ d. IsBest (deal ∷ candidates) d now) (sym longer.1) (subst (IsBest (deal ∷ candidates) deal) (sym longer.2) (taken candidates used deal ticks step.0 step.1 longer.0 best))
        ]

    -- after the last one
    pub best_of_all : (candidates : List Deal) (used : Deal) (ticks : ℕ) → IsBest candidates used ticks → AreOne s long candidates used ⊎ AreLongest s long candidates used
    best_of_all candidates used ticks (inl whole) = inl whole.1
    best_of_all candidates used ticks (inr best) = inr best.0

  -- one of two divisions is a division
  pub divides_still : (hands least ticks : ℕ) (first second taken : Deal) → TakesLonger s first least second taken ticks → Divides s hands first → Divides s hands second → Divides s hands taken
  divides_still hands least ticks first second taken step one two = elim (step.2) as (λ _. Divides s hands taken) [
    | inl still ↦ subst (Divides s hands) (sym still.1) one
    | inr longer ↦ subst (Divides s hands) (sym longer.1) two
  ]
