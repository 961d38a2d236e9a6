-- What a restart makes of a state whose incarnation number is within its limit.
use Rattle.std.proofs.Common.{◌≡◌, ℕ, ◌≤◌, ◌^◌, Option, refl, ap, sym, ◌∙◌}
use Rattle.std.proofs.lemmas.Bool.{le-ltb}
use Rattle.scenario.specs.Setup.{Setup}
use Rattle.streams.specs.Draw.{Words}
use Rattle.lives.specs.Lives.{LifeState, life_begun}
use Rattle.member.specs.declared.member.Phase.TheVariants.{Running}
use Rattle.member.specs.State.{State}
use Rattle.member.specs.Opening.{opening_state}
use Rattle.member.specs.Beginnings.{past_limit, reborn}

-- a number within its limit begins anew at 0
pub past_limit-within : (number : ℕ) → number ≤ 2 ^ 63 → past_limit number ≡ 0
past_limit-within number within = rw (le-ltb (2 ^ 63) number within) refl

-- a member as before its start, with the counters, the draws and the life of a restart
pub reborn_of : (s : Setup) (m : ℕ) (contact : Option ℕ) (t fresh : State) (words : Words) (life : LifeState) → t.incarnation ≤ 2 ^ 63 → fresh ≡ opening_state s m → words ≡ t.words
    → life ≡ life_begun t.next_number contact
    → record fresh { phase = Running; next_number = t.next_number; sequence = t.sequence; words = words; life = life } ≡ reborn s m contact t
unfolding opening_state
reborn_of s m contact t fresh words life within is drawn begun =
    ap (λ (f : State). record f { phase = Running; next_number = t.next_number; sequence = t.sequence; words = words; life = life }) is
    ∙ ap (λ w. record (opening_state s m) { phase = Running; next_number = t.next_number; sequence = t.sequence; words = w; life = life }) drawn
    ∙ ap (λ l. record (opening_state s m) { phase = Running; next_number = t.next_number; sequence = t.sequence; words = t.words; life = l }) begun
    ∙ ap (λ n. record (reborn s m contact t) { incarnation = n }) (sym (past_limit-within t.incarnation within))
