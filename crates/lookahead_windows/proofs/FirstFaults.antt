-- Which of two faults is answered.
use Rattle.std.proofs.Common.{◌≡◌, ◌⊎◌, inl, inr, Bool, true, false, nat_lt, if◌then◌else◌, refl}
use Rattle.base.specs.declared.fault.Fault.{Fault}
use Rattle.base.specs.declared.fault.Fault.TheVariants.{Memory, CounterOverflow, Write, ThreadLost}
use Rattle.base.proofs.Faults.{memory≢relay, overflow≢relay, write≢relay}
use Rattle.lookahead_windows.specs.Faults.{rank_of, first_fault}

either_way : {A : Type 0} (test : Bool) (one other : A) → ((if test then other else one) ≡ one) ⊎ ((if test then other else one) ≡ other)
either_way true one other = inr refl
either_way false one other = inl refl

-- of two faults the first is one of them
pub first_either : (one other : Fault) → (first_fault one other ≡ one) ⊎ (first_fault one other ≡ other)
first_either one other = either_way (nat_lt (rank_of other) (rank_of one)) one other

-- what threads lost is answered only where nothing else went wrong
pub first_relay : (one other : Fault) → first_fault one other ≡ ThreadLost → (one ≡ ThreadLost) × (other ≡ ThreadLost)
first_relay Memory Memory is = absurd (memory≢relay is)
first_relay Memory CounterOverflow is = absurd (memory≢relay is)
first_relay Memory Write is = absurd (memory≢relay is)
first_relay Memory ThreadLost is = absurd (memory≢relay is)
first_relay CounterOverflow Memory is = absurd (memory≢relay is)
first_relay CounterOverflow CounterOverflow is = absurd (overflow≢relay is)
first_relay CounterOverflow Write is = absurd (overflow≢relay is)
first_relay CounterOverflow ThreadLost is = absurd (overflow≢relay is)
first_relay Write Memory is = absurd (memory≢relay is)
first_relay Write CounterOverflow is = absurd (overflow≢relay is)
first_relay Write Write is = absurd (write≢relay is)
first_relay Write ThreadLost is = absurd (write≢relay is)
first_relay ThreadLost Memory is = absurd (memory≢relay is)
first_relay ThreadLost CounterOverflow is = absurd (overflow≢relay is)
first_relay ThreadLost Write is = absurd (write≢relay is)
first_relay ThreadLost ThreadLost is = (refl, refl)
