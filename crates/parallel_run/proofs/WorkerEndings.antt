-- By what a process may end, and what it may deliver.
use Rattle.std.proofs.Common.{◌≡◌, ◌≢◌, ◌⊎◌, ℕ, ◌+◌, ◌<◌, ◌≤◌, max, Bool, true, ◌++◌, Option, Some, Result, Ok, Err, IfErr, OnOk, inl, inr, ◌∙◌, sym, subst, arith}
use Rattle.std.specs.Bool.{OnTrue}
use Rattle.std.specs.List.{AllByRecursion}
use Rattle.std.specs.Result.{IsErrAnd}
use Rattle.std.proofs.lemmas.Option.{same_Some}
use Rattle.base.specs.declared.fault.Fault.{Fault}
use Rattle.base.specs.declared.fault.Fault.TheVariants as fault
use Rattle.base.specs.Rising.{IsRising}
use Rattle.base.proofs.Faults.{memory≢overflow, memory≢write, overflow≢write, overflow≢relay, write≢relay}
use Rattle.trace.specs.declared.row.Row.{Row}
use Rattle.member_laws.specs.Runs.{CounterOverflows}
use Rattle.lookahead_windows.specs.Lots.{IsLot, HasLasted}
use Rattle.lookahead_windows.proofs.Lots.{lot_cut, lot_rises}
use Rattle.lookahead_windows.specs.Basis.{Basis, IsBasis, division_of, plan_of}
use Rattle.parallel_run.specs.declared.row_batch.RowBatch.{RowBatch}
use Rattle.parallel_run.specs.declared.rows.Gathered.{Gathered}
use Rattle.parallel_run.specs.Messages.{MayEndBy, IsLotOfRun}
use Rattle.parallel_run.specs.Windows.{GathersUpTo}

-- ---- of whatever run a ring is

-- what holds of the run that there is
pub of_the_run : (P : Basis → Type 0) (run : Option Basis) (one : Basis) → run ≡ Some one → P one → (basis : Basis) → run ≡ Some basis → P basis
of_the_run P run one is holds basis same = subst P (same_Some one basis (sym is ∙ same)) holds

-- ---- faults

pub ends_by_relay : (basis : Basis) → MayEndBy basis fault.ThreadLost
ends_by_relay basis = (λ is. absurd (overflow≢relay (sym is)), λ is. write≢relay (sym is))

pub ends_by_memory : (basis : Basis) → MayEndBy basis fault.Memory
ends_by_memory basis = (λ is. absurd (memory≢overflow is), memory≢write)

-- the fault of a window, where a counter that overflows in it overflows in the run
pub ends_by_window : (basis : Basis) (f : Fault) (Wears : Type 0) → (Wears → CounterOverflows basis.setup) → (f ≡ fault.Memory) ⊎ ((f ≡ fault.CounterOverflow) × Wears) → MayEndBy basis f
ends_by_window basis f Wears so (inl is) = subst (MayEndBy basis) (sym is) (ends_by_memory basis)
ends_by_window basis f Wears so (inr overflow) = (λ is. so overflow.1, λ write. overflow≢write (sym overflow.0 ∙ write))

-- the fault of a lot that isn't sent
pub ends_by_sending : {T : Type 0} (basis : Basis) (r : Result T Fault) → IfErr r (λ f. (f ≡ fault.Memory) ⊎ (f ≡ fault.ThreadLost)) → IfErr r (MayEndBy basis)
ends_by_sending basis (Ok x) either = tt
ends_by_sending basis (Err f) (inl is) = subst (MayEndBy basis) (sym is) (ends_by_memory basis)
ends_by_sending basis (Err f) (inr is) = subst (MayEndBy basis) (sym is) (ends_by_relay basis)

-- a fault that is handed on
pub handed_on : {T : Type 0} (Q : Fault → Type 0) (r : Result T Fault) (f : Fault) → IsErrAnd r (λ y. y ≡ f) → Q f → IfErr r Q
handed_on Q (Ok x) f gives holds = absurd gives
handed_on Q (Err y) f gives holds = subst Q (sym gives) holds

-- where all went well, what follows from that
pub on_ok : {T : Type 0} (r : Result T Fault) (A B : Type 0) → (A → B) → OnOk r A → OnOk r B
on_ok (Ok x) A B f holds = f holds
on_ok (Err e) A B f holds = tt

-- ---- lots

pub on_true : {P : Type 0} (b : Bool) → OnTrue b P → b ≡ true → P
on_true {P} b holds is = subst (λ c. OnTrue c P) is holds

-- of what was gathered the lot that is sent is the run's, and what is left goes as far as before
module _ (basis : Basis) (is : IsBasis basis) (number until to : ℕ) (before after : Gathered) (lot : RowBatch) (far : until ≤ to) (gathers : GathersUpTo basis number to before)
    (moments : (lot.since ≡ before.since) × (lot.until ≡ max until before.since)) (rows : lot.rows.items ++ after.rows.items ≡ before.rows.items)
    (early : AllByRecursion (λ (row : Row). row.at < lot.until) lot.rows.items) (late : AllByRecursion (λ (row : Row). lot.until ≤ row.at) after.rows.items) where
  -- the rows before the moment and the later ones
  cut_there : IsLot basis.setup (division_of basis) number before.since lot.until lot.rows.items × IsLot basis.setup (division_of basis) number lot.until to after.rows.items
  cut_there =
      let ordered = gathers.ordered in
      lot_cut basis.setup (division_of basis) number before.since lot.until to lot.rows.items after.rows.items is.plan.sound (omega (arith, moments.1)) (omega (arith, moments.1, ordered, far))
      (subst (IsLot basis.setup (division_of basis) number before.since to) (sym rows) gathers) early late

  pub lot_of_run : (round : ℕ) (last : Bool) → (last ≡ true → (until ≡ basis.setup.end + 1) × HasLasted (plan_of basis) number round) → lot.from ≡ number → lot.round ≡ round → lot.last ≡ last → IsLotOfRun basis lot
  lot_of_run round last lasted from sent is_last = record {
    rows =
        subst (λ part. IsLot basis.setup (division_of basis) part lot.since lot.until lot.rows.items) (sym from)
        (subst (λ since. IsLot basis.setup (division_of basis) number since lot.until lot.rows.items) (sym moments.0) cut_there.0);
    last = λ ends.
        let has = lasted (sym is_last ∙ ends) in
        let low = gathers.ordered in
        let end = gathers.in_time in (
          omega (arith, has.0, low, end, far, moments.1),
          subst (λ part. HasLasted (plan_of basis) part lot.round) (sym from) (subst (HasLasted (plan_of basis) number) (sym sent) has.1),
        );
  }

  pub later_gathered : after.since ≡ lot.until → GathersUpTo basis number to after
  later_gathered since = subst (λ from. IsLot basis.setup (division_of basis) number from to after.rows.items) (sym since) cut_there.1

-- rows in the order of their moments
pub gathered_rise : (basis : Basis) (is : IsBasis basis) (number to : ℕ) (gathered : Gathered) → GathersUpTo basis number to gathered → IsRising (λ (a b : Row). a.at ≤ b.at) gathered.rows.items
gathered_rise basis is number to gathered gathers = lot_rises basis.setup (division_of basis) number gathered.since to gathered.rows.items is.plan.sound gathers
