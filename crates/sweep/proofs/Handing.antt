-- What is said of an error that is handed on.
use Rattle.std.proofs.Common.{◌≡◌, ℕ, ◌+◌, ap, sym, subst, arith, Result, Ok, Err, IsErrAnd}
use Rattle.std.specs.Prelude.{IfErr, OnErr, OnOk}
use Rattle.base.specs.declared.fault.Fault.{Fault}
use Rattle.base.specs.declared.fault.Fault.TheVariants as fault
use Rattle.toml.specs.Data.{Data}
use Rattle.trace.specs.Sinks.{fault_of_write}
use Rattle.trace.specs.declared.write.WriteError.{WriteError}
use Rattle.trace.specs.declared.write.WriteError.TheVariants as error
use Rattle.sweep_plan.specs.Sweep.{Sweep}
use Rattle.sweep.specs.Table.{HasCause}
use Rattle.run_output.specs.Written.{sink_failures}

-- what holds holds at a success too
pub on_ok : {T E P : Type 0} (r : Result T E) → P → OnOk r P
on_ok (Ok x) p = p
on_ok (Err e) p = tt

-- what is said of a success, and what follows from that
pub on_ok_then : {T E : Type 0} (A B : Type 0) (r : Result T E) → OnOk r A → (A → B) → OnOk r B
on_ok_then A B (Ok x) a turn = turn a
on_ok_then A B (Err e) a turn = tt

-- and the same of an error
pub on_err_then : {T E : Type 0} (A B : Type 0) (r : Result T E) → OnErr r A → (A → B) → OnErr r B
on_err_then A B (Ok x) a turn = tt
on_err_then A B (Err e) a turn = turn a

-- want of memory is no failure of a sink
pub memory_fails_none : {T : Type 0} (r : Result T Fault) (n : ℕ) → IsErrAnd r (λ f. f ≡ fault.Memory) → n ≡ n + sink_failures r
memory_fails_none (Ok x) n gives = omega arith
memory_fails_none {T} (Err f) n gives =
    let none : sink_failures {T = T} (Err f) ≡ 0 = ap (λ g. sink_failures {T = T} (Err g)) gives in
    omega (arith, none)

-- that a text was not put whole is a cause of the sweep's end
pub write_caused : {T : Type 0} (tree : Data) (sweep : Sweep) (r : Result T Fault) (e : WriteError) → IsErrAnd r (λ f. f ≡ fault_of_write e)
    → IfErr r (HasCause tree sweep)
write_caused tree sweep (Ok x) e gives = tt
write_caused tree sweep (Err f) error.Memory gives = subst (HasCause tree sweep) (sym gives) tt
write_caused tree sweep (Err f) error.Stopped gives = subst (HasCause tree sweep) (sym gives) tt
