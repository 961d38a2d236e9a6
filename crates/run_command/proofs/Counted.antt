-- What the count of refused writes comes to, once the files of a run are closed.
use Rattle.std.proofs.Common.{◌≡◌, ◌⊎◌, ◌+◌, ◌<◌, ℕ, Option, Some, List, [], Result, Ok, Err, IfSome, OnOk, arith, inl, inr, subst, sym}
use Rattle.base.specs.declared.fault.Fault.{Fault}
use Rattle.command_line.specs.declared.failure.Failure.{Failure}
use Rattle.files.specs.Files.{KnownFile}
use Rattle.scenario_files.specs.Told.{run_result}

-- a sink that takes everything has not failed
pub not_nowhere : {P : Type 0} → P ⊎ (0 < 0) → P
not_nowhere (inl p) = p
not_nowhere (inr more) = absurd (omega (arith, more))

pub without_nowhere : {P Q : Type 0} → P ⊎ ((0 < 0) ⊎ Q) → P ⊎ Q
without_nowhere (inl p) = inl p
without_nowhere (inr (inl more)) = absurd (omega (arith, more))
without_nowhere (inr (inr q)) = inr q

-- one file was closed
pub one_grew : (before made after low first : ℕ) → made ≡ before → after ≡ made + first → low < first → before < after
one_grew before made after low first same closed more = omega (arith, same, closed, more)

pub one_kept : (before made after first : ℕ) → made ≡ before → after ≡ made + first → first ≡ 0 → after ≡ before
one_kept before made after first same closed none = omega (arith, same, closed, none)

-- two files were
pub two_grew : (before made one after low first deep second : ℕ) → made ≡ before → one ≡ made + first → after ≡ one + second → (low < first) ⊎ (deep < second) → before < after
two_grew before made one after low first deep second same closed closed_too (inl more) = omega (arith, same, closed, closed_too, more)
two_grew before made one after low first deep second same closed closed_too (inr more) = omega (arith, same, closed, closed_too, more)

pub two_kept : (before made one after first second : ℕ) → made ≡ before → one ≡ made + first → after ≡ one + second → (first ≡ 0) × (second ≡ 0) → after ≡ before
two_kept before made one after first second same closed closed_too none = omega (arith, same, closed, closed_too, none.0, none.1)

-- three were
pub three_grew : (before made one two after low first deep second deeper third : ℕ) → made ≡ before → one ≡ made + first → two ≡ one + second → after ≡ two + third
    → (low < first) ⊎ ((deep < second) ⊎ (deeper < third)) → before < after
three_grew before made one two after low first deep second deeper third same closed closed_too closed_last (inl more) = omega (arith, same, closed, closed_too, closed_last, more)
three_grew before made one two after low first deep second deeper third same closed closed_too closed_last (inr (inl more)) = omega (arith, same, closed, closed_too, closed_last, more)
three_grew before made one two after low first deep second deeper third same closed closed_too closed_last (inr (inr more)) = omega (arith, same, closed, closed_too, closed_last, more)

pub three_kept : (before made one two after first second third : ℕ) → made ≡ before → one ≡ made + first → two ≡ one + second → after ≡ two + third
    → (first ≡ 0) × (second ≡ 0) × (third ≡ 0) → after ≡ before
three_kept before made one two after first second third same closed closed_too closed_last none =
    omega (arith, same, closed, closed_too, closed_last, none.0, none.1, none.2)

-- what holds where a run was done holds where it is reported as done
pub told_whole : {T : Type 0} (P Q : Type 0) (outcome : Result T Fault) (told : Result T Failure) → told ≡ run_result outcome → OnOk outcome P → (P → Q) → OnOk told Q
told_whole P Q (Ok x) told is whole then = subst (λ r. OnOk r Q) (sym is) (then whole)
told_whole P Q (Err cause) told is whole then = subst (λ r. OnOk r Q) (sym is) tt

pub three_whole : {T E : Type 0} (P Q R : Type 0) (outcome : Result T E) → OnOk outcome P → OnOk outcome Q → OnOk outcome R → OnOk outcome (P × Q × R)
three_whole P Q R (Ok x) first second third = (first, second, third)
three_whole P Q R (Err e) first second third = tt

pub both_whole : {T E : Type 0} (P Q : Type 0) (outcome : Result T E) → OnOk outcome P → OnOk outcome Q → OnOk outcome (P × Q)
both_whole P Q (Ok x) first second = (first, second)
both_whole P Q (Err e) first second = tt

-- a sink over a writer that is empty
pub fresh_under : {W : Type 0} (holds : W → Option (List ℕ)) (known : KnownFile) (under made : W) → under ≡ made
    → IfSome known (λ _. holds made ≡ Some []) → IfSome known (λ _. holds under ≡ Some [])
fresh_under holds known under made same fresh = subst (λ writer. IfSome known (λ _. holds writer ≡ Some [])) (sym same) fresh
