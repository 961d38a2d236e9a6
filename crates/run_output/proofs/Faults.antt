-- What holds of a result, by how it came out.
use Rattle.std.proofs.Common.{◌≡◌, ◌≢◌, ◌∙◌, ℕ, ◌<◌, Result, Ok, Err, IsErrAnd, IsOk, ap, sym, subst, refl, arith}
use Rattle.std.specs.Result.{IfOk, IfErr, OnOk, OnErr, IsErrOf}
use Rattle.std.proofs.lemmas.Bool.{false≢true}
use Rattle.reports.proofs.Faults.{is_err}

-- what holds holds at an error too
pub on_err : {T E P : Type 0} (r : Result T E) → P → OnErr r P
on_err (Ok x) p = tt
on_err (Err e) p = p

pub at_ok : {T E : Type 0} (P : Type 0) (o : Result T E) → IsOk o → OnOk o P → P
at_ok P (Ok x) is p = p
at_ok P (Err e) is p = absurd (false≢true is)

-- where only what succeeded so far succeeds, what success gave stays
pub on_came : {T U E : Type 0} (P : Type 0) (o : Result T E) (came : Result U E) → OnOk o (IsOk came) → OnOk came P → OnOk o P
on_came P (Ok x) came is p = at_ok P came is p
on_came P (Err e) came is p = tt

-- what holds holds at success too
pub on_any : {T E P : Type 0} (o : Result T E) → P → OnOk o P
on_any (Ok x) p = p
on_any (Err e) p = tt

-- what follows where it succeeds
pub on_ok : {T E P Q : Type 0} (o : Result T E) → (P → Q) → OnOk o P → OnOk o Q
on_ok (Ok x) f p = f p
on_ok (Err e) f p = tt

-- what holds where both succeed
pub on_both : {T E P Q R : Type 0} (o : Result T E) → (P → Q → R) → OnOk o P → OnOk o Q → OnOk o R
on_both (Ok x) f p q = f p q
on_both (Err e) f p q = tt

-- what is handed on where it succeeded is what it was
pub if_same : {T E : Type 0} (P : T → Type 0) (o came : Result T E) → OnOk o (o ≡ came) → IfOk came P → IfOk o P
if_same P (Ok x) came same p = subst (λ r. IfOk r P) (sym same) p
if_same P (Err e) came same p = tt

pub ok_too : {T E : Type 0} (o came : Result T E) → OnOk o (o ≡ came) → OnOk o (IsOk came)
ok_too (Ok x) came same = subst IsOk same refl
ok_too (Err e) came same = tt

-- a fault that it never is
pub never : {T E : Type 0} (r : Result T E) (fault : E) → ¬ (IsErrOf r fault) → IfErr r (λ e. e ≢ fault)
never (Ok x) fault differs = tt
never (Err e) fault differs = λ is. differs (ap Err is)

-- a failure more can still be counted where none was
pub still_countable : {T E : Type 0} (o : Result T E) (old new n : ℕ) → OnOk o (new ≡ old) → old < n → OnOk o (new < n)
still_countable (Ok x) old new n same few = omega (arith, same, few)
still_countable (Err e) old new n same few = tt

-- a fault that is handed on is answered as it came
pub told : {T U E : Type 0} (came : Result T E) (o : Result U E) (fault : E) → came ≡ Err fault → IsErrAnd o (λ e. e ≡ fault) → IfErr came (λ e. IsErrOf o e)
told came o fault was gives = subst (λ r. IfErr r (λ e. IsErrOf o e)) (sym was) (is_err o fault gives)

-- so is one that was returned as it came
pub told_on : {T V E : Type 0} (U : Type 0) (came : Result T E) (o : Result V E) (fault : E) → IfErr came (λ e. IsErrOf {T = U} (Err fault) e)
    → IsErrAnd o (λ e. e ≡ fault) → IfErr came (λ e. IsErrOf o e)
told_on U (Ok x) o fault so_far gives = tt
told_on U (Err e) o fault so_far gives = let same : fault ≡ e = cc in is_err o fault gives ∙ ap Err same

-- where it succeeded there is none
pub none_told : {T E : Type 0} (P : E → Type 0) (came : Result T E) (x : T) → came ≡ Ok x → IfErr came P
none_told P came x was = subst (λ r. IfErr r P) (sym was) tt
