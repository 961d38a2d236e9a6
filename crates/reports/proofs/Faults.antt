-- What is answered of a fault that is handed on.
use Rattle.std.proofs.Common.{◌≡◌, ◌∙◌, Result, Ok, Err, IsErrAnd, ap, sym}
use Rattle.std.specs.Result.{IsErrOf}

-- what is handed on as it is, is what was met
pub is_err : {T E : Type 0} (r : Result T E) (e : E) → IsErrAnd r (λ y. y ≡ e) → r ≡ Err e
is_err (Ok x) e gives = absurd gives
is_err (Err y) e gives = ap Err gives

same_fault : {T E : Type 0} (r : Result T E) (e f : E) → IsErrAnd r (λ y. y ≡ e) → IsErrOf r f → e ≡ f
same_fault (Ok x) e f gives is = absurd gives
same_fault (Err y) e f gives is = let same : y ≡ f = cc in sym gives ∙ same

pub handed_on : {T U E : Type 0} (r : Result T E) (e f : E) → IsErrAnd r (λ y. y ≡ e) → IsErrOf r f → IsErrOf {T = U} (Err e) f
handed_on r e f gives is = ap Err (same_fault r e f gives is)
