-- What is said of an error that is handed on.
use Rattle.std.proofs.Common.{Result, Ok, Err, IsErrAnd}
use Rattle.std.specs.Prelude.{IfErr}

-- what is known of the error gives what is said of it
pub handed : {T E : Type 0} (r : Result T E) (G Q : E → Type 0) → IsErrAnd r G → ((e : E) → G e → Q e) → IfErr r Q
handed (Ok x) G Q gives turn = tt
handed (Err e) G Q gives turn = turn e gives

-- what is said of an error, and what follows from that
pub if_err_then : {T E : Type 0} (r : Result T E) (G Q : E → Type 0) → IfErr r G → ((e : E) → G e → Q e) → IfErr r Q
if_err_then (Ok x) G Q gives turn = tt
if_err_then (Err e) G Q gives turn = turn e gives
