-- What was appended, one after the other.
use Rattle.std.proofs.Common.{◌≡◌, ℕ, List, ◌++◌, ◌∙◌, ap, append_assoc}
use Rattle.std.proofs.lemmas.Result.{on_ok_weaker}
use Rattle.std.specs.Prelude.{Result, OnOk}

-- a text goes on by one more piece
pub and_then : {mid new : List ℕ} (old one more : List ℕ) → mid ≡ old ++ one → new ≡ mid ++ more → new ≡ old ++ (one ++ more)
and_then {mid} {new} old one more held goes = goes ∙ ap (λ t. t ++ more) held ∙ append_assoc old one more

-- the same of the last piece, where it could be appended
pub and_last : {T E : Type 0} {mid : List ℕ} (new old one more : List ℕ) (r : Result T E) → mid ≡ old ++ one → OnOk r (new ≡ mid ++ more) → OnOk r (new ≡ old ++ (one ++ more))
and_last {mid} new old one more r held = on_ok_weaker r (λ goes. and_then old one more held goes)
