-- A clause of what succeeds, and one of what fails.
use Rattle.std.specs.Prelude.{Result, Ok, Err, OnOk, OnErr}

pub on_ok : {A E : Type 0} (r : Result A E) {P Q : Type 0} → (P → Q) → OnOk r P → OnOk r Q
on_ok (Ok x) f held = f held
on_ok (Err e) f held = tt

pub on_err : {A E : Type 0} (r : Result A E) {P Q : Type 0} → (P → Q) → OnErr r P → OnErr r Q
on_err (Ok x) f held = tt
on_err (Err e) f held = f held

pub on_ok_three : {A E : Type 0} (r : Result A E) {P S T Q : Type 0} → (P → S → T → Q) → OnOk r P → OnOk r S → OnOk r T → OnOk r Q
on_ok_three (Ok x) f held too also = f held too also
on_ok_three (Err e) f held too also = tt

pub on_err_three : {A E : Type 0} (r : Result A E) {P S T Q : Type 0} → (P → S → T → Q) → OnErr r P → OnErr r S → OnErr r T → OnErr r Q
on_err_three (Ok x) f held too also = tt
on_err_three (Err e) f held too also = f held too also
