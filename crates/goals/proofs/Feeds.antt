-- A line without its line feed.
use Rattle.std.proofs.Common.{◌≡◌, ◌∙◌, List, ℕ, [], ◌∷◌, ◌++◌, Option, Some, None, Result, Ok, Err, OnOk, sym}
use Rattle.std.proofs.lemmas.List.{append_cancel_right}
use Rattle.std.specs.Borrow.{Bor}
use Rattle.std.specs.Option.{MatchOption}

abbrev HasFeed : List ℕ → Option (Bor (List ℕ)) → Type 0
HasFeed line parted = MatchOption parted ((front : List ℕ) → ¬ (line ≡ front ++ 10 ∷ [])) (λ x. line ≡ x.now ++ 10 ∷ [])

pub cells_are : (line cells : List ℕ) (parted : Option (Bor (List ℕ))) (front : Bor (List ℕ)) → parted ≡ Some front → HasFeed line parted → line ≡ cells ++ 10 ∷ [] → front.now ≡ cells
cells_are line cells parted front some has is = append_cancel_right front.now cells (10 ∷ []) (sym (rw some at has) ∙ is)

pub has_feed : {P : Type 0} (line cells : List ℕ) (parted : Option (Bor (List ℕ))) → parted ≡ None → HasFeed line parted → line ≡ cells ++ 10 ∷ [] → P
has_feed line cells parted none has is = absurd ((rw none at has) cells is)

-- what a success gives, from what holds of it
pub each_cells : {T E : Type 0} (r : Result T E) (A B : Type 0) → OnOk r A → (A → B) → OnOk r B
each_cells (Ok x) A B a turn = turn a
each_cells (Err e) A B a turn = tt

pub on_ok_of : {T E P : Type 0} (r : Result T E) → P → OnOk r P
on_ok_of (Ok x) h = h
on_ok_of (Err e) h = tt
