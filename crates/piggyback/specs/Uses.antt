-- How often a subject is picked while a buffer is used under one limit.
use Rattle.std.specs.Prelude.{◌≢◌, ℕ, ◌+◌, if◌then◌else◌, Option, List, [], ◌∷◌}
use Rattle.std.specs.FinMap.{insert}
use Rattle.incarnation.specs.declared.Update.{Update}
use Rattle.piggyback.specs.Picked.{HeldUpdates, picked, left_by_pick, is_of_subject}

-- an update is put, or a message takes so many updates, with a buddy or none
pub data Use : Type 0 where
  Put : (update : Update) → Use
  Pick : (carry : ℕ) (buddy : Option Update) → Use

-- the buffer after a use
abbrev pub after_use : ℕ → Use → HeldUpdates → HeldUpdates
after_use limit (Put update) held = insert held update.subject (update, 0)
after_use limit (Pick carry buddy) held = left_by_pick held carry limit buddy

-- the buffer after all of them
abbrev pub after_uses : ℕ → List Use → HeldUpdates → HeldUpdates
after_uses limit [] held = held
after_uses limit (use' ∷ uses) held = after_uses limit uses (after_use limit use' held)

-- how many of the picks carried an update about the subject
abbrev pub picks_of : ℕ → ℕ → List Use → HeldUpdates → ℕ
picks_of subject limit [] held = 0
picks_of subject limit (Put update ∷ uses) held = picks_of subject limit uses (after_use limit (Put update) held)
picks_of subject limit (Pick carry buddy ∷ uses) held =
    (if is_of_subject subject (picked held carry limit buddy) then 1 else 0) + picks_of subject limit uses (after_use limit (Pick carry buddy) held)

-- nothing about the subject is put
abbrev pub PutsNone : ℕ → List Use → Type 0
PutsNone subject [] = Unit {0}
PutsNone subject (Put update ∷ uses) = (update.subject ≢ subject) × PutsNone subject uses
PutsNone subject (Pick carry buddy ∷ uses) = PutsNone subject uses
