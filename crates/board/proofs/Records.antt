-- What was dealt and taken at seats, in their passes and in their records.
use Rattle.std.proofs.Common.{◌≡◌, ℕ, List, [], ◌∷◌, ◌++◌, ap, ◌∙◌, sym}
use Rattle.std.specs.List.{flat_map}
use Rattle.board.specs.declared.rule.Hand.{Hand}
use Rattle.board.specs.Deal.{hand}
use Rattle.board.proofs.Hands.{flat_last}

-- two lists of seats of which the same is known, and one more of each
pub one_more : {A B V : Type 0} (f : A → List V) (h : B → List V) (xs more : List A) (x : A) (ys more' : List B) (y : B)
    → more ≡ xs ++ x ∷ [] → more' ≡ ys ++ y ∷ [] → f x ≡ h y → flat_map f xs ≡ flat_map h ys → flat_map f more ≡ flat_map h more'
one_more f h xs more x ys more' y joined joined' same so_far =
    ap (flat_map f) joined ∙ (flat_last f xs x ∙ (ap (λ l. l ++ f x) so_far ∙ (ap (λ l. flat_map h ys ++ l) same ∙ (sym (flat_last h ys y) ∙ ap (flat_map h) (sym joined')))))

-- the same, where the last of the first kind stands alone
pub one_beside : {B V : Type 0} (all own : List V) (h : B → List V) (ys more : List B) (y : B) → more ≡ ys ++ y ∷ [] → own ≡ h y → all ≡ flat_map h ys → all ++ own ≡ flat_map h more
one_beside all own h ys more y joined same so_far =
    ap (λ l. l ++ own) so_far ∙ (ap (λ l. flat_map h ys ++ l) same ∙ (sym (flat_last h ys y) ∙ ap (flat_map h) (sym joined)))

-- one more was dealt
pub dealt_more : {V : Type 0} (old new : Hand V) (share : ℕ) (d t : List V) (x : V) → old ≡ hand share d t → new ≡ hand old.share (old.dealt ++ x ∷ []) old.taken → new ≡ hand share (d ++ x ∷ []) t
dealt_more old new share d t x was is = is ∙ ap (λ v. hand v.share (v.dealt ++ x ∷ []) v.taken) was

-- one more was taken
pub taken_more : {V : Type 0} (old new : Hand V) (share : ℕ) (d t : List V) (x : V) → old ≡ hand share d t → new ≡ hand old.share old.dealt (old.taken ++ x ∷ []) → new ≡ hand share d (t ++ x ∷ [])
taken_more old new share d t x was is = is ∙ ap (λ v. hand v.share v.dealt (v.taken ++ x ∷ [])) was

-- nothing yet
pub none_yet : {V : Type 0} (v : Hand V) → v.share ≡ 1 → v.dealt ≡ [] → v.taken ≡ [] → v ≡ hand 1 [] []
none_yet v one dealt taken = λ i. hand (one i) (dealt i) (taken i)
