-- What is said of a success, and parts of lists.
use Rattle.std.proofs.Common.{◌≡◌, ◌∙◌, List, [], ◌∷◌, ◌++◌, Result, Ok, Err, OnOk, ap, append_assoc}

-- what a success gives, from what holds of it
pub then_also : {T E : Type 0} (r : Result T E) (A B : Type 0) → OnOk r A → (A → B) → OnOk r B
then_also (Ok x) A B holds gives = gives holds
then_also (Err e) A B holds gives = tt

module _ {A : Type 0} where
  pub three_joined : (old first mid last : List A) → ((old ++ first) ++ mid) ++ last ≡ old ++ (first ++ (mid ++ last))
  three_joined old first mid last = append_assoc (old ++ first) mid last ∙ append_assoc old first (mid ++ last)

  pub one_between : (first mid last : List A) (x : A) → ((first ++ mid) ++ x ∷ []) ++ last ≡ first ++ (mid ++ x ∷ last)
  one_between first mid last x = append_assoc (first ++ mid) (x ∷ []) last ∙ append_assoc first mid (x ∷ last)

  -- one more of some that were added
  pub one_more : (old xs mid new : List A) (x : A) → new ≡ mid ++ x ∷ [] → mid ≡ old ++ xs → new ≡ old ++ (xs ++ x ∷ [])
  one_more old xs mid new x added before = added ∙ ap (λ l. l ++ x ∷ []) before ∙ append_assoc old xs (x ∷ [])
