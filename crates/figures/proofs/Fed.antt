-- Texts that end with another.
use Rattle.std.proofs.Common.{◌≡◌, ◌≢◌, ℕ, true≢false, List, ◌++◌}
use Rattle.std.specs.Prelude.{Option, Some, None, IfSome, IsNone}
use Rattle.std.specs.Borrow.{Bor}
use Rattle.std.specs.Option.{MatchOption}

module _ (text end : List ℕ) where
  -- what comes before the end of a text
  pub fed : (r : Option (Bor (List ℕ))) → MatchOption r ((front : List ℕ) → text ≢ front ++ end) (λ x. text ≡ x.now ++ end) → IfSome r (λ x. text ≡ x.now ++ end)
  fed None cut = tt
  fed (Some x) cut = cut

  -- a text that doesn't end so
  pub not_fed : (r : Option (Bor (List ℕ))) → MatchOption r ((front : List ℕ) → text ≢ front ++ end) (λ x. text ≡ x.now ++ end) → IsNone r → (front : List ℕ) → text ≢ front ++ end
  not_fed None cut none = cut
  not_fed (Some x) cut none = absurd (true≢false none)
