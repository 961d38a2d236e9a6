-- Texts that begin with another.
use Rattle.std.proofs.Common.{◌≡◌, ◌≢◌, ℕ, Bool, true, false, true≢false, ◌∙◌, List, ◌++◌, is_some, sym, ap}
use Rattle.std.specs.Prelude.{Option, Some, None, IfSome, IsNone}
use Rattle.std.specs.Borrow.{Bor}
use Rattle.std.specs.Option.{MatchOption}

module _ (text front header : List ℕ) (r : Option (Bor (List ℕ))) (same : front ≡ header) (cut : MatchOption r ((rest : List ℕ) → text ≢ front ++ rest) (λ x. text ≡ front ++ x.now)) where
  pub stripped : (b : Bool) → b ≡ is_some r → b ≡ true → (rest : List ℕ) × (text ≡ header ++ rest)
  stripped b is found = by r cut (sym is ∙ found)
    where
      by : (o : Option (Bor (List ℕ))) → MatchOption o ((rest : List ℕ) → text ≢ front ++ rest) (λ x. text ≡ front ++ x.now) → is_some o ≡ true → (rest : List ℕ) × (text ≡ header ++ rest)
      by None cut some = cc
      by (Some x) cut some = (x.now, cut ∙ ap (λ l. l ++ x.now) same)

  pub unstripped : (b : Bool) → b ≡ is_some r → b ≡ false → (rest : List ℕ) → text ≢ header ++ rest
  unstripped b is lost = by r cut (sym is ∙ lost)
    where
      by : (o : Option (Bor (List ℕ))) → MatchOption o ((rest : List ℕ) → text ≢ front ++ rest) (λ x. text ≡ front ++ x.now) → is_some o ≡ false → (rest : List ℕ) → text ≢ header ++ rest
      by None cut none = λ rest is. cut rest (is ∙ ap (λ l. l ++ rest) (sym same))
      by (Some x) cut none = absurd (true≢false none)

-- what comes behind it in a text that begins with it
pub behind : (text front : List ℕ) (r : Option (Bor (List ℕ))) → MatchOption r ((rest : List ℕ) → text ≢ front ++ rest) (λ x. text ≡ front ++ x.now)
    → IfSome r (λ x. text ≡ front ++ x.now)
behind text front None cut = tt
behind text front (Some x) cut = cut

pub not_behind : (text front : List ℕ) (r : Option (Bor (List ℕ))) → MatchOption r ((rest : List ℕ) → text ≢ front ++ rest) (λ x. text ≡ front ++ x.now)
    → IsNone r → (rest : List ℕ) → text ≢ front ++ rest
not_behind text front None cut none = cut
not_behind text front (Some x) cut none = absurd (true≢false none)
