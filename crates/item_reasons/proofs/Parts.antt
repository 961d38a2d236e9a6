-- What stands before the last dot of a word, and behind it.
use Rattle.std.proofs.Common.{◌≡◌, ℕ, List, ◌∷◌, ◌++◌, Option, Some, None, Bor}
use Rattle.std.specs.Option.{IfSome, MatchOption}
use Rattle.std.specs.Str.Pattern.{RFindsChar}
use Rattle.sweep_plan.proofs.Marks.{AtLastDot, parts_of}

pub parted : (word : List ℕ) (r : Option (Bor (List ℕ) × Bor (List ℕ))) → MatchOption r (RFindsChar 46 word None) (λ x. AtLastDot word x.0.now x.1.now) → IfSome r (λ x. word ≡ x.0.now ++ 46 ∷ x.1.now)
parted word None at = tt
parted word (Some x) at = (parts_of word x.0.now x.1.now at).0
