-- How long members' names are.
use Rattle.std.proofs.Common.{◌≡◌, ℕ, zero, suc, ◌≤◌, List, [], ◌∷◌, length, unwrap_or, refl, arith}
use Rattle.std.specs.List.{slice_get}
use Rattle.scenario.specs.Setup.{Setup, member_count, member_names, name_of}
use Rattle.scenario.proofs.Names.{length-member_names}

none_past : (names : List (List ℕ)) (m : ℕ) → length names ≤ m → length (unwrap_or (slice_get names m) []) ≡ 0
none_past [] m past = refl
none_past (name ∷ names) zero past = absurd (omega (arith, past))
none_past (name ∷ names) (suc m) past = none_past names m (omega (arith, past))

-- nobody's name has no letters
pub no_name : (s : Setup) (m : ℕ) → member_count s ≤ m → length (name_of s m) ≡ 0
no_name s m past = none_past (member_names s) m (omega (arith, length-member_names s, past))
