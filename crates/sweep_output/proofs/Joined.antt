-- Members with commas between them, one more at a time.
use Rattle.std.proofs.Common.{◌≡◌, ◌<◌, ◌+◌, ◌==◌, ℕ, List, [], ◌++◌, map, length, get_or, take, ap, ◌∙◌, codes}
use Rattle.std.specs.Prelude.{if◌then◌else◌}
use Rattle.std.specs.List.{join_with_byte}
use Rattle.sweep_plan.proofs.Joined.{joined_behind}

-- one member more
pub joined_more : {A : Type 0} (f : A → List ℕ) (xs : List A) (i : ℕ) (d : A) (x start old mid new : List ℕ) → i < length xs → x ≡ f (get_or xs i d) → new ≡ mid ++ x
    → mid ≡ old ++ (if i == 0 then [] else codes ",") → old ≡ start ++ join_with_byte 44 (map f (take i xs)) → new ≡ start ++ join_with_byte 44 (map f (take (i + 1) xs))
joined_more f xs i d x start old mid new inside is added apart so_far = joined_behind 44 f xs i d start new mid old inside (added ∙ ap (λ l. mid ++ l) is) apart so_far
