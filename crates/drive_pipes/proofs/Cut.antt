-- A line is cut from the bytes that came in.
use Rattle.std.proofs.Common.{◌≡◌, ◌+◌, ◌-◌, ◌<◌, ◌≤◌, ℕ, List, ◌∷◌, ◌++◌, length, get_or, take, drop, ap, ◌∙◌, sym, arith, lt_of_not-le}
use Rattle.std.specs.Prelude.{slice_range}
use Rattle.std.proofs.lemmas.List.{drop_more, drop-drop, take-append-drop, get_or-take, get_or-drop, length-take-le, length-drop}
use Rattle.drive_pipes.specs.Lines.{HasNoFeed, IsSearched, longest}

-- the bytes from a place on, cut at a later one
line_cut : (bytes : List ℕ) (from end : ℕ) → from ≤ end → end < length bytes → get_or bytes end 0 ≡ 10 → drop from bytes ≡ slice_range bytes from end ++ 10 ∷ drop (end + 1) bytes
line_cut bytes from end order within is =
    let there : from + (end - from) ≡ end = omega arith in
    sym (take-append-drop (end - from) (drop from bytes))
    ∙ ap (λ r. take (end - from) (drop from bytes) ++ r) (drop-drop (end - from) from bytes ∙ ap (λ n. drop n bytes) there ∙ drop_more bytes end 0 within ∙ ap (λ x. x ∷ drop (end + 1) bytes) is)

-- no byte of the line is a line feed
no_feed : (bytes : List ℕ) (from searched end k : ℕ) → IsSearched from searched bytes → ((i : ℕ) → searched ≤ i → i < end → get_or bytes i 0 ≡ 10 → ⊥) → from + k < end
    → get_or bytes (from + k) 0 ≡ 10 → ⊥
no_feed bytes from searched end k before later within feed =
    let past : ¬ (searched ≤ from + k) = λ le. later (from + k) le within feed in
    before.none (from + k) (omega arith) (lt_of_not-le past) feed

-- what is taken is the first line
pub taken : (old new line bytes : List ℕ) (from searched end : ℕ) → old ≡ drop from bytes → IsSearched from searched bytes
    → (searched ≤ end) × (end < length bytes) × (get_or bytes end 0 ≡ 10) → ((i : ℕ) → searched ≤ i → i < end → get_or bytes i 0 ≡ 10 → ⊥)
    → line ≡ slice_range bytes from end → new ≡ drop (end + 1) bytes → end - from ≤ longest → (old ≡ line ++ 10 ∷ new) × (length line ≤ longest) × HasNoFeed line (length line)
taken old new line bytes from searched end seen before at later is left short =
    let order : from ≤ end = omega (arith, before.order, at.0) in
    let room : end - from ≤ length (drop from bytes) = omega (arith, length-drop from bytes, at.1) in
    let sized : length line ≡ end - from = ap length is ∙ length-take-le (end - from) (drop from bytes) room in (
      seen ∙ line_cut bytes from end order at.1 at.2 ∙ ap (λ l. l ++ 10 ∷ drop (end + 1) bytes) (sym is) ∙ ap (λ n. line ++ 10 ∷ n) (sym left),
      omega (arith, sized),
      λ k within feed.
          let near : k < end - from = omega (arith, sized) in
          let there : get_or line k 0 ≡ get_or bytes (from + k) 0 = ap (λ l. get_or l k 0) is ∙ get_or-take (end - from) (drop from bytes) k 0 near ∙ get_or-drop from bytes k 0 in
          no_feed bytes from searched end k before later (omega arith) (sym there ∙ feed),
    )
