-- What stays of a text of which so much stands, and what comes behind it.
use Rattle.std.proofs.Common.{◌≡◌, ◌∙◌, ◌+◌, ℕ, List, [], ◌++◌, Option, Some, None, length, length-append, take, take_at, drop, arith, sym, ap, append_assoc, append-nil}
use Rattle.std.specs.Io.KnownBytes.{Appends}
use Rattle.std.proofs.lemmas.List.{drop_at, take_all}
use Rattle.std.proofs.Math.ListN.{drop_of_length-le}

module _ (header text : List ℕ) (kept : ℕ) where
  -- a beginning of the first line, and what it lacks, are that line
  pub short_again : (rest : List ℕ) → header ≡ text ++ rest → kept ≡ length text → take kept text ++ drop kept header ≡ header
  short_again rest is all =
      let front : take kept text ≡ text = take_all kept text (omega (arith, all)) in
      let back : drop kept header ≡ rest = ap (drop kept) is ∙ drop_at text rest kept (sym all) in
      (λ i. front i ++ back i) ∙ sym is

  -- that line and others, up to what is left
  pub long_again : (lines left : List ℕ) → text ≡ header ++ (lines ++ left) → kept + length left ≡ length text → take kept text ++ drop kept header ≡ header ++ lines
  long_again lines left is stay =
      let whole : text ≡ (header ++ lines) ++ left = is ∙ sym (append_assoc header lines left) in
      let long : length text ≡ length (header ++ lines) + length left = ap length whole ∙ length-append (header ++ lines) left in
      let count : length (header ++ lines) ≡ kept = omega (arith, long, stay) in
      let front : take kept text ≡ header ++ lines = ap (take kept) whole ∙ take_at (header ++ lines) left kept count in
      let back : drop kept header ≡ [] = drop_of_length-le header (omega (arith, count, length-append header lines)) in
      (λ i. front i ++ back i) ∙ append-nil (header ++ lines)

  -- what comes behind the bytes that stay comes behind these
  pub goes_behind : (front : List ℕ) → take kept text ++ drop kept header ≡ front → (new : Option (List ℕ)) (more : List ℕ) → Appends (Some (take kept text)) new (drop kept header ++ more)
      → Appends (Some []) new (front ++ more)
  goes_behind front is None more written = written
  goes_behind front is (Some bytes) more written = written ∙ sym (append_assoc (take kept text) (drop kept header) more) ∙ ap (λ l. l ++ more) is
