-- The numbers that options have.
use Rattle.std.specs.Prelude.{◌≡◌, ◌≤◌, ℕ}
use Rattle.std.specs.Fmt.{decimal}
use Rattle.clap.specs.Words.{Text}

-- the word is the number, of this range, in decimal without sign or leading zero
pub record IsNumber (least most : ℕ) (word : Text) (n : ℕ) : Type 0 where
  pub written : decimal n ≡ word
  pub low : least ≤ n
  pub high : n ≤ most
