-- The checksum of a line, a line with its checksum before it, and where texts are cut.
use Rattle.std.specs.Prelude.{◌≡◌, ◌==◌, ℕ, List, [], ◌∷◌, ◌++◌, All, false, take}
use Rattle.hex.specs.Hex.{encode_lower}
use Rattle.sha2.specs.Sha256.{sha256}

-- what the lines of one sweep have in common: the SHA-256 of a mark, a space and words
unfoldable pub key_of : List ℕ → List ℕ → List ℕ
key_of mark words = sha256 (mark ++ 32 ∷ words)

-- the checksum of a line with such a key: the first four bytes of a SHA-256, in hexadecimal
unfoldable pub checksum : List ℕ → List ℕ → List ℕ
checksum key line = encode_lower (take 4 (sha256 (key ++ line)))

-- the line with its checksum and a space before it
abbrev pub summed : List ℕ → List ℕ → List ℕ
summed key line = checksum key line ++ 32 ∷ line

-- a text is cut at the first byte of this value
pub record IsCut (byte : ℕ) (text front back : List ℕ) : Type 0 where
  pub lacks : All (λ x. (x == byte) ≡ false) front
  pub written : text ≡ front ++ byte ∷ back

-- the first line of a text, with its line feed, and what is left
pub record IsFirstLine (text line left : List ℕ) : Type 0 where
  pub body : List ℕ
  pub one : All (λ x. (x == 10) ≡ false) body
  pub fed : line ≡ body ++ 10 ∷ []
  pub written : text ≡ line ++ left
