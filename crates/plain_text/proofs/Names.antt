-- A name of letters, digits, `-` and `_` stands for itself, as a key and between quotes.
use Rattle.std.proofs.Common.{◌≡◌, ℕ, Bool, true, false, ◌==◌, List, [], ◌∷◌, ◌++◌, length, refl, ap, arith}
use Rattle.std.specs.Prelude.{nat_lt}
use Rattle.std.specs.List.{list_all, list_any}
use Rattle.std.proofs.lemmas.Bool.{and_parts}
use Rattle.std.proofs.lemmas.Bool.Decides.{nat_tests}
use Rattle.toml_parser.specs.Lexical.{is_bare}
use Rattle.toml_writer.specs.Text.{key_text, string_text, encoding_of, basic, escaped, needs_escape, quotes_after, is_control}
use Rattle.plain_text.specs.Document.{is_plain_name}

pub bare_key : (name : List ℕ) → is_plain_name name ≡ true → key_text name ≡ name
unfolding key_text
bare_key name plain = rw plain refl

-- ---- no byte of such a name needs an escape

not_escaped : (quotes c : ℕ) → is_bare c ≡ true → needs_escape false quotes c ≡ false
unfolding needs_escape
not_escaped quotes c bare = grind (arith, nat_tests)

no_quote : (quotes c : ℕ) → is_bare c ≡ true → quotes_after false quotes c ≡ 0
unfolding quotes_after
no_quote quotes c bare = grind (arith, nat_tests)

escaped_bare : (quotes : ℕ) (name : List ℕ) → list_all is_bare name ≡ true → escaped false quotes name ≡ name
unfolding escaped
escaped_bare quotes [] bare = refl
escaped_bare quotes (c ∷ cs) bare =
    let (here, more) = and_parts (is_bare c) (list_all is_bare cs) bare in
    rw (not_escaped quotes c here) (ap (λ (l : List ℕ). c ∷ l) (escaped_bare (quotes_after false quotes c) cs more))

none_of : (p : ℕ → Bool) → ((c : ℕ) → is_bare c ≡ true → p c ≡ false) → (name : List ℕ) → list_all is_bare name ≡ true → list_any p name ≡ false
none_of p apart [] bare = refl
none_of p apart (c ∷ cs) bare =
    let (here, more) = and_parts (is_bare c) (list_all is_bare cs) bare in
    rw (apart c here) (none_of p apart cs more)

no_control : (c : ℕ) → is_bare c ≡ true → is_control c ≡ false
no_control c bare = grind (arith, nat_tests)

no_backslash : (c : ℕ) → is_bare c ≡ true → (c == 92) ≡ false
no_backslash c bare = grind (arith, nat_tests)

no_quotes : (c : ℕ) → is_bare c ≡ true → (c == 34) ≡ false
no_quotes c bare = grind (arith, nat_tests)

no_feed : (c : ℕ) → is_bare c ≡ true → (c == 10) ≡ false
no_feed c bare = grind (arith, nat_tests)

is_basic : (name : List ℕ) → list_all is_bare name ≡ true → encoding_of name ≡ basic
unfolding encoding_of
is_basic name bare =
    rw (none_of is_control no_control name bare, none_of (λ x. x == 92) no_backslash name bare, none_of (λ x. x == 34) no_quotes name bare, none_of (λ x. x == 10) no_feed name bare) refl

pub bare_string : (name : List ℕ) → is_plain_name name ≡ true → string_text name ≡ 34 ∷ name ++ 34 ∷ []
unfolding string_text
bare_string name plain =
    let bare = (and_parts (nat_lt 0 (length name)) (list_all is_bare name) plain).1 in
    rw (is_basic name bare) (ap (λ (l : List ℕ). 34 ∷ l ++ 34 ∷ []) (escaped_bare 0 name bare))
