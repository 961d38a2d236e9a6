-- Values beside their plain ones, and the lines of keys in a row.
use Rattle.std.proofs.Common.{◌≡◌, ◌<◌, ◌≤◌, ℕ, ◌+◌, ◌*◌, List, [], ◌∷◌, ◌++◌, map, take, length, get_or, Option, Some, None, Ok, Err, pos, negsuc, refl, ap, sym, subst, ◌∙◌, inl, inr, arith}
use Rattle.std.proofs.lemmas.List.{map_more}
use Rattle.lengths.proofs.Parts.{same_share}
use Rattle.toml.specs.Data.{Data, array, boolean, datetime, float, integer, string, table}
use Rattle.toml.specs.Tables.{Expression, key_value}
use Rattle.written_values.specs.Values.{AreTicksIn, CountsTicks, IsShareIn, MayBeShare, SaysShareIn, SaysTicksIn}
use Rattle.written_values.specs.declared.fault.ValueFault.{ValueFault}
use Rattle.written_values.specs.declared.fault.ValueFault.TheVariants.{WrongKind, OutOfRange}
use Rattle.written_values.proofs.Unique.{same_ticks}
use Rattle.plain_document.specs.Pairs.{AddsPair, AddsPairs, AddsValue}
use Rattle.plain_document.specs.Values.{IsNumber, IsOther, IsPlainOf}
use Rattle.plain_document.specs.declared.keys.KeyKind.{KeyKind}
use Rattle.plain_document.specs.declared.keys.Way.{Way}
use Rattle.plain_document.specs.declared.keys.KeyKind.TheVariants.{Ticks, Share, Plain, Gone}

-- ---- numbers

counts : (tick : ℕ) (d : Data) (number : ℕ) → AreTicksIn tick d number → CountsTicks d
counts tick (integer z) number is = tt
counts tick (string word) number is = (number * (tick * 1000000), is)
counts tick (float x) number is = absurd is
counts tick (boolean b) number is = absurd is
counts tick (datetime dt) number is = absurd is
counts tick (array ds) number is = absurd is
counts tick (table ms) number is = absurd is

shares : (d : Data) (parts : ℕ) → IsShareIn d parts → MayBeShare d
shares (integer z) parts is = tt
shares (string word) parts is = (parts, is)
shares (float x) parts is = absurd is
shares (boolean b) parts is = absurd is
shares (datetime dt) parts is = absurd is
shares (array ds) parts is = absurd is
shares (table ms) parts is = absurd is

pub made_ticks : (tick : ℕ) (d : Data) (number : ℕ) → SaysTicksIn tick 0 9223372036854775807 d (Ok number) → IsPlainOf tick Ticks d (integer (pos number))
made_ticks tick d number says = (number, says.0, says.1.1, refl)

pub none_ticks : (tick : ℕ) (d : Data) (fault : ValueFault) → SaysTicksIn tick 0 9223372036854775807 d (Err fault) → (plain : Data) → ¬ (IsPlainOf tick Ticks d plain)
none_ticks tick d WrongKind says plain is = says (counts tick d is.0 is.1)
none_ticks tick d OutOfRange says plain is = says.1 is.0 is.1 (omega arith) is.2

pub made_share : (tick : ℕ) (d : Data) (number : ℕ) → SaysShareIn d (Ok number) → IsPlainOf tick Share d (integer (pos number))
made_share tick d number says = (number, says.0, says.1.1, refl)

pub none_share : (tick : ℕ) (d : Data) (fault : ValueFault) → SaysShareIn d (Err fault) → (plain : Data) → ¬ (IsPlainOf tick Share d plain)
none_share tick d WrongKind says plain is = says (shares d is.0 is.1)
none_share tick d OutOfRange says plain is = says.1 is.0 is.1 (omega arith) is.2

-- ---- a plain value stands for itself

numbered_stays : (number most other : ℕ) (plain again : Data) → plain ≡ integer (pos number)
    → IsNumber (AreTicksIn other plain) most again → again ≡ plain
numbered_stays number most other plain again is more =
    let same : AreTicksIn other (integer (pos number)) more.0 = subst (λ (d : Data). AreTicksIn other d more.0) is more.1 in
    more.3 ∙ ap (λ n. integer (pos n)) (sym same) ∙ sym is

shared_stays : (number most : ℕ) (plain again : Data) → plain ≡ integer (pos number) → IsNumber (IsShareIn plain) most again → again ≡ plain
shared_stays number most plain again is more =
    let same : IsShareIn (integer (pos number)) more.0 = subst (λ (d : Data). IsShareIn d more.0) is more.1 in
    more.3 ∙ ap (λ n. integer (pos n)) (sym same) ∙ sym is

other_stays : (d plain again : Data) → IsOther d plain → IsOther plain again → again ≡ plain
other_stays (integer (pos number)) plain again is more = subst (λ (p : Data). IsOther p again) is more ∙ sym is
other_stays (integer (negsuc number)) plain again is more = absurd is
other_stays (boolean on) plain again is more = subst (λ (p : Data). IsOther p again) is more ∙ sym is
other_stays (string name) plain again is more = subst (λ (p : Data). IsOther p again) is more ∙ sym is
other_stays (float x) plain again is more = absurd is
other_stays (datetime dt) plain again is more = absurd is
other_stays (array ds) plain again is more = absurd is
other_stays (table ms) plain again is more = absurd is

pub plain_stays : (tick other : ℕ) (kind : KeyKind) (d plain again : Data) → IsPlainOf tick kind d plain → IsPlainOf other kind plain again → again ≡ plain
plain_stays tick other Ticks d plain again is more = numbered_stays is.0 9223372036854775807 other plain again is.3 more
plain_stays tick other Share d plain again is more = shared_stays is.0 1000000 plain again is.3 more
plain_stays tick other Plain d plain again is more = other_stays d plain again is more
plain_stays tick other Gone d plain again is more = absurd is

-- ---- a value has one plain value

one_count : (tick : ℕ) (d : Data) (a b : ℕ) → 1 ≤ tick → AreTicksIn tick d a → AreTicksIn tick d b → a ≡ b
one_count tick (integer (pos number)) a b some first second = sym first ∙ second
one_count tick (integer (negsuc number)) a b some first second = absurd first
one_count tick (string word) a b some first second = same_ticks tick word a b some first second
one_count tick (float x) a b some first second = absurd first
one_count tick (boolean on) a b some first second = absurd first
one_count tick (datetime dt) a b some first second = absurd first
one_count tick (array ds) a b some first second = absurd first
one_count tick (table ms) a b some first second = absurd first

one_share : (d : Data) (a b : ℕ) → IsShareIn d a → IsShareIn d b → a ≡ b
one_share (integer (pos number)) a b first second = sym first ∙ second
one_share (integer (negsuc number)) a b first second = absurd first
one_share (string word) a b first second = same_share word a b first second
one_share (float x) a b first second = absurd first
one_share (boolean on) a b first second = absurd first
one_share (datetime dt) a b first second = absurd first
one_share (array ds) a b first second = absurd first
one_share (table ms) a b first second = absurd first

one_other : (d one other : Data) → IsOther d one → IsOther d other → one ≡ other
one_other (integer (pos number)) one other first second = first ∙ sym second
one_other (integer (negsuc number)) one other first second = absurd first
one_other (boolean on) one other first second = first ∙ sym second
one_other (string name) one other first second = first ∙ sym second
one_other (float x) one other first second = absurd first
one_other (datetime dt) one other first second = absurd first
one_other (array ds) one other first second = absurd first
one_other (table ms) one other first second = absurd first

pub plain_is_one : (tick : ℕ) (kind : KeyKind) (d one other : Data) → 1 ≤ tick → IsPlainOf tick kind d one → IsPlainOf tick kind d other → one ≡ other
plain_is_one tick Ticks d one other some first second =
    first.3 ∙ ap (λ n. integer (pos n)) (one_count tick d first.0 second.0 some first.1 second.1) ∙ sym second.3
plain_is_one tick Share d one other some first second = first.3 ∙ ap (λ n. integer (pos n)) (one_share d first.0 second.0 first.1 second.1) ∙ sym second.3
plain_is_one tick Plain d one other some first second = one_other d one other first second
plain_is_one tick Gone d one other some first second = absurd first

-- ---- lines

-- a key that isn't there adds nothing
pub none_there : (tick : ℕ) (kind : KeyKind) (key : List ℕ) (d : Option Data) (lines : List Expression) → d ≡ None → AddsValue tick kind key d lines lines
none_there tick kind key d lines is = subst (λ (d : Option Data). AddsValue tick kind key d lines lines) (sym is) refl

-- a value that has no plain one adds nothing
pub none_plain : (tick : ℕ) (kind : KeyKind) (key : List ℕ) (d : Option Data) (value : Data) (lines : List Expression) → d ≡ Some value
    → ((plain : Data) → ¬ (IsPlainOf tick kind value plain)) → AddsValue tick kind key d lines lines
none_plain tick kind key d value lines is none = subst (λ (d : Option Data). AddsValue tick kind key d lines lines) (sym is) (inr (none, refl))

-- a value that has one adds its line
pub one_plain : (tick : ℕ) (kind : KeyKind) (key : List ℕ) (d : Option Data) (value plain : Data) (before after : List Expression) → d ≡ Some value
    → IsPlainOf tick kind value plain → after ≡ before ++ (([], key), key_value plain) ∷ [] → AddsValue tick kind key d before after
one_plain tick kind key d value plain before after is made adds =
    subst (λ (d : Option Data). AddsValue tick kind key d before after) (sym is) (inl (plain, made, adds))

-- the line of one more key
pub one_more : (tick : ℕ) (section : List ℕ) (way : Way) (d : Data) (keys : List (List ℕ)) (key : List ℕ) (before between after : List Expression)
    → AddsPairs tick section way d keys before between → AddsPair tick section way d key between after → AddsPairs tick section way d (keys ++ key ∷ []) before after
one_more tick section way d [] key before between after so_far next =
    (after, subst (λ (es : List Expression). AddsPair tick section way d key es after) so_far next, refl)
one_more tick section way d (k ∷ keys) key before between after so_far next =
    (so_far.0, so_far.1, one_more tick section way d keys key so_far.0 between after so_far.2 next)

-- the same over the keys up to a place
module _ {X : Type 0} (word : X → List ℕ) where
  pub next_key : (tick : ℕ) (section : List ℕ) (way : Way) (d : Data) (keys : List X) (place : ℕ) (it : X) (key : List ℕ) (before between after : List Expression)
      → place < length keys → it ≡ get_or keys place it → key ≡ word it → AddsPairs tick section way d (map word (take place keys)) before between
      → AddsPair tick section way d key between after → AddsPairs tick section way d (map word (take (place + 1) keys)) before after
  next_key tick section way d keys place it key before between after within is named so_far next =
      let same : map word (take (place + 1) keys) ≡ map word (take place keys) ++ key ∷ [] =
      map_more word keys place it within ∙ ap (λ (k : List ℕ). map word (take place keys) ++ k ∷ []) (sym (named ∙ ap word is)) in
      subst (λ (ks : List (List ℕ)). AddsPairs tick section way d ks before after) (sym same)
      (one_more tick section way d (map word (take place keys)) key before between after so_far next)
