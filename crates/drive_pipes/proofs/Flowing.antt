-- Bytes that come in, one part after another.
use Rattle.std.proofs.Common.{◌≡◌, ℕ, List, [], ◌++◌, Option, Some, None, ap, ◌∙◌, sym, subst, append-nil, append_assoc}
use Rattle.std.specs.Prelude.{IfSome}
use Rattle.drive_pipes.specs.Flows.{FlowsTo, AreSent}

known_still : (before after : Option (List ℕ)) → after ≡ before → IfSome before (λ bytes. after ≡ Some (bytes ++ []))
known_still None after same = tt
known_still (Some bytes) after same = same ∙ ap Some (sym (append-nil bytes))

-- nothing came
pub stays : (before after : Option (List ℕ)) (old new : List ℕ) → after ≡ before → new ≡ old → FlowsTo before after old new
stays before after old new same kept = record { more = []; grown = kept ∙ sym (append-nil old); known = known_still before after same }

known_on : (first then last : Option (List ℕ)) (some more : List ℕ) → IfSome first (λ bytes. then ≡ Some (bytes ++ some)) → IfSome then (λ bytes. last ≡ Some (bytes ++ more))
    → IfSome first (λ bytes. last ≡ Some (bytes ++ (some ++ more)))
known_on None then last some more a b = tt
known_on (Some bytes) then last some more a b = subst (λ o. IfSome o (λ ys. last ≡ Some (ys ++ more))) a b ∙ ap Some (append_assoc bytes some more)

-- one part after another
pub flows_on : (first then last : Option (List ℕ)) (old between new : List ℕ) → FlowsTo first then old between → FlowsTo then last between new → FlowsTo first last old new
flows_on first then last old between new a b = record {
  more = a.more ++ b.more;
  grown = b.grown ∙ ap (λ xs. xs ++ b.more) a.grown ∙ append_assoc old a.more b.more;
  known = known_on first then last a.more b.more a.known b.known;
}

-- ---- what goes out

-- what is sent waits behind what waited
pub waits_behind : (before after : Option (List ℕ)) (old new sent : List ℕ) → after ≡ before → new ≡ old ++ sent → AreSent before after old new sent
waits_behind None after old new sent same grown = tt
waits_behind (Some gone) after old new sent same grown = record { out = gone; known = same; whole = ap (λ xs. gone ++ xs) grown }

-- nothing is sent
pub still_waits : (before after : Option (List ℕ)) (old new : List ℕ) → after ≡ before → new ≡ old → AreSent before after old new []
still_waits before after old new same kept = waits_behind before after old new [] same (kept ∙ sym (append-nil old))

-- what waited goes out
pub goes_out : (before after : Option (List ℕ)) (old new : List ℕ) → IfSome before (λ gone. after ≡ Some (gone ++ old)) → new ≡ [] → AreSent before after old new []
goes_out None after old new written none = tt
goes_out (Some gone) after old new written none = record { out = gone ++ old; known = written; whole = ap (λ xs. (gone ++ old) ++ xs) none ∙ append_assoc gone old [] }

-- one part after another
pub sent_on : (first then last : Option (List ℕ)) (old between new some more : List ℕ) → AreSent first then old between some → AreSent then last between new more
    → AreSent first last old new (some ++ more)
sent_on None then last old between new some more a b = tt
sent_on (Some gone) then last old between new some more a b =
    let then_gone = subst (λ o. AreSent o last between new more) a.known b in record {
      out = then_gone.out;
      known = then_gone.known;
      whole = then_gone.whole ∙ sym (append_assoc a.out between more) ∙ ap (λ xs. xs ++ more) a.whole ∙ append_assoc gone (old ++ some) more ∙ ap (λ xs. gone ++ xs) (append_assoc old some more);
    }
