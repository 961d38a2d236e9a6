-- What two files hold that were made at once, of which the one was closed before the other.
use Rattle.std.proofs.Common.{◌≡◌, ◌≢◌, ◌∙◌, ℕ, List, [], Option, Some, None, IfSome, ap, sym, subst, refl}
use Rattle.std.specs.Io.KnownBytes.{Appends}
use Rattle.clap.specs.Words.{Text}
use Rattle.files.specs.Files.{KnownFile, HoldsNow, ClosesAs, KeepsOthers, KeepsAllOthers}
use Rattle.trace.specs.Sinks.{AppendsBeginning}
use Rattle.scenario_files.specs.Shelves.{Shelf, HoldsBeginning}
use Rattle.scenario_files.proofs.Held.{holds_text}

-- what holds of a file of which something is known
pub known_or : {P : Type 0} (known : KnownFile) (X : Option (List ℕ) → Type 0) → IfSome known (λ _. P) → (P → IfSome known X) → IfSome known X
known_or None X p then = tt
known_or (Some held) X p then = then p

-- names of which different things are known are different, of whichever it is said
pub apart_too : (start : Shelf) (first second : Text) → IfSome (start first) (λ _. second ≢ first) → IfSome (start second) (λ _. second ≢ first)
apart_too start first second apart = go (start second) refl
  where
    go : (known : KnownFile) → start second ≡ known → IfSome known (λ _. second ≢ first)
    go None is = tt
    go (Some held) is = λ same. subst (λ k. IfSome k (λ _. second ≢ first)) (ap start (sym same) ∙ is) apart same

-- between the start and the end both were made, the first was closed, and then the second
module _ (first second : Text) (start made between end : Shelf) (apart : IfSome (start first) (λ _. second ≢ first))
    (both_made : KeepsAllOthers start made first second) (first_closed : KeepsOthers made between first) (second_closed : KeepsOthers between end second) where
  -- what the closing of each leaves in it
  first_closes : (new : Option (List ℕ)) → second ≢ first → ClosesAs (made first) (between first) new → ClosesAs (made first) (end first) new
  first_closes new differs closed = subst (λ k. ClosesAs (made first) k new) (sym (second_closed first (λ e. differs (sym e)))) closed

  second_closes : (new : Option (List ℕ)) → second ≢ first → ClosesAs (between second) (end second) new → ClosesAs (made second) (end second) new
  second_closes new differs closed = subst (λ k. ClosesAs k (end second) new) (first_closed second differs) closed

  -- no other file has changed
  pub others_kept : KeepsAllOthers start end first second
  others_kept other differs far = second_closed other far ∙ (first_closed other differs ∙ both_made other differs far)

  -- the first holds what was written to it
  module _ (old new : Option (List ℕ)) (empty : HoldsNow (start first) (made first) []) (fresh : IfSome (start first) (λ _. old ≡ Some []))
      (closed : ClosesAs (made first) (between first) new) where
    pub first_holds : (text : List ℕ) → Appends old new text → HoldsNow (start first) (end first) text
    first_holds text written =
        known_or (start first) (λ _. end first ≡ Some (Some text)) apart
        (λ differs. holds_text (start first) (made first) (end first) old new text empty fresh written (first_closes new differs closed))

    pub first_begins : (text : List ℕ) → AppendsBeginning old new text → HoldsBeginning (start first) (end first) text
    first_begins text begins = record { front = begins.front; rest = begins.rest; whole = begins.whole; written = first_holds begins.front begins.appends }

  -- and so does the second
  module _ (old new : Option (List ℕ)) (empty : HoldsNow (start second) (made second) []) (fresh : IfSome (start second) (λ _. old ≡ Some []))
      (closed : ClosesAs (between second) (end second) new) where
    pub second_holds : (text : List ℕ) → Appends old new text → HoldsNow (start second) (end second) text
    second_holds text written =
        known_or (start second) (λ _. end second ≡ Some (Some text)) (apart_too start first second apart)
        (λ differs. holds_text (start second) (made second) (end second) old new text empty fresh written (second_closes new differs closed))

    pub second_begins : (text : List ℕ) → AppendsBeginning old new text → HoldsBeginning (start second) (end second) text
    second_begins text begins = record { front = begins.front; rest = begins.rest; whole = begins.whole; written = second_holds begins.front begins.appends }
