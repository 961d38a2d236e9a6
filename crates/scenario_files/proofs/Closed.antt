-- What a file holds that was made, written and closed among others.
use Rattle.std.proofs.Common.{◌≡◌, ℕ, List, [], Option, Some, None, IfSome, subst, sym}
use Rattle.std.specs.Io.KnownBytes.{Appends}
use Rattle.files.specs.Files.{KnownFile, HoldsNow, ClosesAs}
use Rattle.scenario_files.proofs.Held.{holds_text}
use Rattle.scenario_files.proofs.Pairs.{known_or}

-- A file that was made empty and then closed: from when it was made to its closing it is as it was, and from then on too, as other names are
-- no other names for it.
pub closed_holds : (before made closing closed after : KnownFile) (old new : Option (List ℕ)) (text : List ℕ) → HoldsNow before made []
    → IfSome before (λ _. old ≡ Some []) → IfSome before (λ _. closing ≡ made) → IfSome before (λ _. after ≡ closed)
    → ClosesAs closing closed new → Appends old new text → HoldsNow before after text
closed_holds before made closing closed after old new text empty fresh kept kept_too closes written =
    known_or before (λ _. after ≡ Some (Some text)) kept (λ first.
    known_or before (λ _. after ≡ Some (Some text)) kept_too (λ second.
    holds_text before made after old new text empty fresh written
    (subst (λ k. ClosesAs made k new) (sym second) (subst (λ k. ClosesAs k closed new) first closes))))

-- what follows of a file of which something is known
pub if_known : {P Q : Type 0} (known : KnownFile) → IfSome known (λ _. P) → (P → Q) → IfSome known (λ _. Q)
if_known None p then = tt
if_known (Some held) p then = then p

pub if_both : {P Q R : Type 0} (known : KnownFile) → IfSome known (λ _. P) → IfSome known (λ _. Q) → (P → Q → R) → IfSome known (λ _. R)
if_both None p q then = tt
if_both (Some held) p q then = then p q

pub always : {P : Type 0} (known : KnownFile) → P → IfSome known (λ _. P)
always None p = tt
always (Some held) p = p
