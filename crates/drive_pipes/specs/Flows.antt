-- Bytes that come in, and bytes that go out.
use Rattle.std.specs.Prelude.{◌≡◌, ◌++◌, ℕ, List, Option, Some, IfSome}

-- What waited has grown by what came in meanwhile: of what came in before, as far as that is known, this is all now.
pub record FlowsTo (before after : Option (List ℕ)) (old new : List ℕ) : Type 0 where
  pub more : List ℕ
  pub grown : new ≡ old ++ more
  pub known : IfSome before (λ bytes. after ≡ Some (bytes ++ more))

-- Behind what had gone out and what waited to go out, these bytes were sent: of all that, what went out is the beginning, and what
-- waits now is the rest.
pub record HaveGone (sent : List ℕ) (after : Option (List ℕ)) (waits : List ℕ) : Type 0 where
  pub out : List ℕ
  pub known : after ≡ Some out
  pub whole : out ++ waits ≡ sent

-- These bytes are sent: they go out behind those before, as far as these are known, or wait.
abbrev pub AreSent : Option (List ℕ) → Option (List ℕ) → List ℕ → List ℕ → List ℕ → Type 0
AreSent before after old new sent = IfSome before (λ gone. HaveGone (gone ++ (old ++ sent)) after new)
