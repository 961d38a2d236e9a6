-- What is said of the system's files.
use Rattle.std.specs.Prelude.{ℕ, false, sum}
use Rattle.std.specs.Borrow.{Bor}
use Rattle.files.specs.Files.{Making}
use Rattle.files.specs.declared.system.SystemFiles.{SystemFiles}

-- the runtime that reaches them
abbrev pub runtime_of : {R : Type 0} → SystemFiles R → Bor R
runtime_of files = files.runtime

-- how many writes of closed files were refused
abbrev pub system_refused : {R : Type 0} → SystemFiles R → ℕ
system_refused files = sum files.refusals

-- nothing is known of what the system makes
abbrev pub unknown : Making
unknown = record { can_make = λ _. false; are_one = λ _ _. false }
