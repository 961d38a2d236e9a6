-- What is known of files before a command and after it, and what of one is said of runs and of sweeps alike.
use Rattle.std.specs.Prelude.{◌≡◌, ◌++◌, ℕ, List, Option, option_map}
use Rattle.std.specs.Borrow.{Bor}
use Rattle.clap.specs.Words.{Text}
use Rattle.files.specs.Files.{KnownFile, HoldsNow, IsAbsent}
use Rattle.command_line.specs.declared.failure.Failure.{Failure}
use Rattle.command_line.specs.declared.failure.Failure.TheVariants.{File, Memory}

-- what each name stands for, as far as it is known
abbrev pub Shelf : Type 0
Shelf = Text → KnownFile

-- the word that is given, if there is one
abbrev pub word_given : Option (Bor Text) → Option Text
word_given given = option_map (λ word. word.now) given

-- no file has changed, since a check failed before
pub record IsRefused (before after : Shelf) (Cause : Type 0) : Type 0 where
  pub cause : Cause
  pub same : after ≡ before

-- the file of this name was not read: it can't be, or memory was refused
abbrev pub IsUnread : KnownFile → Text → Failure → Type 0
IsUnread known file (File name) = (name.now ≡ file) × IsAbsent known
IsUnread known file Memory = Unit {0}
IsUnread known file _ = ⊥

-- the file holds a beginning of the text now
pub record HoldsBeginning (old new : KnownFile) (text : List ℕ) : Type 0 where
  pub front : List ℕ
  pub rest : List ℕ
  pub whole : front ++ rest ≡ text
  pub written : HoldsNow old new front
