-- What writers and files over memory hold.
use Rattle.std.specs.Prelude.{◌≡◌, ℕ, List, Bool, true, false, not, Option, Some, bytes_eq, find, is_some, option_map, string_bytes, sum}
use Rattle.std.specs.Option.{option_and_then, option_map_or}
use Rattle.std.specs.Borrow.{Bor}
use Rattle.files.specs.Files.{KnownFile, Making}
use Rattle.files.specs.declared.testing.Failing.{Failing}
use Rattle.files.specs.declared.testing.Kept.{Kept}
use Rattle.files.specs.declared.testing.MemoryFiles.{MemoryFiles}
use Rattle.files.specs.declared.testing.MemoryWriter.{MemoryWriter}

-- what was written
abbrev pub written_by : MemoryWriter → List ℕ
written_by writer = writer.bytes.items

-- where the writer fails
abbrev pub writer_fails : MemoryWriter → Failing
writer_fails writer = writer.fails

abbrev pub has_name : List ℕ → Kept → Bool
has_name name file = bytes_eq (string_bytes file.name) name

-- what a place holds: the bytes of its file, if there is one yet
abbrev pub bytes_of : Kept → Option (List ℕ)
bytes_of file = option_map (λ bytes. bytes.items) file.bytes

-- the bytes of the first of these files that has the name
abbrev pub bytes_under : List Kept → List ℕ → Option (List ℕ)
bytes_under kept name = option_and_then bytes_of (find (has_name name) kept)

-- the bytes of the file of a name, if there is one
abbrev pub kept_bytes : MemoryFiles → List ℕ → Option (List ℕ)
kept_bytes files = bytes_under files.kept.items

-- all is known
abbrev pub known_of : MemoryFiles → List ℕ → KnownFile
known_of files name = Some (kept_bytes files name)

-- whether there is a place for a file of the name
abbrev pub has_place : MemoryFiles → List ℕ → Bool
has_place files name = is_some (find (has_name name) files.kept.items)

-- no place is lost
abbrev pub KeepsPlaces : MemoryFiles → MemoryFiles → Type 0
KeepsPlaces old new = (name : List ℕ) → has_place old name ≡ true → has_place new name ≡ true

-- whether a file of the name can be made
abbrev pub can_make : MemoryFiles → List ℕ → Bool
can_make files name = not (option_map_or (λ locked. bytes_eq locked.now name) files.locked false)

-- each name stands for a file of its own
abbrev pub making_of : MemoryFiles → Making
making_of files = record { can_make = can_make files; are_one = bytes_eq }

-- where files that are made fail
abbrev pub made_fail : MemoryFiles → Failing
made_fail files = files.fails

-- how many writes of closed files were refused
abbrev pub memory_refused : MemoryFiles → ℕ
memory_refused files = sum files.refusals

-- the same files with one setting changed
abbrev pub with_locked : MemoryFiles → Option (Bor (List ℕ)) → MemoryFiles
with_locked files locked = record files { locked = locked }

abbrev pub with_fails : MemoryFiles → Failing → MemoryFiles
with_fails files fails = record files { fails = fails }
