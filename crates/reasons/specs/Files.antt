-- What users read of a file that can't be read or made.
use Rattle.std.specs.Prelude.{ℕ, List, ◌++◌, bytes_eq, codes, if◌then◌else◌}
use Rattle.shown_names.specs.Shown.{shown_name}
use Rattle.reasons.specs.declared.files.FileReason.{FileReason}
use Rattle.reasons.specs.declared.files.FileReason.TheVariants.{Missing, NoFolder, Folder, Denied, ReadOnly, Full, Twice, Stream, TooLong, Circle, Unmade, Irregular, Refused}
use Rattle.reasons.specs.declared.files.NamedFile.{NamedFile}

-- a name and what is said of its file
abbrev pub of_file : List ℕ → List ℕ → List ℕ
of_file name what = shown_name name ++ what

-- the option of a word, and the word
abbrev pub named_text : NamedFile → List ℕ
named_text named = named.option.now ++ codes " " ++ shown_name named.name.now

-- two words that are names of one file
abbrev pub of_two : NamedFile → NamedFile → List ℕ
of_two first second = codes "one file is named twice: " ++ named_text first ++ codes " and " ++ named_text second

-- no file has the name; other programs mean standard input by `-`
abbrev pub missing_text : List ℕ → List ℕ
missing_text name =
    if bytes_eq name (codes "-") then codes ": there is no such file; /dev/stdin is standard input" else codes ": there is no such file"

-- what is wrong with the file
abbrev pub file_reason_text : FileReason → List ℕ
file_reason_text (Missing name) = of_file name.now (missing_text name.now)
file_reason_text (NoFolder name) = of_file name.now (codes ": its directory isn't there")
file_reason_text (Folder name) = of_file name.now (codes " is a directory")
file_reason_text (Denied name) = of_file name.now (codes ": permission denied")
file_reason_text (ReadOnly name) = of_file name.now (codes ": the file system is read-only")
file_reason_text (Full name) = of_file name.now (codes ": the disk is full")
file_reason_text (Twice first second) = of_two first second
file_reason_text (Stream name) = of_file name.now (codes ": standard output or standard error goes there")
file_reason_text (TooLong name) = of_file name.now (codes ": the name is too long")
file_reason_text (Circle name) = of_file name.now (codes ": its symbolic links lead in a circle")
file_reason_text (Unmade name) = of_file name.now (codes ": it can't be made there; check the permissions of its directory")
file_reason_text (Irregular name) = of_file name.now (codes ": it isn't a regular file, and can't be used here")
file_reason_text (Refused name) = of_file name.now (codes ": the system refused it")
