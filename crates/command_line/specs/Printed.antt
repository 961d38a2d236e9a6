-- What standard output gets.
use Rattle.std.specs.Prelude.{ℕ, Option, List, [], ◌∷◌, ◌++◌, codes}
use Rattle.std.specs.Fmt.{decimal}
use Rattle.std.specs.Io.KnownBytes.{Appends}
use Rattle.presets.specs.Texts.{settings_of, TellsSettings}
use Rattle.presets.specs.declared.preset.Preset.{Preset}
use Rattle.command_line.specs.declared.failure.Failure.{Failure}
use Rattle.command_line.specs.declared.failure.Failure.TheVariants.{Memory, Output}
use Rattle.command_line.specs.declared.release.Release.{Release}

-- how many rows the trace has
abbrev pub rows_line : ℕ → List ℕ
rows_line rows = codes "rows " ++ decimal rows ++ 10 ∷ []

-- how many members a scenario has
abbrev pub members_line : ℕ → List ℕ
members_line members = codes "members " ++ decimal members ++ 10 ∷ []

-- which release of the program this is: its version, the digest of its sources and the kit, each as it was handed in
abbrev pub release_line : Release → List ℕ
release_line release =
    codes "swimsim " ++ release.version.now ++ codes " (sources " ++ release.sources.now ++ codes ", " ++ release.kit.now ++ codes ")\n"

-- there is a text with the values of the preset
abbrev pub HasText : Preset → Type 0
HasText preset = (text : List ℕ) × TellsSettings (settings_of preset) text

-- such a text was printed
abbrev pub PrintsPreset : Preset → Option (List ℕ) → Option (List ℕ) → Type 0
PrintsPreset preset old new = (text : List ℕ) × TellsSettings (settings_of preset) text × Appends old new text

-- it was not: standard output took less than it was given; or memory was refused, and standard output is as it was
abbrev pub PresetFails : Preset → Type 0 → Failure → Type 0
PresetFails preset unchanged Output = HasText preset
PresetFails preset unchanged Memory = unchanged
PresetFails preset unchanged _ = ⊥
