-- What is given version 2 of the format in place of its own.
use Rattle.std.specs.Prelude.{pos}
use Rattle.toml.specs.Data.{Data, integer}
use Rattle.schema.specs.declared.schema.Version.TheVariants.{Two}
use Rattle.schema.specs.declared.schema.FormatKey.TheVariants as key
use Rattle.scenario.specs.Setup.{Setup}
use Rattle.sweep_plan.specs.Document.{with_entry}

-- the scenario, by version 2
abbrev pub in_version_2 : Setup → Setup
in_version_2 s = record s { version = Two }

-- the document with `version = 2`
abbrev pub given_version_2 : Data → Data
given_version_2 tree = with_entry key.Version (integer (pos 2)) tree
