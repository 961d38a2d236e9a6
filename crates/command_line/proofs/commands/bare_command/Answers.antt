use Rattle.std.proofs.Common.{◌≡◌, ◌∙◌, ap, codes, true}
use Rattle.clap.specs.Words.{App, app_of, new_app}
use Rattle.clap.specs.Simple.{app_of_fields}
use Rattle.command_line.proofs.commands.bare_command.Goals as goal

-- the settings of the program's command
abbrev versioned : App → App
versioned a = record a { top = record a.top { has_version = true } }

abbrev nameless : App → App
nameless a = record a { top = record a.top { no_binary_name = true } }

abbrev commanded : App → App
commanded a = record a { top = record a.top { subcommand_required = true } }

pub returns : goal.returns
returns c =
    let named_is : app_of c.about.result ≡ new_app (codes "swimsim")
    = ap app_of_fields c.about.ensures ∙ (ap app_of_fields c.in_ok-named.ensures.0 ∙ c.new.ensures.app) in
    let versioned_is : app_of c.version-told.result ≡ versioned (new_app (codes "swimsim"))
    = ap app_of_fields c.version-told.ensures ∙ ap versioned named_is in
    ap app_of_fields c.subcommand_required.ensures ∙ ap commanded (ap app_of_fields c.no_binary_name.ensures ∙ ap nameless versioned_is)
