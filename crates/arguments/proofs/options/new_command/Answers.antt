use Rattle.std.proofs.Common.{◌∙◌, ap, Bool}
use Rattle.clap.specs.Simple.{app_of_fields}
use Rattle.clap.specs.declared.builder.command.Command.{Command}
use Rattle.clap.specs.declared.builder.command.Command.TheOpen.{Command-F}
use Rattle.arguments.proofs.options.new_command.Goals as goal

abbrev globals : Command-F Command → Bool
globals fields = fields.has_globals

pub returns : goal.returns
returns c = (ap app_of_fields c.about.ensures ∙ c.new.ensures.app, ap globals c.about.ensures ∙ c.new.ensures.local)
