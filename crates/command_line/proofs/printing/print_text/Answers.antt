-- the text is appended whole
use Rattle.std.proofs.Common.{rules}
use Rattle.command_line.proofs.printing.print_text.Goals as goal

pub returns-clause-printed : goal.returns-clause-printed
returns-clause-printed g c = search rules fits 100
