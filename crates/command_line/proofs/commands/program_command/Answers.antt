use Rattle.command_line.specs.Words.{swimsim_app}
use Rattle.command_line.proofs.commands.program_command.Goals as goal

pub returns : goal.returns
unfolding swimsim_app
returns c =
    let ran = c.and_command-ran.ensures _ _ c.bare_command.ensures c.run_command.ensures in
    let checked = c.and_command-checked.ensures _ _ ran c.check_command.ensures in
    let explained = c.and_command-explained.ensures _ _ checked c.explain_command.ensures in
    let expanded = c.and_command-expanded.ensures _ _ explained c.expand_command.ensures in
    let swept = c.and_command-swept.ensures _ _ expanded c.sweep_command.ensures in
    let begun = c.and_command-begun.ensures _ _ swept c.init_command.ensures in
    let joined = c.and_command-joined.ensures _ _ begun c.join_command.ensures in
    let paged = c.and_command-paged.ensures _ _ joined c.page_command.ensures in
    c.and_command.ensures _ _ paged c.drive_command.ensures
