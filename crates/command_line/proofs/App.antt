-- The program's command is one whose matches `clap` specifies exactly.
use Rattle.std.proofs.Common.{◌≡◌, true, refl}
use Rattle.clap.specs.Words.{is_simple, is_simple_and_free}
use Rattle.clap.proofs.OnLiterals.{clap_on_literals}
use Rattle.command_line.specs.Words.{swimsim_app}

pub app_is_simple : is_simple swimsim_app ≡ true
unfolding clap_on_literals swimsim_app
app_is_simple = refl

pub app_is_free : is_simple_and_free swimsim_app ≡ true
unfolding clap_on_literals swimsim_app
app_is_free = refl
