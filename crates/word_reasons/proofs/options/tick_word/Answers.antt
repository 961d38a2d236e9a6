use Rattle.std.proofs.Common.{rules, ◌≡◌, false, is_some, codes, Some}
use Rattle.clap.specs.Words.{first_of, found_of, rows_of}
use Rattle.word_reasons.proofs.options.tick_word.Goals as goal

pub returns : goal.returns
returns c =
    let given : first_of (codes "tick") (rows_of (found_of c.args.matches.now)) ≡ Some c.in_ok-word.word.now = search rules in
    let none : is_some c.tick_of.result ≡ false = cc in
    (given, c.tick_of.ensures.none none)
