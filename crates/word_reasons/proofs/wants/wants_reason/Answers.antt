-- what is wrong with the word is wrong with one of those that were given
use Rattle.std.proofs.Common.{◌∙◌, Bor, ap, map}
use Rattle.clap.specs.Words.{Text, found_of, rows_of}
use Rattle.word_reasons.proofs.Wanted.{wanted}
use Rattle.word_reasons.proofs.wants.wants_reason.Goals as goal

pub returns-in-Some : goal.returns-in-Some
returns-in-Some c =
    wanted (rows_of (found_of c.args.matches.now)) c.deref.result.now c.in-Some.word
    (ap (map (λ (w : Bor Text). w.now)) c.deref.ensures.value ∙ c.in_ok-words.ensures)
    c.in-Some.ensures.0 c.in-Some.ensures.1 c.want_reason.result c.want_reason.ensures
