use Rattle.std.proofs.Common.{◌≡◌, ◌∙◌, ◌++◌, OnOk, ap, lit<, rules, string_bytes}
use Rattle.std.proofs.lemmas.Str.Pattern.{strip_suffix_char}
use Rattle.goals.proofs.Feeds.{cells_are, each_cells, has_feed, on_ok_of}
use Rattle.goals.proofs.marks.push_cells.Goals as goal

pub returns-in-Some : goal.returns-in-Some
returns-in-Some c =
    let line = c.args.line.now in
    let pushed : OnOk c.push_str.result (string_bytes c.push_str.new.self ≡ string_bytes c.args.text.now ++ c.in-Some.cells.now) = search rules in
    each_cells c.push_str.result _ _ pushed
    (λ is cells whole. is ∙ ap (λ l. string_bytes c.args.text.now ++ l) (cells_are line cells c.strip_suffix.result c.in-Some.cells c.in-Some.is (strip_suffix_char 10 line c.strip_suffix.result c.strip_suffix.ensures.cases (lit< tt)) whole))

pub returns-in-None : goal.returns-in-None
returns-in-None c =
    let line = c.args.line.now in
    on_ok_of c.push_str-in-None.result (λ cells whole. has_feed line cells c.strip_suffix.result c.in-None.is (strip_suffix_char 10 line c.strip_suffix.result c.strip_suffix.ensures.cases (lit< tt)) whole)
