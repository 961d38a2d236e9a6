use Rattle.std.proofs.Common.{◌≡◌, sym, ◌∙◌, arith}
use Rattle.script_reader.proofs.Written.{few_members, same_total}
use Rattle.script_reader.proofs.script.read_script.Goals as goal

pub returns-then-rule-clause-refused : goal.returns-then-rule-clause-refused
returns-then-rule-clause-refused c = record { written = c.in-Ok.written; reads = c.in-Ok.ensures; lowest = sym c.text_rule-rule.ensures }

pub entries_of-requires-clause-few : goal.entries_of-requires-clause-few
entries_of-requires-clause-few c =
    let fine : c.text_rule-rule.result ≡ 255 = omega (arith, c.if-rule.false) in
    few_members c.args.roster.now c.args.groups.now c.in-Ok.written (sym c.text_rule-rule.ensures ∙ fine)

pub entries_of-requires-clause-same : goal.entries_of-requires-clause-same
entries_of-requires-clause-same c = same_total c.args.roster.now c.args.groups.now c.requires.groups

pub returns-in-Ok-entries_of-clause-read : goal.returns-in-Ok-entries_of-clause-read
returns-in-Ok-entries_of-clause-read c =
    let fine : c.text_rule-rule.result ≡ 255 = omega (arith, c.if-rule.false) in
    record {
      written = c.in-Ok.written;
      reads = c.in-Ok.ensures;
      fine = sym c.text_rule-rule.ensures ∙ fine;
      says = c.in-Ok-entries_of.ensures.said;
      range = c.in-Ok-entries_of.ensures.sound;
    }
