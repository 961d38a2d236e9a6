-- the files hold the texts, or one of them was not read
use Rattle.std.proofs.Common.{◌≡◌, ◌∙◌, ◌∷◌, ◌++◌, [], rules, subst}
use Rattle.scenario_files.proofs.Held.{handed_on}
use Rattle.join_command.proofs.Held.{memory_at, text_more, unread_at}
use Rattle.join_command.proofs.reading.load_texts.Goals as goal

pub loop-name-preserved : goal.loop-name-preserved
loop-name-preserved g c =
    let known = g.F.Files.known in
    let loop = c.loop-name in
    let pushed : c.push.new.self.items ≡ loop.texts.items ++ c.in_ok-bytes.bytes ∷ [] = search rules in
    record {
      so = text_more (known c.args.files.now) (known loop.files) loop.invariant.same c.args.names.now loop.name-index _ c.loop-name-test.true _ _ _ loop.invariant.so c.in_ok-bytes.ensures.read pushed;
      same = c.in_ok-bytes.ensures.same ∙ loop.invariant.same;
      making = c.in_ok-bytes.ensures.making ∙ loop.invariant.making;
      counted = c.in_ok-bytes.ensures.counted ∙ loop.invariant.counted;
    }

pub returns-in_err-bytes-clause-failed : goal.returns-in_err-bytes-clause-failed
returns-in_err-bytes-clause-failed g c =
    let known = g.F.Files.known in
    let loop = c.loop-name in
    handed_on _ _ _ c.from_residual.ensures.1
    (unread_at (known c.args.files.now) (known loop.files) loop.invariant.same c.args.names.now loop.name-index _ c.loop-name-test.true _ c.in_err-bytes.ensures.failed)

pub returns-then-is_err-clause-failed : goal.returns-then-is_err-clause-failed
returns-then-is_err-clause-failed g c = memory_at (g.F.Files.known c.args.files.now) c.args.names.now c.loop-name.name-index c.loop-name-test.true
