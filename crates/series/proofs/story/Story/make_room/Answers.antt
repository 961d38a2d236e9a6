use Rattle.std.proofs.Common.{◌∙◌}
use Rattle.series.specs.Stories.{claims_of}
use Rattle.series.proofs.story.Story.make_room.Goals as goal

pub returns-in_err-make_room-in-Alive-clause-same : goal.returns-in_err-make_room-in-Alive-clause-same
returns-in_err-make_room-in-Alive-clause-same c s subject rows is =
    record {
      claims = is.claims;
      refuted = is.refuted;
      revived = λ k low. c.make_room.ensures.same 0 k ∙ is.revived k low;
      first_confirm = is.first_confirm;
      last_refute = is.last_refute;
      spread = is.spread;
      fails = is.fails;
    }

pub returns-in_ok-make_room-in-Alive-clause-same : goal.returns-in_ok-make_room-in-Alive-clause-same
returns-in_ok-make_room-in-Alive-clause-same c s subject rows is =
    record {
      claims = c.make_room-in-Alive.ensures.same 3 (claims_of s subject rows) is.claims;
      refuted = is.refuted;
      revived = λ k low. c.make_room.ensures.same 0 k ∙ is.revived k low;
      first_confirm = is.first_confirm;
      last_refute = is.last_refute;
      spread = is.spread;
      fails = is.fails;
    }

pub returns-in-Refute-clause-same : goal.returns-in-Refute-clause-same
returns-in-Refute-clause-same c s subject rows is =
    record {
      claims = is.claims;
      refuted = λ k low. c.make_room-in-Refute.ensures.same 0 k ∙ is.refuted k low;
      revived = is.revived;
      first_confirm = is.first_confirm;
      last_refute = is.last_refute;
      spread = is.spread;
      fails = is.fails;
    }
