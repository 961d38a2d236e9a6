use Rattle.std.proofs.Common.{refl, arith}
use Rattle.std.proofs.lemmas.Bool.{false≢true}
use Rattle.incidents.specs.Kept.{count_of}
use Rattle.incidents.proofs.Wholes.{none_missed}
use Rattle.incidents.proofs.wholeness.Wholeness.new.Goals as goal

pub returns : goal.returns
returns c = record {
  views = record {
    odd = c.in_ok-odd.ensures.none;
    missed = none_missed c.args.cluster.now.founders.items (count_of c.args.cluster.now);
    members = omega (arith, c.in_ok-odd.ensures.room);
  };
  since = refl;
  begins = λ _. record {
    up = λ m is. absurd (false≢true is);
    again = λ m. refl;
    said = λ first i j. refl;
  };
}
