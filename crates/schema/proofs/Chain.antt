-- Each link of the chain of rules: a rule is the least broken where those before it are kept.
use Rattle.std.proofs.Common.{◌≡◌, true, false, Some, None}
use Rattle.toml.specs.Data.{Data}
use Rattle.schema.specs.Shape.{breaks, least_broken_of_shape, KeepsShape}
use Rattle.schema.specs.declared.schema.Version.{Version}
use Rattle.schema.specs.declared.shape.Check.TheVariants.{Missing, Unknown, WrongKind, OutOfRange}

module _ (v : Version) (d : Data) where
  pub missing_least : breaks v Missing d ≡ true → least_broken_of_shape v d ≡ Some 2
  unfolding least_broken_of_shape
  missing_least broken = rw broken

  pub unknown_least : breaks v Missing d ≡ false → breaks v Unknown d ≡ true → least_broken_of_shape v d ≡ Some 3
  unfolding least_broken_of_shape
  unknown_least a broken = rw (a, broken)

  pub kind_least : breaks v Missing d ≡ false → breaks v Unknown d ≡ false → breaks v WrongKind d ≡ true → least_broken_of_shape v d ≡ Some 4
  unfolding least_broken_of_shape
  kind_least a b broken = rw (a, b, broken)

  pub range_least : breaks v Missing d ≡ false → breaks v Unknown d ≡ false → breaks v WrongKind d ≡ false → breaks v OutOfRange d ≡ true → least_broken_of_shape v d ≡ Some 5
  unfolding least_broken_of_shape
  range_least a b e broken = rw (a, b, e, broken)

  pub nothing_of_shape : KeepsShape v d → least_broken_of_shape v d ≡ None
  unfolding least_broken_of_shape
  nothing_of_shape k = rw (k.missing, k.unknown, k.kinds, k.ranges)
