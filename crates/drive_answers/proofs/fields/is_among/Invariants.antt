use Rattle.std.proofs.Common.{◌≡◌, drop, map}
use Rattle.std.specs.List.{list_any}
use Rattle.std.specs.Str.{bytes_eq}
use Rattle.drive_answers.proofs.fields.is_among.Given as goal

-- all is said of the names that are left
abbrev pub invariant-loop-other : goal.invariant-loop-other
invariant-loop-other l = list_any (bytes_eq l.name) (map (λ n. n.now) (drop l.other-index l.names)) ≡ list_any (bytes_eq l.name) (map (λ n. n.now) l.names)
