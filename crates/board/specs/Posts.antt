-- What is known of a post.
use Rattle.std.specs.Prelude.{◌≡◌, List, []}
use Rattle.board.specs.declared.post.Post.{Post}
use Rattle.board.specs.declared.rule.Hand.{Hand}
use Rattle.board.specs.declared.site.Site.{Ghosts}
use Rattle.board.specs.Deal.{hand}
use Rattle.board.specs.Seats.{dealt, record_of, taken}

module _ {T V S J : Type 0} {G : Ghosts J} where
  -- what the seat of a post knows, what was dealt from it and what it has taken
  abbrev pub record_at : Post T V S J G → Hand V
  record_at post = record_of post.seat

  abbrev pub dealt_at : Post T V S J G → List V
  dealt_at post = dealt post.seat

  abbrev pub taken_at : Post T V S J G → List V
  taken_at post = taken post.seat

  -- nothing was dealt or taken there
  abbrev pub HasNone : Post T V S J G → Type 0
  HasNone post = record_at post ≡ hand 1 [] []
