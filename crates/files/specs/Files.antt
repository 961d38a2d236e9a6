-- What is known of the names that files are asked for.
use Rattle.std.specs.Prelude.{◌≡◌, ◌≢◌, ◌≤◌, ◌⊎◌, ℕ, Bool, true, false, List, [], Option, Some, None, IfSome, length, take}

-- what is known of a name: nothing, that no file has it, or what its file holds
abbrev pub KnownFile : Type 0
KnownFile = Option (Option (List ℕ))

-- where it is known, the file holds these bytes
abbrev pub Holds : KnownFile → List ℕ → Type 0
Holds known bytes = IfSome known (λ held. held ≡ Some bytes)

-- where it is known, no file has the name
abbrev pub IsAbsent : KnownFile → Type 0
IsAbsent known = IfSome known (λ held. held ≡ None)

-- where it was known what the name stood for, its file holds these bytes now
abbrev pub HoldsNow : KnownFile → KnownFile → List ℕ → Type 0
HoldsNow old new bytes = IfSome old (λ _. new ≡ Some (Some bytes))

-- the bytes of a name's file, none where no file has it
abbrev pub bytes_held : Option (List ℕ) → List ℕ
bytes_held (Some bytes) = bytes
bytes_held None = []

-- where it is known, the file holds this many bytes or more
abbrev pub HoldsAtLeast : KnownFile → ℕ → Type 0
HoldsAtLeast known count = IfSome known (λ held. count ≤ length (bytes_held held))

-- where it was known what the name stood for, its file holds so many of its first bytes now, and no others
abbrev pub HoldsBeginning : KnownFile → KnownFile → ℕ → Type 0
HoldsBeginning old new count = IfSome old (λ held. new ≡ Some (Some (take count (bytes_held held))))

-- a writer closed whose bytes are known, under a name that is known to have a file, which then holds them
abbrev pub ClosesAs : KnownFile → KnownFile → Option (List ℕ) → Type 0
ClosesAs old new written = IfSome old (λ held. IfSome held (λ _. IfSome written (λ bytes. new ≡ Some (Some bytes))))

-- no file changes but that of this name
abbrev pub KeepsOthers : {K : Type 0} → (List ℕ → K) → (List ℕ → K) → List ℕ → Type 0
KeepsOthers old new name = (other : List ℕ) → other ≢ name → new other ≡ old other

-- no file changes but those of these names
abbrev pub KeepsAllOthers : {K : Type 0} → (List ℕ → K) → (List ℕ → K) → List ℕ → List ℕ → Type 0
KeepsAllOthers old new first second = (other : List ℕ) → other ≢ first → other ≢ second → new other ≡ old other

-- no file changes but those of these three names
abbrev pub KeepsAllButThree : {K : Type 0} → (List ℕ → K) → (List ℕ → K) → List ℕ → List ℕ → List ℕ → Type 0
KeepsAllButThree old new first second third = (other : List ℕ) → other ≢ first → other ≢ second → other ≢ third → new other ≡ old other

-- What is known of the making of files: whether one of a name can be made, else false; and whether two names stand for one
-- file that keeps what it is given, else false.
pub record Making : Type 0 where
  pub can_make : List ℕ → Bool
  pub are_one : List ℕ → List ℕ → Bool

-- a file of the name can't be made, or it is that of the source
abbrev pub CannotMake : Making → List ℕ → List ℕ → Type 0
CannotMake making source name = (making.can_make name ≡ false) ⊎ (making.are_one source name ≡ true)

-- the same of the second of two files, which may be the first too
abbrev pub CannotMakeSecond : Making → List ℕ → List ℕ → List ℕ → Type 0
CannotMakeSecond making source first second = CannotMake making source second ⊎ (making.are_one first second ≡ true)

-- the files of a source and of two names are three
pub record AreThreeFiles (making : Making) (source first second : List ℕ) : Type 0 where
  pub from_first : making.are_one source first ≡ false
  pub from_second : making.are_one source second ≡ false
  pub from_each_other : making.are_one first second ≡ false

-- the same of the third of three files, which may be the first or the second too
abbrev pub CannotMakeThird : Making → List ℕ → List ℕ → List ℕ → List ℕ → Type 0
CannotMakeThird making source first second third = CannotMakeSecond making source first third ⊎ (making.are_one second third ≡ true)

-- the files of a source and of three names are four
pub record AreFourFiles (making : Making) (source first second third : List ℕ) : Type 0 where
  pub before_third : AreThreeFiles making source first second
  pub from_source : making.are_one source third ≡ false
  pub from_first : making.are_one first third ≡ false
  pub from_second : making.are_one second third ≡ false

-- of three names no two are one, where something is known of the earlier
pub record DifferEach (known : List ℕ → KnownFile) (first second third : List ℕ) : Type 0 where
  pub second_from_first : IfSome (known first) (λ _. second ≢ first)
  pub third_from_first : IfSome (known first) (λ _. third ≢ first)
  pub third_from_second : IfSome (known second) (λ _. third ≢ second)
