-- How false deaths came about, in words.
use Rattle.std.specs.Prelude.{ℕ, ◌+◌, ◌-◌, ◌<◌, Bool, nat_eq, nat_lt, if◌then◌else◌, Option, Some, None, List, [], ◌++◌, All, codes, decimal, flat_map, take, length, slice_get}
use Rattle.std.specs.Option.{option_map_or}
use Rattle.std.specs.List.{list_any}
use Rattle.scenario.specs.Setup.{Setup, name_of, member_count}
use Rattle.trace.specs.Text.{NamesMembers}
use Rattle.trace.specs.declared.row.What.TheVariants as what
use Rattle.trace.specs.declared.row.Row.{Row}
use Rattle.series.specs.declared.lines.TraceLine.{TraceLine}
use Rattle.series.specs.declared.accusers.ProbeStory.{ProbeStory}
use Rattle.series.specs.declared.accusers.Accusation.{Accusation}
use Rattle.series.specs.declared.answers.Reply.{Reply}
use Rattle.series.specs.declared.answers.Answers.{Answers}
use Rattle.series.specs.declared.standing.Refutation.{Refutation}
use Rattle.series.specs.declared.deaths.Death.{Death}
use Rattle.series.specs.Deaths.{Reached, line_reached, reaches, accusations, last_refutation, times_heard, deaths_of, IsDeathOf}
use Rattle.drawing.specs.Escaped.{escaped}
use Rattle.drawing.specs.Numbers.{grouped}
use Rattle.drawing.specs.Shapes.{figure_opening, figure_end}
use Rattle.member_timelines.specs.Numbers.{by_number}
use Rattle.false_deaths.specs.Troubles.{states}
use Rattle.drawing.specs.Lengths.{time_text}
use Rattle.ticks.specs.declared.tick.Tick.{Tick}

-- ---- an accuser

-- when its probe began, where that is known; else when it accused
abbrev pub began : Accusation → ℕ
began accusation = option_map_or (λ probe. probe.ping.at) accusation.probe accusation.claim.at

-- where a row stands
unfoldable pub line_words : ℕ → List ℕ
line_words number = codes ", on line " ++ decimal number

-- how a ping fared
abbrev pub fate : Bool → List ℕ
fate lost = if lost then codes ", was lost." else codes ", wasn't lost."

unfoldable pub ping_words : Option Tick → ℕ → ℕ → Bool → List ℕ
ping_words time at line lost = codes " Its ping of " ++ time_text time at ++ line_words line ++ fate lost

-- how an ack of the target fared
unfoldable pub ack_words : Option Tick → ℕ → ℕ → Bool → List ℕ
ack_words time at line lost = codes " The ack of " ++ time_text time at ++ line_words line ++ fate lost

-- the same, where it sent one by then; of a lost ping nothing comes
abbrev pub ack_told : Option Tick → Bool → Option Reply → List ℕ
ack_told time lost (Some reply) = ack_words time reply.line.at reply.line.number reply.lost
ack_told time lost None = if lost then [] else codes " No ack was sent by then."

-- how many helpers were asked, and how many of them answered by an ack or a nack
unfoldable pub helpers_words : ℕ → ℕ → ℕ → ℕ → List ℕ
helpers_words asked requests answered lost =
    codes " Helpers asked: " ++ grouped asked ++ codes " (requests lost: " ++ grouped requests ++ codes "). Their answers by then: " ++ grouped answered ++ codes " (lost: "
    ++ grouped lost ++ codes ")."

-- the same, where some were asked
abbrev pub helpers_told : Answers → List ℕ
helpers_told a = if nat_eq a.asked 0 then [] else helpers_words a.asked a.requests_lost a.answered a.answers_lost

-- what came of a probe whose ping was lost or not
abbrev pub answers_told : Option Tick → Bool → Answers → List ℕ
answers_told time lost a = ack_told time lost a.ack ++ helpers_told a

-- how the ping fared, and what came of the probe, where it is known
abbrev pub probe_words : Option Tick → Option ProbeStory → Answers → List ℕ
probe_words time (Some probe) a = ping_words time probe.ping.at probe.ping.number probe.lost ++ answers_told time probe.lost a
probe_words time None a = []

-- who accused the member, when and on which line
unfoldable pub claim_of : Option Tick → List ℕ → ℕ → ℕ → List ℕ
claim_of time name at number = codes "<li>" ++ escaped name ++ codes " accused it at " ++ time_text time at ++ line_words number ++ codes "."

abbrev pub claim_words : Option Tick → Setup → TraceLine → List ℕ
claim_words time s claim = claim_of time (name_of s claim.member) claim.at claim.number

-- the same, how its probe fared, and what the accuser was from then on
unfoldable pub accuser_item : Option Tick → Setup → Accusation → List ℕ
accuser_item time s accusation =
    claim_words time s accusation.claim ++ probe_words time accusation.probe accusation.answers ++ states time s accusation.claim.member (began accusation) accusation.claim.at ++ codes "</li>"

-- how many accusations more there are than four
unfoldable pub more_accusers : ℕ → List ℕ
more_accusers more = codes "<li>" ++ grouped more ++ by_number more (codes " more accusation isn't shown.</li>") (codes " more accusations aren't shown.</li>")

abbrev pub accusers_end : ℕ → List ℕ
accusers_end count =
    if nat_eq count 0 then codes "<li>Nobody accused it on its own evidence.</li>"
    else if nat_lt 4 count then more_accusers (count - 4) else []

-- the first four, and how many more there are
unfoldable pub accusers_told : Option Tick → Setup → List Accusation → List ℕ
accusers_told time s list = flat_map (accuser_item time s) (take 4 list) ++ accusers_end (length list)

-- ---- a death

-- who declared the member dead, on which line and under which number
unfoldable pub declared_by : List ℕ → ℕ → ℕ → List ℕ
declared_by name line number =
    codes "<li>" ++ escaped name ++ codes " declared it dead first" ++ line_words line ++ codes ", under incarnation number " ++ grouped number ++ codes "."

abbrev pub declared_words : Setup → TraceLine → ℕ → List ℕ
declared_words s line number = declared_by (name_of s line.member) line.number number

-- the same, and what that member was
unfoldable pub declared_item : Option Tick → Setup → TraceLine → ℕ → List ℕ
declared_item time s line number = declared_words s line number ++ states time s line.member line.at line.at ++ codes "</li>"

-- what the member itself was from a moment until its death
unfoldable pub own_opening : Option Tick → ℕ → List ℕ
own_opening time since = codes "<li>From " ++ time_text time since ++ codes " until its death:"

unfoldable pub own_item : Option Tick → Setup → ℕ → ℕ → ℕ → List ℕ
own_item time s subject since at = own_opening time since ++ states time s subject since at ++ codes "</li>"

-- since when: since the probe of its first accuser began, where it has one
abbrev pub since_first : List Accusation → ℕ → ℕ
since_first list at = option_map_or began (slice_get list 0) at

-- its accusers are those of a later suspicion
abbrev pub later_item : Bool → List ℕ
later_item is_later = if is_later then codes "<li>It was suspected under a higher incarnation number before that; these are its accusers under that one.</li>" else []

-- when it had last refuted what was said of it, and how many heard of that
unfoldable pub refuted_item : Option Tick → ℕ → ℕ → ℕ → List ℕ
refuted_item time at line heard =
    codes "<li>It had last refuted at " ++ time_text time at ++ line_words line ++ codes "; members that had heard of that by then: " ++ grouped heard ++ codes ".</li>"

-- the same, where it had
abbrev pub refuted_told : Option Tick → Option Refutation → ℕ → List ℕ
refuted_told time (Some refutation) heard = refuted_item time refutation.line.at refutation.line.number heard
refuted_told time None heard = codes "<li>It had refuted nothing.</li>"

-- what the member itself was, and its last refutation
unfoldable pub own_told : Option Tick → Setup → ℕ → ℕ → ℕ → Option Refutation → ℕ → List ℕ
own_told time s subject since at refutation heard = own_item time s subject since at ++ refuted_told time refutation heard

unfoldable pub cause_opening : Option Tick → List ℕ → ℕ → List ℕ
cause_opening time name at = codes "<div class=\"cause\"><h3>" ++ escaped name ++ codes " at " ++ time_text time at ++ codes "</h3><ul>"

-- the death of a member on a line, under a number, after these accusations and its last refutation, of which so many heard
unfoldable pub cause_words : Option Tick → Setup → ℕ → TraceLine → ℕ → Bool → List Accusation → Option Refutation → ℕ → List ℕ
cause_words time s subject line number is_later list refutation heard =
    cause_opening time (name_of s subject) line.at ++ declared_item time s line number ++ own_told time s subject (since_first list line.at) line.at refutation heard
    ++ later_item is_later ++ accusers_told time s list ++ codes "</ul></div>\n"

-- the subject was suspected under a higher number before it died
abbrev pub is_later : ℕ → Reached → Bool
is_later subject r = list_any (reaches what.Suspect subject (r.row.value + 1)) r.earlier

-- the same of a row
abbrev pub cause : Option Tick → Setup → Reached → List ℕ
cause time s r = option_map_or (λ subject. cause_words time s subject (line_reached r) r.row.value (is_later subject r) (accusations subject r.earlier) (last_refutation subject r.earlier) (times_heard subject r.earlier)) r.row.about []

-- ---- all deaths

unfoldable pub more_words : ℕ → List ℕ
more_words more = codes "<p class=\"soft\">" ++ grouped more ++ by_number more (codes " more isn't shown.</p>") (codes " more aren't shown.</p>")

abbrev pub more_told : ℕ → List ℕ
more_told count = if nat_lt 20 count then more_words (count - 20) else []

unfoldable pub intro : List ℕ
intro = codes "<p class=\"soft\">Each false death that is the first under its member's incarnation number: the later ones under that number follow from it, or have the same cause.</p>"

-- the first twenty, and how many more there are
unfoldable pub causes_figure : Option Tick → Setup → List Reached → List ℕ
causes_figure time s deaths =
    figure_opening (codes "causes") (codes "How false deaths came about") ++ intro ++ flat_map (cause time s) (take 20 deaths) ++ more_told (length deaths) ++ figure_end

-- the same, where there are any
abbrev pub causes_where : Option Tick → Setup → List Reached → ℕ → List ℕ
causes_where time s deaths count = if nat_eq count 0 then [] else causes_figure time s deaths

-- the same of these rows
abbrev pub causes_text : Option Tick → Setup → List Row → List ℕ
causes_text time s rows = causes_where time s (deaths_of rows) (length (deaths_of rows))

-- ---- names

-- these accusers are members of the cluster
abbrev pub AreNamed : Setup → List Accusation → Type 0
AreNamed s list = All (λ accusation. accusation.claim.member < member_count s) list

-- the row and those before it name members of the cluster
pub record IsNamed (s : Setup) (r : Reached) : Type 0 where
  pub row : NamesMembers s r.row
  pub earlier : All (NamesMembers s) r.earlier

-- a death is that of a row whose names are known
pub record CanTell (s : Setup) (death : Death) : Type 0 where
  pub reached : Reached
  pub is : IsDeathOf death reached
  pub named : IsNamed s reached
