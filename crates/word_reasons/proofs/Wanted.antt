-- What is wrong with a word is wrong with one of the words that were given.
use Rattle.std.proofs.Common.{◌≡◌, ◌∙◌, ◌<◌, List, Bor, Contains, ap, codes, map, subst, sym}
use Rattle.std.proofs.lemmas.List.{get_or-map, length-map}
use Rattle.clap.specs.Words.{Row, Text}
use Rattle.reasons.specs.declared.words.WordFault.TheVariants as fault
use Rattle.reasons.specs.declared.words.WordReason.{WordReason}
use Rattle.reasons.specs.declared.words.WordReason.TheVariants as reason
use Rattle.word_reasons.specs.Found.{IsReasonOf, IsWantReason, WantsNothing, words_of}

-- what is made of an item stands in the list of what is made of all
contains_mapped : {X Y : Type 0} (f : X → Y) (xs : List X) (x : X) → Contains xs x → Contains (map f xs) (f x)
contains_mapped f xs x there =
    (there.0, subst (λ n. there.0 < n) (sym (length-map xs f)) there.1, get_or-map f xs there.0 x (f x) there.1 ∙ ap f there.2)

abbrev Unwanted : List Row → Text → Type 0
Unwanted rows text = Contains (words_of (codes "want") rows) text × WantsNothing text

of_word : (rows : List Row) (text : Text) → Unwanted rows text → (r : WordReason) → IsWantReason text r → IsReasonOf rows r
of_word rows text both (reason.Word fault.Want w) is = subst (Unwanted rows) (sym is) both
of_word rows text both (reason.Statistic w name) is = subst (Unwanted rows) (sym is) both
of_word rows text both (reason.Word fault.Workers w) is = absurd is
of_word rows text both (reason.Word fault.Parts w) is = absurd is
of_word rows text both (reason.Word fault.PartNumber w) is = absurd is
of_word rows text both (reason.Word fault.ListLength w) is = absurd is
of_word rows text both (reason.Word fault.Until w) is = absurd is
of_word rows text both (reason.Word fault.Shard w) is = absurd is
of_word rows text both (reason.Word fault.Seeds w) is = absurd is
of_word rows text both (reason.Word fault.SeedsOrder w) is = absurd is
of_word rows text both (reason.Word fault.SeedsMany w) is = absurd is
of_word rows text both (reason.Word fault.Swept w) is = absurd is
of_word rows text both (reason.Word fault.Joined w) is = absurd is
of_word rows text both (reason.Word fault.KeyTwice w) is = absurd is
of_word rows text both (reason.Word fault.Tick w) is = absurd is
of_word rows text both (reason.Dash file) is = absurd is
of_word rows text both (reason.Clash clash) is = absurd is
of_word rows text both (reason.Key w key guess) is = absurd is
of_word rows text both (reason.Value w value) is = absurd is
of_word rows text both (reason.Share w parts) is = absurd is
of_word rows text both reason.Runs is = absurd is
of_word rows text both reason.NoText is = absurd is

pub wanted : (rows : List Row) (words : List (Bor Text)) (word : Bor Text) → map (λ (w : Bor Text). w.now) words ≡ words_of (codes "want") rows
    → Contains words word → WantsNothing word.now → (r : WordReason) → IsWantReason word.now r → IsReasonOf rows r
wanted rows words word given there none r is =
    of_word rows word.now (subst (λ l. Contains l word.now) given (contains_mapped (λ (w : Bor Text). w.now) words word there), none) r is
