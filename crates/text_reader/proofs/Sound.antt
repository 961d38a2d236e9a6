-- A scenario that is an answer is sound.
use Rattle.std.proofs.Common.{◌≡◌, ℕ, Bool, true, false, ◌||◌, List, Option, Some, None, Ok, refl, ap, sym, subst, ◌∙◌, cond}
use Rattle.std.proofs.lemmas.Bool.{true≢false}
use Rattle.std.specs.Option.{is_some, option_or}
use Rattle.toml.specs.Data.{Data}
use Rattle.schema.specs.Shape.{breaks, least_broken_of_shape, KeepsShape}
use Rattle.schema.specs.declared.schema.Version.{Version}
use Rattle.schema.specs.declared.schema.Version.TheVariants.{Four}
use Rattle.schema.specs.declared.shape.Check.TheVariants.{Missing, Unknown, WrongKind, OutOfRange}
use Rattle.scenario.specs.Setup.{is_fourth, IsSound, Setup}
use Rattle.scenario_reader.specs.Reading.{plain_groups, setup_of_tree, version_of}
use Rattle.scenario_reader.specs.Rules.{breaks_added_references, breaks_added_times, breaks_departures, breaks_names, breaks_names_in, breaks_pairs, breaks_pauses, breaks_references, breaks_size, breaks_times, document_verdict, fourth_breaks_references, fourth_breaks_times, fourth_least_broken_by, judged_if_read, least_broken, least_broken_by, least_broken_in, least_of, tree_of, unless_broken, verdict, KeepsFourth, KeepsValues}
use Rattle.scenario_reader.proofs.Chain.{earlier_least, fourth_least, the_fourth, version_is}
use Rattle.scenario_reader.proofs.Sound.{fourth_sound_of, sound_of}
use Rattle.expanded_text.specs.Rule.{seed_in}
use Rattle.text_reader.specs.Answers.{AnswersBy, AnswersDocument}

-- ---- nothing is broken

abbrev AreOff : Bool → Bool → Type 0
AreOff a b = (a ≡ false) × (b ≡ false)

off : (a b : Bool) → (a || b) ≡ false → AreOff a b
off true b none = absurd (true≢false none)
off false b none = (refl, none)

abbrev AreNone : Option ℕ → Option ℕ → Type 0
AreNone a b = (a ≡ None) × (b ≡ None)

neither : (a b : Option ℕ) → option_or a b ≡ None → AreNone a b
neither None b none = (refl, none)
neither (Some n) b none = absurd (true≢false (ap is_some none))

abbrev first_of_four : Bool → Bool → Bool → Bool → Option ℕ
first_of_four a b c d = cond a (Some 2) (cond b (Some 3) (cond c (Some 4) (cond d (Some 5) None)))

abbrev FourOff : Bool → Bool → Bool → Bool → Type 0
FourOff a b c d = (a ≡ false) × (b ≡ false) × (c ≡ false) × (d ≡ false)

four_off : (a b c d : Bool) → first_of_four a b c d ≡ None → FourOff a b c d
four_off true b c d none = absurd (true≢false (ap is_some none))
four_off false true c d none = absurd (true≢false (ap is_some none))
four_off false false true d none = absurd (true≢false (ap is_some none))
four_off false false false true none = absurd (true≢false (ap is_some none))
four_off false false false false none = (refl, refl, refl, refl)

abbrev FiveOff : Bool → Bool → Bool → Bool → Bool → Type 0
FiveOff a b c d e = (a ≡ false) × (b ≡ false) × (c ≡ false) × (d ≡ false) × (e ≡ false)

five_off : (a b c d e : Bool) → least_of a b c d e ≡ None → FiveOff a b c d e
five_off true b c d e none = absurd (true≢false (ap is_some none))
five_off false true c d e none = absurd (true≢false (ap is_some none))
five_off false false true d e none = absurd (true≢false (ap is_some none))
five_off false false false true e none = absurd (true≢false (ap is_some none))
five_off false false false false true none = absurd (true≢false (ap is_some none))
five_off false false false false false none = (refl, refl, refl, refl, refl)

keeps_shape : (v : Version) (tree : Data) → least_broken_of_shape v tree ≡ None → KeepsShape v tree
unfolding least_broken_of_shape
keeps_shape v tree none =
    let all = four_off (breaks v Missing tree) (breaks v Unknown tree) (breaks v WrongKind tree) (breaks v OutOfRange tree) none in
    record { missing = all.0; unknown = all.1; kinds = all.2; ranges = all.3 }

module _ (tree : Data) where
  keeps_values : least_broken_by tree (setup_of_tree tree) ≡ None → KeepsValues tree
  unfolding least_broken_by
  keeps_values none =
      let s = setup_of_tree tree in
      let gs = plain_groups tree in
      let references = breaks_references tree gs in
      let added = breaks_added_references s.version tree gs in
      let later = breaks_departures s.crashes s.leaves || breaks_pauses s.pauses in
      let all = five_off (breaks_names gs) (references || added) (breaks_pairs s.crashes s.slows || later) (breaks_times s || breaks_added_times s) (breaks_size s) none in
      let known = off references added all.1 in
      let apart = off (breaks_pairs s.crashes s.slows) later all.2 in
      let gone = off (breaks_departures s.crashes s.leaves) (breaks_pauses s.pauses) apart.1 in
      let timely = off (breaks_times s) (breaks_added_times s) all.3 in
      record {
        names = all.0;
        references = known.0;
        added_references = sym (ap (λ (v : Version). breaks_added_references v tree gs) (version_is tree)) ∙ known.1;
        pairs = apart.0;
        departures = gone.0;
        pauses = gone.1;
        times = timely.0;
        added_times = timely.1;
        size = all.4;
      }

  keeps_fourth : fourth_least_broken_by tree (setup_of_tree tree) ≡ None → KeepsFourth tree
  unfolding fourth_least_broken_by
  keeps_fourth none =
      let s = setup_of_tree tree in
      let gs = plain_groups tree in
      let references = breaks_references tree gs in
      let more = breaks_added_references Four tree gs || fourth_breaks_references tree gs in
      let later = breaks_added_times s || fourth_breaks_times s in
      let all = five_off (breaks_names_in Four gs) (references || more) false (breaks_times s || later) (breaks_size s) none in
      let known = off references more all.1 in
      let known_too = off (breaks_added_references Four tree gs) (fourth_breaks_references tree gs) known.1 in
      let timely = off (breaks_times s) later all.3 in
      let timely_too = off (breaks_added_times s) (fourth_breaks_times s) timely.1 in
      record {
        names = all.0;
        references = known.0;
        added_references = known_too.0;
        fourth_references = known_too.1;
        times = timely.0;
        added_times = timely_too.0;
        fourth_times = timely_too.1;
        size = all.4;
      }

  sound_by : (fourth : Bool) → is_fourth (version_of tree) ≡ fourth → KeepsShape (version_of tree) tree → least_broken_in (version_of tree) tree (setup_of_tree tree) ≡ None
      → IsSound (setup_of_tree tree)
  sound_by true is shape none =
      let version : version_of tree ≡ Four = the_fourth (version_of tree) is in
      fourth_sound_of tree version shape (keeps_fourth (sym (fourth_least (version_of tree) tree (setup_of_tree tree) version) ∙ none))
  sound_by false is shape none =
      sound_of tree is shape (keeps_values (sym (earlier_least (version_of tree) tree (setup_of_tree tree) is) ∙ none))

  sound_tree : least_broken tree ≡ None → IsSound (setup_of_tree tree)
  unfolding least_broken
  sound_tree none =
      let both = neither (least_broken_of_shape (version_of tree) tree) (least_broken_in (version_of tree) tree (setup_of_tree tree)) none in
      sound_by (is_fourth (version_of tree)) refl (keeps_shape (version_of tree) tree both.0) both.1

-- ---- the answer

sound_unless : (t : Setup) (o : Option ℕ) (s : Setup) → (o ≡ None → IsSound t) → unless_broken t o ≡ Ok s → IsSound s
sound_unless t None s sound is =
    let same : t ≡ s = cc in
    subst (λ (x : Setup). IsSound x) same (sound refl)
sound_unless t (Some rule) s sound is = cc

sound_document : (tree : Data) (s : Setup) → document_verdict tree ≡ Ok s → IsSound s
sound_document tree s is = sound_unless (setup_of_tree tree) (least_broken tree) s (sound_tree tree) is

sound_read : (tree : Option Data) (s : Setup) → judged_if_read least_broken tree ≡ Ok s → IsSound s
sound_read None s is = cc
sound_read (Some tree) s is = sound_document tree s is

sound_text : (bytes : List ℕ) (s : Setup) → verdict bytes ≡ Ok s → IsSound s
unfolding verdict
sound_text bytes s is = sound_read (tree_of bytes) s is

sound_in : (fourth : Bool) (d : Data) (s : Setup) → AnswersBy fourth d (Ok s) → IsSound s
sound_in true d s is = sound_text is.text s is.same
sound_in false d s is = sound_document d s is

pub sound_answer : (d : Data) (s : Setup) → AnswersDocument d (Ok s) → IsSound s
sound_answer d s is = sound_in (is_fourth (version_of d)) d s is

-- ---- its seed

seed_is : (tree : Data) → (setup_of_tree tree).seed ≡ seed_in tree
unfolding setup_of_tree
seed_is tree = refl

seed_unless : (t : Setup) (o : Option ℕ) (s : Setup) → unless_broken t o ≡ Ok s → s.seed ≡ t.seed
seed_unless t None s is =
    let same : s ≡ t = cc in
    ap (λ (x : Setup). x.seed) same
seed_unless t (Some rule) s is = cc

seed_answer_by : (fourth : Bool) (d : Data) (s : Setup) → AnswersBy fourth d (Ok s) → s.seed ≡ seed_in d
seed_answer_by true d s is = is.seeded
seed_answer_by false d s is = seed_unless (setup_of_tree d) (least_broken d) s is ∙ seed_is d

pub seed_answer : (d : Data) (s : Setup) → AnswersDocument d (Ok s) → s.seed ≡ seed_in d
seed_answer d s is = seed_answer_by (is_fourth (version_of d)) d s is
