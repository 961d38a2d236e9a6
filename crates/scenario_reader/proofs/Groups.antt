-- Groups that are added one by one: whether a name is taken, and what one more group does to the rule on names.
use Rattle.std.proofs.Common.{◌≡◌, ◌<◌, ◌^◌, ℕ, ◌+◌, List, [], ◌∷◌, ◌++◌, ◌||◌, Bool, true, false, not, cond, map, length, take, drop, get_or, Option, Some, None, is_some, refl, ap, sym, ◌∙◌, String, Global, string_bytes, bytes_eq, append_assoc, arith}
use Rattle.std.specs.List.{list_any, sum_by}
use Rattle.std.specs.Map.{lookup}
use Rattle.std.specs.String.{string_eq}
use Rattle.std.proofs.lemmas.List.{map_more, map-append, append-nil, take-append-drop}
use Rattle.std.proofs.lemmas.List.Folds.{list_any-append, fold-map}
use Rattle.std.proofs.lemmas.List.Sums.{sum_by-cons}
use Rattle.std.proofs.lemmas.Bool.{or_left, or_right, or_parts}
use Rattle.std.proofs.lemmas.Bool.Decides.{same_from_decides}
use Rattle.std.proofs.lemmas.Slice.Eq.{bytes_eq-Decides}
use Rattle.indexmap.specs.IndexMap.{IndexMap, get, insert_entry}
use Rattle.indexmap.proofs.CallerLemmas.{insert_entry-new}
use Rattle.schema.proofs.Trees.{any-map}
use Rattle.schema.specs.declared.schema.Version.{Version}
use Rattle.schema.specs.declared.schema.Version.TheVariants.{Three}
use Rattle.scenario.specs.Setup.{Setup, Group}
use Rattle.scenario.specs.declared.settings.Swim.{Swim}
use Rattle.scenario.specs.declared.settings.Suspicion.{Suspicion}
use Rattle.scenario.specs.declared.settings.Lifeguard.{Lifeguard}
use Rattle.scenario.specs.declared.settings.Link.{Link}
use Rattle.scenario.specs.declared.settings.Path.{Path}
use Rattle.scenario.specs.declared.settings.Slow.{Slow}
use Rattle.scenario.specs.declared.settings.Crash.{Crash}
use Rattle.scenario.specs.declared.settings.Leave.{Leave}
use Rattle.scenario.specs.declared.settings.Cut.{Cut}
use Rattle.scenario.specs.declared.settings.Gossip.{Gossip}
use Rattle.scenario.specs.declared.settings.StreamTimes.{StreamTimes}
use Rattle.scenario.specs.declared.settings.Pause.{Pause}
use Rattle.scenario.specs.declared.settings.Restart.{Restart}
use Rattle.scenario.specs.declared.settings.Queue.{Queue}
use Rattle.scenario.specs.declared.settings.DialTimes.{DialTimes}
use Rattle.scenario.specs.declared.settings.Serf.{Serf}
use Rattle.scenario_reader.specs.Roster.{named_group, AreNumberedFrom}
use Rattle.scenario_reader.specs.declared.roster.Block.{Block}
use Rattle.scenario.specs.GroupNames.{is_name_of}
use Rattle.scenario_reader.specs.Rules.{breaks_name, breaks_names, breaks_names_in, any_two}

bytes_eq-sym : (a b : List ℕ) → bytes_eq a b ≡ bytes_eq b a
bytes_eq-sym a b =
    let there = bytes_eq-Decides b a in
    same_from_decides (bytes_eq a b) (bytes_eq b a) (bytes_eq-Decides a b) (λ e. sym (there.0 e), λ e. there.1 (sym e))

-- an entry's test, beside the rest's
found : (b : Bool) (v : Block) (rest : Option Block) → is_some (cond b (Some v) rest) ≡ (b || is_some rest)
found true v rest = refl
found false v rest = refl

-- a name is taken where the map finds it
pub name_taken : (es : List (String Global × Block)) (k : String Global) → is_some (lookup (string_eq k) es) ≡ list_any (λ g. bytes_eq (string_bytes k) g.name) (map named_group es)
name_taken [] k = refl
name_taken (e ∷ es) k = found (string_eq k e.0) e.1 (lookup (string_eq k) es) ∙ ap (λ more. string_eq k e.0 || more) (name_taken es k)

-- a name of the right form may be added unless it is taken
pub taken_is : (v : Version) (gs : List Group) (name : List ℕ) (b : Bool) → is_name_of v name ≡ true → list_any (λ g. bytes_eq name g.name) gs ≡ b → not b ≡ not (breaks_name v gs name)
taken_is v gs name b named taken = sym (ap (λ n. not (not n || list_any (λ g. bytes_eq name g.name) gs)) named ∙ ap not taken)

-- a group of a new name goes last
pub group_added : {S : Type 0} (m : IndexMap (String Global) Block S) (k : String Global) (n : Block) → get string_eq m k ≡ None
    → map named_group (insert_entry string_eq m.entries k n) ≡ map named_group m.entries ++ record { name = string_bytes k; count = n.count; start = n.start; contact = None } ∷ []
group_added m k n new = ap (map named_group) (insert_entry-new string_eq m k n new) ∙ map-append named_group m.entries ((k, n) ∷ [])

regroup : (a b c d : Bool) → ((a || (b || false)) || (c || d)) ≡ ((b || c) || (a || d))
regroup true true c d = refl
regroup true false true d = refl
regroup true false false d = refl
regroup false true c d = refl
regroup false false c d = refl

repeats-last : (ns : List (List ℕ)) (n : List ℕ) → any_two bytes_eq (ns ++ n ∷ []) ≡ (list_any (bytes_eq n) ns || any_two bytes_eq ns)
repeats-last [] n = refl
repeats-last (m ∷ ns) n =
    ap (λ more. more || any_two bytes_eq (ns ++ n ∷ [])) (list_any-append (bytes_eq m) ns (n ∷ []))
    ∙ ap (λ more. (list_any (bytes_eq m) ns || (bytes_eq m n || false)) || more) (repeats-last ns n)
    ∙ ap (λ e. (list_any (bytes_eq m) ns || (e || false)) || (list_any (bytes_eq n) ns || any_two bytes_eq ns)) (bytes_eq-sym m n)
    ∙ regroup (list_any (bytes_eq m) ns) (bytes_eq n m) (list_any (bytes_eq n) ns) (any_two bytes_eq ns)

abbrev bad : Version → Group → Bool
bad v g = not (is_name_of v g.name)

-- the rule on names after one more group
pub breaks_names-last : (v : Version) (gs : List Group) (g : Group) → breaks_names_in v (gs ++ g ∷ []) ≡ (breaks_name v gs g.name || breaks_names_in v gs)
unfolding breaks_names_in
breaks_names-last v gs g =
    ap (λ more. more || any_two bytes_eq (map (λ h. h.name) (gs ++ g ∷ []))) (list_any-append (bad v) gs (g ∷ []))
    ∙ ap (λ ns. (list_any (bad v) gs || (bad v g || false)) || any_two bytes_eq ns) (map-append (λ (h : Group). h.name) gs (g ∷ []))
    ∙ ap (λ more. (list_any (bad v) gs || (bad v g || false)) || more) (repeats-last (map (λ h. h.name) gs) g.name)
    ∙ ap (λ taken. (list_any (bad v) gs || (bad v g || false)) || (taken || any_two bytes_eq (map (λ h. h.name) gs))) (any-map (bytes_eq g.name) (λ (h : Group). h.name) gs)
    ∙ regroup (list_any (bad v) gs) (bad v g) (list_any (λ h. bytes_eq g.name h.name) gs) (any_two bytes_eq (map (λ h. h.name) gs))

-- what breaks the rule goes on breaking it
breaks_names-kept : (v : Version) (gs hs : List Group) → breaks_names_in v gs ≡ true → breaks_names_in v (gs ++ hs) ≡ true
breaks_names-kept v gs [] broken = ap (breaks_names_in v) (append-nil gs) ∙ broken
breaks_names-kept v gs (h ∷ hs) broken =
    ap (breaks_names_in v) (sym (append_assoc gs (h ∷ []) hs))
    ∙ breaks_names-kept v (gs ++ h ∷ []) hs (breaks_names-last v gs h ∙ or_right (breaks_name v gs h.name) (breaks_names_in v gs) broken)

module _ {V : Type 0} (v : Version) (group : V → Group) (vs : List V) (i : ℕ) (x : V) where
  -- the group at the index breaks the rule, or may follow those before it
  pub name_refused : i < length vs → get_or vs i x ≡ x → breaks_name v (map group (take i vs)) (group x).name ≡ true → breaks_names_in v (map group vs) ≡ true
  name_refused within here broken =
      let one_more : breaks_names_in v (map group (take (i + 1) vs)) ≡ true =
      ap (breaks_names_in v) (map_more group vs i x within ∙ ap (λ w. map group (take i vs) ++ group w ∷ []) here)
      ∙ breaks_names-last v (map group (take i vs)) (group x) ∙ or_left (breaks_name v (map group (take i vs)) (group x).name) (breaks_names_in v (map group (take i vs))) broken in
      ap (λ ws. breaks_names_in v (map group ws)) (sym (take-append-drop (i + 1) vs)) ∙ ap (breaks_names_in v) (map-append group (take (i + 1) vs) (drop (i + 1) vs))
      ∙ breaks_names-kept v (map group (take (i + 1) vs)) (map group (drop (i + 1) vs)) one_more

  pub name_fits : i < length vs → get_or vs i x ≡ x → breaks_name v (map group (take i vs)) (group x).name ≡ false → breaks_names_in v (map group (take i vs)) ≡ false
      → breaks_names_in v (map group (take (i + 1) vs)) ≡ false
  name_fits within here fits fine =
      ap (breaks_names_in v) (map_more group vs i x within ∙ ap (λ w. map group (take i vs) ++ group w ∷ []) here)
      ∙ breaks_names-last v (map group (take i vs)) (group x) ∙ ap (λ b. b || breaks_names_in v (map group (take i vs))) fits ∙ fine

-- a test whose opposite is known
pub broken_by : (b a : Bool) → a ≡ not b → a ≡ false → b ≡ true
broken_by true a same e = refl
broken_by false a same e = sym e ∙ same

pub fits_by : (b a : Bool) → a ≡ not b → a ≡ true → b ≡ false
fits_by true a same e = sym e ∙ same
fits_by false a same e = refl

-- the blocks after one more
pub block_added : {S : Type 0} (m : IndexMap (String Global) Block S) (k : String Global) (n : Block) → get string_eq m k ≡ None
    → map (λ (e : String Global × Block). e.1) (insert_entry string_eq m.entries k n) ≡ map (λ (e : String Global × Block). e.1) m.entries ++ n ∷ []
block_added m k n new = ap (map (λ (e : String Global × Block). e.1)) (insert_entry-new string_eq m k n new) ∙ map-append (λ (e : String Global × Block). e.1) m.entries ((k, n) ∷ [])

-- the numbers go on with one more block
pub numbered-last : (n : ℕ) (bs : List Block) (b : Block) → AreNumberedFrom n bs → b.first ≡ n + sum_by (λ (c : Block). c.count) bs → b.count < 2 ^ 64 → AreNumberedFrom n (bs ++ b ∷ [])
numbered-last n [] b numbered next small = (omega (arith, next), small, tt)
numbered-last n (c ∷ bs) b numbered next small =
    (numbered.0, numbered.1, numbered-last (n + c.count) bs b numbered.2 (omega (arith, next, sum_by-cons (λ (d : Block). d.count) c bs)) small)

-- the members of groups that are read one by one
pub total_of : {V : Type 0} (group : V → Group) (vs : List V) (gs : List Group) → map group vs ≡ gs → sum_by (λ (g : Group). g.count) gs ≡ sum_by (λ v. (group v).count) vs
total_of group vs gs same = ap (sum_by (λ (g : Group). g.count)) (sym same) ∙ fold-map (λ (n : ℕ) (g : Group). n + g.count) group 0 vs

-- the names of groups that may stand differ
pub apart_of : (v : Version) (gs : List Group) → breaks_names_in v gs ≡ false → any_two bytes_eq (map (λ (g : Group). g.name) gs) ≡ false
unfolding breaks_names_in
apart_of v gs fine = (or_parts (list_any (bad v) gs) (any_two bytes_eq (map (λ (g : Group). g.name) gs)) fine).1

-- before version 4 names have one form
pub names_before : (gs : List Group) → breaks_names_in Three gs ≡ breaks_names gs
unfolding breaks_names_in breaks_names
names_before gs = refl

-- a scenario is its fields
pub same_setup : (s : Setup) (version : Version) (seed end : ℕ) (swim : Swim) (suspicion : Suspicion) (lifeguard : Lifeguard) (link : Link) (groups : List Group) (paths : List Path) (slows : List Slow) (crashes : List Crash) (leaves : List Leave) (cuts : List Cut) (gossip : Option Gossip) (stream : StreamTimes) (pauses : List Pause) (restarts : List Restart) (blocks : List Pause) (queue : Option Queue) (dial : DialTimes) (serf : Option Serf)
    → version ≡ s.version → seed ≡ s.seed → end ≡ s.end → swim ≡ s.swim → suspicion ≡ s.suspicion → lifeguard ≡ s.lifeguard → link ≡ s.link → groups ≡ s.groups → paths ≡ s.paths → slows ≡ s.slows → crashes ≡ s.crashes → leaves ≡ s.leaves → cuts ≡ s.cuts
    → gossip ≡ s.gossip → stream ≡ s.stream → pauses ≡ s.pauses → restarts ≡ s.restarts → blocks ≡ s.blocks → queue ≡ s.queue → dial ≡ s.dial → serf ≡ s.serf
    → record { version = version; seed = seed; end = end; swim = swim; suspicion = suspicion; lifeguard = lifeguard; link = link; groups = groups; paths = paths; slows = slows; crashes = crashes; leaves = leaves; cuts = cuts; gossip = gossip; stream = stream; pauses = pauses; restarts = restarts; blocks = blocks; queue = queue; dial = dial; serf = serf } ≡ s
same_setup s version seed end swim suspicion lifeguard link groups paths slows crashes leaves cuts gossip stream pauses restarts blocks queue dial serf v a b c d e f g h i j k l m n o p q r t u = rw (v, a, b, c, d, e, f, g, h, i, j, k, l, m, n, o, p, q, r, t, u)
