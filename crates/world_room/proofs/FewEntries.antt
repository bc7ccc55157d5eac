-- What a journal of few entries says of its nodes: few records came to its metadata server, which entered few entries, and its clients started
-- few times.
use Rattle.std.proofs.Common.{◌≡◌, ◌≤◌, ◌<◌, ◌^◌, ℕ, ◌+◌, List, [], ◌∷◌, ◌++◌, length, refl, sym, ap, subst, ◌∙◌, arith, length-append}
use Rattle.std.specs.Prelude.{map}
use Rattle.std.specs.List.{AllByRecursion}
use Rattle.cluster_model.specs.declared.entry.Entry.{Entry}
use Rattle.cluster_model.specs.declared.entry.Entry.TheVariants as entry
use Rattle.world_rule.specs.ClusterWorlds.{ClusterState}
use Rattle.mds_rule.specs.MdsStates.{MdsSend, MdsValue, MdsStep, new_mds}
use Rattle.mds_walk.specs.MdsRuns.{MdsInput, MdsEvent, Hears as FromNode, IsTimedOut, Ticks, RecallsFile, Resilvers, after_event, mds_run}
use Rattle.mds_histories.specs.MdsHistory.{MdsItem, Comes, Enters, Sends, mds_history}
use Rattle.mds_histories.specs.MdsHistory as of_mds
use Rattle.mds_histories.proofs.Histories.{entries_of_run}
use Rattle.mds_room.specs.Room.{IsLiveInRange, heard_with, records_heard, ShortRunsHaveRoom, SetupStays}
use Rattle.node_histories.specs.Weaves.{IsUnseen, Passes, Unseen, Seen, entries_in, items_in}
use Rattle.node_histories.specs.ClientLives.{Life, AreLives, journal_of}
use Rattle.node_histories.specs.NodeHistories.{input_shown, mds_shown, HasLife, IsToldByNodes}
use Rattle.world_moves.specs.WorldMoves.{IsRunOf}
use Rattle.world_journal.specs.Journal.{IsEntryInRange}
use Rattle.world_reads.proofs.OwnEntries.{IsToldStep, all_told}
use Rattle.world_reads.proofs.MdsPlaces.{Steps}
use Rattle.world_reads.proofs.Lives.{LivesOf, lives_of}
use Rattle.world_layouts.specs.WorldLayouts.{IsWorldRoomy}
use Rattle.world_room.specs.WorldRoom.{IsWorldSmall}

-- ---- records that came

abbrev coming : MdsItem → ℕ
coming (Comes event) = heard_with event.input
coming (Enters e) = 0
coming (Sends send) = 0

abbrev comings : List MdsItem → ℕ
comings [] = 0
comings (item ∷ items) = coming item + comings items

comings_join : (a b : List MdsItem) → comings (a ++ b) ≡ comings a + comings b
comings_join [] b = omega arith
comings_join (item ∷ a) b = let rest = comings_join a b in omega (arith, rest)

none_entered : (es : List Entry) → comings (map Enters es) ≡ 0
none_entered [] = refl
none_entered (e ∷ es) = let rest = none_entered es in omega (arith, rest)

none_sent : (ss : List MdsSend) → comings (map Sends ss) ≡ 0
none_sent [] = refl
none_sent (s ∷ ss) = let rest = none_sent ss in omega (arith, rest)

heard_in : (m : MdsValue) (events : List MdsEvent) → comings (mds_history m events) ≡ records_heard events
heard_in m [] = refl
heard_in m (e ∷ events) =
    let s : MdsStep = after_event e m in
    let join = comings_join (Comes e ∷ (map Enters s.entries ++ map Sends s.sends)) (mds_history s.mds events) in
    let parts = comings_join (map Enters s.entries) (map Sends s.sends) in
    let first = none_entered s.entries in
    let second = none_sent s.sends in
    let rest = heard_in s.mds events in
    omega (arith, join, parts, first, second, rest)

unseen_brings : (input : MdsInput) → input_shown input ≡ IsUnseen → heard_with input ≡ 0
unseen_brings (FromNode from bytes) is = absurd cc
unseen_brings (IsTimedOut to which) is = refl
unseen_brings Ticks is = refl
unseen_brings (RecallsFile file) is = refl
unseen_brings (Resilvers file) is = refl

one_brought : (input : MdsInput) → heard_with input ≤ 1
one_brought (FromNode from bytes) = omega arith
one_brought (IsTimedOut to which) = omega arith
one_brought Ticks = omega arith
one_brought (RecallsFile file) = omega arith
one_brought (Resilvers file) = omega arith

-- each came with an entry
few_comings : (steps : Steps) → AllByRecursion IsToldStep steps → comings (items_in steps) ≤ length (entries_in steps)
few_comings [] told = omega arith
few_comings (Passes e ∷ steps) told = let rest = few_comings steps told.1 in omega (arith, rest)
few_comings (Unseen (Comes event) ∷ steps) told = let rest = few_comings steps told.1 in let none = unseen_brings event.input told.0 in omega (arith, rest, none)
few_comings (Unseen (Enters x) ∷ steps) told = let rest = few_comings steps told.1 in omega (arith, rest)
few_comings (Unseen (Sends send) ∷ steps) told = let rest = few_comings steps told.1 in omega (arith, rest)
few_comings (Seen (Comes event) e ∷ steps) told = let rest = few_comings steps told.1 in let one = one_brought event.input in omega (arith, rest, one)
few_comings (Seen (Enters x) e ∷ steps) told = let rest = few_comings steps told.1 in omega (arith, rest)
few_comings (Seen (Sends send) e ∷ steps) told = let rest = few_comings steps told.1 in omega (arith, rest)

-- ---- entries of its own

few_entries : (steps : Steps) → AllByRecursion IsToldStep steps → length (of_mds.entries_in (items_in steps)) ≤ length (entries_in steps)
few_entries [] told = omega arith
few_entries (Passes e ∷ steps) told = let rest = few_entries steps told.1 in omega (arith, rest)
few_entries (Unseen (Comes event) ∷ steps) told = few_entries steps told.1
few_entries (Unseen (Enters x) ∷ steps) told = absurd (entered_seen x told.0)
  where
    entered_seen : (y : Entry) → mds_shown (Enters y) ≡ IsUnseen → ⊥
    entered_seen y is = absurd cc
few_entries (Unseen (Sends send) ∷ steps) told = few_entries steps told.1
few_entries (Seen (Comes event) e ∷ steps) told = let rest = few_entries steps told.1 in omega (arith, rest)
few_entries (Seen (Enters x) e ∷ steps) told = let rest = few_entries steps told.1 in omega (arith, rest)
few_entries (Seen (Sends send) e ∷ steps) told = let rest = few_entries steps told.1 in omega (arith, rest)

live_fits : (e : Entry) → IsEntryInRange e → IsLiveInRange e
live_fits (entry.Free file live) fits = fits
live_fits (entry.Swapped file old new) fits = fits
live_fits e fits = tt

own_fit : (steps : Steps) → AllByRecursion IsToldStep steps → AllByRecursion IsEntryInRange (entries_in steps) → AllByRecursion IsLiveInRange (of_mds.entries_in (items_in steps))
own_fit [] told range = tt
own_fit (Passes e ∷ steps) told range = own_fit steps told.1 range.1
own_fit (Unseen (Comes event) ∷ steps) told range = own_fit steps told.1 range
own_fit (Unseen (Enters x) ∷ steps) told range = absurd (entered_seen x told.0)
  where
    entered_seen : (y : Entry) → mds_shown (Enters y) ≡ IsUnseen → ⊥
    entered_seen y is = absurd cc
own_fit (Unseen (Sends send) ∷ steps) told range = own_fit steps told.1 range
own_fit (Seen (Comes event) e ∷ steps) told range = own_fit steps told.1 range.1
own_fit (Seen (Enters x) e ∷ steps) told range = (subst IsLiveInRange told.0 (live_fits e range.0), own_fit steps told.1 range.1)
own_fit (Seen (Sends send) e ∷ steps) told range = own_fit steps told.1 range.1

-- ---- starts of a client

few_starts : (n : ℕ) (l : Life) (older : List Life) → AreLives n l older → length older ≤ length l.begun
few_starts n l [] lives = omega arith
few_starts n l (old ∷ older) lives =
    let rest : length older ≤ length old.begun = few_starts n old older lives.2 in
    let begun : length l.begun ≡ length (journal_of old ++ entry.Rebooted n ∷ []) = ap (λ (j : List Entry). length j) lives.1.begins in
    let one = length-append (journal_of old) (entry.Rebooted n ∷ []) in
    let front = length-append old.begun (entries_in old.steps) in
    omega (arith, rest, begun, one, front)

-- ---- a world

module _ (w : ClusterState) (t : IsToldByNodes w) where
  starts_few : length w.journal ≤ 400000 → (n : ℕ) (l : Life) (its : HasLife t.stories n l) → length its.story.older + 1 < 2 ^ 64
  starts_few few n l its =
      let of : LivesOf t.stories w.machines.clients w.journal n its.story = lives_of t.stories w.machines.clients w.verifiers w.journal n its.story t.clients t.asked its.there in
      let older : length its.story.older ≤ length its.story.newest.begun = few_starts n its.story.newest its.story.older of.lives in
      let whole : length (journal_of its.story.newest) ≡ length w.journal = ap (λ (j : List Entry). length j) of.told in
      let front = length-append its.story.newest.begun (entries_in its.story.newest.steps) in
      omega (arith, few, older, whole, front)

  pub roomy : ShortRunsHaveRoom → SetupStays → (boots : List ℕ) → IsRunOf boots w → IsWorldSmall w → IsWorldRoomy t
  roomy short stays boots run small =
      let m : MdsValue = new_mds t.mds.servers t.mds.mirrors in
      let told : AllByRecursion IsToldStep t.mds.steps = all_told w t in
      let journal : length (entries_in t.mds.steps) ≡ length w.journal = ap (λ (j : List Entry). length j) t.mds_is.told in
      let limit : length w.journal ≤ 400000 = small.few_entries in
      let heard : records_heard t.mds.events ≤ length (entries_in t.mds.steps) =
      subst (λ (k : ℕ). k ≤ length (entries_in t.mds.steps)) (ap comings (sym t.mds_is.history) ∙ heard_in m t.mds.events) (few_comings t.mds.steps told) in
      let own : of_mds.entries_in (items_in t.mds.steps) ≡ (mds_run t.mds.servers t.mds.mirrors t.mds.events).entries = ap of_mds.entries_in (sym t.mds_is.history) ∙ entries_of_run m t.mds.events in
      let entered : length (mds_run t.mds.servers t.mds.mirrors t.mds.events).entries ≤ length (entries_in t.mds.steps) = subst (λ (l : List Entry). length l ≤ length (entries_in t.mds.steps)) own (few_entries t.mds.steps told) in
      let range : AllByRecursion IsLiveInRange (mds_run t.mds.servers t.mds.mirrors t.mds.events).entries =
      subst (λ (l : List Entry). AllByRecursion IsLiveInRange l) own (own_fit t.mds.steps told (subst (λ (l : List Entry). AllByRecursion IsEntryInRange l) (sym t.mds_is.told) small.range)) in
      let setup = stays t.mds.servers t.mds.mirrors t.mds.events in
      let mirrors : t.mds.mirrors ≡ w.machines.mds.mirrors = sym setup.1 ∙ ap (λ (x : MdsValue). x.mirrors) t.mds_is.mds in
      let few : w.machines.mds.mirrors ≤ 4 = run.mds.setup.few in
      let servers : length t.mds.servers ≡ length w.machines.mds.servers = ap (λ l. length l) (sym setup.0) ∙ ap (λ (x : MdsValue). length x.servers) t.mds_is.mds in
      let same : length w.machines.mds.servers ≡ length run.machine.servers = run.mds.setup.same in
      let theirs : length w.machines.servers ≡ length run.machine.servers = ap (λ l. length l) run.servers in
      let many : length w.machines.servers < 2 ^ 32 = small.few_servers in
      record {
        few_clients = small.few_clients;
        few_mirrors = omega (arith, mirrors, few);
        range = small.range;
        mds = short t.mds.servers t.mds.mirrors t.mds.events (omega (arith, mirrors, few)) (omega (arith, servers, same, theirs, many)) (omega (arith, heard, journal, limit)) (omega (arith, entered, journal, limit)) range;
        starts = starts_few limit;
      }
