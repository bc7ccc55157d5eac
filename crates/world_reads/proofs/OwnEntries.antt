-- What a metadata server alone enters and sends stands in its history, at its place in the journal.
use Rattle.std.proofs.Common.{◌≡◌, ℕ, Bool, true, false, List, [], ◌∷◌, ◌++◌, Option, refl, sym, ap, subst, ◌∙◌}
use Rattle.std.specs.List.{AllByRecursion}
use Rattle.cluster_model.specs.declared.ids.NodeId.{NodeId}
use Rattle.cluster_model.specs.declared.ids.NodeId.TheVariants.{Mds, Server, Client}
use Rattle.cluster_model.specs.declared.ids.FileId.{FileId}
use Rattle.cluster_model.specs.declared.ids.MirrorId.{MirrorId}
use Rattle.cluster_model.specs.declared.entry.Entry.{Entry}
use Rattle.cluster_model.specs.declared.entry.Entry.TheVariants as entry
use Rattle.cluster_laws.specs.FenceLaw.{live_by, live_after}
use Rattle.world_rule.specs.ClusterWorlds.{ClusterState}
use Rattle.mds_rule.specs.Spelled.{spelled_send}
use Rattle.mds_walk.specs.MdsRuns.{MdsInput, MdsEvent, Hears, IsTimedOut, Ticks, RecallsFile, Resilvers}
use Rattle.mds_histories.specs.MdsHistory.{MdsItem, Comes, Enters, Sends}
use Rattle.mds_histories.specs.MdsHistory as of_mds
use Rattle.node_histories.specs.Weaves.{ItemShown, IsUnseen, IsEntry, WeaveStep, Passes, Unseen, Seen, entries_in, items_in, IsSendingOf, IsShownAs, AreWoven, StandsInWeave}
use Rattle.node_histories.specs.NodeHistories.{input_shown, mds_shown, is_client_entry, is_server_entry, is_world_entry, Origin, EnteredByClient, EnteredByMds, EnteredByServer, EnteredByWorld, SentByClient, SentByMds, SentByServer, IsToldByNodes}
use Rattle.node_histories.proofs.WeaveLemmas.{entries_join, IsSeenAt, seen_at}
use Rattle.read_runs.specs.ReadRuns as runs
use Rattle.ff_laws.specs.ReadLaw as law
use Rattle.world_reads.proofs.Steps.{all_by_places, SamePlace, same_place}

-- what no other node enters, of those kinds that the read law is about
abbrev pub is_own : Entry → Bool
is_own (entry.Packet number Mds to bytes) = true
is_own (entry.Swapped file old new) = true
is_own (entry.Free file live) = true
is_own (entry.Left file mirror cause) = true
is_own (entry.Failed mirror xid) = true
is_own (entry.ReadAnswer file status bytes) = true
is_own e = false

pub no_true : {A : Type 0} → false ≡ true → A
no_true is = absurd cc

-- ---- no other node's

not_client : (e : Entry) → is_own e ≡ true → is_client_entry e ≡ true → ⊥
not_client (entry.Packet number from to bytes) own is = absurd cc
not_client (entry.Swapped file old new) own is = absurd cc
not_client (entry.Free file live) own is = absurd cc
not_client (entry.Left file mirror cause) own is = absurd cc
not_client (entry.Failed mirror xid) own is = absurd cc
not_client (entry.ReadAnswer file status bytes) own is = absurd cc
not_client e own is = no_true own

not_server : (e : Entry) → is_own e ≡ true → is_server_entry e ≡ true → ⊥
not_server (entry.Packet number from to bytes) own is = absurd cc
not_server (entry.Swapped file old new) own is = absurd cc
not_server (entry.Free file live) own is = absurd cc
not_server (entry.Left file mirror cause) own is = absurd cc
not_server (entry.Failed mirror xid) own is = absurd cc
not_server (entry.ReadAnswer file status bytes) own is = absurd cc
not_server e own is = no_true own

not_world : (e : Entry) → is_own e ≡ true → is_world_entry e ≡ true → ⊥
not_world (entry.Packet number from to bytes) own is = absurd cc
not_world (entry.Swapped file old new) own is = absurd cc
not_world (entry.Free file live) own is = absurd cc
not_world (entry.Left file mirror cause) own is = absurd cc
not_world (entry.Failed mirror xid) own is = absurd cc
not_world (entry.ReadAnswer file status bytes) own is = absurd cc
not_world e own is = no_true own

-- ---- each step of a weave

-- what an item's entry is
abbrev pub IsSaid : MdsItem → Entry → Type 0
IsSaid (Comes event) (entry.Delivered number) = Unit {0}
IsSaid (Comes event) e = ⊥
IsSaid (Enters x) e = e ≡ x
IsSaid (Sends send) e = IsSendingOf Mds (spelled_send send).0 (spelled_send send).1 e

-- an entry of others is none of its own; an item without an entry only came
abbrev pub IsToldStep : WeaveStep MdsItem → Type 0
IsToldStep (Passes e) = is_own e ≡ false
IsToldStep (Unseen item) = mds_shown item ≡ IsUnseen
IsToldStep (Seen item e) = IsSaid item e

said_coming : (journal : List Entry) (event : MdsEvent) (input : MdsInput) (e : Entry) → IsShownAs Mds journal (input_shown input) e → IsSaid (Comes event) e
said_coming journal event (Hears from bytes) (entry.Delivered number) is = tt
said_coming journal event (Hears from bytes) e is = absurd is
said_coming journal event (IsTimedOut to which) e is = absurd is
said_coming journal event Ticks e is = absurd is
said_coming journal event (RecallsFile file) e is = absurd is
said_coming journal event (Resilvers file) e is = absurd is

said_of : (journal : List Entry) (item : MdsItem) (e : Entry) → IsShownAs Mds journal (mds_shown item) e → IsSaid item e
said_of journal (Comes event) e is = said_coming journal event event.input e is
said_of journal (Enters x) e is = is
said_of journal (Sends send) e is = is

pub unseen_at : {I : Type 0} (shown : I → ItemShown) (begun : List Entry) (a b : List (WeaveStep I)) (item : I) → AreWoven shown Mds begun (a ++ Unseen item ∷ b) → shown item ≡ IsUnseen
unseen_at shown begun [] b item so = so.0
unseen_at shown begun (Passes e ∷ a) b item so = unseen_at shown (begun ++ e ∷ []) a b item so
unseen_at shown begun (Unseen x ∷ a) b item so = unseen_at shown begun a b item so.1
unseen_at shown begun (Seen x e ∷ a) b item so = unseen_at shown (begun ++ e ∷ []) a b item so.1

module _ (w : ClusterState) (t : IsToldByNodes w) where
  -- where a step's entry stands in the journal
  pub journal_at : (a b : List (WeaveStep MdsItem)) → t.mds.steps ≡ a ++ b → w.journal ≡ entries_in a ++ entries_in b
  journal_at a b is = sym t.mds_is.told ∙ (ap (λ (l : List (WeaveStep MdsItem)). entries_in l) is ∙ entries_join a b)

  own_passed : (a b : List (WeaveStep MdsItem)) (e : Entry) → t.mds.steps ≡ a ++ Passes e ∷ b → is_own e ≡ true → ⊥
  own_passed a b e is own = by_origin (t.origins (entries_in a) (entries_in b) e (journal_at a (Passes e ∷ b) is))
    where
      passes_not : (item : MdsItem) → Passes e ≡ Seen item e → ⊥
      passes_not item same = absurd cc

      seen_there : (item : MdsItem) → StandsInWeave [] t.mds.steps (entries_in a) item e → ⊥
      seen_there item s =
          let same : SamePlace a b s.earlier s.later (Passes e) (Seen item e) = same_place a b s.earlier s.later (Passes e) (Seen item e) (sym is ∙ s.split) s.place tt tt in
          passes_not item same.step

      by_origin : Origin t.stories t.mds (entries_in a) e → ⊥
      by_origin (EnteredByClient n l life kind stands) = not_client e own kind
      by_origin (EnteredByMds kind stands) = seen_there (Enters e) stands
      by_origin (EnteredByServer kind) = not_server e own kind
      by_origin (EnteredByWorld kind) = not_world e own kind
      by_origin (SentByClient n number to bytes l send same life stands) = no_true (subst (λ (x : Entry). is_own x ≡ true) same own)
      by_origin (SentByMds number to bytes send same stands) = seen_there (Sends send) stands
      by_origin (SentByServer n number to bytes same answers) = no_true (subst (λ (x : Entry). is_own x ≡ true) same own)

  told_at : (a b : List (WeaveStep MdsItem)) (s : WeaveStep MdsItem) → t.mds.steps ≡ a ++ s ∷ b → IsToldStep s
  told_at a b (Passes e) is = by_kind (is_own e) refl
    where
      by_kind : (k : Bool) → is_own e ≡ k → is_own e ≡ false
      by_kind true own = absurd (own_passed a b e is own)
      by_kind false own = own
  told_at a b (Unseen item) is = unseen_at mds_shown [] a b item (subst (λ (l : List (WeaveStep MdsItem)). AreWoven mds_shown Mds [] l) is t.mds_is.woven)
  told_at a b (Seen item e) is =
      let s : IsSeenAt mds_shown Mds [] a item e b = seen_at mds_shown Mds [] a item e b (subst (λ (l : List (WeaveStep MdsItem)). AreWoven mds_shown Mds [] l) is t.mds_is.woven) in
      said_of (entries_in a) item e s.is

  pub all_told : AllByRecursion IsToldStep t.mds.steps
  all_told = all_by_places IsToldStep t.mds.steps (λ before s behind is. told_at before behind s is)

-- ---- live lists

other_live : (f : FileId) (x : Option (List MirrorId)) (e : Entry) → is_own e ≡ false → live_after f x e ≡ x
other_live f x (entry.Swapped file old new) other = absurd cc
other_live f x (entry.Free file live) other = absurd cc
other_live f x (entry.Left file mirror cause) other = absurd cc
other_live f x e other = refl

coming_live : (f : FileId) (x : Option (List MirrorId)) (event : MdsEvent) (e : Entry) → IsSaid (Comes event) e → live_after f x e ≡ x
coming_live f x event (entry.Delivered number) is = refl
coming_live f x event e is = absurd is

sending_live : (f : FileId) (x : Option (List MirrorId)) (to : NodeId) (bytes : List ℕ) (e : Entry) → IsSendingOf Mds to bytes e → live_after f x e ≡ x
sending_live f x to bytes (entry.Packet number from at sent) is = refl
sending_live f x to bytes e is = absurd is

-- the live list of a file is that of its own entries
pub live_told : (f : FileId) (x : Option (List MirrorId)) (steps : List (WeaveStep MdsItem)) → AllByRecursion IsToldStep steps → live_by f x (entries_in steps) ≡ live_by f x (of_mds.entries_in (items_in steps))
live_told f x [] told = refl
live_told f x (Passes e ∷ steps) told = ap (λ (y : Option (List MirrorId)). live_by f y (entries_in steps)) (other_live f x e told.0) ∙ live_told f x steps told.1
live_told f x (Unseen (Comes event) ∷ steps) told = live_told f x steps told.1
live_told f x (Unseen (Enters e) ∷ steps) told = absurd (unseen_not e told.0)
  where
    unseen_not : (y : Entry) → IsEntry y ≡ IsUnseen → ⊥
    unseen_not y same = absurd cc
live_told f x (Unseen (Sends send) ∷ steps) told = live_told f x steps told.1
live_told f x (Seen (Comes event) e ∷ steps) told = ap (λ (y : Option (List MirrorId)). live_by f y (entries_in steps)) (coming_live f x event e told.0) ∙ live_told f x steps told.1
live_told f x (Seen (Enters y) e ∷ steps) told = ap (λ (z : Entry). live_by f (live_after f x z) (entries_in steps)) told.0 ∙ live_told f (live_after f x y) steps told.1
live_told f x (Seen (Sends send) e ∷ steps) told =
    ap (λ (y : Option (List MirrorId)). live_by f y (entries_in steps)) (sending_live f x (spelled_send send).0 (spelled_send send).1 e told.0) ∙ live_told f x steps told.1

-- ---- swaps

other_swap : (f : FileId) (e : Entry) → is_own e ≡ false → law.IsNoSwapOf f e
other_swap f (entry.Swapped file old new) other = absurd cc
other_swap f e other = tt

coming_swap : (f : FileId) (event : MdsEvent) (e : Entry) → IsSaid (Comes event) e → law.IsNoSwapOf f e
coming_swap f event (entry.Delivered number) is = tt
coming_swap f event e is = absurd is

sending_swap : (f : FileId) (to : NodeId) (bytes : List ℕ) (e : Entry) → IsSendingOf Mds to bytes e → law.IsNoSwapOf f e
sending_swap f to bytes (entry.Packet number from at sent) is = tt
sending_swap f to bytes e is = absurd is

entered_swap : (f : FileId) (e : Entry) → runs.EntersNoSwapOf f (Enters e) → law.IsNoSwapOf f e
entered_swap f (entry.Swapped other old new) none = none
entered_swap f e none = tt

pub no_swaps : (f : FileId) (steps : List (WeaveStep MdsItem)) → AllByRecursion IsToldStep steps → AllByRecursion (runs.EntersNoSwapOf f) (items_in steps) → AllByRecursion (law.IsNoSwapOf f) (entries_in steps)
no_swaps f [] told none = tt
no_swaps f (Passes e ∷ steps) told none = (other_swap f e told.0, no_swaps f steps told.1 none)
no_swaps f (Unseen item ∷ steps) told none = no_swaps f steps told.1 none.1
no_swaps f (Seen (Comes event) e ∷ steps) told none = (coming_swap f event e told.0, no_swaps f steps told.1 none.1)
no_swaps f (Seen (Enters y) e ∷ steps) told none = (subst (law.IsNoSwapOf f) (sym told.0) (entered_swap f y none.0), no_swaps f steps told.1 none.1)
no_swaps f (Seen (Sends send) e ∷ steps) told none = (sending_swap f (spelled_send send).0 (spelled_send send).1 e told.0, no_swaps f steps told.1 none.1)

-- ---- replies

other_reply : (e : Entry) → is_own e ≡ false → law.IsNoReplyToClient e
other_reply (entry.Packet number Mds (Client client) bytes) other = absurd cc
other_reply e other = tt

-- where no item stands, nothing is replied
pub no_replies : (steps : List (WeaveStep MdsItem)) → items_in steps ≡ [] → AllByRecursion IsToldStep steps → AllByRecursion law.IsNoReplyToClient (entries_in steps)
no_replies [] none told = tt
no_replies (Passes e ∷ steps) none told = (other_reply e told.0, no_replies steps none told.1)
no_replies (Unseen item ∷ steps) none told = absurd cc
no_replies (Seen item e ∷ steps) none told = absurd cc
