-- What a client enters under a uid: the life that does, the layout under which it does, and what stands against it once the layout was given back.
use Rattle.std.proofs.Common.{◌≡◌, ℕ, true, false, List, [], ◌∷◌, ◌++◌, Some, refl, sym, ap, subst, ◌∙◌, append_assoc}
use Rattle.std.proofs.lemmas.List.{append_cancel_right}
use Rattle.cluster_model.specs.declared.ids.NodeId.{NodeId}
use Rattle.cluster_model.specs.declared.ids.NodeId.TheVariants.{Mds, Server, Client}
use Rattle.cluster_model.specs.declared.ids.FileId.{FileId}
use Rattle.cluster_model.specs.declared.ids.Cred.{Cred}
use Rattle.cluster_model.specs.declared.phase.EndCause.{EndCause}
use Rattle.cluster_model.specs.declared.entry.Entry.{Entry}
use Rattle.cluster_model.specs.declared.entry.Entry.TheVariants.{Packet, Granted, Sent, Rogue, Told, Ended}
use Rattle.cluster_model.specs.Phases.{ids_of}
use Rattle.cluster_laws.specs.FenceLaw.{live_in}
use Rattle.world_rule.specs.ClusterWorlds.{ClusterState}
use Rattle.nfs4_types.specs.declared.ids.SessionId.{SessionId}
use Rattle.nfs4_types.specs.declared.stateid.Stateid.{Stateid}
use Rattle.client_file_calls.specs.declared.grant.LayoutGrant.{LayoutGrant}
use Rattle.client_file_calls.specs.declared.layout_return.FailedMirror.{FailedMirror}
use Rattle.client_mds_calls.specs.MdsCalls.{OnSlot}
use Rattle.client_mds_calls.specs.MdsCalls as slot
use Rattle.client_state.specs.ClientSends.{CallsMds}
use Rattle.mds_histories.specs.MdsHistory as of_mds
use Rattle.client_laws.specs.ClientHistory.{HistoryItem, Enters, Sends, HasItem, client_history}
use Rattle.client_laws.specs.ClientRunLaws.{WasGranted, AreGrantedOnce, IsSilent, WasReturned}
use Rattle.client_laws.proofs.Later.{granted_later}
use Rattle.node_histories.specs.Weaves.{Seen, items_in, StandsInWeave}
use Rattle.node_histories.specs.ClientLives.{Life, start_of}
use Rattle.node_histories.specs.NodeHistories.{HasLife, is_client_entry, is_mds_entry, is_server_entry, is_world_entry, Origin, EnteredByClient, EnteredByMds, EnteredByServer, EnteredByWorld, SentByClient, SentByMds, SentByServer, IsToldByNodes}
use Rattle.node_histories.proofs.WeaveLemmas.{items_join}
use Rattle.holder_parts.specs.HolderParts.{WasBegun}
use Rattle.world_layouts.specs.WorldLayouts.{journal_at, WasBegunFor, WasReturnedBy}
use Rattle.world_holders.proofs.LowerLaws.{HasLaws}
use Rattle.client_sessions.specs.EnteredFiles.{HasGrantFor}
use Rattle.world_holders.proofs.LifePlaces.{LifeSteps, has_middle, StandsBefore, stands_before, life_of}
use Rattle.world_holders.proofs.JournalGrants.{grant_to, IsOneGrant, one_grant}

-- ---- whose an entry is

-- an entry of a life, at its place
pub record ClientEntry {w : ClusterState} (t : IsToldByNodes w) (past : List Entry) (e : Entry) : Type 0 where
  pub n : ℕ
  pub life : Life
  pub its : HasLife t.stories n life
  pub earlier : LifeSteps
  pub later : LifeSteps
  pub split : life.steps ≡ earlier ++ Seen (Enters e) e ∷ later
  pub place : past ≡ journal_at life earlier

pub data IsWhose {w : ClusterState} (t : IsToldByNodes w) (past : List Entry) (e : Entry) : Type 0 where
  OfClient : ClientEntry t past e → IsWhose t past e
  OfMds : StandsInWeave [] t.mds.steps past (of_mds.Enters e) e → IsWhose t past e

two_kinds : {A : Type 0} → false ≡ true → A
two_kinds is = absurd cc

module _ (w : ClusterState) (t : IsToldByNodes w) where
  by_origin : (past : List Entry) (e : Entry) → is_server_entry e ≡ false → is_world_entry e ≡ false → ((number : ℕ) (from to : NodeId) (bytes : List ℕ) → e ≡ Packet number from to bytes → ⊥) → Origin t.stories t.mds past e → IsWhose t past e
  by_origin past e server world packet (EnteredByClient n l its kind stands) = OfClient (record { n = n; life = l; its = its; earlier = stands.earlier; later = stands.later; split = stands.split; place = stands.place })
  by_origin past e server world packet (EnteredByMds kind stands) = OfMds stands
  by_origin past e server world packet (EnteredByServer kind) = two_kinds (sym server ∙ kind)
  by_origin past e server world packet (EnteredByWorld kind) = two_kinds (sym world ∙ kind)
  by_origin past e server world packet (SentByClient n number to bytes l send same its stands) = absurd (packet number (Client n) to bytes same)
  by_origin past e server world packet (SentByMds number to bytes send same stands) = absurd (packet number Mds to bytes same)
  by_origin past e server world packet (SentByServer n number to bytes same answers) = absurd (packet number (Server n) to bytes same)

  pub whose_sent : (past behind : List Entry) (f : FileId) (cred : Cred) (at : ℕ) (bytes : List ℕ) → w.journal ≡ past ++ Sent f cred at bytes ∷ behind → IsWhose t past (Sent f cred at bytes)
  whose_sent past behind f cred at bytes is = by_origin past (Sent f cred at bytes) refl refl (λ number from to sent same. absurd cc) (t.origins past behind (Sent f cred at bytes) is)

  -- a write that strays is a client's, and an end the metadata server's
  clients_only : (past : List Entry) (e : Entry) → is_mds_entry e ≡ false → is_server_entry e ≡ false → is_world_entry e ≡ false → ((number : ℕ) (from to : NodeId) (bytes : List ℕ) → e ≡ Packet number from to bytes → ⊥) → Origin t.stories t.mds past e → ClientEntry t past e
  clients_only past e mds server world packet (EnteredByClient n l its kind stands) = record { n = n; life = l; its = its; earlier = stands.earlier; later = stands.later; split = stands.split; place = stands.place }
  clients_only past e mds server world packet (EnteredByMds kind stands) = two_kinds (sym mds ∙ kind)
  clients_only past e mds server world packet (EnteredByServer kind) = two_kinds (sym server ∙ kind)
  clients_only past e mds server world packet (EnteredByWorld kind) = two_kinds (sym world ∙ kind)
  clients_only past e mds server world packet (SentByClient n number to bytes l send same its stands) = absurd (packet number (Client n) to bytes same)
  clients_only past e mds server world packet (SentByMds number to bytes send same stands) = absurd (packet number Mds to bytes same)
  clients_only past e mds server world packet (SentByServer n number to bytes same answers) = absurd (packet number (Server n) to bytes same)

  pub whose_rogue : (past behind : List Entry) (f : FileId) (cred : Cred) (at : ℕ) (bytes : List ℕ) → w.journal ≡ past ++ Rogue f cred at bytes ∷ behind → ClientEntry t past (Rogue f cred at bytes)
  whose_rogue past behind f cred at bytes is = clients_only past (Rogue f cred at bytes) refl refl refl (λ number from to sent same. absurd cc) (t.origins past behind (Rogue f cred at bytes) is)

  ends_by_mds : (past : List Entry) (e : Entry) → is_client_entry e ≡ false → is_server_entry e ≡ false → is_world_entry e ≡ false → ((number : ℕ) (from to : NodeId) (bytes : List ℕ) → e ≡ Packet number from to bytes → ⊥) → Origin t.stories t.mds past e
      → StandsInWeave [] t.mds.steps past (of_mds.Enters e) e
  ends_by_mds past e client server world packet (EnteredByClient n l its kind stands) = two_kinds (sym client ∙ kind)
  ends_by_mds past e client server world packet (EnteredByMds kind stands) = stands
  ends_by_mds past e client server world packet (EnteredByServer kind) = two_kinds (sym server ∙ kind)
  ends_by_mds past e client server world packet (EnteredByWorld kind) = two_kinds (sym world ∙ kind)
  ends_by_mds past e client server world packet (SentByClient n number to bytes l send same its stands) = absurd (packet number (Client n) to bytes same)
  ends_by_mds past e client server world packet (SentByMds number to bytes send same stands) = absurd (packet number Mds to bytes same)
  ends_by_mds past e client server world packet (SentByServer n number to bytes same answers) = absurd (packet number (Server n) to bytes same)

  pub ended_by_mds : (past behind : List Entry) (f : FileId) (cred : Cred) (cause : EndCause) → w.journal ≡ past ++ Ended f cred cause ∷ behind → StandsInWeave [] t.mds.steps past (of_mds.Enters (Ended f cred cause)) (Ended f cred cause)
  ended_by_mds past behind f cred cause is = ends_by_mds past (Ended f cred cause) refl refl refl (λ number from to sent same. absurd cc) (t.origins past behind (Ended f cred cause) is)

  pub whose_told : (past behind : List Entry) (f : FileId) (cred : Cred) (at : ℕ) (bytes : List ℕ) → w.journal ≡ past ++ Told f cred at bytes ∷ behind → IsWhose t past (Told f cred at bytes)
  whose_told past behind f cred at bytes is = by_origin past (Told f cred at bytes) refl refl (λ number from to sent same. absurd cc) (t.origins past behind (Told f cred at bytes) is)

-- ---- the layout under which it was entered

-- the period of a grant of a life
pub record ClientPeriod (journal : List Entry) (n : ℕ) (f : FileId) (uid : ℕ) (grant : LayoutGrant) : Type 0 where
  pub before : List Entry
  pub behind : List Entry
  pub split : journal ≡ before ++ grant_to f uid (Client n) ∷ behind
  pub live : live_in before f ≡ Some (ids_of grant.mirrors)

abbrev pub was_begun : (journal : List Entry) (n : ℕ) (f : FileId) (uid : ℕ) (grant : LayoutGrant) → ClientPeriod journal n f uid grant → WasBegun journal f uid
was_begun journal n f uid grant p = record { before = p.before; behind = p.behind; holder = Client n; split = p.split; mirrors = ids_of grant.mirrors; live = p.live }

once_before : (past more : List HistoryItem) → AreGrantedOnce (past ++ more) → AreGrantedOnce past
once_before past more once g k i j uid =
    let both : (g ≡ k) × (i.since ++ more ≡ j.since ++ more) = once g k (granted_later past more g i) (granted_later past more k j) uid in
    (both.0, append_cancel_right i.since j.since more both.1)

two_holders : {A : Type 0} (f g : FileId) (uid n : ℕ) → grant_to f uid (Client n) ≡ grant_to g uid Mds → A
two_holders f g uid n is = absurd cc

module _ (w : ClusterState) (t : IsToldByNodes w) (laws : HasLaws t) where
  pub items_at : (n : ℕ) (l : Life) → HasLife t.stories n l → (earlier later : LifeSteps) → l.steps ≡ earlier ++ later → client_history (start_of n l) l.inputs ≡ items_in earlier ++ items_in later
  items_at n l its earlier later split = (life_of w t laws.clients.numbered n l its).facts.is.history ∙ (ap (λ (s : LifeSteps). items_in s) split ∙ items_join earlier later)

  pub once_at : (n : ℕ) (l : Life) → HasLife t.stories n l → (past rest : List HistoryItem) → client_history (start_of n l) l.inputs ≡ past ++ rest → AreGrantedOnce past
  once_at n l its past rest is = once_before past rest (subst AreGrantedOnce is (laws.once n l its))

  -- what was granted by a moment was granted to the life
  pub granted_whole : (n : ℕ) (l : Life) → HasLife t.stories n l → (earlier later : LifeSteps) → l.steps ≡ earlier ++ later → (grant : LayoutGrant) → WasGranted (items_in earlier) grant → WasGranted (client_history (start_of n l) l.inputs) grant
  granted_whole n l its earlier later split grant granted =
      subst (λ (h : List HistoryItem). WasGranted h grant) (sym (items_at n l its earlier later split)) (granted_later (items_in earlier) (items_in later) grant granted)

  pub client_period : (n : ℕ) (l : Life) → HasLife t.stories n l → (earlier later : LifeSteps) → l.steps ≡ earlier ++ later → (f : FileId) (uid : ℕ) (h : HasGrantFor (items_in earlier) f uid) → ClientPeriod (journal_at l earlier) n f uid h.grant
  client_period n l its earlier later split f uid h =
      let b : WasBegunFor (journal_at l earlier) n h.granted.file.file h.grant = laws.granted n l earlier later h.grant its split h.granted in
      record {
        before = b.before;
        behind = b.behind;
        split =
            b.split
            ∙ (ap (λ (x : FileId). b.before ++ Granted x h.grant.uid (Client n) ∷ b.behind) h.its_file ∙ ap (λ (u : ℕ). b.before ++ grant_to f u (Client n) ∷ b.behind) h.its_uid);
        live = subst (λ (x : FileId). live_in b.before x ≡ Some (ids_of h.grant.mirrors)) h.its_file b.live;
      }

  -- a uid that was granted to a client is not the metadata server's own
  pub not_own : (past rest : List Entry) → w.journal ≡ past ++ rest → (n : ℕ) (f g : FileId) (uid : ℕ) (grant : LayoutGrant) → ClientPeriod past n f uid grant → (a b : List Entry) → w.journal ≡ a ++ grant_to g uid Mds ∷ b → ⊥
  not_own past rest whole n f g uid grant p a b is =
      let one : IsOneGrant p.before a (grant_to f uid (Client n)) (grant_to g uid Mds) =
      one_grant w.journal laws.periods p.before (p.behind ++ rest) a b f g uid (Client n) Mds (whole ∙ (ap (λ (x : List Entry). x ++ rest) p.split ∙ append_assoc p.before (grant_to f uid (Client n) ∷ p.behind) rest)) is in
      two_holders f g uid n one.is

  -- two grants under one uid are of one life
  pub one_life : (n k : ℕ) (l o : Life) → HasLife t.stories n l → HasLife t.stories k o → (earlier later front back : LifeSteps) → l.steps ≡ earlier ++ later → o.steps ≡ front ++ back → (grant other : LayoutGrant) → WasGranted (items_in earlier) grant
      → WasGranted (items_in front) other → grant.uid.0 ≡ other.uid.0 → (n ≡ k) × (l ≡ o)
  one_life n k l o its others earlier later front back split parts grant other granted also uid =
      laws.uids n k l o grant other its others (granted_whole n l its earlier later split grant granted) (granted_whole k o others front back parts other also) uid

  -- ---- once it was given back

  abbrev returning : ℕ → List ℕ → SessionId → ℕ → FileId → Stateid → List FailedMirror → HistoryItem
  returning xid name session sequence file stateid failed = Sends (CallsMds xid name (OnSlot session sequence (slot.LayoutReturn file stateid failed)))

  not_silent : (items front middle : List HistoryItem) (uid xid : ℕ) (name : List ℕ) (session : SessionId) (sequence : ℕ) (file : FileId) (stateid : Stateid) (failed : List FailedMirror) (grant : LayoutGrant) → WasGranted front grant → grant.stateid ≡ stateid → grant.uid.0 ≡ uid
      → items ≡ front ++ returning xid name session sequence file stateid failed ∷ middle → AreGrantedOnce items → IsSilent items uid → ⊥
  not_silent items front middle uid xid name session sequence file stateid failed grant granted state its_uid is once silent =
      (subst (λ (h : List HistoryItem). IsSilent h uid) is silent) (subst AreGrantedOnce is once) grant (granted_later front (returning xid name session sequence file stateid failed ∷ middle) grant granted) its_uid
      (WasReturned xid name session sequence file failed
      (subst (λ (s : Stateid). HasItem (granted.since ++ returning xid name session sequence file stateid failed ∷ middle) (returning xid name session sequence file s failed)) (sym state)
      (has_middle granted.since middle (returning xid name session sequence file stateid failed))))

  -- behind the end of a period that ended as returned nothing of its uid is silent
  pub silent_not : (ended : List Entry) (file : FileId) (uid : ℕ) (r : WasReturnedBy t ended file uid) → (n : ℕ) (l : Life) → HasLife t.stories n l → l ≡ r.life → (earlier later : LifeSteps) (item : HistoryItem) (e : Entry) → l.steps ≡ earlier ++ Seen item e ∷ later → (more : List Entry)
      → journal_at l earlier ≡ (journal_at r.life r.earlier ++ r.posted ∷ []) ++ more → (extra rest : List HistoryItem) → client_history (start_of n l) l.inputs ≡ (items_in earlier ++ extra) ++ rest → IsSilent (items_in earlier ++ extra) uid → ⊥
  silent_not ended file uid r n l its same earlier later item e split more journal extra rest history silent =
      let its_split : l.steps ≡ r.earlier ++ Seen (returning r.xid r.name r.session r.sequence file r.stateid r.failed) r.posted ∷ r.later = ap (λ (x : Life). x.steps) same ∙ r.split in
      let place : journal_at l earlier ≡ journal_at l r.earlier ++ r.posted ∷ more =
      journal ∙ (append_assoc (journal_at r.life r.earlier) (r.posted ∷ []) more ∙ ap (λ (x : Life). journal_at x r.earlier ++ r.posted ∷ more) (sym same)) in
      let s : StandsBefore r.earlier earlier (returning r.xid r.name r.session r.sequence file r.stateid r.failed) r.posted =
      stands_before l.begun r.earlier r.later earlier later (returning r.xid r.name r.session r.sequence file r.stateid r.failed) item r.posted e more (sym its_split ∙ split) place in
      let items : items_in earlier ++ extra ≡ items_in r.earlier ++ returning r.xid r.name r.session r.sequence file r.stateid r.failed ∷ (items_in s.middle ++ extra) =
      ap (λ (x : LifeSteps). items_in x ++ extra) s.is
      ∙ (ap (λ (h : List HistoryItem). h ++ extra) (items_join r.earlier (Seen (returning r.xid r.name r.session r.sequence file r.stateid r.failed) r.posted ∷ s.middle))
      ∙ append_assoc (items_in r.earlier) (returning r.xid r.name r.session r.sequence file r.stateid r.failed ∷ items_in s.middle) extra) in
      not_silent (items_in earlier ++ extra) (items_in r.earlier) (items_in s.middle ++ extra) uid r.xid r.name r.session r.sequence file r.stateid r.failed r.grant r.granted r.its_stateid r.its_uid items (once_at n l its (items_in earlier ++ extra) rest history) silent
