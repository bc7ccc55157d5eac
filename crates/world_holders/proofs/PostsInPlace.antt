-- What a client sends a data server is a call of a user, and a WRITE of what was taken or strayed under its uid (RFC 8435, section 2.2).
use Rattle.std.proofs.Common.{◌≡◌, ℕ, List, [], ◌∷◌, ◌++◌, sym, ap, subst, ◌∙◌, inl, inr, ◌⊎◌}
use Rattle.cluster_model.specs.declared.ids.NodeId.TheVariants.{Server, Client}
use Rattle.cluster_model.specs.declared.entry.Entry.{Entry}
use Rattle.cluster_model.specs.declared.entry.Entry.TheVariants.{Packet, Sent, Rogue}
use Rattle.cluster_model.specs.DsCalls.{DsCallValue, Create, SetAttr, Write, Commit, Read}
use Rattle.cluster_laws.specs.Agreement.{sent_of, rogue_of}
use Rattle.cluster_laws.specs.Holders.{IsIn, the_write, IsBoundCall}
use Rattle.world_rule.specs.ClusterWorlds.{ClusterState}
use Rattle.client_state.specs.ClientSends.{ClientSend, CallsServer, RepeatsToServer}
use Rattle.client_laws.specs.ClientHistory.{HistoryItem, Enters, Sends, HasItem, Each}
use Rattle.client_laws.specs.ClientRunLaws.{InEachRun, WasEntered, WasSent, WasStray, WritesEntered, WritesApart}
use Rattle.node_histories.specs.Weaves.{Seen, entries_in, items_in, AreWoven}
use Rattle.node_histories.specs.ClientLives.{client_shown, Life}
use Rattle.node_histories.specs.NodeHistories.{IsToldByNodes}
use Rattle.node_histories.proofs.WeaveLemmas.{items_join}
use Rattle.holder_parts.specs.HolderParts.{IsPostedCall}
use Rattle.world_layouts.specs.WorldLayouts.{journal_at}
use Rattle.world_holders.proofs.LowerLaws.{HasLaws, call_laws}
use Rattle.world_holders.proofs.LifePlaces.{LifeSteps, each_at, LifeIs, life_of, woven_front, EnteredIn, entered_in}
use Rattle.world_holders.proofs.PostedCalls.{PostedCall, posted_call}
use Rattle.world_holders.proofs.UserEntries.{sent_there, rogue_there}

module _ (w : ClusterState) (t : IsToldByNodes w) (laws : HasLaws t) where
  -- a law of each run, at the place of an item
  pub law_at : (P : List HistoryItem → HistoryItem → Type 0) → InEachRun P → (n : ℕ) (l : Life) → LifeIs w t laws.clients.numbered n l → (earlier later : LifeSteps) (item : HistoryItem) (e : Entry)
      → l.steps ≡ earlier ++ Seen item e ∷ later → P (items_in earlier) item
  law_at P law n l i earlier later item e split =
      each_at P [] (items_in earlier) (items_in later) item
      (subst (λ (h : List HistoryItem). Each P [] h) (i.facts.is.history ∙ (ap (λ (s : LifeSteps). items_in s) split ∙ items_join earlier (Seen item e ∷ later))) (law n l.verifier l.first_xid l.inputs))

  -- what a life entered by a moment stands in the journal then
  pub entered_then : (n : ℕ) (l : Life) → LifeIs w t laws.clients.numbered n l → (earlier later : LifeSteps) → l.steps ≡ earlier ++ later → (e : Entry) → HasItem (items_in earlier) (Enters e) → EnteredIn l.begun earlier e
  entered_then n l i earlier later split e has =
      entered_in (Client n) l.begun earlier e (woven_front (Client n) l.begun earlier later (subst (λ (s : LifeSteps). AreWoven client_shown (Client n) l.begun s) split i.facts.is.woven)) has

  bound_write : (n : ℕ) (l : Life) → LifeIs w t laws.clients.numbered n l → (earlier later : LifeSteps) → l.steps ≡ earlier ++ later → (uid at : ℕ) (bytes : List ℕ) → WasEntered (items_in earlier) uid at bytes
      → IsIn (the_write at bytes) (sent_of uid (journal_at l earlier)) ⊎ IsIn (the_write at bytes) (rogue_of uid (journal_at l earlier))
  bound_write n l i earlier later split uid at bytes (WasSent taken) =
      let e : EnteredIn l.begun earlier (Sent taken.file (record { 0 = uid }) at bytes) = entered_then n l i earlier later split (Sent taken.file (record { 0 = uid }) at bytes) taken.there in
      inl (subst (λ (j : List Entry). IsIn (the_write at bytes) (sent_of uid j)) (sym e.journal) (sent_there uid (l.begun ++ entries_in e.earlier) (entries_in e.later) taken.file at bytes))
  bound_write n l i earlier later split uid at bytes (WasStray file has) =
      let e : EnteredIn l.begun earlier (Rogue file (record { 0 = uid }) at bytes) = entered_then n l i earlier later split (Rogue file (record { 0 = uid }) at bytes) has in
      inr (subst (λ (j : List Entry). IsIn (the_write at bytes) (rogue_of uid j)) (sym e.journal) (rogue_there uid (l.begun ++ entries_in e.earlier) (entries_in e.later) file at bytes))

  bound_call : (n : ℕ) (l : Life) → LifeIs w t laws.clients.numbered n l → (earlier later : LifeSteps) → l.steps ≡ earlier ++ later → (uid : ℕ) (call : DsCallValue) → WritesEntered (items_in earlier) uid call
      → IsBoundCall (journal_at l earlier) uid call
  bound_call n l i earlier later split uid (Write fileid at synced bytes) was = bound_write n l i earlier later split uid at bytes was
  bound_call n l i earlier later split uid (Create owner name) was = tt
  bound_call n l i earlier later split uid (SetAttr fileid owner guard) was = tt
  bound_call n l i earlier later split uid (Commit fileid) was = tt
  bound_call n l i earlier later split uid (Read fileid at count) was = tt

  writes_entered : (past : List HistoryItem) (server xid : ℕ) (name : List ℕ) (uid : ℕ) (call : DsCallValue) (send : ClientSend) → WritesApart past (Sends send)
      → (send ≡ CallsServer server xid name uid call) ⊎ (send ≡ RepeatsToServer server xid name uid call) → WritesEntered past uid call
  writes_entered past server xid name uid call send was (inl is) = subst (λ (s : ClientSend). WritesApart past (Sends s)) is was
  writes_entered past server xid name uid call send was (inr is) = subst (λ (s : ClientSend). WritesApart past (Sends s)) is was

  pub posts_so : (past behind : List Entry) (number n server : ℕ) (bytes : List ℕ) → w.journal ≡ past ++ Packet number (Client n) (Server server) bytes ∷ behind → IsPostedCall past bytes
  posts_so past behind number n server bytes is =
      let packet : Entry = Packet number (Client n) (Server server) bytes in
      let p : PostedCall t n server past packet bytes = posted_call w t (call_laws w t laws) past behind number n server bytes is in
      let i : LifeIs w t laws.clients.numbered n p.life = life_of w t laws.clients.numbered n p.life p.its in
      let was : WritesApart (items_in p.earlier) (Sends p.send) = law_at WritesApart laws.clients.apart n p.life i p.earlier p.later (Sends p.send) packet p.split in
      record {
        message = record { xid = p.xid; machine = p.name; user = p.uid; call = p.call };
        fits = p.fits;
        is = p.is;
        may = p.may;
        bound =
            subst (λ (j : List Entry). IsBoundCall j p.uid p.call) (sym p.place)
            (bound_call n p.life i p.earlier (Seen (Sends p.send) packet ∷ p.later) p.split p.uid p.call (writes_entered (items_in p.earlier) server p.xid p.name p.uid p.call p.send was p.kind));
      }
