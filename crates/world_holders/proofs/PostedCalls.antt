-- A packet of a client to a data server is the record of a call that one of its lives made, then or before.
use Rattle.std.proofs.Common.{◌≡◌, ◌<◌, ℕ, ◌^◌, true, List, [], ◌∷◌, ◌++◌, sym, ap, subst, ◌∙◌, inl, inr, ◌⊎◌, arith}
use Rattle.std.specs.List.{AllByRecursion}
use Rattle.cluster_model.specs.declared.ids.NodeId.TheVariants.{Mds, Server, Client}
use Rattle.cluster_model.specs.declared.entry.Entry.{Entry}
use Rattle.cluster_model.specs.declared.entry.Entry.TheVariants as entry
use Rattle.cluster_model.specs.DsCalls.{DsCallValue}
use Rattle.cluster_laws.specs.Machine.{may_use}
use Rattle.world_rule.specs.ClusterWorlds.{ClusterState}
use Rattle.ds_calls.specs.DsCallLaws.{HasRecord, record_of}
use Rattle.client_state.specs.ClientStates.{ClientValue}
use Rattle.client_state.specs.ClientSends.{ClientSend, ClientStep, CallsServer, CallsMds, RepeatsToServer, RepeatsToMds, RepliesToMds, spelled_send}
use Rattle.client_laws.specs.ClientHistory.{ClientInput, input_step, HistoryItem, Hears, Enters, Sends, HasItem, Each, entered, sent, client_history}
use Rattle.client_laws.proofs.Orders.{in_more, in_end, in_either}
use Rattle.client_sends.specs.SendsOfUsers.{IsUserSend, SendsAsUser}
use Rattle.client_records.specs.ClientRecords.{NumbersOn, HasSpelling}
use Rattle.node_histories.specs.Weaves.{Seen, items_in, AreWoven}
use Rattle.node_histories.specs.ClientLives.{client_shown, Life, start_of}
use Rattle.node_histories.specs.NodeHistories.{HasLife, IsToldByNodes}
use Rattle.node_histories.proofs.WeaveLemmas.{items_join, IsSeenAt, seen_at}
use Rattle.world_reads.proofs.LifeRecords.{life_spelled}
use Rattle.world_layouts.specs.WorldLayouts.{journal_at}
use Rattle.world_holders.proofs.LowerLaws.{HasCallLaws}
use Rattle.world_holders.proofs.LifePlaces.{LifeSteps, has_middle, each_at, LifeIs, life_of, ClientSent, client_sent}

-- ---- each call is one that a user may make

no_user_item : {A : Type 0} (send : ClientSend) (entries : List Entry) → HasItem (entered entries) (Sends send) → A
no_user_item send [] has = absurd has
no_user_item send (e ∷ entries) (inl here) = not_entered here.0
  where
    not_entered : {A : Type 0} → Sends send ≡ Enters e → A
    not_entered same = absurd cc
no_user_item send (e ∷ entries) (inr has) = no_user_item send entries has

sent_user : (send : ClientSend) (sends : List ClientSend) → AllByRecursion IsUserSend sends → HasItem (sent sends) (Sends send) → IsUserSend send
sent_user send [] all has = absurd has
sent_user send (s ∷ sends) all (inl here) = subst IsUserSend (sym (same here.0)) all.0
  where
    same : Sends send ≡ Sends s → send ≡ s
    same is = cc
sent_user send (s ∷ sends) all (inr has) = sent_user send sends all.1 has

pub users_send : ((c : ClientValue) (input : ClientInput) → SendsAsUser input c) → (c : ClientValue) (inputs : List ClientInput) (send : ClientSend) → HasItem (client_history c inputs) (Sends send) → IsUserSend send
users_send users c [] send has = absurd has
users_send users c (input ∷ inputs) send (inl here) = not_heard here.0
  where
    not_heard : Sends send ≡ Hears input → IsUserSend send
    not_heard same = absurd cc
users_send users c (input ∷ inputs) send (inr has) = by_event (in_either (entered s.entries ++ sent s.sends) (client_history s.client inputs) (Sends send) has) (λ more. users_send users s.client inputs send more)
  where
    s : ClientStep
    s = input_step input c

    by_part : HasItem (entered s.entries) (Sends send) ⊎ HasItem (sent s.sends) (Sends send) → IsUserSend send
    by_part (inl inside) = no_user_item send s.entries inside
    by_part (inr inside) = sent_user send s.sends (users c input) inside

    by_event : HasItem (entered s.entries ++ sent s.sends) (Sends send) ⊎ HasItem (client_history s.client inputs) (Sends send) → (HasItem (client_history s.client inputs) (Sends send) → IsUserSend send) → IsUserSend send
    by_event (inl inside) again = by_part (in_either (entered s.entries) (sent s.sends) (Sends send) inside)
    by_event (inr inside) again = again inside

-- ---- a packet

abbrev pub calling : ℕ → ℕ → List ℕ → ℕ → DsCallValue → HistoryItem
calling server xid name uid call = Sends (CallsServer server xid name uid call)

-- The life that sent it, new or again, and its call.
pub record PostedCall {w : ClusterState} (t : IsToldByNodes w) (n server : ℕ) (past : List Entry) (packet : Entry) (bytes : List ℕ) : Type 0 where
  pub life : Life
  pub its : HasLife t.stories n life
  pub earlier : LifeSteps
  pub later : LifeSteps
  pub send : ClientSend
  pub split : life.steps ≡ earlier ++ Seen (Sends send) packet ∷ later
  pub place : past ≡ journal_at life earlier
  pub xid : ℕ
  pub name : List ℕ
  pub uid : ℕ
  pub call : DsCallValue
  pub kind : (send ≡ CallsServer server xid name uid call) ⊎ (send ≡ RepeatsToServer server xid name uid call)
  pub called : HasItem (items_in (earlier ++ Seen (Sends send) packet ∷ [])) (calling server xid name uid call)
  pub fits : HasRecord (record { xid = xid; machine = name; user = uid; call = call })
  pub is : bytes ≡ record_of (record { xid = xid; machine = name; user = uid; call = call })
  pub may : may_use call ≡ true

same_server : (k m : ℕ) → Server k ≡ Server m → m ≡ k
same_server k m is = cc

not_to_mds : {A : Type 0} (k : ℕ) → Server k ≡ Mds → A
not_to_mds k is = absurd cc

module _ (w : ClusterState) (t : IsToldByNodes w) (laws : HasCallLaws w) where
  pub small_number : (n : ℕ) (l : Life) → LifeIs w t laws.numbered n l → n < 2 ^ 32
  small_number n l i = let within = i.lives.within in let few = laws.few in omega (arith, few, within)

  -- what a life sends has a spelling, and a call of it is one that a user may make
  pub send_fits : (n : ℕ) (l : Life) → LifeIs w t laws.numbered n l → (send : ClientSend) → HasItem (items_in l.steps) (Sends send) → HasSpelling send × IsUserSend send
  send_fits n l i send has = (
    life_spelled laws.spelled w.journal laws.range n (small_number n l i) l laws.numbered i.facts send has,
    users_send laws.users (start_of n l) l.inputs send (subst (λ (h : List HistoryItem). HasItem h (Sends send)) (sym i.facts.is.history) has),
  )

  pub posted_call : (past behind : List Entry) (number n server : ℕ) (bytes : List ℕ) → w.journal ≡ past ++ entry.Packet number (Client n) (Server server) bytes ∷ behind
      → PostedCall t n server past (entry.Packet number (Client n) (Server server) bytes) bytes
  posted_call past behind number n server bytes is = by_send s.send s.stands.split seen.is.1 seen.is.2
    where
      packet : Entry
      packet = entry.Packet number (Client n) (Server server) bytes

      s : ClientSent t.stories past number n (Server server) bytes
      s = client_sent w t past behind number n (Server server) bytes is

      i : LifeIs w t laws.numbered n s.life
      i = life_of w t laws.numbered n s.life s.its

      seen : IsSeenAt client_shown (Client n) s.life.begun s.stands.earlier (Sends s.send) packet s.stands.later
      seen = seen_at client_shown (Client n) s.life.begun s.stands.earlier (Sends s.send) packet s.stands.later (subst (λ (l : LifeSteps). AreWoven client_shown (Client n) s.life.begun l) s.stands.split i.facts.is.woven)

      items : (send : ClientSend) → s.life.steps ≡ s.stands.earlier ++ Seen (Sends send) packet ∷ s.stands.later → items_in s.life.steps ≡ items_in s.stands.earlier ++ Sends send ∷ items_in s.stands.later
      items send split = ap (λ (l : LifeSteps). items_in l) split ∙ items_join s.stands.earlier (Seen (Sends send) packet ∷ s.stands.later)

      upto : (send : ClientSend) → items_in (s.stands.earlier ++ Seen (Sends send) packet ∷ []) ≡ items_in s.stands.earlier ++ Sends send ∷ []
      upto send = items_join s.stands.earlier (Seen (Sends send) packet ∷ [])

      fits : (send : ClientSend) → s.life.steps ≡ s.stands.earlier ++ Seen (Sends send) packet ∷ s.stands.later → HasSpelling send × IsUserSend send
      fits send split = send_fits n s.life i send (subst (λ (h : List HistoryItem). HasItem h (Sends send)) (sym (items send split)) (has_middle (items_in s.stands.earlier) (items_in s.stands.later) (Sends send)))

      by_send : (send : ClientSend) → s.life.steps ≡ s.stands.earlier ++ Seen (Sends send) packet ∷ s.stands.later → Server server ≡ (spelled_send send).0 → bytes ≡ (spelled_send send).1 → PostedCall t n server past packet bytes
      by_send (CallsServer k xid name uid call) split to spelled =
          let node : k ≡ server = same_server server k to in
          let both : HasSpelling (CallsServer k xid name uid call) × IsUserSend (CallsServer k xid name uid call) = fits (CallsServer k xid name uid call) split in
          record {
            life = s.life;
            its = s.its;
            earlier = s.stands.earlier;
            later = s.stands.later;
            send = CallsServer k xid name uid call;
            split = split;
            place = s.stands.place;
            xid = xid;
            name = name;
            uid = uid;
            call = call;
            kind = inl (ap (λ (x : ℕ). CallsServer x xid name uid call) node);
            called =
                subst (λ (x : ℕ). HasItem (items_in (s.stands.earlier ++ Seen (Sends (CallsServer k xid name uid call)) packet ∷ [])) (calling x xid name uid call)) node
                (subst (λ (h : List HistoryItem). HasItem h (calling k xid name uid call)) (sym (upto (CallsServer k xid name uid call))) (in_end (items_in s.stands.earlier) (calling k xid name uid call)));
            fits = both.0;
            is = spelled;
            may = both.1;
          }
      by_send (RepeatsToServer k xid name uid call) split to spelled =
          let node : k ≡ server = same_server server k to in
          let again : ClientSend = RepeatsToServer k xid name uid call in
          let both : HasSpelling (RepeatsToServer k xid name uid call) × IsUserSend (RepeatsToServer k xid name uid call) = fits (RepeatsToServer k xid name uid call) split in
          let numbers : Each (NumbersOn s.life.first_xid) [] (items_in s.life.steps) =
          subst (λ (h : List HistoryItem). Each (NumbersOn s.life.first_xid) [] h) i.facts.is.history (laws.numbered n s.life.verifier s.life.first_xid s.life.inputs i.facts.first).0 in
          let was : HasItem (items_in s.stands.earlier) (calling k xid name uid call) =
          each_at (NumbersOn s.life.first_xid) [] (items_in s.stands.earlier) (items_in s.stands.later) (Sends (RepeatsToServer k xid name uid call))
          (subst (λ (h : List HistoryItem). Each (NumbersOn s.life.first_xid) [] h) (items (RepeatsToServer k xid name uid call) split) numbers) in
          record {
            life = s.life;
            its = s.its;
            earlier = s.stands.earlier;
            later = s.stands.later;
            send = RepeatsToServer k xid name uid call;
            split = split;
            place = s.stands.place;
            xid = xid;
            name = name;
            uid = uid;
            call = call;
            kind = inr (ap (λ (x : ℕ). RepeatsToServer x xid name uid call) node);
            called =
                subst (λ (x : ℕ). HasItem (items_in (s.stands.earlier ++ Seen (Sends (RepeatsToServer k xid name uid call)) packet ∷ [])) (calling x xid name uid call)) node
                (subst (λ (h : List HistoryItem). HasItem h (calling k xid name uid call)) (sym (upto (RepeatsToServer k xid name uid call)))
                (in_more (calling k xid name uid call ∷ []) (items_in s.stands.earlier) (Sends (RepeatsToServer k xid name uid call) ∷ []) was));
            fits = both.0;
            is = spelled;
            may = both.1;
          }
      by_send (CallsMds xid name call) split to spelled = not_to_mds server to
      by_send (RepeatsToMds xid message) split to spelled = not_to_mds server to
      by_send (RepliesToMds reply) split to spelled = not_to_mds server to
