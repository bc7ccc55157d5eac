-- Who takes a write and who lets one stray keeps its part (RFC 8435, section 2.2).
use Rattle.std.proofs.Common.{◌≡◌, ◌<◌, ◌≤◌, ℕ, ◌+◌, Bool, true, false, length, List, [], ◌∷◌, ◌++◌, refl, sym, ap, subst, ◌∙◌, inl, inr, ◌⊎◌, arith, append_assoc, append-nil}
use Rattle.std.specs.Prelude.{nat_lt, ◌&&◌}
use Rattle.std.specs.List.{AllByRecursion}
use Rattle.std.proofs.lemmas.Bool.{lt-ltb, cases_lt}
use Rattle.cluster_model.specs.declared.ids.FileId.{FileId}
use Rattle.cluster_model.specs.declared.entry.Entry.{Entry}
use Rattle.cluster_model.specs.declared.entry.Entry.TheVariants.{Sent, Rogue}
use Rattle.cluster_model.specs.Content.{Pending}
use Rattle.cluster_model.specs.Laws.{AreDisjoint}
use Rattle.cluster_laws.proofs.Lists.{all_more}
use Rattle.world_rule.specs.ClusterWorlds.{ClusterState}
use Rattle.mirror_writer.specs.declared.call.TakenWrite.{TakenWrite}
use Rattle.mirror_writer.specs.Writers.{touches}
use Rattle.client_state.specs.declared.request.UserRequest.{UserRequest}
use Rattle.client_state.specs.declared.request.UserRequest.TheVariants as request
use Rattle.cluster_model.specs.DsCalls.{Write}
use Rattle.client_state.specs.ClientSends.{ClientSend, CallsServer}
use Rattle.client_laws.specs.ClientHistory.{ClientInput, Requested, Recorded, TimeoutOf, Ticked, LeftProtocol, Strayed, HistoryItem, Hears, Enters, Sends, HasItem, Each, client_history}
use Rattle.client_laws.specs.ClientRunLaws.{AreGrantedOnce, IsSilent, KeepsSilent, IsFree, WritesApart}
use Rattle.client_sessions.specs.LayoutEnds.{HasGrant, HasNotLeft, EntersGranted, GoesAtOnce, IsInputOfBytes, TakesBytes}
use Rattle.node_histories.specs.Weaves.{Seen, items_in}
use Rattle.node_histories.specs.ClientLives.{Life, start_of}
use Rattle.node_histories.specs.NodeHistories.{IsInputOfScript, IsToldByNodes}
use Rattle.node_histories.proofs.WeaveLemmas.{items_join}
use Rattle.holder_parts.specs.HolderParts.{WasBegun, TakesInPlace, StraysInPlace}
use Rattle.world_layouts.specs.WorldLayouts.{journal_at}
use Rattle.world_holders.proofs.LowerLaws.{HasLaws}
use Rattle.client_sessions.specs.EnteredFiles.{HasGrantFor, EntersForFile}
use Rattle.world_holders.proofs.LifePlaces.{LifeSteps, has_middle, has_front, each_at, StandsBefore, stands_before, LifeIs, life_of}
use Rattle.world_holders.proofs.UserEntries.{each_sent, no_rogue}
use Rattle.world_holders.proofs.PostsInPlace.{law_at}
use Rattle.world_holders.proofs.HeldEntries.{ClientEntry, IsWhose, OfClient, OfMds, whose_sent, whose_rogue, was_begun, client_period, items_at, once_at, one_life}
use Rattle.world_holders.proofs.OwnEnds.{sent_grant}
use Rattle.world_holders.proofs.NotEndedClean.{own_not, not_ended_clean}
use Rattle.world_holders.proofs.LeftClients.{rogue_left}

-- ---- places that are apart

both_true : (x y : Bool) → x ≡ true → y ≡ true → (x && y) ≡ true
both_true true true first second = refl
both_true true false first second = second
both_true false y first second = first

not_both : {A : Type 0} → true ≡ false → A
not_both is = absurd cc

pub apart_from : (w : TakenWrite) (at : ℕ) (bytes : List ℕ) → touches at (length bytes) w ≡ false → AreDisjoint w.at w.bytes at bytes
apart_from w at bytes none = by_first (cases_lt at (w.at + length w.bytes)) (cases_lt w.at (at + length bytes))
  where
    by_first : (at < w.at + length w.bytes) ⊎ (w.at + length w.bytes ≤ at) → (w.at < at + length bytes) ⊎ (at + length bytes ≤ w.at) → AreDisjoint w.at w.bytes at bytes
    by_first (inr behind) other = inl behind
    by_first (inl before) (inr behind) = inr behind
    by_first (inl before) (inl less) =
        not_both (sym (both_true (nat_lt at (w.at + length w.bytes)) (nat_lt w.at (at + length bytes)) (lt-ltb at (w.at + length w.bytes) before) (lt-ltb w.at (at + length bytes) less)) ∙ none)

-- ---- writes have bytes

request_of_bytes : (asked : UserRequest) → IsInputOfScript (Requested asked) → IsInputOfBytes (Requested asked)
request_of_bytes (request.Open name) of = tt
request_of_bytes (request.Write at bytes) of = let some = of.0 in omega (arith, some)
request_of_bytes (request.Through at bytes) of = tt
request_of_bytes request.Commit of = tt
request_of_bytes (request.Read at count) of = tt
request_of_bytes request.Return of = tt

pub input_of_bytes : (input : ClientInput) → IsInputOfScript input → IsInputOfBytes input
input_of_bytes (Requested asked) of = request_of_bytes asked of
input_of_bytes (Recorded from bytes now) of = tt
input_of_bytes (TimeoutOf to) of = tt
input_of_bytes (Ticked now) of = tt
input_of_bytes LeftProtocol of = tt
input_of_bytes (Strayed place at bytes) of = tt

not_left_has : (past : List HistoryItem) → AllByRecursion HasNotLeft past → HasItem past (Hears LeftProtocol) → ⊥
not_left_has [] all has = has
not_left_has (x ∷ past) all (inl here) = subst HasNotLeft (sym here.0) all.0
not_left_has (x ∷ past) all (inr has) = not_left_has past all.1 has

module _ (w : ClusterState) (t : IsToldByNodes w) (laws : HasLaws t) where
  -- two entries of one life, in the order of the journal
  pub earlier_in : (past a b : List Entry) (x e : Entry) (l : Life) (earlier later : LifeSteps) → l.steps ≡ earlier ++ Seen (Enters e) e ∷ later → past ≡ journal_at l earlier → (k : ClientEntry t a x) → l ≡ k.life → past ≡ a ++ x ∷ b
      → StandsBefore k.earlier earlier (Enters x) x
  earlier_in past a b x e l earlier later split place k same is =
      stands_before l.begun k.earlier k.later earlier later (Enters x) (Enters e) x e b (sym (ap (λ (y : Life). y.steps) same ∙ k.split) ∙ split)
      (sym place ∙ (is ∙ ap (λ (j : List Entry). j ++ x ∷ b) (k.place ∙ ap (λ (y : Life). journal_at y k.earlier) (sym same))))

  pub item_before : (x : Entry) (front earlier : LifeSteps) → StandsBefore front earlier (Enters x) x → HasItem (items_in earlier) (Enters x)
  item_before x front earlier s =
      subst (λ (h : List HistoryItem). HasItem h (Enters x)) (sym (ap (λ (l : LifeSteps). items_in l) s.is ∙ items_join front (Seen (Enters x) x ∷ s.middle))) (has_middle (items_in front) (items_in s.middle) (Enters x))

  -- ---- a client takes a write

  module _ (past behind : List Entry) (f : FileId) (uid at : ℕ) (bytes : List ℕ) (is : w.journal ≡ past ++ Sent f (record { 0 = uid }) at bytes ∷ behind) (c : ClientEntry t past (Sent f (record { 0 = uid }) at bytes)) where
    e : Entry
    e = Sent f (record { 0 = uid }) at bytes

    i : LifeIs w t laws.clients.numbered c.n c.life
    i = life_of w t laws.clients.numbered c.n c.life c.its

    h : HasGrantFor (items_in c.earlier) f uid
    h = law_at w t laws EntersForFile laws.clients.files c.n c.life i c.earlier c.later (Enters (Sent f (record { 0 = uid }) at bytes)) (Sent f (record { 0 = uid }) at bytes) c.split

    history : client_history (start_of c.n c.life) c.life.inputs ≡ items_in c.earlier ++ Enters (Sent f (record { 0 = uid }) at bytes) ∷ items_in c.later
    history = items_at w t laws c.n c.life c.its c.earlier (Seen (Enters (Sent f (record { 0 = uid }) at bytes)) (Sent f (record { 0 = uid }) at bytes) ∷ c.later) c.split

    once : AreGrantedOnce (items_in c.earlier)
    once = once_at w t laws c.n c.life c.its (items_in c.earlier) (Enters (Sent f (record { 0 = uid }) at bytes) ∷ items_in c.later) history

    enters : HasGrant (items_in c.earlier) uid × AllByRecursion HasNotLeft (items_in c.earlier)
    enters = law_at w t laws EntersGranted laws.clients.enters c.n c.life i c.earlier c.later (Enters (Sent f (record { 0 = uid }) at bytes)) (Sent f (record { 0 = uid }) at bytes) c.split

    -- another entry of its uid is of this life
    same_life : (a : List Entry) (x : Entry) (g : FileId) (k : ClientEntry t a x) → HasGrantFor (items_in k.earlier) g uid → c.life ≡ k.life
    same_life a x g k its =
        (one_life w t laws c.n k.n c.life k.life c.its k.its c.earlier (Seen (Enters (Sent f (record { 0 = uid }) at bytes)) (Sent f (record { 0 = uid }) at bytes) ∷ c.later) k.earlier (Seen (Enters x) x ∷ k.later) c.split k.split h.grant its.grant h.granted its.granted (h.its_uid ∙ sym its.its_uid)).1

    behind_it : (a b : List Entry) (x : Entry) → past ≡ a ++ x ∷ b → w.journal ≡ a ++ x ∷ (b ++ Sent f (record { 0 = uid }) at bytes ∷ behind)
    behind_it a b x split = is ∙ (ap (λ (j : List Entry). j ++ Sent f (record { 0 = uid }) at bytes ∷ behind) split ∙ append_assoc a (x ∷ b) (Sent f (record { 0 = uid }) at bytes ∷ behind))

    apart_so : (a b : List Entry) (g : FileId) (pos : ℕ) (other : List ℕ) → past ≡ a ++ Sent g (record { 0 = uid }) pos other ∷ b → IsWhose t a (Sent g (record { 0 = uid }) pos other) → AreDisjoint pos other at bytes
    apart_so a b g pos other split (OfClient k) =
        let its : HasGrantFor (items_in k.earlier) g uid =
        law_at w t laws EntersForFile laws.clients.files k.n k.life (life_of w t laws.clients.numbered k.n k.life k.its) k.earlier k.later (Enters (Sent g (record { 0 = uid }) pos other)) (Sent g (record { 0 = uid }) pos other) k.split in
        let s : StandsBefore k.earlier c.earlier (Enters (Sent g (record { 0 = uid }) pos other)) (Sent g (record { 0 = uid }) pos other) =
        earlier_in past a b (Sent g (record { 0 = uid }) pos other) (Sent f (record { 0 = uid }) at bytes) c.life c.earlier c.later c.split c.place k (same_life a (Sent g (record { 0 = uid }) pos other) g k its) split in
        let free : IsFree (items_in c.earlier) uid at bytes = law_at w t laws WritesApart laws.clients.apart c.n c.life i c.earlier c.later (Enters (Sent f (record { 0 = uid }) at bytes)) (Sent f (record { 0 = uid }) at bytes) c.split in
        apart_from (record { at = pos; bytes = other }) at bytes (free once g pos other (item_before (Sent g (record { 0 = uid }) pos other) k.earlier c.earlier s))
    apart_so a b g pos other split (OfMds s) =
        absurd
        (own_not w t laws past behind (Sent f (record { 0 = uid }) at bytes) is c.n c.life c.its c.earlier c.later c.split c.place f uid h g
        (sent_grant w t laws a (Sent g (record { 0 = uid }) pos other ∷ (b ++ Sent f (record { 0 = uid }) at bytes ∷ behind)) g uid pos other s (behind_it a b (Sent g (record { 0 = uid }) pos other) split)))

    follows_so : (a b : List Entry) (g : FileId) (pos : ℕ) (other : List ℕ) → past ≡ a ++ Rogue g (record { 0 = uid }) pos other ∷ b → ClientEntry t a (Rogue g (record { 0 = uid }) pos other) → ⊥
    follows_so a b g pos other split k =
        let its : HasGrantFor (items_in k.earlier) g uid =
        law_at w t laws EntersForFile laws.clients.files k.n k.life (life_of w t laws.clients.numbered k.n k.life k.its) k.earlier k.later (Enters (Rogue g (record { 0 = uid }) pos other)) (Rogue g (record { 0 = uid }) pos other) k.split in
        let s : StandsBefore k.earlier c.earlier (Enters (Rogue g (record { 0 = uid }) pos other)) (Rogue g (record { 0 = uid }) pos other) =
        earlier_in past a b (Rogue g (record { 0 = uid }) pos other) (Sent f (record { 0 = uid }) at bytes) c.life c.earlier c.later c.split c.place k (same_life a (Rogue g (record { 0 = uid }) pos other) g k its) split in
        let left : HasItem (items_in k.earlier) (Hears LeftProtocol) =
        rogue_left k.life.inputs (start_of k.n k.life) (laws.left k.n k.life k.its) (items_in k.earlier) (items_in k.later) g (record { 0 = uid }) pos other
        (items_at w t laws k.n k.life k.its k.earlier (Seen (Enters (Rogue g (record { 0 = uid }) pos other)) (Rogue g (record { 0 = uid }) pos other) ∷ k.later) k.split) in
        not_left_has (items_in c.earlier) enters.1
        (subst (λ (l : List HistoryItem). HasItem l (Hears LeftProtocol)) (sym (ap (λ (l : LifeSteps). items_in l) s.is ∙ items_join k.earlier (Seen (Enters (Rogue g (record { 0 = uid }) pos other)) (Rogue g (record { 0 = uid }) pos other) ∷ s.middle)))
        (has_front (items_in k.earlier) (Enters (Rogue g (record { 0 = uid }) pos other) ∷ items_in s.middle) (Hears LeftProtocol) left))

    some_so : 0 < length bytes
    some_so =
        each_at TakesBytes [] (items_in c.earlier) (items_in c.later) (Enters (Sent f (record { 0 = uid }) at bytes))
        (subst (λ (l : List HistoryItem). Each TakesBytes [] l) history (laws.clients.bytes c.n c.life.verifier c.life.first_xid c.life.inputs (all_more IsInputOfScript IsInputOfBytes c.life.inputs input_of_bytes i.facts.asked)))

    silent : IsSilent (items_in c.earlier ++ []) uid
    silent = subst (λ (l : List HistoryItem). IsSilent l uid) (sym (append-nil (items_in c.earlier))) (law_at w t laws KeepsSilent laws.clients.silent c.n c.life i c.earlier c.later (Enters (Sent f (record { 0 = uid }) at bytes)) (Sent f (record { 0 = uid }) at bytes) c.split)

    pub begun_so : WasBegun past f uid
    begun_so =
        subst (λ (j : List Entry). WasBegun j f uid) (sym c.place)
        (was_begun (journal_at c.life c.earlier) c.n f uid h.grant (client_period w t laws c.n c.life c.its c.earlier (Seen (Enters (Sent f (record { 0 = uid }) at bytes)) (Sent f (record { 0 = uid }) at bytes) ∷ c.later) c.split f uid h))

    pub client_takes : TakesInPlace past f uid at bytes
    client_takes = record {
      begun = begun_so;
      may = record {
        some = some_so;
        apart = each_sent (λ (v : Pending). AreDisjoint v.at v.bytes at bytes) uid past
            (λ a b g pos other split. apart_so a b g pos other split (whose_sent w t a (b ++ Sent f (record { 0 = uid }) at bytes ∷ behind) g (record { 0 = uid }) pos other (behind_it a b (Sent g (record { 0 = uid }) pos other) split)));
        follows = no_rogue uid past
            (λ a b g pos other split. follows_so a b g pos other split (whose_rogue w t a (b ++ Sent f (record { 0 = uid }) at bytes ∷ behind) g (record { 0 = uid }) pos other (behind_it a b (Rogue g (record { 0 = uid }) pos other) split)));
        not_clean =
            not_ended_clean w t laws past behind (Sent f (record { 0 = uid }) at bytes) is c.n c.life c.its c.earlier c.later c.split c.place f uid h [] (Enters (Sent f (record { 0 = uid }) at bytes) ∷ items_in c.later)
            (history ∙ ap (λ (l : List HistoryItem). l ++ Enters (Sent f (record { 0 = uid }) at bytes) ∷ items_in c.later) (sym (append-nil (items_in c.earlier)))) silent;
      };
    }

  -- ---- a client lets a write stray

  pub client_strays : (past behind : List Entry) (f : FileId) (uid at : ℕ) (bytes : List ℕ) → w.journal ≡ past ++ Rogue f (record { 0 = uid }) at bytes ∷ behind → ClientEntry t past (Rogue f (record { 0 = uid }) at bytes) → StraysInPlace past f uid
  client_strays past behind f uid at bytes is c = record {
    begun =
        subst (λ (j : List Entry). WasBegun j f uid) (sym c.place)
        (was_begun (journal_at c.life c.earlier) c.n f uid h.grant (client_period w t laws c.n c.life c.its c.earlier (Seen (Enters (Rogue f (record { 0 = uid }) at bytes)) (Rogue f (record { 0 = uid }) at bytes) ∷ c.later) c.split f uid h));
    not_clean =
        not_ended_clean w t laws past behind (Rogue f (record { 0 = uid }) at bytes) is c.n c.life c.its c.earlier c.later c.split c.place f uid h (Enters (Rogue f (record { 0 = uid }) at bytes) ∷ []) (Sends call ∷ at_once.more) next silent;
  }
    where
      i : LifeIs w t laws.clients.numbered c.n c.life
      i = life_of w t laws.clients.numbered c.n c.life c.its

      h : HasGrantFor (items_in c.earlier) f uid
      h = law_at w t laws EntersForFile laws.clients.files c.n c.life i c.earlier c.later (Enters (Rogue f (record { 0 = uid }) at bytes)) (Rogue f (record { 0 = uid }) at bytes) c.split

      history : client_history (start_of c.n c.life) c.life.inputs ≡ items_in c.earlier ++ Enters (Rogue f (record { 0 = uid }) at bytes) ∷ items_in c.later
      history = items_at w t laws c.n c.life c.its c.earlier (Seen (Enters (Rogue f (record { 0 = uid }) at bytes)) (Rogue f (record { 0 = uid }) at bytes) ∷ c.later) c.split

      at_once : GoesAtOnce (items_in c.later) uid at bytes
      at_once = laws.clients.strays c.n c.life.verifier c.life.first_xid c.life.inputs (items_in c.earlier) (items_in c.later) f uid at bytes history

      call : ClientSend
      call = CallsServer at_once.id.server at_once.xid at_once.name uid (Write at_once.id.fileid at false bytes)

      next : client_history (start_of c.n c.life) c.life.inputs ≡ (items_in c.earlier ++ Enters (Rogue f (record { 0 = uid }) at bytes) ∷ []) ++ Sends call ∷ at_once.more
      next =
          history ∙ (ap (λ (l : List HistoryItem). items_in c.earlier ++ Enters (Rogue f (record { 0 = uid }) at bytes) ∷ l) at_once.is
          ∙ sym (append_assoc (items_in c.earlier) (Enters (Rogue f (record { 0 = uid }) at bytes) ∷ []) (Sends call ∷ at_once.more)))

      silent : IsSilent (items_in c.earlier ++ Enters (Rogue f (record { 0 = uid }) at bytes) ∷ []) uid
      silent =
          each_at KeepsSilent [] (items_in c.earlier ++ Enters (Rogue f (record { 0 = uid }) at bytes) ∷ []) at_once.more (Sends call)
          (subst (λ (l : List HistoryItem). Each KeepsSilent [] l) next (laws.clients.silent c.n c.life.verifier c.life.first_xid c.life.inputs))
