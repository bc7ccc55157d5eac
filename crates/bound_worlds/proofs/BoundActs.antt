-- A client's part of an event, and the metadata server's.
use Rattle.std.proofs.Common.{◌≡◌, ◌≢◌, ◌<◌, ℕ, zero, suc, ◌+◌, ◌-◌, Bool, true, false, cond, List, [], ◌∷◌, ◌++◌, length, Option, Some, None, refl, sym, ap, subst, ◌∙◌, inl, inr, ◌⊎◌, arith}
use Rattle.std.specs.Prelude.{slice_get, slice_set, map, not}
use Rattle.std.specs.List.{AllByRecursion}
use Rattle.std.proofs.lemmas.List.{append_assoc, append-nil}
use Rattle.cluster_model.specs.declared.ids.NodeId.{NodeId}
use Rattle.cluster_model.specs.declared.ids.NodeId.TheVariants.{Mds, Server, Client}
use Rattle.cluster_model.specs.declared.ids.FileId.{FileId}
use Rattle.cluster_model.specs.declared.ids.Cred.{Cred}
use Rattle.cluster_model.specs.declared.ids.MirrorId.{MirrorId}
use Rattle.cluster_model.specs.declared.phase.EndCause.{EndCause}
use Rattle.cluster_model.specs.declared.phase.EndCause.TheVariants.{Returned, Own, AllReported, Recalled, Lease, NoLayout, ClientGone, ReturnedAll}
use Rattle.cluster_model.specs.declared.entry.Entry.{Entry}
use Rattle.cluster_model.specs.declared.entry.Entry.TheVariants as entry
use Rattle.cluster_model.specs.Content.{Pending}
use Rattle.cluster_model.specs.Server.{ServerState}
use Rattle.cluster_model.specs.Members.{IsOneOf}
use Rattle.cluster_laws.specs.Machine.{PacketValue, Machine, Move, new_machine, numbered_at, machine_after, journal_of}
use Rattle.cluster_laws.specs.CallRanges.{AreServersInRange}
use Rattle.cluster_laws.specs.FenceLaw.{live_in, new_servers}
use Rattle.cluster_laws.specs.Agreement.{a_write, sent_of, rogue_of}
use Rattle.cluster_laws.specs.Holders.{IsCovered, AreCovered, AreBoundFrom}
use Rattle.cluster_laws.specs.Telling.{is_telling, telling, MakesTelling}
use Rattle.cluster_laws.proofs.SameTold.{TellSame, same_told}
use Rattle.cluster_laws.proofs.Lists.{all_more}
use Rattle.machine_moves.specs.MachineMoves.{KeepsPackets}
use Rattle.machine_moves.proofs.Going.{telling_append}
use Rattle.machine_moves.proofs.Bound.{goes_told}
use Rattle.machine_moves.proofs.Packets.{keeps_same, goes_keep}
use Rattle.mds_rule.specs.MdsStates.{MdsSend, MdsValue, MdsStep}
use Rattle.mds_rule.specs.Spelled.{spelled_send}
use Rattle.mds_walk.specs.MdsRuns.{MdsEvent, after_event}
use Rattle.mds_walk.proofs.Lists.{AllOf, in_more}
use Rattle.mds_forms.specs.Forms.{IsNoPacket, IsInForm, StaysInForm, MdsStaysInForm}
use Rattle.mds_moves.specs.MdsMoves.{IsMdsOf, MayComeTo}
use Rattle.mds_moves.specs.MdsBinds.{IsReachedBy, EndsByReturn, EndsByOwn, IsCleanEnd, EndsInOrder, MdsHasOwnWrites, BoundGoesOnBy, MdsGoesOnBound}
use Rattle.client_sends.specs.SendsOfUsers.{is_user_entry}
use Rattle.world_journal.specs.SentPackets.{packets_of as posted}
use Rattle.world_moves.specs.WorldMoves.{WasSent, IsCarried, IsEntryCarried}
use Rattle.holder_parts.specs.CoveredRecords.{IsCoveredIn}
use Rattle.holder_parts.specs.HolderParts.{AreAllCoveredIn, ReturnsInPlace, EndsOwnInPlace, EndsInPlace, EndsOwnNext, KeepsPart, HoldersKeepParts}
use Rattle.bound_worlds.specs.MatchedPackets.{Stage, Shows, Hides, entries_of, packets_of, Matches, AreMatched}
use Rattle.bound_worlds.specs.BoundWorlds.{IsBoundRun, BeginsOtherwise}
use Rattle.bound_worlds.proofs.CoveredCalls.{covered_so}
use Rattle.bound_worlds.proofs.StageLists.{entries_join, packets_join, matched_join}
use Rattle.bound_worlds.proofs.Extending.{GoesFurther, goes}
use Rattle.bound_worlds.proofs.Notes.{BoundLaws, IsNotOwnNext, AreNotOwn, all_notes}
use Rattle.bound_worlds.proofs.BoundServers.{plain_stages, plain_entries, plain_packets, plain_matched, plain_carried, carried_join}

-- ---- packets, with which nothing comes to the machine

post_stages : NodeId → ℕ → List (NodeId × List ℕ) → List Stage
post_stages from sent sends = plain_stages (posted from sent sends)

-- who sends them is no data server
abbrev pub IsNoServer : NodeId → Type 0
IsNoServer (Server n) = ⊥
IsNoServer node = Unit {0}

post_matches : (past : List Entry) (place : ℕ) (number : ℕ) (from to : NodeId) (bytes : List ℕ) → IsNoServer from → Matches past place (entry.Packet number from to bytes) []
post_matches past place number Mds to bytes is = tt
post_matches past place number (Server n) to bytes is = absurd is
post_matches past place number (Client c) to bytes is = tt

pub posts_matched : (from : NodeId) → IsNoServer from → (past : List Entry) (place sent : ℕ) (sends : List (NodeId × List ℕ)) → AreMatched past place (plain_stages (posted from sent sends))
posts_matched from is past place sent [] = tt
posts_matched from is past place sent ((to, bytes) ∷ sends) = (post_matches past place (sent + 1) from to bytes is, posts_matched from is (past ++ entry.Packet (sent + 1) from to bytes ∷ []) (place + 0) (sent + 1) sends)

pub posts_carried : (n : Machine) (ss : List MdsSend) (from : NodeId) (sent : ℕ) (sends : List (NodeId × List ℕ)) → AllByRecursion (λ (x : NodeId × List ℕ). IsCarried n ss from x.0 x.1) sends → AllByRecursion (IsEntryCarried n ss) (posted from sent sends)
posts_carried n ss from sent [] all = tt
posts_carried n ss from sent ((to, bytes) ∷ sends) all = (all.0, posts_carried n ss from (sent + 1) sends all.1)

pub posts_quiet : (from : NodeId) (sent : ℕ) (sends : List (NodeId × List ℕ)) → telling (posted from sent sends) ≡ []
posts_quiet from sent [] = refl
posts_quiet from sent ((to, bytes) ∷ sends) = posts_quiet from (sent + 1) sends

pub posts : (laws : BoundLaws) (boots : List ℕ) (servers : List ServerState) (mds : MdsValue) (journal : List Entry) (i : IsBoundRun boots servers mds journal) (from : NodeId) → IsNoServer from → (sent : ℕ) (sends : List (NodeId × List ℕ))
    → AllByRecursion (λ (x : NodeId × List ℕ). IsCarried i.machine i.sends from x.0 x.1) sends → IsBoundRun boots servers mds (journal ++ posted from sent sends)
posts laws boots servers mds journal i from is sent sends carried =
    goes boots servers mds journal i (posted from sent sends) i.sends i.machine servers mds
    (record {
      moves = [];
      machine = refl;
      told = sym (posts_quiet from sent sends);
      bound = tt;
      stages = plain_stages (posted from sent sends);
      stages_are = plain_entries (posted from sent sends);
      brought = ap (λ (l : List PacketValue). i.machine.packets ++ l) (plain_packets (posted from sent sends)) ∙ append-nil i.machine.packets;
      matched = posts_matched from is journal (length i.machine.packets) sent sends;
      carried = posts_carried i.machine i.sends from sent sends carried;
    })
    (λ s inside. inside) (keeps_same i.machine) i.servers_are i.proper i.mds_is
    (subst (λ (l : List Entry). MdsHasOwnWrites i.machine.packets l mds i.sends) (sym (telling_append journal (posted from sent sends)))
    (laws.stay i.machine i.machine (telling journal) (telling (posted from sent sends)) mds i.sends (keeps_same i.machine) i.own))
    i.forms

-- ---- a client

not_own_user : (e : Entry) (more : List Entry) → is_user_entry e ≡ true → BeginsOtherwise (e ∷ more)
not_own_user e more user file uid is =
    let wrong : false ≡ true = sym (ap is_user_entry is) ∙ user in absurd cc

not_own : (e : Entry) (rest : List Entry) → BeginsOtherwise rest → IsNotOwnNext e rest
not_own (entry.Told file cred at bytes) rest other = other file cred.0
not_own e rest other = tt

pub none_own : (entries rest : List Entry) → AllByRecursion (λ e. is_user_entry e ≡ true) entries → BeginsOtherwise rest → AreNotOwn entries rest
none_own [] rest user other = tt
none_own (e ∷ []) rest user other = (not_own e rest other, tt)
none_own (e ∷ (x ∷ entries)) rest user other = (not_own e (x ∷ (entries ++ rest)) (not_own_user x (entries ++ rest) user.1.0), none_own (x ∷ entries) rest user.1 other)

pub posts_otherwise : (from : NodeId) (sent : ℕ) (sends : List (NodeId × List ℕ)) (more : List Entry) → BeginsOtherwise more → BeginsOtherwise (posted from sent sends ++ more)
posts_otherwise from sent [] more other = other
posts_otherwise from sent ((to, bytes) ∷ sends) more other = λ file uid is. absurd cc

-- ---- a list that keeps all of another begins with it

record GoesOnWith {A : Type 0} (a b : List A) : Type 0 where
  more : List A
  is : b ≡ a ++ more

begins_with : {A : Type 0} (a b : List A) → ((k : ℕ) (x : A) → slice_get a k ≡ Some x → slice_get b k ≡ Some x) → GoesOnWith a b
begins_with [] b same = record { more = b; is = refl }
begins_with (x ∷ a) [] same = let wrong = same 0 x refl in absurd cc
begins_with {A} (x ∷ a) (y ∷ b) same =
    let first : Some y ≡ Some x = same 0 x refl in
    let head : y ≡ x = cc (first) in
    let rest : GoesOnWith a b = begins_with a b (λ k z is. same (suc k) z is) in
    record { more = rest.more; is = ap (λ (h : A). h ∷ b) head ∙ ap (λ (l : List A). x ∷ l) rest.is }

-- ---- the metadata server

-- the laws of its crates
pub record MdsLaws : Type 0 where
  pub events : MdsGoesOnBound
  pub forms : MdsStaysInForm
  pub tells : (boots : List ℕ) (moves : List Move) → MakesTelling boots moves

module _ (laws : BoundLaws) (by : MdsLaws) (boots : List ℕ) (servers : List ServerState) (mds : MdsValue) (journal : List Entry) (i : IsBoundRun boots servers mds journal) (e : MdsEvent) where
  abbrev entered : List Entry
  entered = (after_event e mds).entries

  abbrev all_sent : List MdsSend
  all_sent = i.sends ++ (after_event e mds).sends

  form : StaysInForm (after_event e mds).entries (i.sends ++ (after_event e mds).sends)
  form = by.forms mds i.sends e i.mds_is.few (λ call inside. (i.mds_is.calls call inside).0) i.forms

  -- a write that is covered behind some of the entries is covered in the machine
  covered_behind : (a : List Entry) → AllByRecursion IsNoPacket a → (uid : ℕ) (id : MirrorId) (w : Pending) → IsCoveredIn (journal ++ a) uid id w → IsCovered i.machine.packets uid id w
  covered_behind a none uid id w c =
      let stages : List Stage = i.stages ++ plain_stages a in
      let entries : entries_of (i.stages ++ plain_stages a) ≡ journal ++ a = entries_join i.stages (plain_stages a) ∙ (ap (λ (l : List Entry). l ++ entries_of (plain_stages a)) i.stages_are ∙ ap (λ (l : List Entry). journal ++ l) (plain_entries a)) in
      let brought : packets_of (i.stages ++ plain_stages a) ≡ i.machine.packets = packets_join i.stages (plain_stages a) ∙ (ap (λ (l : List PacketValue). packets_of i.stages ++ l) (plain_packets a) ∙ (append-nil (packets_of i.stages) ∙ i.brought)) in
      subst (λ (l : List PacketValue). IsCovered l uid id w) brought
      (covered_so laws.apart (i.stages ++ plain_stages a) (matched_join [] 0 i.stages (plain_stages a) i.matched (plain_matched ([] ++ entries_of i.stages) (0 + length (packets_of i.stages)) a none)) uid id w
      (subst (λ (l : List Entry). IsCoveredIn l uid id w) (sym entries) c))

  part_of : (a b : List Entry) → AllByRecursion IsNoPacket (a ++ b) → AllByRecursion IsNoPacket a
  part_of [] b all = tt
  part_of (x ∷ a) b all = (all.0, part_of a b all.1)

  -- what was told before
  whole_told : (a : List Entry) → TellSame (telling journal ++ telling a) (journal ++ a)
  whole_told a = subst (λ (l : List Entry). TellSame l (journal ++ a)) (telling_append journal a) (same_told (journal ++ a))

  returned_so : (a : List Entry) → AllByRecursion IsNoPacket a → (f : FileId) (uid : ℕ) → ReturnsInPlace (journal ++ a) f uid → EndsByReturn i.machine.packets (telling journal ++ telling a) f uid
  returned_so a none f uid k = record {
    follows = (whole_told a).rogue uid ∙ k.follows;
    covered = λ ids live. at_each ids (k.covered ids (sym ((whole_told a).live f) ∙ live));
  }
    where
      at_each : (ids : List MirrorId) → AreAllCoveredIn (journal ++ a) uid ids → AreCovered i.machine.packets (telling journal ++ telling a) uid ids
      at_each ids all =
          all_more (λ id. AllByRecursion (IsCoveredIn (journal ++ a) uid id) (sent_of uid (journal ++ a))) (λ id. AllByRecursion (IsCovered i.machine.packets uid id) (sent_of uid (telling journal ++ telling a))) ids
          (λ id each. subst (λ (l : List Pending). AllByRecursion (IsCovered i.machine.packets uid id) l) (sym ((whole_told a).sent uid))
          (all_more (IsCoveredIn (journal ++ a) uid id) (IsCovered i.machine.packets uid id) (sent_of uid (journal ++ a)) (λ w. covered_behind a none uid id w) each)) all

  own_so : (a : List Entry) (f : FileId) (cred : Cred) → EndsOwnInPlace (journal ++ a) f cred.0 → EndsByOwn (telling journal ++ telling a) a f cred
  own_so a f cred k = record {
    follows = (whole_told a).rogue cred.0 ∙ k.follows;
    one = λ before at bytes is. (whole_told a).sent cred.0 ∙ k.one (journal ++ before) at bytes (ap (λ (l : List Entry). journal ++ l) is ∙ sym (append_assoc journal before (entry.Told f cred at bytes ∷ [])));
  }

  clean_so : (a : List Entry) → AllByRecursion IsNoPacket a → (f : FileId) (cred : Cred) (cause : EndCause) → EndsInPlace (journal ++ a) f cred.0 cause → IsCleanEnd i.machine.packets (telling journal ++ telling a) a f cred cause
  clean_so a none f cred Returned k = returned_so a none f cred.0 k
  clean_so a none f cred Own k = own_so a f cred k
  clean_so a none f cred AllReported k = tt
  clean_so a none f cred Recalled k = tt
  clean_so a none f cred Lease k = tt
  clean_so a none f cred NoLayout k = tt
  clean_so a none f cred ClientGone k = tt
  clean_so a none f cred ReturnedAll k = tt

  in_order : (rest : List Entry) → HoldersKeepParts (journal ++ ((after_event e mds).entries ++ rest)) → EndsInOrder i.machine.packets (telling journal) (after_event e mds).entries
  in_order rest parts a b f cred cause split =
      let whole : journal ++ ((after_event e mds).entries ++ rest) ≡ (journal ++ a) ++ entry.Ended f cred cause ∷ (b ++ rest) =
      ap (λ (l : List Entry). journal ++ (l ++ rest)) split ∙ (ap (λ (l : List Entry). journal ++ l) (append_assoc a (entry.Ended f cred cause ∷ b) rest) ∙ sym (append_assoc journal a (entry.Ended f cred cause ∷ (b ++ rest)))) in
      clean_so a (part_of a (entry.Ended f cred cause ∷ b) (subst (AllByRecursion IsNoPacket) split form.entries)) f cred cause (parts (journal ++ a) (b ++ rest) (entry.Ended f cred cause) whole)

  behind_all : {A : Type 0} (x : A) (old new : List A) → IsOneOf x new → IsOneOf x (old ++ new)
  behind_all x [] new inside = inside
  behind_all x (y ∷ old) new inside = inr (behind_all x old new inside)

  were_sent : (n : Machine) (all sends : List MdsSend) → ((s : MdsSend) → IsOneOf s sends → IsOneOf s all) → AllByRecursion (λ (x : NodeId × List ℕ). IsCarried n all Mds x.0 x.1) (map spelled_send sends)
  were_sent n all [] inside = tt
  were_sent n all (s ∷ sends) inside = (record { sent = s; inside = inside s (inl refl); is = refl }, were_sent n all sends (λ x its. inside x (inr its)))

  pub mds_acts_so : AreServersInRange i.machine → MayComeTo i.machine i.sends e.input → (sent : ℕ) (rest : List Entry) → HoldersKeepParts (journal ++ ((after_event e mds).entries ++ rest))
      → IsBoundRun boots servers (after_event e mds).mds (journal ++ ((after_event e mds).entries ++ posted Mds sent (map spelled_send (after_event e mds).sends)))
  mds_acts_so ranges may sent rest parts = with_goes (by.events i.machine (telling journal) mds i.sends e reached ranges i.mds_is may i.own (in_order rest parts))
    where
      reached : IsReachedBy i.machine (telling journal)
      reached = record { boots = boots; moves = i.moves; machine = i.reached; journal = i.told }

      sends_now : List (NodeId × List ℕ)
      sends_now = map spelled_send (after_event e mds).sends

      with_goes : BoundGoesOnBy i.machine (telling journal) (after_event e mds).entries (after_event e mds).mds (i.sends ++ (after_event e mds).sends)
          → IsBoundRun boots servers (after_event e mds).mds (journal ++ ((after_event e mds).entries ++ posted Mds sent (map spelled_send (after_event e mds).sends)))
      with_goes g =
          let keeps : KeepsPackets i.machine g.machine = goes_keep i.machine g.machine (after_event e mds).entries g.goes in
          let more : GoesOnWith i.machine.packets g.machine.packets = begins_with i.machine.packets g.machine.packets keeps in
          let told : journal_of i.machine g.goes.moves ≡ telling (after_event e mds).entries = goes_told (new_machine (new_servers 1 boots)) i.machine g.machine i.moves (after_event e mds).entries g.goes i.reached (by.tells boots (i.moves ++ g.goes.moves)) in
          let quiet : telling ((after_event e mds).entries ++ posted Mds sent (map spelled_send (after_event e mds).sends)) ≡ telling (after_event e mds).entries =
          telling_append (after_event e mds).entries (posted Mds sent (map spelled_send (after_event e mds).sends)) ∙ (ap (λ (l : List Entry). telling (after_event e mds).entries ++ l) (posts_quiet Mds sent (map spelled_send (after_event e mds).sends)) ∙ append-nil (telling (after_event e mds).entries)) in
          let none : packets_of (plain_stages (after_event e mds).entries ++ plain_stages (posted Mds sent (map spelled_send (after_event e mds).sends))) ≡ [] =
          packets_join (plain_stages (after_event e mds).entries) (plain_stages (posted Mds sent (map spelled_send (after_event e mds).sends))) ∙ (ap (λ (l : List PacketValue). l ++ packets_of (plain_stages (posted Mds sent (map spelled_send (after_event e mds).sends)))) (plain_packets (after_event e mds).entries)
          ∙ plain_packets (posted Mds sent (map spelled_send (after_event e mds).sends))) in
          goes boots servers mds journal i ((after_event e mds).entries ++ posted Mds sent (map spelled_send (after_event e mds).sends)) (i.sends ++ (after_event e mds).sends) g.machine servers (after_event e mds).mds
          (record {
            moves = g.goes.moves;
            machine = g.goes.machine;
            told = told ∙ sym quiet;
            bound = g.bound;
            stages = Hides more.more ∷ (plain_stages (after_event e mds).entries ++ plain_stages (posted Mds sent (map spelled_send (after_event e mds).sends)));
            stages_are = entries_join (plain_stages (after_event e mds).entries) (plain_stages (posted Mds sent (map spelled_send (after_event e mds).sends)))
                ∙ (ap (λ (l : List Entry). l ++ entries_of (plain_stages (posted Mds sent (map spelled_send (after_event e mds).sends)))) (plain_entries (after_event e mds).entries) ∙ ap (λ (l : List Entry). (after_event e mds).entries ++ l) (plain_entries (posted Mds sent (map spelled_send (after_event e mds).sends))));
            brought = ap (λ (l : List PacketValue). i.machine.packets ++ (more.more ++ l)) none ∙ (ap (λ (l : List PacketValue). i.machine.packets ++ l) (append-nil more.more) ∙ sym more.is);
            matched =
                matched_join journal (length i.machine.packets + length more.more) (plain_stages (after_event e mds).entries) (plain_stages (posted Mds sent (map spelled_send (after_event e mds).sends)))
                (plain_matched journal (length i.machine.packets + length more.more) (after_event e mds).entries form.entries)
                (posts_matched Mds tt (journal ++ entries_of (plain_stages (after_event e mds).entries)) ((length i.machine.packets + length more.more) + length (packets_of (plain_stages (after_event e mds).entries))) sent (map spelled_send (after_event e mds).sends));
            carried = carried_join g.machine (i.sends ++ (after_event e mds).sends) (after_event e mds).entries (posted Mds sent (map spelled_send (after_event e mds).sends))
                (plain_carried g.machine (i.sends ++ (after_event e mds).sends) (after_event e mds).entries form.entries)
                (posts_carried g.machine (i.sends ++ (after_event e mds).sends) Mds sent (map spelled_send (after_event e mds).sends) (were_sent g.machine (i.sends ++ (after_event e mds).sends) (after_event e mds).sends (λ x inside. behind_all x i.sends (after_event e mds).sends inside)));
          })
          (λ s inside. in_more s i.sends (after_event e mds).sends inside) keeps (i.servers_are ∙ sym g.servers) i.proper g.is
          (subst (λ (l : List Entry). MdsHasOwnWrites g.machine.packets l (after_event e mds).mds (i.sends ++ (after_event e mds).sends)) (sym (telling_append journal ((after_event e mds).entries ++ posted Mds sent (map spelled_send (after_event e mds).sends))))
          (subst (λ (l : List Entry). MdsHasOwnWrites g.machine.packets (telling journal ++ l) (after_event e mds).mds (i.sends ++ (after_event e mds).sends)) (sym quiet) g.own)) form.sends
