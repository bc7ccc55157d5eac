-- A write that a journal with its packets says is covered is covered in the machine.
use Rattle.std.proofs.Common.{◌≡◌, ◌<◌, ◌≤◌, ◌^◌, ℕ, ◌+◌, false, List, [], ◌∷◌, ◌++◌, length, Some, Ok, refl, sym, ap, subst, ◌∙◌, arith}
use Rattle.std.specs.Prelude.{take, slice_get, Result}
use Rattle.std.specs.Int.{w32, from_be_bytes}
use Rattle.std.proofs.lemmas.Nat.{from_be_bytes-to_be_bytes_4}
use Rattle.std.proofs.lemmas.List.{append_assoc, length-append}
use Rattle.ff_xdr.specs.Form.{word}
use Rattle.rpc_record.specs.Replies.{RpcReply, reply_at}
use Rattle.cluster_model.specs.declared.ids.NodeId.{NodeId}
use Rattle.cluster_model.specs.declared.ids.NodeId.TheVariants.{Server, Client}
use Rattle.cluster_model.specs.declared.ids.MirrorId.{MirrorId}
use Rattle.cluster_model.specs.declared.entry.Entry.{Entry}
use Rattle.cluster_model.specs.declared.entry.Entry.TheVariants.{Packet}
use Rattle.cluster_model.specs.Content.{Pending}
use Rattle.cluster_model.specs.DsCalls.{DsCallValue, DsReplyValue, Write, Commit, Written, Committed}
use Rattle.ds_calls.specs.GivenReplies.{reply_of_call}
use Rattle.ds_calls.specs.DsCallLaws.{DsMessage, HasRecord, record_of, AreToldApart}
use Rattle.cluster_laws.specs.Machine.{PacketValue, Call, Reply}
use Rattle.cluster_laws.specs.Holders.{IsCovered}
use Rattle.holder_parts.specs.CoveredRecords.{WasPosted, IsOnlyRecord, IsAnsweredSo, IsCoveredIn}
use Rattle.bound_worlds.specs.MatchedPackets.{Stage, Shows, Hides, entries_of, packets_of, IsServedCall, Matches, AreMatched}
use Rattle.bound_worlds.proofs.StageLists.{OneGoesOn, FirstDoes, SecondDoes, beginnings, AreCut, cut_at, ShowsAt, shows_at, packets_join, entries_join, matched_at, matched_front, there_behind, next_behind}

-- different calls have different records
abbrev pub ToldApart : Type 0
ToldApart = (m n : DsMessage) → AreToldApart m n

-- a record begins with its number
pub number_first : (m : DsMessage) → take 4 (record_of m) ≡ word m.xid
unfolding word
number_first m = refl

-- what was posted stays so
pub still_posted : (journal more : List Entry) (from to : NodeId) (bytes : List ℕ) → WasPosted journal from to bytes → WasPosted (journal ++ more) from to bytes
still_posted journal more from to bytes w = record {
  number = w.number;
  before = w.before;
  behind = w.behind ++ more;
  split = ap (λ (l : List Entry). l ++ more) w.split ∙ append_assoc w.before (Packet w.number from to bytes ∷ w.behind) more;
}

-- ---- one answer

-- where an answer to a message stands among stages: the call and the reply, behind these packets
pub record StandsAmong (stages : List Stage) (client n : ℕ) (message : DsMessage) (says : DsReplyValue) : Type 0 where
  pub front : List Stage
  pub entry : Entry
  pub back : List Stage
  pub is : stages ≡ front ++ Shows entry (Call (Client client) n message.xid message.user message.user message.call ∷ (Reply (length (packets_of front)) n (Client client) message.xid says ∷ [])) ∷ back
  pub posted : WasPosted (entries_of front) (Client client) (Server n) (record_of message)

module _ (apart : ToldApart) where
  same_reply : (bytes : List ℕ) (r s : RpcReply) → reply_at bytes ≡ Ok r → reply_at bytes ≡ Ok s → r ≡ s
  same_reply bytes r s first second = let e = sym first ∙ second in cc (e)

  -- the message that was served is the one that was asked
  its_message : (journal more : List Entry) (client n : ℕ) (message : DsMessage) → HasRecord message → IsOnlyRecord (journal ++ more) client n message → (bytes : List ℕ) (reply : RpcReply) → reply_at bytes ≡ Ok reply → reply.xid ≡ message.xid
      → (place : ℕ) (packets : List PacketValue) (s : IsServedCall journal place n client bytes packets) → s.message ≡ message
  its_message journal more client n message fits only bytes reply reads its place packets s =
      let number : s.message.xid ≡ message.xid = sym s.number ∙ (ap (λ (r : RpcReply). r.xid) (same_reply bytes s.reply reply s.reads reads) ∙ its) in
      let there : WasPosted (journal ++ more) (Client client) (Server n) (record_of s.message) = still_posted journal more (Client client) (Server n) (record_of s.message) s.posted in
      apart s.message message s.fits fits (only (record_of s.message) there (number_first s.message ∙ ap word number))

  pub stands_among : (stages : List Stage) → AreMatched [] 0 stages → (client n : ℕ) (message : DsMessage) (says : DsReplyValue) → IsAnsweredSo (entries_of stages) client n message says → StandsAmong stages client n message says
  stands_among stages matched client n message says a = with_stage (shows_at stages a.came.before (Packet a.came.number (Server n) (Client client) a.bytes) a.came.behind a.came.split)
    where
      with_stage : ShowsAt stages a.came.before (Packet a.came.number (Server n) (Client client) a.bytes) a.came.behind → StandsAmong stages client n message says
      with_stage s =
          let e : Entry = Packet a.came.number (Server n) (Client client) a.bytes in
          let served : IsServedCall (entries_of s.front) (0 + length (packets_of s.front)) n client a.bytes s.packets = matched_at [] 0 s.front e s.packets s.back (subst (AreMatched [] 0) s.is matched) in
          let whole : entries_of stages ≡ entries_of s.front ++ e ∷ entries_of s.back = ap entries_of s.is ∙ entries_join s.front (Shows e s.packets ∷ s.back) in
          let only : IsOnlyRecord (entries_of s.front ++ e ∷ entries_of s.back) client n message = subst (λ (l : List Entry). IsOnlyRecord l client n message) whole a.only in
          let mine : served.message ≡ message = its_message (entries_of s.front) (e ∷ entries_of s.back) client n message a.fits only a.bytes a.reply a.reply_is a.number _ s.packets served in
          let one : served.reply ≡ a.reply = same_reply a.bytes served.reply a.reply served.reads a.reply_is in
          let given : served.given ≡ says = sym served.answer ∙ (ap (λ (m : DsMessage). reply_of_call m.call served.reply) mine ∙ (ap (reply_of_call message.call) one ∙ a.says_so)) in
          let place : 0 + length (packets_of s.front) ≡ length (packets_of s.front) = omega (arith) in
          let brought : s.packets ≡ both (length (packets_of s.front)) says message =
          served.brought ∙ (ap (λ (k : ℕ). both k served.given served.message) place ∙ (ap (both (length (packets_of s.front)) served.given) mine ∙ ap (λ (r : DsReplyValue). both (length (packets_of s.front)) r message) given)) in
          record {
            front = s.front;
            entry = e;
            back = s.back;
            is = s.is ∙ ap (λ (l : List PacketValue). s.front ++ Shows e l ∷ s.back) brought;
            posted = subst (λ (m : DsMessage). WasPosted (entries_of s.front) (Client client) (Server n) (record_of m)) mine served.posted;
          }
        where
          both : ℕ → DsReplyValue → DsMessage → List PacketValue
          both place given m = Call (Client client) n m.xid m.user m.user m.call ∷ (Reply place n (Client client) m.xid given ∷ [])

-- ---- a covered write

module _ (apart : ToldApart) (stages : List Stage) (matched : AreMatched [] 0 stages) where
  -- the place of a stage's packets
  at_front : (front : List Stage) (e : Entry) (back : List Stage) (x y : PacketValue) → stages ≡ front ++ Shows e (x ∷ (y ∷ [])) ∷ back
      → (slice_get (packets_of stages) (length (packets_of front)) ≡ Some x) × (slice_get (packets_of stages) (length (packets_of front) + 1) ≡ Some y)
  at_front front e back x y is =
      let whole : packets_of stages ≡ packets_of front ++ x ∷ (y ∷ packets_of back) = ap packets_of is ∙ packets_join front (Shows e (x ∷ (y ∷ [])) ∷ back) in (
        ap (λ (l : List PacketValue). slice_get l (length (packets_of front))) whole ∙ there_behind (packets_of front) x (y ∷ packets_of back),
        ap (λ (l : List PacketValue). slice_get l (length (packets_of front) + 1)) whole ∙ next_behind (packets_of front) x y (packets_of back),
      )

  -- a call whose record was not sent before an earlier moment came behind that
  comes_behind : (first later : List Entry) (c : AreCut stages first later) (client n : ℕ) (message : DsMessage) → ((bytes : List ℕ) → WasPosted first (Client client) (Server n) bytes → take 4 bytes ≡ word message.xid → ⊥)
      → (front : List Stage) (back : List Stage) → stages ≡ front ++ back → WasPosted (entries_of front) (Client client) (Server n) (record_of message) → length (packets_of c.front) ≤ length (packets_of front)
  comes_behind first later c client n message new front back is posted = by_order (one_of c.front front c.back back (sym c.is ∙ is))
    where
      one_of : (a b x y : List Stage) → a ++ x ≡ b ++ y → OneGoesOn a b
      one_of a b x y e = beginnings a x b y e

      by_order : OneGoesOn c.front front → length (packets_of c.front) ≤ length (packets_of front)
      by_order (FirstDoes more longer) =
          let e : length (packets_of front) ≡ length (packets_of c.front) + length (packets_of more) = ap (λ (l : List Stage). length (packets_of l)) longer ∙ (ap (λ (l : List PacketValue). length l) (packets_join c.front more) ∙ length-append (packets_of c.front) (packets_of more)) in
          omega (arith, e)
      by_order (SecondDoes more longer) =
          let whole : first ≡ entries_of front ++ entries_of more = sym c.front_is ∙ (ap entries_of longer ∙ entries_join front more) in
          absurd (new (record_of message) (subst (λ (l : List Entry). WasPosted l (Client client) (Server n) (record_of message)) (sym whole) (still_posted (entries_of front) (entries_of more) (Client client) (Server n) (record_of message) posted)) (number_first message))

  pub covered_so : (uid : ℕ) (id : MirrorId) (w : Pending) → IsCoveredIn (entries_of stages) uid id w → IsCovered (packets_of stages) uid id w
  covered_so uid id w i = with_cut (cut_at stages i.first i.later i.split)
    where
      with_cut : AreCut stages i.first i.later → IsCovered (packets_of stages) uid id w
      with_cut c =
          let early : IsAnsweredSo (entries_of c.front) i.client id.server i.wrote (Written i.write_shown i.verifier) = subst (λ (l : List Entry). IsAnsweredSo l i.client id.server i.wrote (Written i.write_shown i.verifier)) (sym c.front_is) i.written in
          let a : StandsAmong c.front i.client id.server i.wrote (Written i.write_shown i.verifier) = stands_among apart c.front (matched_front [] 0 c.front c.back (subst (AreMatched [] 0) c.is matched)) i.client id.server i.wrote (Written i.write_shown i.verifier) early in
          let b : StandsAmong stages i.client id.server i.commit (Committed i.commit_shown i.verifier) = stands_among apart stages matched i.client id.server i.commit (Committed i.commit_shown i.verifier) i.committed in
          let a_is = c.is ∙ (ap (λ (l : List Stage). l ++ c.back) a.is ∙ append_assoc a.front (Shows a.entry _ ∷ a.back) c.back) in
          let first = at_front a.front a.entry (a.back ++ c.back) _ _ a_is in
          let second = at_front b.front b.entry b.back _ _ b.is in
          let order : length (packets_of c.front) ≤ length (packets_of b.front) = comes_behind i.first i.later c i.client id.server i.commit i.new b.front _ b.is b.posted in
          let inside : length (packets_of c.front) ≡ length (packets_of a.front) + (2 + length (packets_of a.back)) = counted c.front a.front a.entry a.back _ _ a.is in
          record {
            writer = Client i.client;
            write_xid = i.wrote.xid;
            write_gid = i.wrote.user;
            synced = false;
            write_place = length (packets_of a.front);
            write = first.0 ∙ written_is;
            verifier = i.verifier;
            write_shown = i.write_shown;
            written_place = length (packets_of a.front) + 1;
            written = first.1;
            committer = Client i.client;
            commit_xid = i.commit.xid;
            commit_uid = i.commit.user;
            commit_gid = i.commit.user;
            commit_place = length (packets_of b.front);
            behind = omega (arith, order, inside);
            commit = second.0 ∙ ap (λ (call : DsCallValue). Some (Call (Client i.client) id.server i.commit.xid i.commit.user i.commit.user call)) i.commit_is;
            commit_shown = i.commit_shown;
            committed_place = length (packets_of b.front) + 1;
            committed = second.1;
          }
        where
          counted : (all front : List Stage) (e : Entry) (back : List Stage) (x y : PacketValue) → all ≡ front ++ Shows e (x ∷ (y ∷ [])) ∷ back
              → length (packets_of all) ≡ length (packets_of front) + (2 + length (packets_of back))
          counted all front entry back x y is =
              let e : packets_of all ≡ packets_of front ++ x ∷ (y ∷ packets_of back) = ap packets_of is ∙ packets_join front (Shows entry (x ∷ (y ∷ [])) ∷ back) in
              let n : length (packets_of front ++ x ∷ (y ∷ packets_of back)) ≡ length (packets_of front) + length (x ∷ (y ∷ packets_of back)) = length-append (packets_of front) (x ∷ (y ∷ packets_of back)) in
              ap (λ (l : List PacketValue). length l) e ∙ (n ∙ omega (arith))

          written_is : Some (Call (Client i.client) id.server i.wrote.xid i.wrote.user i.wrote.user i.wrote.call) ≡ Some (Call (Client i.client) id.server i.wrote.xid uid i.wrote.user (Write id.fileid w.at false w.bytes))
          written_is = ap (λ (call : DsCallValue). Some (Call (Client i.client) id.server i.wrote.xid i.wrote.user i.wrote.user call)) i.its_call
              ∙ ap (λ (u : ℕ). Some (Call (Client i.client) id.server i.wrote.xid u i.wrote.user (Write id.fileid w.at false w.bytes))) i.its_user
