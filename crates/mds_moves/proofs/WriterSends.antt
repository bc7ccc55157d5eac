-- What stands of the mirrors of an own write stands behind each call of it; and a new one's.
use Rattle.std.proofs.Common.{◌≡◌, ℕ, zero, suc, true, false, List, [], ◌∷◌, Option, Some, None, refl, sym, ap, subst, ◌∙◌, inl, inr}
use Rattle.std.specs.Prelude.{slice_get, slice_set, map}
use Rattle.cluster_model.specs.declared.ids.MirrorId.{MirrorId}
use Rattle.cluster_model.specs.declared.ids.Mirror.{Mirror}
use Rattle.cluster_model.specs.DsCalls.{DsCallValue, Create, SetAttr, Write, Commit, Read}
use Rattle.cluster_model.specs.Phases.{ids_of}
use Rattle.cluster_laws.specs.Machine.{PacketValue}
use Rattle.cluster_laws.specs.Holders.{IsPacketAt, IsIn, the_write, IsBoundCall}
use Rattle.cluster_laws.specs.Agreement.{sent_of}
use Rattle.cluster_model.specs.declared.entry.Entry.{Entry}
use Rattle.cluster_model.specs.Members.{IsOneOf}
use Rattle.mirror_writer.specs.declared.call.TakenWrite.{TakenWrite}
use Rattle.mirror_writer.specs.declared.call.WriteAnswer.{WriteAnswer}
use Rattle.mirror_writer.specs.declared.call.NextCall.{NextCall}
use Rattle.mirror_writer.specs.declared.call.NextCall.TheVariants.{SendsWrite, SendsCommit}
use Rattle.mirror_writer.specs.Writers.{WriterMirror, WriterValue, WriterSends, new_mirror, queued, next_place, next_at, write_of_taken, call_for, with_out, sends_as, sends_next, sends_to, sends_at, next_sent}
use Rattle.mds_rule.specs.MdsStates.{MdsSend, CallsServer}
use Rattle.mds_walk.proofs.Lists.{AllOf, all_set, all_got}
use Rattle.mds_laws.proofs.OwnWriters.{IsCallOf}
use Rattle.mds_moves.specs.MdsBinds.{AreCallsBehind, IsAnsweredBefore, IsAnswerKept, IsWrittenTo}
use Rattle.mds_moves.proofs.WriterMirrors.{MirrorFailures, all_more, PacketsKept, answer_still, mirror_still, ids_in, ids_set}

-- the one write that was taken
one_taken : (taken : List TakenWrite) (x t : TakenWrite) (n : ℕ) → taken ≡ x ∷ [] → slice_get taken n ≡ Some t → t ≡ x
one_taken taken x t zero one at = cc (one, at)
one_taken taken x t (suc n) one at = absurd (none (ap (λ (l : List TakenWrite). slice_get l (suc n)) (sym one) ∙ at))
  where
    none : slice_get (x ∷ []) (suc n) ≡ Some t → ⊥
    none is = cc

in_one : (taken : List TakenWrite) (x t : TakenWrite) → taken ≡ x ∷ [] → IsOneOf t taken → t ≡ x
in_one taken x t one inside = by_place (subst (IsOneOf t) one inside)
  where
    by_place : IsOneOf t (x ∷ []) → t ≡ x
    by_place (inl is) = is
    by_place (inr other) = absurd other

module _ (old new : List PacketValue) (keeps : PacketsKept old new) (ss ts : List MdsSend) (more : (s : MdsSend) → IsOneOf s ss → IsOneOf s ts) (uid at : ℕ) (bytes : List ℕ) (fs : MirrorFailures) (w : WriterValue)
    (taken : w.taken ≡ (record { at = at; bytes = bytes }) ∷ []) (all : AllOf (IsWrittenTo old ss uid at bytes fs) w.mirrors) (xid : ℕ) (behind : (place : ℕ) (packet : PacketValue) → IsPacketAt old place packet → AreCallsBehind new place xid) where
  abbrev SendsSo : Option WriterSends → Type 0
  SendsSo None = Unit {0}
  SendsSo (Some c) = IsOneOf (CallsServer c.id.server xid uid c.call) ts → AllOf (IsWrittenTo new ts uid at bytes fs) c.writer.mirrors × (ids_in c.writer.mirrors ≡ ids_in w.mirrors)

  still : AllOf (IsWrittenTo new ts uid at bytes fs) w.mirrors
  still = all_more (IsWrittenTo old ss uid at bytes fs) (IsWrittenTo new ts uid at bytes fs) (λ m i. mirror_still old new keeps ss ts more uid at bytes fs m i) w.mirrors all

  module _ (place : ℕ) (m : WriterMirror) (there : slice_get w.mirrors place ≡ Some m) where
    was : IsWrittenTo old ss uid at bytes fs m
    was = all_got (IsWrittenTo old ss uid at bytes fs) w.mirrors place m all there

    now : IsWrittenTo new ts uid at bytes fs m
    now = mirror_still old new keeps ss ts more uid at bytes fs m was

    put : (n : WriterMirror) → n.id ≡ m.id → IsWrittenTo new ts uid at bytes fs n → AllOf (IsWrittenTo new ts uid at bytes fs) (slice_set w.mirrors place n) × (ids_in (slice_set w.mirrors place n) ≡ ids_in w.mirrors)
    put n same its = (all_set (IsWrittenTo new ts uid at bytes fs) w.mirrors place n still its, ids_set w.mirrors place m n there same)

    write_out : (n : ℕ) (o : Option TakenWrite) → slice_get w.taken n ≡ o → SendsSo (sends_as w xid place m (SendsWrite n) (write_of_taken m.id o))
    write_out n None got = tt
    write_out n (Some t) got =
        let same : t ≡ record { at = at; bytes = bytes } = one_taken w.taken (record { at = at; bytes = bytes }) t n taken got in
        λ sent.
        put (with_out xid (SendsWrite n) m) refl (record {
          out = subst (λ (x : TakenWrite). IsOneOf (CallsServer m.id.server xid uid (Write m.id.fileid x.at false x.bytes)) ts) same sent;
          answered = now.answered;
          is_covered = now.is_covered;
          flag = now.flag;
          covers = now.covers;
          failed = now.failed;
        })

    call_goes : (next : NextCall) → SendsSo (sends_as w xid place m next (call_for w m.id next))
    call_goes (SendsWrite n) = write_out n (slice_get w.taken n) refl
    call_goes SendsCommit = λ sent.
        put (with_out xid SendsCommit m) refl (record {
          out = (
            sent,
            all_more (IsAnswerKept old uid m.id at bytes) (λ (a : WriteAnswer). IsAnsweredBefore new uid m.id at bytes a.verifier xid)
                (λ a its. record { answer = answer_still old new keeps uid m.id at bytes a.verifier its; before = behind its.place _ its.there }) m.answered was.answered,
          );
          answered = now.answered;
          is_covered = now.is_covered;
          flag = now.flag;
          covers = now.covers;
          failed = now.failed;
        })

    next_goes : (o : Option NextCall) → SendsSo (sends_next w xid place m o)
    next_goes None = tt
    next_goes (Some next) = call_goes next

  to_goes : (place : ℕ) (o : Option WriterMirror) → slice_get w.mirrors place ≡ o → SendsSo (sends_to w xid place o)
  to_goes place None there = tt
  to_goes place (Some m) there = next_goes place m there (next_at w.wants_commit m)

  at_goes : (o : Option ℕ) → SendsSo (sends_at w xid o)
  at_goes None = tt
  at_goes (Some place) = to_goes place (slice_get w.mirrors place) refl

  pub call_so : (c : WriterSends) → next_sent w xid ≡ Some c → IsOneOf (CallsServer c.id.server xid uid c.call) ts → AllOf (IsWrittenTo new ts uid at bytes fs) c.writer.mirrors × (ids_in c.writer.mirrors ≡ ids_in w.mirrors)
  call_so c is = subst SendsSo is (at_goes (next_place w))

-- a WRITE of it is of the write that was taken
pub is_bound : (journal : List Entry) (uid at : ℕ) (bytes : List ℕ) (w : WriterValue) → w.taken ≡ (record { at = at; bytes = bytes }) ∷ [] → IsIn (the_write at bytes) (sent_of uid journal) → (call : DsCallValue) → IsCallOf w call
    → IsBoundCall journal uid call
is_bound journal uid at bytes w taken sent (Create name owner) its = tt
is_bound journal uid at bytes w taken sent (SetAttr fileid owner guard) its = tt
is_bound journal uid at bytes w taken sent (Write fileid place synced b) its =
    let same : record { at = place; bytes = b } ≡ record { at = at; bytes = bytes } = in_one w.taken (record { at = at; bytes = bytes }) (record { at = place; bytes = b }) taken its.1 in
    inl (subst (λ (x : TakenWrite). IsIn (the_write x.at x.bytes) (sent_of uid journal)) (sym same) sent)
is_bound journal uid at bytes w taken sent (Commit fileid) its = tt
is_bound journal uid at bytes w taken sent (Read fileid place count) its = tt

-- ---- a new one

pub new_ids : (live : List Mirror) → ids_in (map (queued 0) (map new_mirror live)) ≡ ids_of live
new_ids [] = refl
new_ids (m ∷ live) = ap (λ (l : List MirrorId). m.id ∷ l) (new_ids live)

never : false ≡ true → ⊥
never is = absurd cc

pub new_so : (packets : List PacketValue) (ss : List MdsSend) (uid at : ℕ) (bytes : List ℕ) (live : List Mirror) → AllOf (IsWrittenTo packets ss uid at bytes []) (map (queued 0) (map new_mirror live))
new_so packets ss uid at bytes [] = tt
new_so packets ss uid at bytes (m ∷ live) =
    (record { out = tt; answered = tt; is_covered = false; flag = refl; covers = λ is. absurd (never is); failed = λ is. absurd (never is) }, new_so packets ss uid at bytes live)
