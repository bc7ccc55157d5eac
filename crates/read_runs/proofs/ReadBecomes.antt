-- What an answer and a timeout make of a READ that waits: it goes on, its mirror fails, or its bytes are given.
use Rattle.std.proofs.Common.{◌≡◌, ℕ, zero, suc, ◌+◌, Bool, true, List, [], ◌∷◌, ◌++◌, Option, Some, None, refl, sym, ap, subst, ◌∙◌, inl, inr}
use Rattle.std.specs.Prelude.{◌==◌, nat_lt, slice_get, if◌then◌else◌}
use Rattle.std.proofs.lemmas.Bool.{cond_both, eqb-true}
use Rattle.std.proofs.lemmas.Option.{same_Some, none-some}
use Rattle.rpc_record.specs.Replies.{RpcReply}
use Rattle.cluster_model.specs.declared.limits.TheConstants.{MAX_TIMEOUTS}
use Rattle.cluster_model.specs.declared.ids.NodeId.{NodeId}
use Rattle.cluster_model.specs.declared.ids.NodeId.TheVariants.{Server}
use Rattle.cluster_model.specs.declared.ids.FileId.{FileId}
use Rattle.cluster_model.specs.declared.ids.Mirror.{Mirror}
use Rattle.cluster_model.specs.declared.phase.LeftCause.{LeftCause}
use Rattle.cluster_model.specs.declared.phase.LeftCause.TheVariants.{Error, Timeouts}
use Rattle.cluster_model.specs.declared.call_stage.CallStage.{CallStage}
use Rattle.cluster_model.specs.declared.call_stage.CallStage.TheVariants.{Waits, Out, KeptOut, KeptBack, Done, GivenUp}
use Rattle.cluster_model.specs.declared.ds_call.Shown.{Shown}
use Rattle.cluster_model.specs.declared.entry.Entry.TheVariants as entry
use Rattle.cluster_model.specs.DsCalls.{Read, DsReplyValue, Created, Set, Written, Committed, Bytes, NotSync, Failed}
use Rattle.cluster_model.specs.Fences.{is_out, odd_status}
use Rattle.cluster_model.specs.Phases.{ids_of}
use Rattle.cluster_model.specs.Members.{IsOneOf}
use Rattle.ds_calls.specs.GivenReplies.{reply_of_call}
use Rattle.mds_receive.specs.MdsReceive.{IsReply, incoming_of}
use Rattle.mds_io.specs.declared.read_end.Failure.{Failure}
use Rattle.mds_io.specs.declared.read_end.ReadEnd.TheVariants as end
use Rattle.mds_io.specs.Reads.{ReadState, ReadAfter, at_stage, in_turn, with_failure, goes_on, failed_with, fails, answered, after_reply, late, after_timeout}
use Rattle.mds_rule.specs.MdsStates.{CompoundRun}
use Rattle.mds_walk.specs.MdsRuns.{Hears}
use Rattle.mds_histories.specs.MdsHistory.{MdsItem, Comes, Enters}
use Rattle.read_runs.specs.ReadRuns.{WasAsked, WasGiven}
use Rattle.read_runs.proofs.WaitingReads.{asked_more, IsOut, IsInStage, IsWaitingFor, waits_more, waits_in, waits_failed}

-- ---- what becomes of it

-- with the history so far, and the entry of a failure behind it
pub data BecomesSo (h : List MdsItem) (file : FileId) (c : CompoundRun) (r : ReadState) (a : ReadAfter) : Type 0 where
  GoesOn : (n : ReadState) → a ≡ record { read = n; end = None } → n.failures ≡ r.failures → IsWaitingFor h file c n → BecomesSo h file c r a
  Fails : (f : Failure) → a ≡ failed_with (with_failure r f) → IsWaitingFor (h ++ Enters (entry.Failed f.id f.xid) ∷ []) file c (with_failure r f) → BecomesSo h file c r a
  Gives : (w : IsWaitingFor h file c r) (eof : Bool) (bytes : List ℕ) → a ≡ record { read = at_stage r Done; end = Some (end.Bytes eof bytes) }
      → WasGiven w.start w.since r.at r.count (ids_of r.live) bytes → BecomesSo h file c r a

-- it waits under this number
record WaitsUnder (xid : ℕ) (start since : List MdsItem) (r : ReadState) : Type 0 where
  timeouts : ℕ
  stage : r.stage ≡ Out xid timeouts
  out : IsOut start since r xid

is_under : (xid : ℕ) (start since : List MdsItem) (r : ReadState) (stage : CallStage) → r.stage ≡ stage → is_out xid stage ≡ true → IsInStage start since r stage → WaitsUnder xid start since r
is_under xid start since r Waits at is so = absurd cc
is_under xid start since r (Out own timeouts) at is so =
    let same : own ≡ xid = eqb-true own xid is in
    record { timeouts = timeouts; stage = at ∙ ap (λ k. Out k timeouts) same; out = subst (λ k. IsOut start since r k) same so }
is_under xid start since r (KeptOut own) at is so = absurd so
is_under xid start since r KeptBack at is so = absurd so
is_under xid start since r Done at is so = absurd so
is_under xid start since r GivenUp at is so = absurd so

-- its mirror fails
mirror_fails : (h : List MdsItem) (file : FileId) (c : CompoundRun) (r : ReadState) (xid : ℕ) (cause : LeftCause) (w : IsWaitingFor h file c r) → IsOut w.start w.since r xid → BecomesSo h file c r (fails r xid cause (in_turn r))
mirror_fails h file c r xid cause w o =
    let f : Failure = record { id = o.mirror.id; xid = xid; cause = cause } in
    subst (λ (t : Option Mirror). BecomesSo h file c r (fails r xid cause t)) (sym o.turn) (Fails f refl (waits_failed h file c r f w o refl))

-- ---- an answer

-- a mirror of the live list
in_live : (live : List Mirror) (place : ℕ) (m : Mirror) → slice_get live place ≡ Some m → IsOneOf m.id (ids_of live)
in_live [] place m is = absurd (none-some m is)
in_live (x ∷ live) zero m is = inl (ap (λ (y : Mirror). y.id) (sym (same_Some x m is)))
in_live (x ∷ live) (suc place) m is = inr (in_live live place m is)

module _ (past : List MdsItem) (file : FileId) (c : CompoundRun) (r : ReadState) (now : ℕ) (node : NodeId) (answer : List ℕ) (reply : RpcReply) (said : DsReplyValue) where
  abbrev came : MdsItem
  came = Comes (record { now = now; input = Hears node answer })

  -- the answer is what the mirror that was asked says to its READ
  abbrev pub SaysIt : Mirror → Type 0
  SaysIt m = (node ≡ Server m.id.server) × (said ≡ reply_of_call (Read m.id.fileid r.at r.count) reply)

  given : (start since : List MdsItem) (m : Mirror) (behind : List MdsItem) (shown : Option Shown) (eof : Bool) (bytes : List ℕ) → incoming_of answer ≡ IsReply reply → in_turn r ≡ Some m
      → WasAsked start since m.id r.at r.count reply.xid behind → SaysIt m → said ≡ Bytes shown eof bytes → WasGiven start (since ++ came ∷ []) r.at r.count (ids_of r.live) bytes
  given start since m behind shown eof bytes reads turn asked says is = record {
    mirror = m.id;
    live_then = in_live r.live _ m turn;
    xid = reply.xid;
    behind = behind ++ came ∷ [];
    asked = asked_more start since m.id r.at r.count reply.xid behind (came ∷ []) asked;
    until = behind;
    now = now;
    answer = answer;
    later = [];
    came = ap (λ (from : NodeId). behind ++ Comes (record { now = now; input = Hears from answer }) ∷ []) says.0;
    reply = reply;
    reads = reads;
    number = refl;
    shown = shown;
    eof = eof;
    says = sym says.1 ∙ is;
  }

  -- the mirror that was asked fails
  failing : (cause : LeftCause) (w : IsWaitingFor past file c r) → IsOut w.start w.since r reply.xid → BecomesSo (past ++ came ∷ []) file c r (fails r reply.xid cause (in_turn r))
  unfolding waits_more
  failing cause w o =
      mirror_fails (past ++ came ∷ []) file c r reply.xid cause (waits_more past file c r (came ∷ []) (tt, tt) w)
      (record { mirror = o.mirror; turn = o.turn; behind = o.behind ++ came ∷ []; asked = asked_more w.start w.since o.mirror.id r.at r.count reply.xid o.behind (came ∷ []) o.asked })

  giving : (w : IsWaitingFor past file c r) (o : IsOut w.start w.since r reply.xid) (shown : Option Shown) (eof : Bool) (bytes : List ℕ) → incoming_of answer ≡ IsReply reply → SaysIt o.mirror → said ≡ Bytes shown eof bytes
      → BecomesSo (past ++ came ∷ []) file c r (answered r reply.xid (Bytes shown eof bytes))
  unfolding waits_more
  giving w o shown eof bytes reads says is =
      Gives (waits_more past file c r (came ∷ []) (tt, tt) w) eof bytes refl (given w.start w.since o.mirror o.behind shown eof bytes reads o.turn o.asked says is)

  by_said : (w : IsWaitingFor past file c r) (o : IsOut w.start w.since r reply.xid) → incoming_of answer ≡ IsReply reply → SaysIt o.mirror → (d : DsReplyValue) → said ≡ d → BecomesSo (past ++ came ∷ []) file c r (answered r reply.xid d)
  by_said w o reads says (Bytes shown eof bytes) is = giving w o shown eof bytes reads says is
  by_said w o reads says (Failed status shown) is = failing (Error status) w o
  by_said w o reads says (Created fileid shown) is = failing (Error odd_status) w o
  by_said w o reads says (Set shown) is = failing (Error odd_status) w o
  by_said w o reads says (Written shown verifier) is = failing (Error odd_status) w o
  by_said w o reads says (Committed shown verifier) is = failing (Error odd_status) w o
  by_said w o reads says (NotSync shown) is = failing (Error odd_status) w o

  -- what comes of the answer to the READ that is out
  pub read_answered : (w : IsWaitingFor past file c r) → incoming_of answer ≡ IsReply reply → ((o : IsOut w.start w.since r reply.xid) → SaysIt o.mirror) → BecomesSo (past ++ came ∷ []) file c r (after_reply r reply.xid said)
  read_answered w reads says =
      cond_both (is_out reply.xid r.stage) (answered r reply.xid said) (goes_on r) (λ (a : ReadAfter). BecomesSo (past ++ came ∷ []) file c r a)
      (λ is. let u : WaitsUnder reply.xid w.start w.since r = is_under reply.xid w.start w.since r r.stage refl is w.stage in by_said w u.out reads (says u.out) said refl)
      (λ off. GoesOn r refl refl (waits_more past file c r (came ∷ []) (tt, tt) w))

-- ---- a timeout

later_out : (start since : List MdsItem) (r : ReadState) (xid timeouts : ℕ) → IsOut start since r xid → IsOut start since (at_stage r (Out xid timeouts)) xid
later_out start since r xid timeouts o = record { mirror = o.mirror; turn = o.turn; behind = o.behind; asked = o.asked }

late_by : (h : List MdsItem) (file : FileId) (c : CompoundRun) (r : ReadState) (xid : ℕ) (w : IsWaitingFor h file c r) (stage : CallStage) → IsInStage w.start w.since r stage → BecomesSo h file c r (late r xid stage)
late_by h file c r xid w Waits so = GoesOn r refl refl w
late_by h file c r xid w (Out own timeouts) so =
    cond_both (own == xid) (if nat_lt (timeouts + 1) MAX_TIMEOUTS then goes_on (at_stage r (Out own (timeouts + 1))) else fails r xid Timeouts (in_turn r)) (goes_on r) (λ (a : ReadAfter). BecomesSo h file c r a)
    (λ is.
    cond_both (nat_lt (timeouts + 1) MAX_TIMEOUTS) (goes_on (at_stage r (Out own (timeouts + 1)))) (fails r xid Timeouts (in_turn r)) (λ (a : ReadAfter). BecomesSo h file c r a)
    (λ few. GoesOn (at_stage r (Out own (timeouts + 1))) refl refl (waits_in h file c r (Out own (timeouts + 1)) w (later_out w.start w.since r own (timeouts + 1) so)))
    (λ third. mirror_fails h file c r xid Timeouts w (subst (λ (k : ℕ). IsOut w.start w.since r k) (eqb-true own xid is) so)))
    (λ other. GoesOn r refl refl w)
late_by h file c r xid w (KeptOut own) so = absurd so
late_by h file c r xid w KeptBack so = absurd so
late_by h file c r xid w Done so = absurd so
late_by h file c r xid w GivenUp so = absurd so

pub read_late : (h : List MdsItem) (file : FileId) (c : CompoundRun) (r : ReadState) (xid : ℕ) → IsWaitingFor h file c r → BecomesSo h file c r (after_timeout r xid)
read_late h file c r xid w = late_by h file c r xid w r.stage w.stage
