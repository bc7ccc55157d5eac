-- Each part of an event of the server is moves of the machine, and so is each event.
use Rattle.std.proofs.Common.{◌≡◌, ◌<◌, ℕ, ◌-◌, true, false, List, [], ◌∷◌, ◌++◌, Option, Some, refl, sym, ap, subst, ◌∙◌, inl, inr, arith, filter}
use Rattle.std.specs.Prelude.{not, ◌==◌}
use Rattle.std.proofs.lemmas.Bool.{and_parts, eqb-true}
use Rattle.std.proofs.lemmas.List.{append-nil}
use Rattle.std.proofs.lemmas.Option.{none-some}
use Rattle.rpc_record.specs.Replies.{RpcReply}
use Rattle.cluster_model.specs.declared.ids.NodeId.{NodeId}
use Rattle.cluster_model.specs.declared.ids.NodeId.TheVariants.{Mds, Server, Client}
use Rattle.cluster_model.specs.declared.ids.FileId.{FileId}
use Rattle.cluster_model.specs.declared.entry.Entry.{Entry}
use Rattle.cluster_model.specs.declared.entry.Entry.TheVariants as entry
use Rattle.cluster_model.specs.DsCalls.{DsCallValue, DsReplyValue}
use Rattle.cluster_model.specs.Nodes.{is_node}
use Rattle.cluster_model.specs.Members.{IsOneOf}
use Rattle.rpc_record.specs.CallNumbers.{IsBelow}
use Rattle.ds_calls.specs.GivenReplies.{reply_of_call}
use Rattle.file_rule.specs.FilePhases.{phase}
use Rattle.file_rule.specs.MdsFiles.{MdsFile}
use Rattle.nfs4_types.specs.declared.stateid.Stateid.{Stateid}
use Rattle.nfs4_session.specs.declared.back.BackCall.{BackCall}
use Rattle.cluster_laws.specs.Machine.{PacketValue, Call, Machine, new_machine, journal_of}
use Rattle.cluster_laws.specs.FenceLaw.{new_servers}
use Rattle.cluster_laws.proofs.FewMirrors.{FileHasFew}
use Rattle.mds_rule.specs.LayoutOps.{with_holder}
use Rattle.mds_rule.specs.Goes.{calls_as, has_xids}
use Rattle.mds_moves.specs.MdsBinds.{IsReachedBy, OwnWriteStands, ServedStands, HasOwnWrites, MdsHasOwnWrites, MdsGoesOnBound}
use Rattle.mds_moves.proofs.FileStands.{RunsStand, TellsAll}
use Rattle.mds_moves.proofs.OwnKept.{ends_before, told_join, own_later, own_on, served_on}
use Rattle.mds_moves.proofs.OwnCases.{same_case, begins_case, alone_case, answer_case, late_write, drop_case, ends_case}
use Rattle.cluster_laws.specs.CallRanges.{AreServersInRange}
use Rattle.cluster_laws.specs.Telling.{telling}
use Rattle.machine_moves.proofs.Bound.{goes_untold}
use Rattle.mds_receive.specs.MdsReceive.{PassedOver, IsReply, incoming_of}
use Rattle.mds_rule.specs.MdsStates.{WaitingWrite, ServedFile, MdsSend, CallsServer, CallsBack, Replies, Answers, AwaitedCall, MdsValue, is_call_to}
use Rattle.mds_rule.specs.declared.waiter.Waiter.TheVariants.{ForRead, ForRecall}
use Rattle.mds_walk.specs.MdsRuns.{MdsEvent, MdsInput, Hears as Comes, IsTimedOut, Ticks, RecallsFile, Resilvers, after_event}
use Rattle.mds_laws.specs.MdsRunLaws.{number_sent}
use Rattle.mds_walk.proofs.Lists.{in_more, in_filtered, all_in, all_got}
use Rattle.mds_walk.proofs.Parts.{Hearing, HearsSo}
use Rattle.mds_laws.proofs.Keeping.{is_note}
use Rattle.mds_laws.proofs.EachCases.{EachCase}
use Rattle.mds_walk.proofs.Served.{place_served}
use Rattle.mds_laws.proofs.Numbers.{in_below}
use Rattle.mds_laws.proofs.GoesWalk.{each_event}
use Rattle.mds_moves.specs.MdsMoves.{IsSentIn, IsAwaitedFor, IsWaitingInRange, IsMdsOf, IsSendAnswered, MayComeFrom, MayComeTo, MdsGoesOn}
use Rattle.mds_moves.proofs.Draws.{DrawFew}
use Rattle.mds_moves.proofs.CallKinds.{read_used, read_bound}
use Rattle.mds_moves.proofs.MdsMachine.{is_new, goes_calling, sends_more, passes_over, awaits_fewer}
use Rattle.mds_moves.proofs.Ranges.{CallsFit, read_spoken}
use Rattle.mds_moves.proofs.Stands.{HeardBy, IsFrom, then_reached}
use Rattle.mds_moves.proofs.Inputs.{itself_case, late_case, hears_case, learns_case}
use Rattle.mds_moves.proofs.Files.{makes_case}
use Rattle.mds_moves.proofs.Calls.{push_there, write_of, file_case, used_case, write_case}

-- a note tells nothing
untold : (e : Entry) → is_note e ≡ true → telling (e ∷ []) ≡ []
untold (entry.TimedOut node xid) note = refl
untold (entry.Failed id xid) note = refl
untold (entry.Later file phase) note = refl
untold (entry.ReadAnswer file status bytes) note = refl
untold e note = absurd cc

module _ (few : DrawFew) (fit : CallsFit) (tells : TellsAll) (stand : RunsStand) (mc : Machine) (journal : List Entry) (reached : IsReachedBy mc journal) (range : AreServersInRange mc) (Stood : Type 0) (past : List MdsSend) where
  abbrev IsSo : MdsValue → List Entry → List MdsSend → Type 0
  IsSo m es ss = IsFrom mc journal Stood past m es ss

  abbrev Sent : Machine → List Entry → List MdsSend → MdsSend → MdsValue → Type 0
  Sent n es ss s m = (Stood → HasOwnWrites n.packets (journal ++ telling es) ss m.files m.fresh) → Stood → HasOwnWrites n.packets (journal ++ telling es) (ss ++ s ∷ []) m.files m.fresh

  still_own : (n : Machine) (es : List Entry) (ss : List MdsSend) (s : MdsSend) (m : MdsValue) → Sent n es ss s m
  still_own n es ss s m own stood = own_on n.packets n.packets (λ place packet p. p) (journal ++ telling es) ss (ss ++ s ∷ []) (λ x inside. in_more x ss (s ∷ []) inside) m.files m.fresh (own stood)

  more : (m : MdsValue) (es : List Entry) (ss : List MdsSend) (i : IsSo m es ss) (s : MdsSend) → IsSentIn i.machine s
      → ((b : MdsSend) (xid : ℕ) → IsOneOf b ss → number_sent s ≡ Some xid → number_sent b ≡ Some xid → s ≡ b) → (not (m.next_xid == 0) ≡ true → IsBelow m.next_xid (number_sent s)) → IsSo m es (ss ++ s ∷ [])
  more m es ss i s stands once below = record {
    machine = i.machine;
    goes = i.goes;
    stays = i.stays;
    is = sends_more i.machine m.servers m.mirrors m.files m.fresh m.calls m.next_xid ss i.is s stands once below;
    kept = λ x inside. in_more x ss (s ∷ []) (i.kept x inside);
    binds = i.binds;
    own = still_own i.machine es ss s m i.own;
  }

  -- what is entered and tells nothing
  untold_more : (m : MdsValue) (es more : List Entry) (ss : List MdsSend) → telling more ≡ [] → (i : IsSo m es ss) → IsSo m (es ++ more) ss
  untold_more m es others ss quiet i = record {
    machine = i.machine;
    goes = goes_untold mc i.machine es others i.goes quiet;
    stays = i.stays;
    is = i.is;
    kept = i.kept;
    binds = λ stood ends. i.binds stood (ends_before mc.packets journal es others ends);
    own = λ stood.
        subst (λ (j : List Entry). HasOwnWrites i.machine.packets j ss m.files m.fresh) (sym (told_join journal es others))
        (own_later i.machine.packets i.machine.packets (λ place packet p. p) (journal ++ telling es) (telling others) ss ss (λ x inside. inside) m.files m.fresh (i.own stood));
  }

  called_back : (m : MdsValue) (node : NodeId) (back : BackCall) (file : FileId) (stateid : Stateid) → has_xids m ≡ true → (es : List Entry) (ss : List MdsSend) → IsSo m es ss
      → IsSo (calls_as m node ForRecall (CallsBack m.next_xid back file stateid)).mds es (ss ++ CallsBack m.next_xid back file stateid ∷ [])
  called_back m node back file stateid has es ss i =
      let call : AwaitedCall = record { node = node; xid = m.next_xid; caller = ForRecall; sent = CallsBack m.next_xid back file stateid } in
      let new : i.machine.last_xid Mds < m.next_xid = is_new i.machine m.servers m.mirrors m.files m.fresh m.calls m.next_xid ss i.is has in
      record {
        machine = i.machine;
        goes = i.goes;
        stays = i.stays;
        is = goes_calling i.machine i.machine (record { packets = λ place packet p. p; servers = refl }) m.servers m.mirrors m.files m.fresh m.calls m.next_xid ss i.is has (omega (arith, new)) call refl
            (record { number = refl; node = tt }) tt m.files i.is.files i.is.fresh i.is.writes;
        kept = λ s inside. in_more s ss (call.sent ∷ []) (i.kept s inside);
        binds = i.binds;
        own = still_own i.machine es ss call.sent m i.own;
      }

  pub cases : EachCase IsSo (HeardBy mc past)
  cases = record {
    quiet = λ m confirmed opens reclaimed recalls es ss i. i;
    tables = λ m move is es ss i. i;
    replies = λ m node reply es ss i. more m es ss i (Replies node reply) tt (λ b xid inside new old. absurd (none-some xid new)) (λ has. tt);
    answers = λ m node bytes reply is es ss i. more m es ss i (Answers node bytes) tt (λ b xid inside new old. absurd (none-some xid new)) (λ has. tt);
    notes = λ m e note es ss i. untold_more m es (e ∷ []) ss (untold e note) i;
    puts = λ m file s t at same holder write es ss i. same_case few fit tells stand mc journal reached range Stood past m file s t at same write es ss i;
    holds = λ m file s client again at es ss i. same_case few fit tells stand mc journal reached range Stood past m file s (with_holder client again s) at refl refl es ss i;
    inputs = itself_case few tells stand mc journal reached Stood past;
    timeouts = late_case few tells stand mc journal reached Stood past;
    hears = hears_case few tells stand mc journal reached Stood past;
    learns = learns_case few tells stand mc journal reached Stood past;
    begins_write = begins_case few fit tells stand mc journal reached range Stood past;
    begins_alone = alone_case few fit tells stand mc journal reached range Stood past;
    answers_write = answer_case few fit tells stand mc journal reached range Stood past;
    times_write = late_write few fit tells stand mc journal reached range Stood past;
    ends_write = ends_case few fit tells stand mc journal reached range Stood past;
    drops_write = λ m file s w places at waits over spent es ss i. drop_case few fit tells stand mc journal reached range Stood past m file s at es ss i;
    makes = makes_case tells mc journal reached Stood past;
    calls_file = file_case tells mc journal reached Stood past fit range;
    calls_write = write_case tells mc journal reached Stood past;
    calls_read = λ m file s t server call at has same holder write uid is_read es ss i.
        used_case tells mc journal reached Stood past m file s t (ForRead file) server 0 call at same has (read_used call is_read) es ss i tt (read_spoken m.next_xid call i.is.few is_read)
        (subst IsWaitingInRange (sym write) (write_of m file s at i.is.writes)) (λ stood. read_bound (journal ++ telling es) call is_read)
        (λ stood own.
        (let place = (place_served m file s at).1 in
        let packet : PacketValue = Call Mds server m.next_xid 0 0 call in
        let sent : MdsSend = CallsServer server m.next_xid 0 call in (
          subst (λ (f : MdsFile). OwnWriteStands (i.machine.packets ++ packet ∷ []) (journal ++ telling es) (ss ++ sent ∷ []) f t.write) (sym same)
              (subst (λ (o : Option WaitingWrite). OwnWriteStands (i.machine.packets ++ packet ∷ []) (journal ++ telling es) (ss ++ sent ∷ []) s.file o) (sym write)
              (served_on i.machine.packets (i.machine.packets ++ packet ∷ []) (λ p x there. push_there i.machine.packets packet p x there) (journal ++ telling es) ss (ss ++ sent ∷ []) (λ x inside. in_more x ss (sent ∷ []) inside) s
              (all_got (ServedStands i.machine.packets (journal ++ telling es) ss) m.files (file.0 - 1) s own.writes place))),
          subst FileHasFew (sym same) (all_got (λ (y : ServedFile). FileHasFew y.file) m.files (file.0 - 1) s own.few place),
        )));
    calls_back = λ m node back file stateid has es ss i.
        untold_more (calls_as m node ForRecall (CallsBack m.next_xid back file stateid)).mds es [] (ss ++ CallsBack m.next_xid back file stateid ∷ []) refl (called_back m node back file stateid has es ss i);
    skips = λ m has es ss i. record { machine = i.machine; goes = i.goes; stays = i.stays; is = passes_over i.machine m.servers m.mirrors m.files m.fresh m.calls m.next_xid ss i.is has; kept = i.kept; binds = i.binds; own = i.own };
    forgets = λ m test es ss i. record {
      machine = i.machine;
      goes = i.goes;
      stays = i.stays;
      is = awaits_fewer i.machine m.servers m.mirrors m.files m.fresh m.calls m.next_xid ss i.is (filter test m.calls) (λ call inside. in_filtered test call m.calls inside);
      kept = i.kept;
      binds = i.binds;
      own = i.own;
    };
    was = λ m es ss i call inside. (i.is.calls call inside).0;
    again = λ m s es ss i inside.
        more m es ss i s (all_in (IsSentIn i.machine) ss s i.is.sent inside) (λ b xid old new was. i.is.once s b xid inside old new was) (λ has. in_below m.next_xid ss s (i.is.below has) inside);
  }

  -- ---- the answers that come

  no_server : (call : AwaitedCall) (node : NodeId) (xid k : ℕ) → is_call_to node xid call ≡ true → call.node ≡ Server k → is_node (Server k) node ≡ true
  no_server call node xid k its is = subst (λ (x : NodeId). is_node x node ≡ true) is (and_parts (is_node call.node node) (call.xid == xid) its).0

  apart : (reply : RpcReply) → PassedOver ≡ IsReply reply → ⊥
  apart reply e = absurd cc

  server_hears : (k : ℕ) (bytes : List ℕ) → MayComeFrom mc past k bytes → (reply : RpcReply) → incoming_of bytes ≡ IsReply reply → Hearing IsSo (HeardBy mc past) (Server k) reply.xid (λ call. reply_of_call call reply)
  server_hears k bytes (inl passed) reply reads m es ss i call inside its = absurd (apart reply (sym passed ∙ reads))
  server_hears k bytes (inr may) reply reads m es ss i call inside its =
      let awaited : IsOneOf call.sent ss × IsAwaitedFor call = i.is.calls call inside in
      let given : IsReply may.reply ≡ IsReply reply = sym may.reads ∙ reads in
      let same : may.reply ≡ reply = cc (given) in
      let number : number_sent call.sent ≡ Some reply.xid = awaited.1.number ∙ ap Some (eqb-true call.xid reply.xid (and_parts (is_node call.node (Server k)) (call.xid == reply.xid) its).1) in
      let one : may.sent ≡ call.sent = i.is.once may.sent call.sent reply.xid (i.kept may.sent may.inside) awaited.0 (may.number ∙ ap (λ (r : RpcReply). Some r.xid) same) number in
      let answers : IsSendAnswered mc k (λ c. reply_of_call c reply) call.sent =
      subst (λ (r : RpcReply). IsSendAnswered mc k (λ c. reply_of_call c r) call.sent) same (subst (IsSendAnswered mc k (λ c. reply_of_call c may.reply)) one may.answers) in
      record {
        awaited = awaited.1;
        inside = λ j is. subst (λ (s : MdsSend). IsOneOf s past) one may.inside;
        answered = λ j is. subst (λ (x : ℕ). IsSendAnswered mc x (λ c. reply_of_call c reply) call.sent) (sym (eqb-true j k (no_server call (Server k) reply.xid j its is))) answers;
      }

  other_hears : (node : NodeId) → ((k : ℕ) → is_node (Server k) node ≡ false) → (xid : ℕ) (says : DsCallValue → DsReplyValue) → Hearing IsSo (HeardBy mc past) node xid says
  other_hears node other xid says m es ss i call inside its = record {
    awaited = (i.is.calls call inside).1;
    answered = λ k is. absurd (never (sym (other k) ∙ no_server call node xid k its is));
    inside = λ k is. absurd (never (sym (other k) ∙ no_server call node xid k its is));
  }
    where
      never : false ≡ true → ⊥
      never e = absurd cc

  pub hears_so : (input : MdsInput) → MayComeTo mc past input → HearsSo IsSo (HeardBy mc past) input
  hears_so (Comes Mds bytes) may = λ reply reads. other_hears Mds (λ k. refl) reply.xid (λ call. reply_of_call call reply)
  hears_so (Comes (Server k) bytes) may = server_hears k bytes may
  hears_so (Comes (Client k) bytes) may = λ reply reads. other_hears (Client k) (λ j. refl) reply.xid (λ call. reply_of_call call reply)
  hears_so (IsTimedOut to which) may = tt
  hears_so Ticks may = tt
  hears_so (RecallsFile file) may = tt
  hears_so (Resilvers file) may = tt

-- ---- each event

from_here : (mc : Machine) (journal : List Entry) (m : MdsValue) (ss : List MdsSend) → IsMdsOf mc m ss → IsFrom mc journal (MdsHasOwnWrites mc.packets journal m ss) ss m [] ss
from_here mc journal m ss i = record {
  machine = mc;
  goes = record { moves = []; machine = refl; journal = refl };
  stays = refl;
  is = i;
  kept = λ s inside. inside;
  binds = λ stood ends. tt;
  own = λ stood. subst (λ (j : List Entry). HasOwnWrites mc.packets j ss m.files m.fresh) (sym (append-nil journal)) stood;
}

after : DrawFew → CallsFit → TellsAll → RunsStand → (mc : Machine) (journal : List Entry) (m : MdsValue) (ss : List MdsSend) (e : MdsEvent) → IsReachedBy mc journal → AreServersInRange mc → IsMdsOf mc m ss → MayComeTo mc ss e.input
    → IsFrom mc journal (MdsHasOwnWrites mc.packets journal m ss) ss (after_event e m).mds (after_event e m).entries (ss ++ (after_event e m).sends)
after few fit tells stand mc journal m ss e reached range i may =
    each_event (IsFrom mc journal (MdsHasOwnWrites mc.packets journal m ss) ss) (HeardBy mc ss) (cases few fit tells stand mc journal reached range (MdsHasOwnWrites mc.packets journal m ss) ss) (λ n request now entries sends is. is) e
    (hears_so few fit tells stand mc journal reached range (MdsHasOwnWrites mc.packets journal m ss) ss e.input may) m [] ss (from_here mc journal m ss i)

pub goes_on : DrawFew → CallsFit → TellsAll → RunsStand → MdsGoesOn
goes_on few fit tells stand mc m ss e reached range i may =
    let out = after few fit tells stand mc (journal_of (new_machine (new_servers 1 reached.0)) reached.1) m ss e (record { boots = reached.0; moves = reached.1; machine = reached.2; journal = refl }) range i may in
    record { machine = out.machine; goes = out.goes; servers = out.stays; is = out.is }

pub goes_bound : DrawFew → CallsFit → TellsAll → RunsStand → MdsGoesOnBound
goes_bound few fit tells stand mc past m ss e reached range i may own ends =
    let out = after few fit tells stand mc past m ss e reached range i may in
    record {
      machine = out.machine;
      goes = out.goes;
      bound = out.binds own ends;
      servers = out.stays;
      is = out.is;
      reached = then_reached tells mc out.machine past (after_event e m).entries reached out.goes;
      own = out.own own;
    }
