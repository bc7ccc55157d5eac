-- An input of a file at the server is the input of the machine's, be it by itself, a timeout, or of an answer that stands there.
use Rattle.std.proofs.Common.{◌≡◌, ℕ, ◌-◌, Bool, true, false, cond, List, ◌++◌, Option, Some, refl, sym, ap, subst, ◌∙◌}
use Rattle.std.specs.Prelude.{◌==◌, ◌&&◌, slice_get}
use Rattle.std.specs.List.{list_any}
use Rattle.std.proofs.lemmas.Bool.{cond_both, and_from, eq-eqb}
use Rattle.std.proofs.lemmas.Option.{same_Some}
use Rattle.cluster_model.specs.declared.ids.NodeId.{NodeId}
use Rattle.cluster_model.specs.declared.ids.NodeId.TheVariants.{Mds, Server}
use Rattle.cluster_model.specs.declared.ids.FileId.{FileId}
use Rattle.cluster_model.specs.declared.ids.MirrorId.{MirrorId}
use Rattle.cluster_model.specs.declared.ids.Cred.{Cred}
use Rattle.cluster_model.specs.declared.ds_call.Shown.{Shown}
use Rattle.cluster_model.specs.declared.entry.Entry.{Entry}
use Rattle.cluster_model.specs.DsCalls.{DsCallValue, Create, SetAttr, Write, Commit, Read, DsReplyValue}
use Rattle.cluster_model.specs.Phases.{ids_of}
use Rattle.cluster_model.specs.Members.{IsOneOf}
use Rattle.ds_calls.specs.DsCallLaws.{HasRecord}
use Rattle.file_rule.specs.declared.fresh.Fresh.{Fresh}
use Rattle.file_rule.specs.MdsFiles.{MdsFile, FileStep}
use Rattle.file_rule.specs.FilePhases.{FileInput, AsksLayout, OwnWrite, Recall, Returns, Revokes, OwnEnds, Resilver, Answers as IsAnswer, TimesOut, Ticks, Sees, phase, is_outstanding}
use Rattle.cluster_laws.specs.Machine.{file_stepped as machine_stepped, PacketValue, Machine, Move, MachineStep, Happens, GivesUpWaiting, Hears, Learns, no_move, with_file, numbered_at, held_by, file_takes, heard_at, heard, ctime_in, learns_tick, writes_to, was_write_to, learnt, moved}
use Rattle.machine_moves.specs.MachineGoesOn.{MachineGoesOn, HasServerAnswered}
use Rattle.machine_moves.proofs.Bound.{goes_further}
use Rattle.machine_moves.proofs.Packets.{goes_keep, still_answered}
use Rattle.mds_rows.specs.Draws.{drawn}
use Rattle.recall.specs.Recalls.{without_file}
use Rattle.mds_rule.specs.MdsStates.{ServedFile, MdsSend, CallsServer, AwaitedCall, MdsValue, served, with_served}
use Rattle.mds_rule.specs.declared.waiter.Waiter.{Waiter}
use Rattle.mds_rule.specs.declared.waiter.Waiter.TheVariants.{ForFile, ForWrite}
use Rattle.mds_rule.specs.ServedFiles.{is_period_end, has_fresh, file_behind, file_stepped}
use Rattle.mds_rule.specs.Answers.{server_number, fileid_of, attributes_shown, own_answer}
use Rattle.mds_laws.specs.MdsRunLaws.{number_sent}
use Rattle.mds_walk.proofs.Lists.{all_set, all_got}
use Rattle.mds_walk.proofs.Served.{place_served}
use Rattle.mds_laws.proofs.Keeping.{comes_by_itself}
use Rattle.cluster_laws.specs.Holders.{IsBoundInput, IsBound}
use Rattle.cluster_laws.specs.Telling.{telling}
use Rattle.cluster_laws.proofs.FewMirrors.{FileHasFew}
use Rattle.cluster_laws.proofs.FewSteps.{phase_few}
use Rattle.mds_laws.proofs.EachCases.{is_own_input}
use Rattle.mds_moves.specs.MdsBinds.{IsReachedBy, EndsInOrder, OwnWriteStands, ServedStands, HasOwnWrites}
use Rattle.mds_moves.proofs.FileStands.{RunsStand, TellsAll}
use Rattle.mds_moves.proofs.CleanEnds.{return_may}
use Rattle.mds_moves.proofs.OwnKept.{ends_before, told_join, own_later, own_put, names_drawn, write_kept}
use Rattle.mds_moves.specs.MdsMoves.{message_of, ReadsBytes, IsOfWrite, IsCallFor, IsSentBy, IsServedInRange, IsPlain, WasAnswered, IsSendAnswered}
use Rattle.cluster_laws.specs.RunBounds.{DrawsFew}
use Rattle.mds_moves.proofs.Draws.{DrawFew, few_at, can}
use Rattle.mds_moves.proofs.CallKinds.{same_input}
use Rattle.mds_moves.proofs.MdsMachine.{file_there, set_files, goes_silent}
use Rattle.mds_moves.proofs.Stands.{HeardBy, IsFrom, stays_reached, is_reached, file_stands, binds_further}

-- it is taken as it is
plainly : (c : DsCallValue) (given : DsReplyValue) → IsPlain c given → ReadsBytes c → own_answer c given ≡ given
plainly (Create name owner) given plain reads = refl
plainly (SetAttr fileid owner guard) given plain reads = refl
plainly (Write fileid at synced bytes) given plain reads = refl
plainly (Commit fileid) given plain reads = refl
plainly (Read fileid at count) given plain reads = plain reads

-- what an answer to an own write shows
shown_there : (c : DsCallValue) (said given : DsReplyValue) (fileid : ℕ) (shown : Shown) → IsOfWrite c → IsPlain c given → fileid_of c said ≡ Some fileid → attributes_shown given ≡ Some shown
    → (writes_to fileid c ≡ true) × (ctime_in given ≡ Some shown.seen)
shown_there (Create name owner) said given fileid shown its plain named shows = absurd its
shown_there (SetAttr other owner guard) said given fileid shown its plain named shows = absurd its
shown_there (Write other at synced bytes) said given fileid shown its plain named shows = (eq-eqb other fileid (same_Some other fileid named), plain shown shows)
shown_there (Commit other) said given fileid shown its plain named shows = (eq-eqb other fileid (same_Some other fileid named), plain shown shows)
shown_there (Read other at count) said given fileid shown its plain named shows = absurd its

-- what is asked of an input that comes by itself, but for a return and those of own writes
bound_input : (packets : List PacketValue) (journal : List Entry) (f : MdsFile) (input : FileInput) → is_own_input input ≡ false
    → ((client : ℕ) (claimed : Cred) (places : List Bool) → input ≡ Returns client claimed places → IsBoundInput packets journal (Returns client claimed places) (Some f)) → IsBoundInput packets journal input (Some f)
bound_input packets journal f (AsksLayout client) other by = tt
bound_input packets journal f (OwnWrite at bytes) other by = absurd cc
bound_input packets journal f Recall other by = tt
bound_input packets journal f (Returns client claimed places) other by = by client claimed places refl
bound_input packets journal f (Revokes cause) other by = tt
bound_input packets journal f (OwnEnds causes at bytes) other by = absurd cc
bound_input packets journal f Resilver other by = tt
bound_input packets journal f (IsAnswer xid reply) other by = tt
bound_input packets journal f (TimesOut xid) other by = tt
bound_input packets journal f Ticks other by = tt
bound_input packets journal f (Sees id seen) other by = tt

-- an answer that was heard, which stands in the machine
pub record WasHeard (mc : Machine) (past : List MdsSend) (n : Machine) (call : AwaitedCall) (server own uid : ℕ) (c : DsCallValue) (says : DsCallValue → DsReplyValue) : Type 0 where
  pub reply : DsReplyValue
  pub stands : HasServerAnswered n server own c reply
  pub same : says c ≡ reply
  pub inside : IsOneOf call.sent past

module _ (mc : Machine) (past : List MdsSend) (n : Machine) (es : List Entry) (goes : MachineGoesOn mc es n) (call : AwaitedCall) (server own uid : ℕ) (c : DsCallValue) (says : DsCallValue → DsReplyValue) (known : HeardBy mc past call says)
    (sent : call.sent ≡ CallsServer server own uid c) (to : call.node ≡ Server server) (spoken : HasRecord (message_of own uid c)) where
  said : WasAnswered mc server own c (says c)
  said = subst (IsSendAnswered mc server says) sent (known.answered server to) spoken refl

  stands : HasServerAnswered n server own c said.given
  stands = still_answered mc n server own c said.given (goes_keep mc n es goes) said.stands

  pub was_heard : WasHeard mc past n call server own uid c says
  was_heard = record { reply = said.given; stands = stands; same = said.same; inside = known.inside server to }

  same_number : own ≡ call.xid
  same_number = same_Some own call.xid (ap number_sent (sym sent) ∙ known.awaited.number)

  hears_move : (file : ℕ) (f : MdsFile) → numbered_at n.files file ≡ Some f → ReadsBytes c → is_outstanding f (server_number call.node) call.xid ≡ true
      → moved n (Hears file stands.place) ≡ file_takes n file (IsAnswer call.xid (own_answer c (says c))) (numbered_at n.files file)
  hears_move file f there reads out =
      let at_server : is_outstanding f server call.xid ≡ true = subst (λ (node : NodeId). is_outstanding f (server_number node) call.xid ≡ true) to out in
      let at_number : is_outstanding f server own ≡ true = subst (λ (x : ℕ). is_outstanding f server x ≡ true) (sym same_number) at_server in
      let as_given : own_answer c (says c) ≡ said.given = ap (own_answer c) said.same ∙ plainly c said.given said.plain reads in
      ap (heard n file) stands.there
      ∙ (ap (heard_at n file server own said.given Mds) there
      ∙ (ap (λ (b : Bool). cond b (file_takes n file (IsAnswer own said.given) (Some f)) (no_move n)) at_number
      ∙ (ap (file_takes n file (IsAnswer own said.given)) (sym there)
      ∙ (ap (λ (x : DsReplyValue). file_takes n file (IsAnswer own x) (numbered_at n.files file)) (sym as_given)
      ∙ ap (λ (x : ℕ). file_takes n file (IsAnswer x (own_answer c (says c))) (numbered_at n.files file)) same_number))))

  learns_move : (file fileid : ℕ) (shown : Shown) → IsOfWrite c → fileid_of c (says c) ≡ Some fileid → attributes_shown (says c) ≡ Some shown
      → moved n (Learns file stands.place (record { server = server; fileid = fileid })) ≡ file_takes n file (Sees (record { server = server; fileid = fileid }) shown.seen) (numbered_at n.files file)
  learns_move file fileid shown its named shows =
      let id : MirrorId = record { server = server; fileid = fileid } in
      let f : Option MdsFile = numbered_at n.files file in
      let both : (writes_to fileid c ≡ true) × (ctime_in said.given ≡ Some shown.seen) = shown_there c (says c) said.given fileid shown its said.plain named (ap attributes_shown (sym said.same) ∙ shows) in
      let test : (server == server && was_write_to fileid (slice_get n.packets stands.called)) ≡ true =
      and_from (server == server) (was_write_to fileid (slice_get n.packets stands.called)) (eq-eqb server server refl) (ap (was_write_to fileid) stands.call_there ∙ both.0) in
      ap (learnt n file id f) stands.there
      ∙ (ap (λ (b : Bool). cond b (learns_tick n file id f (ctime_in said.given)) (no_move n)) test ∙ ap (learns_tick n file id f) both.1)

module _ (few : DrawFew) (tells : TellsAll) (stand : RunsStand) (mc : Machine) (journal : List Entry) (reached : IsReachedBy mc journal) (Stood : Type 0) (past : List MdsSend) where
  abbrev IsSo : MdsValue → List Entry → List MdsSend → Type 0
  IsSo m es ss = IsFrom mc journal Stood past m es ss

  -- what is entered of an input, where all that is entered is in order
  abbrev InOrder : List Entry → Type 0
  InOrder es = EndsInOrder mc.packets journal es

  pub input_case : (m : MdsValue) (file : FileId) (s : ServedFile) (input : FileInput) → served m file ≡ Some s → has_fresh m.fresh ≡ true → (es : List Entry) (ss : List MdsSend) (i : IsSo m es ss) (move : Move)
      → moved i.machine move ≡ file_takes i.machine file.0 input (numbered_at i.machine.files file.0)
      → (Stood → InOrder (es ++ (phase file s.file input m.fresh).entries) → IsBound i.machine (journal ++ telling es) move)
      → (Stood → ServedStands i.machine.packets (journal ++ telling (es ++ (phase file s.file input m.fresh).entries)) ss s
      → OwnWriteStands i.machine.packets (journal ++ telling (es ++ (phase file s.file input m.fresh).entries)) ss (phase file s.file input m.fresh).file s.write)
      → IsSo (file_stepped m file s (phase file s.file input m.fresh)).mds (es ++ (phase file s.file input m.fresh).entries) ss
  input_case m file s input at fresh es ss i move is bound keeps =
      let n : Machine = i.machine in
      let step : FileStep = phase file s.file input m.fresh in
      let there : numbered_at n.files file.0 ≡ Some s.file = file_there n m file s i.is.files at in
      let draws : DrawsFew step = subst (λ (x : Fresh). DrawsFew (phase file s.file input x)) (sym i.is.fresh) (few_at few n (stays_reached mc n es (is_reached mc journal reached) i.goes) file.0 s.file input there) in
      let after : MachineStep = record { machine = with_file n file.0 step (held_by (ids_of step.file.layout.live) step.entries); entries = step.entries } in
      let comes : moved n move ≡ after =
      is
      ∙ (ap (file_takes n file.0 input) there
      ∙ (ap (λ (x : Fresh). machine_stepped n file.0 (phase file s.file input x)) (sym i.is.fresh) ∙ ap (λ (b : Bool). cond b after (no_move n)) (can n step draws m.fresh i.is.fresh fresh))) in
      let x : MdsValue = with_served (record m { fresh = drawn m.fresh step }) file (file_behind s step) in
      let place : slice_get m.files (file.0 - 1) ≡ Some s = (place_served m file s at).1 in
      let new : IsSo x (es ++ step.entries) ss = record {
        machine = after.machine;
        goes = goes_further mc n es move after i.goes comes;
        stays = i.stays;
        is = goes_silent n after.machine (record { packets = λ place packet p. p; servers = refl }) m.servers m.mirrors m.files m.fresh m.calls m.next_xid ss i.is refl x.files x.fresh
            (set_files m.files n.files (file.0 - 1) (file_behind s step) i.is.files) (ap (λ (f : Fresh). drawn f step) i.is.fresh)
            (all_set IsServedInRange m.files (file.0 - 1) (file_behind s step) i.is.writes (all_got IsServedInRange m.files (file.0 - 1) s i.is.writes place));
        kept = i.kept;
        binds = binds_further tells mc n journal es reached i.goes (es ++ step.entries) (ends_before mc.packets journal es step.entries) Stood i.binds move bound;
        own = λ stood.
            (let later : HasOwnWrites n.packets (journal ++ telling (es ++ step.entries)) ss m.files m.fresh =
            subst (λ (j : List Entry). HasOwnWrites n.packets j ss m.files m.fresh) (sym (told_join journal es step.entries))
            (own_later n.packets n.packets (λ place packet p. p) (journal ++ telling es) (telling step.entries) ss ss (λ s inside. inside) m.files m.fresh (i.own stood)) in
            let was : ServedStands n.packets (journal ++ telling (es ++ step.entries)) ss s = all_got (ServedStands n.packets (journal ++ telling (es ++ step.entries)) ss) m.files (file.0 - 1) s later.writes place in
            let few_there : FileHasFew s.file = all_got (λ (y : ServedFile). FileHasFew y.file) m.files (file.0 - 1) s later.few place in
            let put : HasOwnWrites n.packets (journal ++ telling (es ++ step.entries)) ss x.files m.fresh =
            own_put n.packets (journal ++ telling (es ++ step.entries)) ss m.files m.fresh (file.0 - 1) (file_behind s step) (keeps stood was) (phase_few file m.fresh s.file input few_there).file later in
            record { writes = put.writes; few = put.few; names = names_drawn file m.fresh s.file input draws later.names });
      } in
      cond_both (list_any is_period_end step.entries) (record x { recalls = without_file file x.recalls }) x (λ (y : MdsValue). IsSo y (es ++ step.entries) ss) (λ end. new) (λ other. new)

  -- of an input that is of no own write
  other_case : (m : MdsValue) (file : FileId) (s : ServedFile) (input : FileInput) → is_own_input input ≡ false → served m file ≡ Some s → has_fresh m.fresh ≡ true → (es : List Entry) (ss : List MdsSend) (i : IsSo m es ss) (move : Move)
      → moved i.machine move ≡ file_takes i.machine file.0 input (numbered_at i.machine.files file.0)
      → (Stood → InOrder (es ++ (phase file s.file input m.fresh).entries) → IsBound i.machine (journal ++ telling es) move)
      → IsSo (file_stepped m file s (phase file s.file input m.fresh)).mds (es ++ (phase file s.file input m.fresh).entries) ss
  other_case m file s input other at fresh es ss i move is bound =
      input_case m file s input at fresh es ss i move is bound (λ stood was. write_kept i.machine.packets (journal ++ telling (es ++ (phase file s.file input m.fresh).entries)) ss file m.fresh s.file input other s.write was)

  pub itself_case : (m : MdsValue) (file : FileId) (s : ServedFile) (input : FileInput) → comes_by_itself input ≡ true → is_own_input input ≡ false → served m file ≡ Some s → has_fresh m.fresh ≡ true → (es : List Entry) (ss : List MdsSend) → IsSo m es ss
      → IsSo (file_stepped m file s (phase file s.file input m.fresh)).mds (es ++ (phase file s.file input m.fresh).entries) ss
  itself_case m file s input itself other at fresh es ss i =
      let n : Machine = i.machine in
      let there : numbered_at n.files file.0 ≡ Some s.file = file_there n m file s i.is.files at in
      other_case m file s input other at fresh es ss i (Happens file.0 input)
      (ap (λ (b : Bool). cond b (file_takes n file.0 input (numbered_at n.files file.0)) (no_move n)) (same_input input ∙ itself))
      (λ stood ends.
      subst (λ (o : Option MdsFile). IsBoundInput n.packets (journal ++ telling es) input o) (sym there)
      (bound_input n.packets (journal ++ telling es) s.file input other
      (λ client claimed places is.
      return_may mc.packets n.packets (goes_keep mc n es i.goes) journal es file s.file m.fresh (file_stands tells mc n journal es reached i.goes stand file.0 s.file there) client claimed places
      (subst (λ (x : FileInput). InOrder (es ++ (phase file s.file x m.fresh).entries)) is ends))))

  pub late_case : (m : MdsValue) (file : FileId) (s : ServedFile) (xid : ℕ) → served m file ≡ Some s → has_fresh m.fresh ≡ true → (es : List Entry) (ss : List MdsSend) → IsSo m es ss
      → IsSo (file_stepped m file s (phase file s.file (TimesOut xid) m.fresh)).mds (es ++ (phase file s.file (TimesOut xid) m.fresh).entries) ss
  late_case m file s xid at fresh es ss i = other_case m file s (TimesOut xid) refl at fresh es ss i (GivesUpWaiting file.0 xid) refl (λ stood ends. tt)

  pub hears_case : (m : MdsValue) (file : FileId) (s : ServedFile) (call : AwaitedCall) (server own uid : ℕ) (c : DsCallValue) (says : DsCallValue → DsReplyValue) → HeardBy mc past call says → call.caller ≡ ForFile file
      → call.sent ≡ CallsServer server own uid c → is_outstanding s.file (server_number call.node) call.xid ≡ true → served m file ≡ Some s → has_fresh m.fresh ≡ true → (es : List Entry) (ss : List MdsSend) → IsSo m es ss
      → IsSo (file_stepped m file s (phase file s.file (IsAnswer call.xid (own_answer c (says c))) m.fresh)).mds (es ++ (phase file s.file (IsAnswer call.xid (own_answer c (says c))) m.fresh).entries) ss
  hears_case m file s call server own uid c says known caller sent out at fresh es ss i =
      let by : (call.node ≡ Server server) × IsCallFor (ForFile file) (message_of own uid c) = subst (λ (w : Waiter). IsSentBy call.node w (CallsServer server own uid c)) caller (subst (IsSentBy call.node call.caller) sent known.awaited.node) in
      other_case m file s (IsAnswer call.xid (own_answer c (says c))) refl at fresh es ss i (Hears file.0 (stands mc past i.machine es i.goes call server own uid c says known sent by.0 by.1.1).place)
      (hears_move mc past i.machine es i.goes call server own uid c says known sent by.0 by.1.1 file.0 s.file (file_there i.machine m file s i.is.files at) by.1.0 out) (λ stood ends. tt)

  pub learns_case : (m : MdsValue) (file : FileId) (s : ServedFile) (call : AwaitedCall) (server own uid : ℕ) (c : DsCallValue) (says : DsCallValue → DsReplyValue) (fileid : ℕ) (shown : Shown) → HeardBy mc past call says
      → call.caller ≡ ForWrite file → call.sent ≡ CallsServer server own uid c → fileid_of c (says c) ≡ Some fileid → attributes_shown (says c) ≡ Some shown → served m file ≡ Some s → has_fresh m.fresh ≡ true
      → (es : List Entry) (ss : List MdsSend) → IsSo m es ss
      → IsSo (file_stepped m file s (phase file s.file (Sees (record { server = server; fileid = fileid }) shown.seen) m.fresh)).mds (es ++ (phase file s.file (Sees (record { server = server; fileid = fileid }) shown.seen) m.fresh).entries) ss
  learns_case m file s call server own uid c says fileid shown known caller sent named shows at fresh es ss i =
      let by : (call.node ≡ Server server) × IsCallFor (ForWrite file) (message_of own uid c) = subst (λ (w : Waiter). IsSentBy call.node w (CallsServer server own uid c)) caller (subst (IsSentBy call.node call.caller) sent known.awaited.node) in
      other_case m file s (Sees (record { server = server; fileid = fileid }) shown.seen) refl at fresh es ss i
      (Learns file.0 (stands mc past i.machine es i.goes call server own uid c says known sent by.0 by.1.1).place (record { server = server; fileid = fileid }))
      (learns_move mc past i.machine es i.goes call server own uid c says known sent by.0 by.1.1 file.0 fileid shown by.1.0 named shows) (λ stood ends. tt)
