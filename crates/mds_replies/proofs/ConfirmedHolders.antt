-- Who holds a file is the node from which the client's id was confirmed: a CREATE_SESSION with the id was called from it.
use Rattle.std.proofs.Common.{◌≡◌, ℕ, ◌+◌, ◌-◌, Bool, true, false, cond, List, [], ◌∷◌, ◌++◌, length, Option, Some, None, refl, sym, ap, subst, ◌∙◌, inl, inr, ◌⊎◌}
use Rattle.std.specs.Prelude.{◌==◌, nat_eq, not, is_some, map, slice_set}
use Rattle.std.specs.List.{list_any}
use Rattle.std.specs.Map.{lookup}
use Rattle.std.specs.Option.{option_map}
use Rattle.std.proofs.lemmas.Bool.{cond_both, eqb-true}
use Rattle.std.proofs.lemmas.List.{append-nil, append_assoc}
use Rattle.std.proofs.lemmas.Option.{same_Some, none-some}
use Rattle.ff_xdr.specs.Form.{Value, arm_of}
use Rattle.compound_reply.specs.Replied.{success_reply}
use Rattle.cluster_model.specs.declared.ids.NodeId.{NodeId}
use Rattle.cluster_model.specs.declared.ids.NodeId.TheVariants.{Client}
use Rattle.cluster_model.specs.declared.ids.FileId.{FileId}
use Rattle.cluster_model.specs.declared.ids.Cred.{Cred}
use Rattle.cluster_model.specs.declared.entry.Entry.{Entry}
use Rattle.cluster_model.specs.declared.layout_state.LayoutState.{LayoutState}
use Rattle.cluster_model.specs.declared.layout_state.LayoutPhase.{LayoutPhase}
use Rattle.cluster_model.specs.declared.layout_state.LayoutPhase.TheVariants.{Free, Held}
use Rattle.cluster_model.specs.Phases.{holder_of}
use Rattle.cluster_model.specs.Members.{IsOneOf}
use Rattle.file_rule.specs.declared.fresh.Fresh.{Fresh}
use Rattle.file_rule.specs.MdsFiles.{MdsFile, FileStep}
use Rattle.file_rule.specs.FilePhases.{FileInput, AsksLayout, Returns, Answers as IsAnswer, OwnEnds, TimesOut, Sees, are_spent, new_mds_file, phase}
use Rattle.mds_rows.specs.Draws.{drawn}
use Rattle.recall.specs.Recalls.{without_file}
use Rattle.nfs4_types.specs.declared.sequence.Sequence.{Sequence}
use Rattle.nfs4_types.specs.declared.status.Stat4.{Stat4}
use Rattle.nfs4_types.specs.declared.status.Stat4.TheVariants as stat
use Rattle.nfs4_types.specs.Sequences.{sequence4_args}
use Rattle.nfs4_compound.specs.declared.stop.Stop.{Stop}
use Rattle.nfs4_compound.specs.declared.stop.Stop.TheVariants as stop
use Rattle.nfs4_compound.specs.Args.{argop4}
use Rattle.nfs4_compound.specs.Compounds.{CompoundValue}
use Rattle.nfs4_session.specs.Slots.{SlotAnswer, TakesEffect, Repeats, Refuses}
use Rattle.nfs4_session.specs.Requests.{request_answer, after_request}
use Rattle.nfs4_session.specs.Beginning.{table_begun}
use Rattle.nfs4_session.specs.Bindings.{after_binding}
use Rattle.client_file_calls.specs.FileOps.{device_info_op}
use Rattle.client_mds_calls.specs.MdsCalls.{SlotCallValue, MdsCallValue, ExchangeId, CreateSession, OnSlot}
use Rattle.client_mds_calls.specs.MdsCalls as slot
use Rattle.client_mds_calls.specs.MdsCompounds.{slot_ops, mds_ops}
use Rattle.mds_receive.specs.MdsReceive.{IsCompound, incoming_of}
use Rattle.ff_layout.specs.IoError.{ff_ioerr4}
use Rattle.layout_report.specs.Reports.{report_of}
use Rattle.mds_rule.specs.Answers.{failures_by_place, own_answer}
use Rattle.mds_rule.specs.MdsStates.{CompoundRun, WaitingWrite, ServedFile, MdsSend, Replies, Answers, MdsValue, MdsStep, sends_none, confirmed_node, served, with_served, new_mds}
use Rattle.mds_rule.specs.OpSteps.{OpStep, Goes, Ends, Waits, with_result, refuses, refused_as, unread, stopped, is_operation_number}
use Rattle.mds_rule.specs.ServedFiles.{has_fresh, is_period_end, file_behind, file_stepped, input_at, takes_input}
use Rattle.mds_rule.specs.FileOps.{servers_of, new_served, with_new_file}
use Rattle.mds_rule.specs.SessionOps.{confirms}
use Rattle.mds_rule.specs.LayoutOps.{with_holder, client_number}
use Rattle.mds_rule.specs.Compounds.{operate, has_session, operates, compound_bytes, kept_in_slot, finishes, op_then, with_ops, runs, sequence_in, in_slot, sequenced, sequence_of, may_stand_alone, first_alone, first_by, first_operation, new_run}
use Rattle.mds_walk.specs.MdsRuns.{MdsInput, MdsEvent, Hears, IsTimedOut, Ticks as IsTick, RecallsFile, Resilvers, by_input, after_event, run_from}
use Rattle.mds_walk.specs.FirstRequests.{first_request}
use Rattle.mds_walk.proofs.Lists.{AllOf, all_push, all_set, all_got}
use Rattle.mds_walk.proofs.Parts.{HeardAny, Becomes, Keeps, TakesInput, AllWait, created_in}
use Rattle.mds_walk.proofs.Keeping.{KeepsOp, hears_any, then_keeps, same, becomes_keeps, enters_keeps, stays}
use Rattle.mds_walk.proofs.Served.{place_served}
use Rattle.mds_walk.proofs.Requested.{behind_request, behind_begin}
use Rattle.mds_replies.specs.ClientCalls.{IsCallIn, IsCallFrom, HearsCall, AreCalls, server_after, IsEventOf}
use Rattle.mds_replies.specs.PeriodEntries.{PeriodsAreConfirmed}
use Rattle.mds_laws.proofs.FileGrants.{out_layout}
use Rattle.mds_laws.proofs.UsedOnce.{FileAgrees}
use Rattle.mds_replies.proofs.HeldFiles.{After, GoesOn, IsOver, held_after}
use Rattle.mds_replies.proofs.HolderCases.{Cases, WaitCases}
use Rattle.mds_replies.proofs.HoldersHold.{HolderHolds, IsByClient, IsAsked, asked_is, kept_was, at_file}
use Rattle.mds_replies.proofs.HoldersHold as hold
use Rattle.mds_replies.proofs.WaitingCompounds.{same_wait}
use Rattle.mds_replies.proofs.GoesWalk.{input_walk}
use Rattle.mds_walk.proofs.EventWalk.{RunsSo}
use Rattle.mds_replies.proofs.SameRuns.{Like, StepsLike, operate_like, operates_like}
use Rattle.mds_replies.proofs.Turns.{in_pushed, behind_wait}
use Rattle.mds_walk.proofs.CompoundWalk.{operate_walk}
use Rattle.mds_replies.proofs.HolderParts.{case_parts}

-- ---- lists and phases

abbrev node_in : LayoutPhase → ℕ → ℕ
node_in (Held (Client n) is_recalled) other = n
node_in p other = other

abbrev is_free : LayoutPhase → Bool
is_free Free = true
is_free p = false

same_node : (p : LayoutPhase) (a b : ℕ) (x y : Bool) → p ≡ Held (Client a) x → p ≡ Held (Client b) y → a ≡ b
same_node p a b x y first second = ap (λ (q : LayoutPhase). node_in q a) (sym first ∙ second)

not_free : (p : LayoutPhase) (n : ℕ) (x : Bool) → p ≡ Free → p ≡ Held (Client n) x → ⊥
not_free p n x free held = not_so (sym (ap is_free free) ∙ ap is_free held)
  where
    not_so : true ≡ false → ⊥
    not_so is = absurd cc

-- who is found among those that are confirmed
record IsAmong (client : ℕ) (node : NodeId) (confirmed : List (ℕ × NodeId)) : Type 0 where
  pub p : ℕ × NodeId
  pub inside : IsOneOf p confirmed
  pub id : client ≡ p.0
  pub from : p.1 ≡ node

found_among : (client : ℕ) (node : NodeId) (confirmed : List (ℕ × NodeId)) → lookup (nat_eq client) confirmed ≡ Some node → IsAmong client node confirmed
found_among client node [] is = absurd (none-some node is)
found_among client node (q ∷ confirmed) is = by_test (nat_eq client q.0) refl is (found_among client node confirmed)
  where
    by_test : (b : Bool) → nat_eq client q.0 ≡ b → cond b (Some q.1) (lookup (nat_eq client) confirmed) ≡ Some node → (lookup (nat_eq client) confirmed ≡ Some node → IsAmong client node confirmed) → IsAmong client node (q ∷ confirmed)
    by_test true at found rest = record { p = q; inside = inl refl; id = eqb-true client q.0 at; from = same_Some q.1 node found }
    by_test false at found rest = let r : IsAmong client node confirmed = rest found in record { p = r.p; inside = inr r.inside; id = r.id; from = r.from }

-- where no uids are left an input does nothing
not_taken : (m : MdsValue) (file : FileId) (input : FileInput) (o : Option ServedFile) → has_fresh m.fresh ≡ false → served (input_at m file input o).mds file ≡ served m file
not_taken m file input None off = refl
not_taken m file input (Some s) off = ap (λ (b : Bool). served (cond {A = MdsStep} b (file_stepped m file s (phase file s.file input m.fresh)) (sends_none m)).mds file) off

module _ (Ok : ℕ → NodeId → Type 0) where
  -- ---- what holds

  -- it confirms only who may be
  abbrev pub MayRun : NodeId → Value argop4 → Type 0
  MayRun node op = (client : ℕ) → created_in op ≡ Some client → Ok client node

  abbrev pub W : CompoundRun → Type 0
  W c = AllOf (MayRun c.node) c.ops

  abbrev pub HeldSo : ServedFile → Type 0
  HeldSo s = (client n : ℕ) (is_recalled : Bool) → s.holder ≡ Some client → s.file.layout.phase ≡ Held (Client n) is_recalled → Ok client (Client n)

  pub record Mine (files : List ServedFile) (confirmed : List (ℕ × NodeId)) : Type 0 where
    pub waits : AllOf (λ (s : ServedFile). AllWait W s.reads s.write) files
    pub from : (p : ℕ × NodeId) → IsOneOf p confirmed → Ok p.0 p.1
    pub held : AllOf HeldSo files

  abbrev pub IsSo : MdsValue → List Entry → List MdsSend → Type 0
  IsSo m es ss = hold.IsSo m es ss × Mine m.files m.confirmed

  wait_at : (m : MdsValue) (file : FileId) (s : ServedFile) → served m file ≡ Some s → Mine m.files m.confirmed → AllWait W s.reads s.write
  wait_at m file s at i = all_got (λ (x : ServedFile). AllWait W x.reads x.write) m.files (file.0 - 1) s i.waits (place_served m file s at).1

  held_at : (m : MdsValue) (file : FileId) (s : ServedFile) → served m file ≡ Some s → Mine m.files m.confirmed → HeldSo s
  held_at m file s at i = all_got HeldSo m.files (file.0 - 1) s i.held (place_served m file s at).1

  set : (files : List ServedFile) (confirmed : List (ℕ × NodeId)) (place : ℕ) (t : ServedFile) → Mine files confirmed → AllWait W t.reads t.write → HeldSo t → Mine (slice_set files place t) confirmed
  set files confirmed place t i waits held = record {
    waits = all_set (λ (x : ServedFile). AllWait W x.reads x.write) files place t i.waits waits;
    from = i.from;
    held = all_set HeldSo files place t i.held held;
  }

  -- a file with the same layout and holder
  held_same : (s t : ServedFile) → t.file.layout ≡ s.file.layout → t.holder ≡ s.holder → HeldSo s → HeldSo t
  held_same s t same holder i client n is_recalled is at = i client n is_recalled (sym holder ∙ is) (sym (ap (λ (l : LayoutState). l.phase) same) ∙ at)

  -- ---- an input

  held_behind : (file : FileId) (fresh : Fresh) (s : ServedFile) (input : FileInput) → FileAgrees s → HolderHolds s → HeldSo s → HeldSo (file_behind s (phase file s.file input fresh))
  held_behind file fresh s input its holds i client n is_recalled is at =
      let both = kept_was (holder_of (phase file s.file input fresh).file.layout.phase) s.holder client is in
      let old : IsByClient s.file.layout.phase = holds client both.0 in
      by_after old both.0 both.1 (held_after file fresh old.node s.file.layout.cred s.file input its (record { is_recalled = old.is_recalled; phase = old.is; its = refl }))
    where
      by_after : (old : IsByClient s.file.layout.phase) → s.holder ≡ Some client → (holder_of (phase file s.file input fresh).file.layout.phase ≡ None → ⊥)
          → After file old.node s.file.layout.cred (phase file s.file input fresh) → Ok client (Client n)
      by_after old was some (GoesOn held) =
          subst (λ (k : ℕ). Ok client (Client k)) (same_node (phase file s.file input fresh).file.layout.phase old.node n held.is_recalled is_recalled held.phase at) (i client old.node old.is_recalled was old.is)
      by_after old was some (IsOver e none) = absurd (some none)

  behind : (m : MdsValue) (file : FileId) (s : ServedFile) (input : FileInput) → served m file ≡ Some s → has_fresh m.fresh ≡ true → (es : List Entry) (ss : List MdsSend) → IsSo m es ss
      → Mine (file_stepped m file s (phase file s.file input m.fresh)).mds.files (file_stepped m file s (phase file s.file input m.fresh)).mds.confirmed
  behind m file s input at fresh es ss i =
      let step : FileStep = phase file s.file input m.fresh in
      let n : MdsValue = with_served (record m { fresh = drawn m.fresh step }) file (file_behind s step) in
      let new : Mine n.files n.confirmed =
      set m.files m.confirmed (file.0 - 1) (file_behind s step) i.1 (behind_wait W step.entries step.file.layout.live s.reads s.write (wait_at m file s at i.1))
      (held_behind file m.fresh s input (at_file FileAgrees m file s at i.0.agree) (at_file HolderHolds m file s at (i.0.holders fresh)) (held_at m file s at i.1)) in
      cond_both (list_any is_period_end step.entries) (record n { recalls = without_file file n.recalls }) n (λ (x : MdsValue). Mine x.files x.confirmed) (λ end. new) (λ off. new)

  inputs : (m : MdsValue) (file : FileId) (s : ServedFile) (input : FileInput) → TakesInput IsSo m file s input
  inputs m file s input at fresh es ss i = (hold.inputs m file s input at es ss i.0, behind m file s input at fresh es ss i)

  asked : (m : MdsValue) (file : FileId) (input : FileInput) (o : Option ServedFile) → served m file ≡ o → (es : List Entry) (ss : List MdsSend) → IsSo m es ss
      → Mine (input_at m file input o).mds.files (input_at m file input o).mds.confirmed
  asked m file input None at es ss i = i.1
  asked m file input (Some s) at es ss i =
      cond_both (has_fresh m.fresh) (file_stepped m file s (phase file s.file input m.fresh)) (sends_none m) (λ (x : MdsStep). Mine x.mds.files x.mds.confirmed) (λ fresh. behind m file s input at fresh es ss i) (λ off. i.1)

  -- ---- a grant is to the node from which the client was confirmed

  its_node : (m : MdsValue) (file : FileId) (n : ℕ) (t : ServedFile) → ((s : ServedFile) → served m file ≡ Some s → (s.file.layout.phase ≡ Free) × (are_spent m.fresh ≡ false))
      → served (takes_input m file (AsksLayout n)).mds file ≡ Some t → (k : ℕ) (is_recalled : Bool) → t.file.layout.phase ≡ Held (Client k) is_recalled → n ≡ k
  its_node m file n t was there k is_recalled at = by_test (has_fresh m.fresh) refl
    where
      by_test : (b : Bool) → has_fresh m.fresh ≡ b → n ≡ k
      by_test true fresh =
          let a : IsAsked m file n t = asked_is m file n t fresh was there in
          same_node t.file.layout.phase n k false is_recalled (ap (λ (x : ServedFile). x.file.layout.phase) a.is) at
      by_test false off = absurd (not_free t.file.layout.phase k is_recalled (was t (sym (not_taken m file (AsksLayout n) (served m file) off) ∙ there)).0 at)

  confirmed_so : (m : MdsValue) (client n : ℕ) → confirmed_node m client ≡ Some (Client n) → Mine m.files m.confirmed → Ok client (Client n)
  confirmed_so m client n is i =
      let among : IsAmong client (Client n) m.confirmed = found_among client (Client n) m.confirmed is in
      subst (λ (k : ℕ). Ok k (Client n)) (sym among.id) (subst (λ (node : NodeId). Ok among.p.0 node) among.from (i.from among.p among.inside))

  granted : (m : MdsValue) (file : FileId) (n client : ℕ) (t : ServedFile) → confirmed_node m client ≡ Some (Client n)
      → ((s : ServedFile) → served m file ≡ Some s → (s.file.layout.phase ≡ Free) × (are_spent m.fresh ≡ false)) → served (takes_input m file (AsksLayout n)).mds file ≡ Some t
      → (es : List Entry) (ss : List MdsSend) → IsSo m es ss
      → Mine (with_served (takes_input m file (AsksLayout n)).mds file (with_holder client false t)).files (takes_input m file (AsksLayout n)).mds.confirmed
  granted m file n client t from was there es ss i =
      let x : MdsStep = takes_input m file (AsksLayout n) in
      let old : Mine x.mds.files x.mds.confirmed = asked m file (AsksLayout n) (served m file) refl es ss i in
      set x.mds.files x.mds.confirmed (file.0 - 1) (with_holder client false t) old (wait_at x.mds file t there old)
      (λ other k is_recalled is at.
      subst (λ (id : ℕ). Ok id (Client k)) (same_Some client other is)
      (subst (λ (node : ℕ). Ok client (Client node)) (its_node m file n t was there k is_recalled at) (confirmed_so m client n from i.1)))

  -- ---- who is confirmed

  confirms_keeps : (m : MdsValue) (client : ℕ) (node : NodeId) → Ok client node → Becomes IsSo m (confirms client node m)
  confirms_keeps m client node may es ss i = (
    i.0,
    record {
      waits = i.1.waits;
      from = cond_both (is_some (lookup (nat_eq client) m.confirmed)) m.confirmed (m.confirmed ++ (client, node) ∷ []) (λ (l : List (ℕ × NodeId)). (p : ℕ × NodeId) → IsOneOf p l → Ok p.0 p.1) (λ is. i.1.from)
          (λ off p inside. by_place p (in_pushed p (client, node) m.confirmed inside));
      held = i.1.held;
    },
  )
    where
      by_place : (p : ℕ × NodeId) → IsOneOf p m.confirmed ⊎ (p ≡ (client, node)) → Ok p.0 p.1
      by_place p (inl was) = i.1.from p was
      by_place p (inr is) = subst (λ (q : ℕ × NodeId). Ok q.0 q.1) (sym is) may

  -- ---- the cases

  makes : (m : MdsValue) (name : List ℕ) → Mine m.files m.confirmed → Mine (with_new_file m name).files m.confirmed
  makes m name i = record {
    waits = all_push (λ (x : ServedFile). AllWait W x.reads x.write) m.files new i.waits (record { reads_so = λ r inside. absurd inside; write_so = λ w is. absurd (none-some w is) });
    from = i.from;
    held = all_push HeldSo m.files new i.held (λ client n is_recalled is at. absurd (none-some client is));
  }
    where
      new : ServedFile
      new = new_served name (new_mds_file m.fresh (servers_of (length m.servers) m.mirrors (length m.files + 1)))

  pub cases : Cases IsSo HeardAny W
  cases = record {
    wait = λ m es ss i file s at. wait_at m file s at i.1;
    quiet = λ m confirmed opens reclaimed recalls old es ss i. (hold.cases.quiet m confirmed opens reclaimed recalls old es ss i.0, record { waits = i.1.waits; from = λ p inside. i.1.from p (old p inside); held = i.1.held });
    tables = λ m move is es ss i. (hold.cases.tables m move is es ss i.0, i.1);
    notes = λ m e note es ss i. (hold.cases.notes m e note es ss i.0, i.1);
    puts = λ m file s t at same holder seqid write waits es ss i. (
      hold.cases.puts m file s t at same holder seqid write (λ a. record { reads_so = λ r inside. tt; write_so = λ w is. tt }) es ss i.0,
      set m.files m.confirmed (file.0 - 1) t i.1 (waits (wait_at m file s at i.1)) (held_same s t (ap (λ (f : MdsFile). f.layout) same) holder (held_at m file s at i.1)),
    );
    again_to = λ m file s client at its es ss i. (
      hold.cases.again_to m file s client at its es ss i.0,
      set m.files m.confirmed (file.0 - 1) (with_holder client true s) i.1 (wait_at m file s at i.1) (held_same s (with_holder client true s) refl (sym its) (held_at m file s at i.1)),
    );
    grants = λ m file n client t from free was at es ss i. (hold.cases.grants m file n client t from free was at es ss i.0, granted m file n client t from was at es ss i);
    inputs = λ m file s input itself. inputs m file s input;
    own_ends = λ m file s failures place bytes. inputs m file s (OwnEnds (failures_by_place failures s.file.layout.live) place bytes);
    timeouts = λ m file s xid. inputs m file s (TimesOut xid);
    hears = λ m file s call server own uid c replies heard caller sent out. inputs m file s (IsAnswer call.xid (own_answer c (replies c)));
    learns = λ m file s call server own uid c replies fileid shown heard caller sent named shows. inputs m file s (Sees (record { server = server; fileid = fileid }) shown.seen);
    makes = λ m name may es ss i. (hold.cases.makes m name may es ss i.0, makes m name i.1);
    calls_file = λ m file s c at has its es ss i. (
      hold.cases.calls_file m file s c at has its es ss i.0,
      set m.files m.confirmed (file.0 - 1) (record s { file = c.file }) i.1 (wait_at m file s at i.1) (held_same s (record s { file = c.file }) (out_layout s.file m.next_xid c its) refl (held_at m file s at i.1)),
    );
    calls_write = λ m file s w c at has waits its is_write es ss i.
        let a : AllWait W s.reads s.write = wait_at m file s at i.1 in (
          hold.cases.calls_write m file s w c at has waits its is_write es ss i.0,
          set m.files m.confirmed (file.0 - 1) (record s { write = Some (record w { writer = c.writer }) }) i.1
              (record { reads_so = a.reads_so; write_so = λ x one. subst (λ (y : WaitingWrite). W y.compound) (same_Some (record w { writer = c.writer }) x one) (a.write_so w waits) })
              (held_same s (record s { write = Some (record w { writer = c.writer }) }) refl refl (held_at m file s at i.1)),
        );
    calls_read = λ m file s t server call at has same holder seqid write waits kept uid is_read es ss i.
        let a : AllWait W s.reads s.write = wait_at m file s at i.1 in (
          hold.cases.calls_read m file s t server call at has same holder seqid write waits kept uid is_read es ss i.0,
          set m.files m.confirmed (file.0 - 1) t i.1 (record { reads_so = same_wait W s.reads t.reads waits a.reads_so; write_so = λ x one. a.write_so x (sym kept ∙ one) })
              (held_same s t (ap (λ (f : MdsFile). f.layout) same) holder (held_at m file s at i.1)),
        );
    calls_back = λ m node back file stateid has es ss i. (hold.cases.calls_back m node back file stateid has es ss i.0, i.1);
    skips = λ m has es ss i. (hold.cases.skips m has es ss i.0, i.1);
    forgets = λ m test es ss i. (hold.cases.forgets m test es ss i.0, i.1);
    was = λ m es ss i. hold.cases.was m es ss i.0;
    again = λ m s es ss i inside. (hold.cases.again m s es ss i.0 inside, i.1);
  }

  -- ---- the operations of a compound

  finish_keeps : (m : MdsValue) (c : CompoundRun) (status : Stat4) → Keeps IsSo m (finishes m c status)
  finish_keeps m c status es ss i =
      let n : MdsValue = record m { sessions = kept_in_slot m.sessions c.slot (compound_bytes c status) } in
      let reply = success_reply c.xid (compound_bytes c status) in
      subst (λ (l : List Entry). IsSo n l (ss ++ Replies c.node reply ∷ [])) (sym (append-nil es)) (hold.runs.replies n c.node c.xid (compound_bytes c status) es ss i.0, i.1)

  stop_keeps : (m : MdsValue) (c : CompoundRun) (s : Stop) → KeepsOp IsSo m (stopped m c s)
  stop_keeps m c (stop.End rest) = stays IsSo m
  stop_keeps m c (stop.Unread number) = by_number (is_operation_number number)
    where
      by_number : (b : Bool) → KeepsOp IsSo m (unread m c number b)
      by_number true = stays IsSo m
      by_number false = stays IsSo m
  stop_keeps m c (stop.Bad e) = stays IsSo m

  last_keeps : (m : MdsValue) (s : OpStep) → KeepsOp IsSo m s → Keeps IsSo m (op_then s (λ n d. sends_none n))
  last_keeps m (Goes n entries d) q = enters_keeps IsSo m n entries (sends_none n) q (same IsSo n)
  last_keeps m (Ends n entries d status) q = enters_keeps IsSo m n entries (finishes n d status) q (finish_keeps n d status)
  last_keeps m (Waits n entries) q = enters_keeps IsSo m n entries (sends_none n) q (same IsSo n)

  op_keeps : (m : MdsValue) (c : CompoundRun) (s : OpStep) (next : MdsValue → CompoundRun → MdsStep) → KeepsOp IsSo m s → StepsLike c s → ((n : MdsValue) (d : CompoundRun) → Like c d → Keeps IsSo n (next n d)) → Keeps IsSo m (op_then s next)
  op_keeps m c (Goes n entries d) next q like all = enters_keeps IsSo m n entries (next n d) q (all n d like)
  op_keeps m c (Ends n entries d status) next q like all = enters_keeps IsSo m n entries (finishes n d status) q (finish_keeps n d status)
  op_keeps m c (Waits n entries) next q like all = enters_keeps IsSo m n entries (sends_none n) q (same IsSo n)

  returned : (m : MdsValue) (file : FileId) (s : ServedFile) (n : ℕ) (cred : Cred) (errors : List (Value ff_ioerr4)) → TakesInput IsSo m file s (Returns n cred (report_of errors s.file.layout.live))
  returned m file s n cred errors = inputs m file s (Returns n cred (report_of errors s.file.layout.live))

  operate_keeps : (now : ℕ) (m : MdsValue) (c : CompoundRun) → W c → (op : Value argop4) → MayRun c.node op → KeepsOp IsSo m (operate now m c op)
  operate_keeps now m c its op may =
      operate_walk IsSo HeardAny W (case_parts IsSo HeardAny W cases) now m c op
      (record {
        waits = λ is. its;
        returns = λ is x file s errors. returned x file s (client_number (holder_of s.file.layout.phase)) s.file.layout.cred errors;
        confirms = λ client is x. confirms_keeps x client c.node (may client is);
        destroys = λ is x session es ss i. (hold.runs.destroys x session es ss i.0, i.1);
      })

  operates_keeps : (now : ℕ) (m : MdsValue) (c : CompoundRun) → W c → (op : Value argop4) → MayRun c.node op → KeepsOp IsSo m (operates now m c op)
  operates_keeps now m c its op may =
      cond_both (has_session m c.slot) (operate now m c op) (refuses m c (arm_of argop4 op) stat.BadSession) (λ (s : OpStep). KeepsOp IsSo m s) (λ is. operate_keeps now m c its op may) (λ off. stays IsSo m)

  run_keeps : (now : ℕ) (ops : List (Value argop4)) (m : MdsValue) (c : CompoundRun) → AllOf (MayRun c.node) ops → Keeps IsSo m (runs now ops m c)
  run_keeps now [] m c may = last_keeps m (stopped m (with_ops c []) c.stop) (stop_keeps m (with_ops c []) c.stop)
  run_keeps now (op ∷ ops) m c may =
      op_keeps m (with_ops c ops) (operates now m (with_ops c ops) op) (λ n d. runs now ops n d) (operates_keeps now m (with_ops c ops) may.1 op may.0) (operates_like now m (with_ops c ops) op)
      (λ n d l. run_keeps now ops n d (subst (λ (node : NodeId). AllOf (MayRun node) ops) (sym l.node) may.1))

  pub waiting : WaitCases IsSo W
  waiting = record {
    done = λ now m c result read its. enters_keeps IsSo m m [] (runs now c.ops m (with_result c result)) (stays IsSo m) (run_keeps now c.ops m (with_result c result) its);
    failed = λ now m c number read its. enters_keeps IsSo m m [] (finishes m (with_result c (refused_as number stat.Io)) stat.Io) (stays IsSo m) (finish_keeps m (with_result c (refused_as number stat.Io)) stat.Io);
  }

  -- ---- the first one, behind what its request leaves of the table of clients

  sequence_keeps : (now : ℕ) (m : MdsValue) (c : CompoundRun) (ops : List (Value argop4)) (s : Sequence) → AllOf (MayRun c.node) ops → (a : SlotAnswer)
      → Keeps IsSo (record m { sessions = table_begun m.sessions (after_request m.sessions s now) a }) (sequenced now m c ops s a)
  sequence_keeps now m c ops s may TakesEffect = run_keeps now ops (record m { sessions = after_request m.sessions s now }) (in_slot c s) may
  sequence_keeps now m c ops s may (Repeats reply) =
      λ es ss i. subst (λ (l : List Entry). IsSo m l (ss ++ Replies c.node (success_reply c.xid reply) ∷ [])) (sym (append-nil es)) (hold.runs.replies m c.node c.xid reply es ss i.0, i.1)
  sequence_keeps now m c ops s may (Refuses status) = finish_keeps m (with_result c (refused_as 53 status)) status

  first_keeps : (now : ℕ) (m : MdsValue) (c : CompoundRun) (count : ℕ) (op : Value argop4) (ops : List (Value argop4)) → MayRun c.node op → AllOf (MayRun c.node) ops → (o : Option (Value sequence4_args))
      → Keeps IsSo (behind_request now m c.node (option_map sequence_in o)) (first_by now m c count op ops o)
  first_keeps now m c count op ops first may (Some args) =
      let s : Sequence = sequence_in args in
      let n : MdsValue = record m { sessions = after_binding m.sessions s.session c.node } in
      sequence_keeps now n c ops s may (request_answer n.sessions s)
  first_keeps now m c count op ops first may None =
      cond_both (may_stand_alone (arm_of argop4 op)) (first_alone now m c count op ops) (op_then (refuses m c (arm_of argop4 op) stat.OpNotInSession) (λ n d. sends_none n)) (λ (s : MdsStep). Keeps IsSo m s)
      (λ is.
      cond_both (not (count == 1)) (op_then (refuses m c (arm_of argop4 op) stat.NotOnlyOp) (λ n d. sends_none n)) (op_then (operate now m (with_ops c ops) op) (λ n d. runs now ops n d)) (λ (s : MdsStep). Keeps IsSo m s)
      (λ more. last_keeps m (refuses m c (arm_of argop4 op) stat.NotOnlyOp) (stays IsSo m))
      (λ one.
      op_keeps m (with_ops c ops) (operate now m (with_ops c ops) op) (λ n d. runs now ops n d) (operate_keeps now m (with_ops c ops) may op first) (operate_like now m (with_ops c ops) op)
      (λ n d l. run_keeps now ops n d (subst (λ (node : NodeId). AllOf (MayRun node) ops) (sym l.node) may))))
      (λ off. last_keeps m (refuses m c (arm_of argop4 op) stat.OpNotInSession) (stays IsSo m))

  ops_keep : (now : ℕ) (m : MdsValue) (c : CompoundRun) (count : ℕ) (ops : List (Value argop4)) → AllOf (MayRun c.node) ops → Keeps IsSo (behind_request now m c.node (first_request ops)) (first_operation now m c count ops)
  ops_keep now m c count [] may = run_keeps now [] m c tt
  ops_keep now m c count (op ∷ ops) may = first_keeps now m c count op ops may.0 may.1 (sequence_of op)

  -- ---- the calls of clients

  none_made : (node : NodeId) (client : ℕ) → None ≡ Some client → Ok client node
  none_made node client is = absurd (none-some client is)

  devices_may : (node : NodeId) (servers : List ℕ) → AllOf (MayRun node) (map device_info_op servers)
  devices_may node [] = tt
  devices_may node (n ∷ servers) = (none_made node, devices_may node servers)

  slot_may : (node : NodeId) (name : List ℕ) (call : SlotCallValue) → AllOf (MayRun node) (slot_ops name call)
  slot_may node name slot.ReclaimComplete = (none_made node, tt)
  slot_may node name (slot.Open file) = (none_made node, (none_made node, (none_made node, tt)))
  slot_may node name (slot.LayoutGet file) = (none_made node, (none_made node, tt))
  slot_may node name (slot.DeviceInfo servers) = devices_may node servers
  slot_may node name (slot.Write file at bytes) = (none_made node, (none_made node, tt))
  slot_may node name (slot.Read file at count) = (none_made node, (none_made node, tt))
  slot_may node name (slot.LayoutReturn file stateid failed) = (none_made node, (none_made node, tt))
  slot_may node name slot.Renew = tt

  -- whose id it confirms
  abbrev pub MayCall : NodeId → MdsCallValue → Type 0
  MayCall node (CreateSession client sequence) = Ok client node
  MayCall node (ExchangeId verifier) = Unit {0}
  MayCall node (OnSlot session number call) = Unit {0}

  call_may : (node : NodeId) (name : List ℕ) (call : MdsCallValue) → MayCall node call → AllOf (MayRun node) (mds_ops name call)
  call_may node name (ExchangeId verifier) may = (none_made node, tt)
  call_may node name (CreateSession client sequence) may = (λ other is. subst (λ (id : ℕ). Ok id node) (same_Some client other is) may, tt)
  call_may node name (OnSlot session number call) may = (none_made node, slot_may node name call)

  -- ---- an event

  abbrev pub MayHear : MdsInput → Type 0
  MayHear (Hears node bytes) = (xid : ℕ) (v : CompoundValue) → incoming_of bytes ≡ IsCompound xid v → (name : List ℕ) × (call : MdsCallValue) × IsCallIn v name call × MayCall node call
  MayHear input = Unit {0}

  runs_so : (now : ℕ) (input : MdsInput) (m : MdsValue) → MayHear input → RunsSo IsSo now input m
  runs_so now (Hears from bytes) m hears = (
    λ xid v is.
        let c = hears xid v is in
        ops_keep now m (new_run from xid v) v.count v.ops.values (subst (λ (ops : List (Value argop4)). AllOf (MayRun from) ops) (sym c.2.ops) (call_may from c.0 c.1 c.3)),
    λ given is es ss i. (hold.sends m ss (Answers from given) i.0, i.1),
  )
  runs_so now (IsTimedOut to which) m hears = tt
  runs_so now IsTick m hears = tt
  runs_so now (RecallsFile file) m hears = tt
  runs_so now (Resilvers file) m hears = tt

  pub event_keeps : (e : MdsEvent) (m : MdsValue) → MayHear e.input → Keeps IsSo m (after_event e m)
  event_keeps e m hears =
      becomes_keeps IsSo m (behind_begin e.now e.input m) (by_input e.now e.input m) (λ es ss i. i)
      (input_walk IsSo HeardAny W cases waiting e.now e.input m (hears_any IsSo e.input) (runs_so e.now e.input m hears))

-- ---- a run

-- a CREATE_SESSION with the id was called from the node
record WasAsked (events : List MdsEvent) (client : ℕ) (node : NodeId) : Type 0 where
  pub early : List MdsEvent
  pub f : MdsEvent
  pub late : List MdsEvent
  pub split : IsEventOf events early f late
  pub xid : ℕ
  pub name : List ℕ
  pub sequence : ℕ
  pub came : IsCallFrom f node xid name (CreateSession client sequence)

module _ (events : List MdsEvent) where
  abbrev Asked : ℕ → NodeId → Type 0
  Asked client node = WasAsked events client node

  may_call : (early late : List MdsEvent) (f : MdsEvent) → IsEventOf events early f late → (node : NodeId) (xid : ℕ) (name : List ℕ) (call : MdsCallValue) → IsCallFrom f node xid name call → MayCall Asked node call
  may_call early late f split node xid name (ExchangeId verifier) came = tt
  may_call early late f split node xid name (CreateSession client sequence) came = record { early = early; f = f; late = late; split = split; xid = xid; name = name; sequence = sequence; came = came }
  may_call early late f split node xid name (OnSlot session number call) came = tt

  may_hear : (early late : List MdsEvent) (f : MdsEvent) → IsEventOf events early f late → (input : MdsInput) → f.input ≡ input → HearsCall input → MayHear Asked input
  may_hear early late f split (Hears node bytes) at hears =
      λ xid v is. let c = hears xid v is in (c.0, c.1, c.2, may_call early late f split node xid c.0 c.1 (record { bytes = bytes; input = at; v = v; compound = is; is = c.2 }))
  may_hear early late f split (IsTimedOut to which) at hears = tt
  may_hear early late f split IsTick at hears = tt
  may_hear early late f split (RecallsFile file) at hears = tt
  may_hear early late f split (Resilvers file) at hears = tt

  run_asked : (before rest : List MdsEvent) → events ≡ before ++ rest → AreCalls rest → (m : MdsValue) → Keeps (IsSo Asked) m (run_from m rest)
  run_asked before [] is calls m = same (IsSo Asked) m
  run_asked before (e ∷ rest) is calls m =
      then_keeps (IsSo Asked) m (after_event e m) (λ n. run_from n rest) (event_keeps Asked e m (may_hear before rest e is e.input refl calls.0))
      (λ n. run_asked (before ++ e ∷ []) rest (is ∙ sym (append_assoc before (e ∷ []) rest)) calls.1 n)

pub periods_are_confirmed : PeriodsAreConfirmed
periods_are_confirmed servers mirrors events file client uid calls p =
    let start : IsSo (WasAsked events) (new_mds servers mirrors) [] [] = (hold.new_stands servers mirrors, record { waits = tt; from = λ q inside. absurd inside; held = tt }) in
    let end = run_asked events [] events refl calls (new_mds servers mirrors) [] [] start in
    let w : WasAsked events client (Client p.node) = held_at (WasAsked events) (server_after servers mirrors events) file p.file_is p.there end.1 client p.node p.is_recalled p.holder p.phase in
    record { early = w.early; f = w.f; late = w.late; split = w.split; xid = w.xid; name = w.name; sequence = w.sequence; came = w.came }
