-- Compounds, and what comes of timeouts, keep what is kept in each case.
use Rattle.std.proofs.Common.{◌≡◌, ℕ, ◌-◌, Bool, true, false, List, [], ◌∷◌, ◌++◌, length, Option, Some, None, refl, sym, ap, subst, ◌∙◌}
use Rattle.std.specs.Prelude.{not, ◌==◌, slice_get, slice_set, position}
use Rattle.std.specs.Option.{option_map}
use Rattle.std.proofs.lemmas.Bool.{cond_both}
use Rattle.std.proofs.lemmas.List.{append-nil}
use Rattle.ff_xdr.specs.Form.{Value, arm_of}
use Rattle.ff_xdr.specs.Arms.{of_each_arm}
use Rattle.compound_reply.specs.Replied.{success_reply}
use Rattle.cluster_model.specs.declared.ids.NodeId.{NodeId}
use Rattle.cluster_model.specs.declared.ids.FileId.{FileId}
use Rattle.cluster_model.specs.declared.phase.EndCause.TheVariants.{Recalled, NoLayout as NoSuchLayout}
use Rattle.cluster_model.specs.declared.entry.Entry.{Entry}
use Rattle.cluster_model.specs.declared.entry.Entry.TheVariants as entry
use Rattle.file_rule.specs.FilePhases.{TimesOut, Revokes, phase}
use Rattle.mds_io.specs.declared.read_end.ReadEnd.{ReadEnd}
use Rattle.mds_io.specs.declared.read_end.ReadEnd.TheVariants as end
use Rattle.mds_io.specs.Reads.{ReadState, ReadAfter}
use Rattle.mds_io.specs.Reads as read
use Rattle.mds_io.specs.OwnWrites.{ended}
use Rattle.mirror_writer.specs.Writers.{WriterValue, WriterAfter}
use Rattle.mirror_writer.specs.Writers as writer
use Rattle.nfs4_types.specs.declared.sequence.Sequence.{Sequence}
use Rattle.nfs4_types.specs.declared.status.Stat4.{Stat4}
use Rattle.nfs4_types.specs.declared.status.Stat4.TheVariants as stat
use Rattle.nfs4_types.specs.Sequences.{sequence4_args}
use Rattle.nfs4_compound.specs.declared.stop.Stop.{Stop}
use Rattle.nfs4_compound.specs.declared.stop.Stop.TheVariants as stop
use Rattle.nfs4_compound.specs.Args.{argop4}
use Rattle.nfs4_compound.specs.Compounds.{CompoundValue}
use Rattle.nfs4_session.specs.declared.begin.SlotPass.{SlotPass}
use Rattle.nfs4_session.specs.Slots.{SlotAnswer, TakesEffect, Repeats, Refuses}
use Rattle.nfs4_session.specs.Requests.{request_answer, after_request}
use Rattle.nfs4_session.specs.Beginning.{table_begun}
use Rattle.nfs4_session.specs.Bindings.{after_binding}
use Rattle.recall.specs.declared.recall.Outcome.{Outcome}
use Rattle.recall.specs.declared.recall.Outcome.TheVariants as outcome
use Rattle.recall.specs.Recalls.{RecallsAfter}
use Rattle.recall.specs.Recalls as recalls
use Rattle.mds_rule.specs.MdsStates.{CompoundRun, WaitingRead, WaitingWrite, ServedFile, MdsSend, Replies, MdsValue, MdsStep, sends_none, enters, served, with_served}
use Rattle.mds_rule.specs.declared.waiter.Waiter.{Waiter}
use Rattle.mds_rule.specs.declared.waiter.Waiter.TheVariants.{ForFile, ForRead, ForWrite, ForRecall}
use Rattle.mds_rule.specs.OpSteps.{OpStep, Goes, Ends, Waits, with_result, refuses, refused_as, unread, stopped, is_operation_number}
use Rattle.mds_rule.specs.ServedFiles.{has_fresh, file_stepped, input_at, takes_input}
use Rattle.mds_rule.specs.Compounds.{operate, has_session, operates, compound_bytes, kept_in_slot, finishes, op_then, with_ops, runs, sequence_in, in_slot, sequenced, sequence_of, may_stand_alone, first_alone, first_by, first_operation, new_run, runs_compound}
use Rattle.mds_rule.specs.FileOps.{write_result}
use Rattle.mds_rule.specs.Answers.{resumes, is_done_as, has_failed_as, failed_entries, read_result, without_read, read_resumes, read_after, read_ends, read_step_at, read_from, read_of, is_read_out, is_writer_out, has_write_out, write_answer, write_stepped, write_ends, write_of, write_in, has_failed_everywhere, write_over, recall_outcome, recalls_after, timed_out_for, is_file_out, is_awaited_by}
use Rattle.mds_walk.specs.FirstRequests.{first_request}
use Rattle.mds_walk.proofs.Parts.{Parts, RunParts, Resumes, OpNeeds, AllWait, IsReadAt, with_read_at, end_entry, end_input, without_write, Becomes, Enters, Keeps, HeardOf}
use Rattle.mds_walk.proofs.ReadEnds.{EndsFew, late_steps_few}
use Rattle.mds_walk.proofs.Keeping.{KeepsOp, then_keeps, none_keeps, same, becomes_keeps, enters_twice, enters_keeps, stays, silent_keeps}
use Rattle.mds_walk.proofs.Lists.{got_in, set_twice}
use Rattle.mds_walk.proofs.Requested.{behind_request}
use Rattle.mds_walk.proofs.ServedWalk.{takes, takes_by, exchanges, creates, binds, destroys_session, destroys_client, reclaims_all}
use Rattle.mds_walk.proofs.Served.{served_again}
use Rattle.mds_walk.proofs.OpsWalk.{puts_fh, gets_fh, looks_up, gets_attr, opens, closes_file, commits, reads, writes, layout_gets, layout_returns, layout_commits, device_infos}

module _ (I : MdsValue → List Entry → List MdsSend → Type 0) where
  stop_walk : (m : MdsValue) (c : CompoundRun) (s : Stop) → KeepsOp I m (stopped m c s)
  stop_walk m c (stop.End rest) = stays I m
  stop_walk m c (stop.Unread number) = by_number (is_operation_number number)
    where
      by_number : (b : Bool) → KeepsOp I m (unread m c number b)
      by_number true = stays I m
      by_number false = stays I m
  stop_walk m c (stop.Bad e) = stays I m

module _ (I : MdsValue → List Entry → List MdsSend → Type 0) (Heard : HeardOf) (W : CompoundRun → Type 0) (k : Parts I Heard W) where
  -- ---- one operation

  pub operate_walk : (now : ℕ) (m : MdsValue) (c : CompoundRun) (op : Value argop4) → OpNeeds I W c op → KeepsOp I m (operate now m c op)
  operate_walk now m c op =
      of_each_arm argop4 (λ (v : Value argop4). OpNeeds I W c v → KeepsOp I m (operate now m c v)) (
        (λ close n. closes_file I Heard W k m c close),
        (
          (λ commit n. commits I Heard W k m c),
          (
            (λ words n. gets_attr I Heard W k m c words),
            (
              (λ nothing n. gets_fh I Heard W k m c),
              (
                (λ name n. looks_up I Heard W k m c name),
                (
                  (λ opening n. opens I Heard W k m c opening),
                  (
                    (λ handle n. puts_fh I Heard W k m c handle),
                    (
                      (λ nothing n. stays I m),
                      (
                        (λ read n. reads I Heard W k m c read (n.waits refl)),
                        (
                          (λ write n. writes I Heard W k m c now write (n.waits refl)),
                          (
                            (λ bind n. binds I Heard W k m c bind),
                            (
                              (λ exchange n. exchanges I Heard W k m c now exchange),
                              (
                                (λ create n. creates I Heard W k m c now create (n.confirms create.0 refl)),
                                (
                                  (λ session n. destroys_session I Heard W k m c session (n.destroys refl)),
                                  (
                                    (λ device n. device_infos I Heard W k m c device),
                                    (
                                      (λ commit n. layout_commits I Heard W k m c commit),
                                      (
                                        (λ layout n. layout_gets I Heard W k m c now layout),
                                        (
                                          (λ layout n. layout_returns I Heard W k m c layout (n.returns refl)),
                                          (
                                            (λ sequence n. stays I m),
                                            (
                                              (λ client n. destroys_client I Heard W k m c client),
                                              ((λ one_fs n. reclaims_all I Heard W k m c c.slot), tt),
                                            ),
                                          ),
                                        ),
                                      ),
                                    ),
                                  ),
                                ),
                              ),
                            ),
                          ),
                        ),
                      ),
                    ),
                  ),
                ),
              ),
            ),
          ),
        ),
      ) op

  pub operates_walk : (now : ℕ) (m : MdsValue) (c : CompoundRun) (op : Value argop4) → OpNeeds I W c op → KeepsOp I m (operates now m c op)
  operates_walk now m c op n =
      cond_both (has_session m c.slot) (operate now m c op) (refuses m c (arm_of argop4 op) stat.BadSession) (λ (s : OpStep). KeepsOp I m s) (λ is. operate_walk now m c op n) (λ off. stays I m)

-- ---- compounds, where each may be run

module _ (I : MdsValue → List Entry → List MdsSend → Type 0) (Heard : HeardOf) (W : CompoundRun → Type 0) (k : Parts I Heard W) (r : RunParts I) (any : (c : CompoundRun) → W c) where
  -- ---- one operation after the other

  pub needs : (c : CompoundRun) (op : Value argop4) → OpNeeds I W c op
  needs c op = record { waits = λ is. any c; returns = λ is. r.returns; confirms = λ client is m. r.confirmed m client c.node; destroys = λ is. r.destroys }

  -- what its slot keeps of the reply
  slot_walk : (m : MdsValue) (slot : Option SlotPass) (bytes : List ℕ) → Becomes I m (record m { sessions = kept_in_slot m.sessions slot bytes })
  slot_walk m None bytes = λ es ss i. i
  slot_walk m (Some slot) bytes = r.finishes m slot bytes

  finish_walk : (m : MdsValue) (c : CompoundRun) (status : Stat4) → Keeps I m (finishes m c status)
  finish_walk m c status es ss i =
      let n : MdsValue = record m { sessions = kept_in_slot m.sessions c.slot (compound_bytes c status) } in
      let reply = success_reply c.xid (compound_bytes c status) in
      subst (λ (l : List Entry). I n l (ss ++ Replies c.node reply ∷ [])) (sym (append-nil es))
      (r.replies n c.node c.xid (compound_bytes c status) es ss (slot_walk m c.slot (compound_bytes c status) es ss i))

  op_walk : (m : MdsValue) (s : OpStep) (next : MdsValue → CompoundRun → MdsStep) → KeepsOp I m s → ((n : MdsValue) (d : CompoundRun) → Keeps I n (next n d)) → Keeps I m (op_then s next)
  op_walk m (Goes n entries c) next q all = enters_keeps I m n entries (next n c) q (all n c)
  op_walk m (Ends n entries c status) next q all = enters_keeps I m n entries (finishes n c status) q (finish_walk n c status)
  op_walk m (Waits n entries) next q all = enters_keeps I m n entries (sends_none n) q (same I n)

  pub run_walk : (now : ℕ) (ops : List (Value argop4)) (m : MdsValue) (c : CompoundRun) → Keeps I m (runs now ops m c)
  run_walk now [] m c = op_walk m (stopped m (with_ops c []) c.stop) (λ n d. sends_none n) (stop_walk I m (with_ops c []) c.stop) (λ n d. same I n)
  run_walk now (op ∷ ops) m c = op_walk m (operates now m (with_ops c ops) op) (λ n d. runs now ops n d) (operates_walk I Heard W k now m (with_ops c ops) op (needs (with_ops c ops) op)) (λ n d. run_walk now ops n d)

  -- ---- the first one, behind what its request leaves of the table of clients

  sequence_walk : (now : ℕ) (m : MdsValue) (c : CompoundRun) (ops : List (Value argop4)) (s : Sequence) (a : SlotAnswer)
      → Keeps I (record m { sessions = table_begun m.sessions (after_request m.sessions s now) a }) (sequenced now m c ops s a)
  sequence_walk now m c ops s TakesEffect = run_walk now ops (record m { sessions = after_request m.sessions s now }) (in_slot c s)
  sequence_walk now m c ops s (Repeats reply) =
      λ es ss i. subst (λ (l : List Entry). I m l (ss ++ Replies c.node (success_reply c.xid reply) ∷ [])) (sym (append-nil es)) (r.replies m c.node c.xid reply es ss i)
  sequence_walk now m c ops s (Refuses status) = finish_walk m (with_result c (refused_as 53 status)) status

  first_walk : (now : ℕ) (m : MdsValue) (c : CompoundRun) (count : ℕ) (op : Value argop4) (ops : List (Value argop4)) (o : Option (Value sequence4_args))
      → Keeps I (behind_request now m c.node (option_map sequence_in o)) (first_by now m c count op ops o)
  first_walk now m c count op ops (Some args) =
      let s : Sequence = sequence_in args in
      let n : MdsValue = record m { sessions = after_binding m.sessions s.session c.node } in
      sequence_walk now n c ops s (request_answer n.sessions s)
  first_walk now m c count op ops None =
      cond_both (may_stand_alone (arm_of argop4 op)) (first_alone now m c count op ops) (op_then (refuses m c (arm_of argop4 op) stat.OpNotInSession) (λ n d. sends_none n)) (λ (s : MdsStep). Keeps I m s)
      (λ is.
      cond_both (not (count == 1)) (op_then (refuses m c (arm_of argop4 op) stat.NotOnlyOp) (λ n d. sends_none n)) (op_then (operate now m (with_ops c ops) op) (λ n d. runs now ops n d)) (λ (s : MdsStep). Keeps I m s)
      (λ more. op_walk m (refuses m c (arm_of argop4 op) stat.NotOnlyOp) (λ n d. sends_none n) (stays I m) (λ n d. same I n))
      (λ one. op_walk m (operate now m (with_ops c ops) op) (λ n d. runs now ops n d) (operate_walk I Heard W k now m (with_ops c ops) op (needs (with_ops c ops) op)) (λ n d. run_walk now ops n d)))
      (λ off. op_walk m (refuses m c (arm_of argop4 op) stat.OpNotInSession) (λ n d. sends_none n) (stays I m) (λ n d. same I n))

  ops_walk : (now : ℕ) (m : MdsValue) (c : CompoundRun) (count : ℕ) (ops : List (Value argop4)) → Keeps I (behind_request now m c.node (first_request ops)) (first_operation now m c count ops)
  ops_walk now m c count [] = run_walk now [] m c
  ops_walk now m c count (op ∷ ops) = first_walk now m c count op ops (sequence_of op)

  pub compound_walk : (now : ℕ) (m : MdsValue) (node : NodeId) (xid : ℕ) (v : CompoundValue) → Keeps I (behind_request now m node (first_request v.ops.values)) (runs_compound now m node xid v)
  compound_walk now m node xid v = ops_walk now m (new_run node xid v) v.count v.ops.values

  -- ---- a compound goes on

  resume_walk : (now : ℕ) (m : MdsValue) (s : OpStep) (ops : List (Value argop4)) → KeepsOp I m s → Keeps I m (resumes now s ops)
  resume_walk now m s ops q = op_walk m s (λ n d. runs now ops n d) q (λ n d. run_walk now ops n d)

  pub resumed : Resumes I W
  resumed = record {
    has_read = λ now m c eof bytes few its. resume_walk now m (is_done_as m c (read_result eof bytes)) c.ops (stays I m);
    has_written = λ now m c count its. resume_walk now m (is_done_as m c (write_result count)) c.ops (stays I m);
    read_failed = λ now m c its. resume_walk now m (has_failed_as m c 25) c.ops (stays I m);
    write_failed = λ now m c its. resume_walk now m (has_failed_as m c 38) c.ops (stays I m);
  }

-- ---- what comes of timeouts

module _ (I : MdsValue → List Entry → List MdsSend → Type 0) (Heard : HeardOf) (W : CompoundRun → Type 0) (k : Parts I Heard W) (g : Resumes I W) where
  -- ---- a READ

  module _ (now : ℕ) (m n : MdsValue) (file : FileId) (s : ServedFile) (place : ℕ) (r : WaitingRead) (its : W r.compound) (after : ReadAfter) where
    -- what the step leaves of it, where it goes on and where it ends
    abbrev GoesOnSo : Type 0
    GoesOnSo = after.end ≡ None → Enters I m (with_served n file (with_read_at s place r after.read)) (failed_entries r.read after.read)

    abbrev EndsSo : Type 0
    EndsSo = (e : ReadEnd) → after.end ≡ Some e → Enters I m (without_read n file s place) (failed_entries r.read after.read ++ end_entry file e ∷ [])

    over_walk : EndsSo → EndsFew after.end → (e : ReadEnd) → after.end ≡ Some e → Keeps I m (enters (failed_entries r.read after.read) (read_resumes now (without_read n file s place) file r.compound e))
    over_walk over few (end.Bytes eof bytes) is =
        let q = is_done_as (without_read n file s place) r.compound (read_result eof bytes) in
        enters_twice I m (failed_entries r.read after.read) (entry.ReadAnswer file 0 bytes ∷ []) (resumes now q r.compound.ops)
        (enters_keeps I m (without_read n file s place) (failed_entries r.read after.read ++ entry.ReadAnswer file 0 bytes ∷ []) (resumes now q r.compound.ops) (over (end.Bytes eof bytes) is)
        (g.has_read now (without_read n file s place) r.compound eof bytes (subst (λ (o : Option ReadEnd). EndsFew o) is few) its))
    over_walk over few (end.AllFailed failures) is =
        let q = has_failed_as (without_read n file s place) r.compound 25 in
        enters_twice I m (failed_entries r.read after.read) (entry.ReadAnswer file 5 [] ∷ []) (resumes now q r.compound.ops)
        (enters_keeps I m (without_read n file s place) (failed_entries r.read after.read ++ entry.ReadAnswer file 5 [] ∷ []) (resumes now q r.compound.ops) (over (end.AllFailed failures) is)
        (g.read_failed now (without_read n file s place) r.compound its))

    pub read_walk : GoesOnSo → EndsSo → EndsFew after.end → Keeps I m (read_after now n file s place r after)
    read_walk on over few = by_end after.end refl
      where
        by_end : (o : Option ReadEnd) → after.end ≡ o → Keeps I m (enters (failed_entries r.read after.read) (read_ends now n file s place r after.read o))
        by_end None is =
            enters_keeps I m (with_served n file (with_read_at s place r after.read)) (failed_entries r.read after.read) (sends_none (with_served n file (with_read_at s place r after.read))) (on is)
            (same I (with_served n file (with_read_at s place r after.read)))
        by_end (Some e) is = over_walk over few e is

  -- a timeout of its call
  read_there : (now : ℕ) (m : MdsValue) (file : FileId) (s : ServedFile) (xid place : ℕ) → served m file ≡ Some s → position (is_read_out xid) s.reads ≡ Some place → (o : Option WaitingRead) → slice_get s.reads place ≡ o
      → Keeps I m (read_step_at now m file s (λ r. read.after_timeout r xid) place o)
  read_there now m file s xid place there first None at = same I m
  read_there now m file s xid place there first (Some r) at =
      let stands : IsReadAt m file s xid place r = record { there = there; first = first; at = at } in
      λ es ss i.
      read_walk now m m file s place r ((k.wait m es ss i file s there).reads_so r (got_in s.reads place r at)) (read.after_timeout r.read xid) (k.times_read m file s xid place r stands) (λ e. k.loses_read m file s xid place r e stands)
      (late_steps_few r.read xid r.read.stage) es ss i

  read_first : (now : ℕ) (m : MdsValue) (file : FileId) (s : ServedFile) (xid : ℕ) → served m file ≡ Some s → (o : Option ℕ) → position (is_read_out xid) s.reads ≡ o → Keeps I m (read_from now m file s (λ r. read.after_timeout r xid) o)
  read_first now m file s xid there None first = same I m
  read_first now m file s xid there (Some place) first = read_there now m file s xid place there first (slice_get s.reads place) refl

  read_late : (now : ℕ) (m : MdsValue) (file : FileId) (xid : ℕ) (o : Option ServedFile) → served m file ≡ o → Keeps I m (read_of now m file xid (λ r. read.after_timeout r xid) o)
  read_late now m file xid None there = same I m
  read_late now m file xid (Some s) there = read_first now m file s xid there (position (is_read_out xid) s.reads) refl

  -- ---- an own write

  write_goes_on : (now : ℕ) (m : MdsValue) (c : CompoundRun) (count : ℕ) (failed : Bool) → W c → Keeps I m (resumes now (write_answer m c count failed) c.ops)
  write_goes_on now m c count true its = g.write_failed now m c its
  write_goes_on now m c count false its = g.has_written now m c count its

  -- its file takes its end, where there is what may be drawn
  end_walk : (m : MdsValue) (file : FileId) (s : ServedFile) (w : WaitingWrite) (places : List Bool) → served m file ≡ Some s → s.write ≡ Some w → ended w.writer ≡ Some places
      → Keeps I m (takes_input (with_served m file (without_write s)) file (end_input s w))
  end_walk m file s w places at waits over =
      let n : MdsValue = with_served m file (without_write s) in
      subst (λ (o : Option ServedFile). Keeps I m (input_at n file (end_input s w) o)) (sym (served_again m file s (without_write s) at))
      (cond_both (has_fresh m.fresh) (file_stepped n file (without_write s) (phase file s.file (end_input s w) m.fresh)) (sends_none n) (λ (x : MdsStep). Keeps I m x)
      (λ fresh. λ es ss i.
      subst (λ (l : List MdsSend). I (file_stepped n file (without_write s) (phase file s.file (end_input s w) m.fresh)).mds (es ++ (phase file s.file (end_input s w) m.fresh).entries) l) (sym (append-nil ss)) (k.ends_write m file s w places at waits over fresh es ss i))
      (λ spent. none_keeps I m n (k.drops_write m file s w places at waits over spent)))

  -- behind a step of its writer, which leads from one server to another
  write_end_walk : (now : ℕ) (m p : MdsValue) (file : FileId) (s : ServedFile) → served p file ≡ Some s → (w : WaitingWrite) → W w.compound → Becomes I m (with_served p file (record s { write = Some w })) → (o : Option (List Bool)) → ended w.writer ≡ o
      → Keeps I m (write_ends now p file s w o)
  write_end_walk now m p file s is w so b None over = none_keeps I m (with_served p file (record s { write = Some w })) b
  write_end_walk now m p file s is w so b (Some places) over =
      let t : ServedFile = record s { write = Some w } in
      let n : MdsValue = with_served p file t in
      let failed : Bool = has_failed_everywhere w.failures s.file.layout.live in
      let twice : slice_set (slice_set p.files (file.0 - 1) t) (file.0 - 1) (without_write s) ≡ slice_set p.files (file.0 - 1) (without_write s) = set_twice p.files (file.0 - 1) t (without_write s) in
      let x : MdsStep = takes_input (with_served p file (without_write s)) file (end_input s w) in
      let its : Keeps I n x =
      subst (λ (all : List ServedFile). Keeps I n (takes_input (record p { files = all }) file (end_input s w))) twice (end_walk n file t w places (served_again p file s t is) refl over) in
      becomes_keeps I m n (write_over now x w.compound (length w.bytes) failed) b
      (then_keeps I n x (λ y. resumes now (write_answer y w.compound (length w.bytes) failed) w.compound.ops) its
      (λ y. write_goes_on now y w.compound (length w.bytes) failed so))

  -- what a step of its writer leaves waits
  abbrev pub StepsWrite : MdsValue → MdsValue → FileId → ℕ → (WriterValue → WriterAfter) → Type 0
  StepsWrite m p file xid step =
      (s : ServedFile) (w : WaitingWrite) → served p file ≡ Some s → s.write ≡ Some w → is_writer_out xid s.write ≡ true → Becomes I m (with_served p file (record s { write = Some (write_stepped w (step w.writer)) }))

  -- the compounds that wait for the file are so
  abbrev pub WaitsSo : MdsValue → MdsValue → FileId → Type 0
  WaitsSo m p file = (es : List Entry) (ss : List MdsSend) → I m es ss → (s : ServedFile) → served p file ≡ Some s → AllWait W s.reads s.write

  write_of_walk : (now : ℕ) (m p : MdsValue) (file : FileId) (xid : ℕ) (step : WriterValue → WriterAfter) → StepsWrite m p file xid step → WaitsSo m p file → (s : ServedFile) → served p file ≡ Some s → (o : Option WaitingWrite) → s.write ≡ o → is_writer_out xid o ≡ true
      → Keeps I m (write_of now p file step s o)
  write_of_walk now m p file xid step each waits s is None its out = absurd cc
  write_of_walk now m p file xid step each waits s is (Some w) its out =
      λ es ss i.
      write_end_walk now m p file s is (write_stepped w (step w.writer)) ((waits es ss i s is).write_so w its) (each s w is its (ap (is_writer_out xid) its ∙ out)) (ended (step w.writer).writer) refl es ss i

  pub write_in_walk : (now : ℕ) (m p : MdsValue) (file : FileId) (xid : ℕ) (step : WriterValue → WriterAfter) → StepsWrite m p file xid step → WaitsSo m p file → (o : Option ServedFile) → served p file ≡ o → has_write_out xid o ≡ true → Keeps I m (write_in now p file step o)
  write_in_walk now m p file xid step each waits None is out = absurd cc
  write_in_walk now m p file xid step each waits (Some s) is out = write_of_walk now m p file xid step each waits s is s.write refl out

  -- ---- recalls

  outcome_walk : (m : MdsValue) (o : Outcome) → Keeps I m (recall_outcome m o)
  outcome_walk m (outcome.NoLayout file cred) = silent_keeps I m _ (takes I Heard W k m file (Revokes NoSuchLayout) refl)
  outcome_walk m (outcome.Expired file cred) = silent_keeps I m _ (takes I Heard W k m file (Revokes Recalled) refl)
  outcome_walk m other = same I m

  pub recalls_walk : (m p : MdsValue) (a : RecallsAfter) → Becomes I m (record p { recalls = a.recalls }) → Keeps I m (recalls_after p a)
  recalls_walk m p a b = becomes_keeps I m (record p { recalls = a.recalls }) (recall_outcome (record p { recalls = a.recalls }) a.outcome) b (outcome_walk (record p { recalls = a.recalls }) a.outcome)

  -- ---- a timeout of a call that is awaited

  pub timeout_walk : (now : ℕ) (m : MdsValue) (node : NodeId) (xid : ℕ) (caller : Waiter) → is_awaited_by m node xid caller ≡ true → Keeps I m (timed_out_for now m xid caller)
  timeout_walk now m node xid (ForFile file) awaited =
      silent_keeps I m _ (takes_by I Heard W k m file (TimesOut xid) (λ s there fresh. k.timeouts m file s node xid (ap (is_file_out node xid) (sym there) ∙ awaited) there fresh))
  timeout_walk now m node xid (ForRead file) awaited = read_late now m file xid (served m file) refl
  timeout_walk now m node xid (ForWrite file) awaited =
      write_in_walk now m m file xid (λ w. writer.after_timeout w xid) (λ s w at waits out. k.times_write m file s w xid at waits out) (λ es ss i s at. k.wait m es ss i file s at) (served m file) refl awaited
  timeout_walk now m node xid ForRecall awaited = recalls_walk m m (recalls.after_timeout m.recalls xid) (k.times_recall m xid awaited)
