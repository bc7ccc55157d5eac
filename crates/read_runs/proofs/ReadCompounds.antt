-- A compound that reads, in its form: its READ is refused, or it waits with all that is known of it.
use Rattle.std.proofs.Common.{◌≡◌, ℕ, Bool, true, false, cond, List, [], ◌∷◌, ◌++◌, length, Option, Some, None, refl, sym, ap, subst, ◌∙◌, inl}
use Rattle.std.specs.Prelude.{not}
use Rattle.std.proofs.lemmas.Bool.{cond_both}
use Rattle.std.proofs.lemmas.List.{append-nil}
use Rattle.ff_xdr.specs.Form.{Value}
use Rattle.ff_xdr.specs.Arms.{arm}
use Rattle.cluster_model.specs.declared.ids.NodeId.{NodeId}
use Rattle.cluster_model.specs.declared.ids.FileId.{FileId}
use Rattle.cluster_model.specs.Phases.{ids_of, phase_of}
use Rattle.cluster_laws.proofs.Lists.{all_append}
use Rattle.mds_io.specs.Reads.{new_read}
use Rattle.nfs4_types.specs.declared.sequence.Sequence.{Sequence}
use Rattle.nfs4_types.specs.declared.status.Stat4.{Stat4}
use Rattle.nfs4_types.specs.declared.status.Stat4.TheVariants as stat
use Rattle.nfs4_types.specs.Handles.{file_handle_of}
use Rattle.nfs4_types.specs.Stateids.{stateid4}
use Rattle.nfs4_compound.specs.declared.stop.Stop.TheVariants as stop
use Rattle.nfs4_compound.specs.Args.{argop4}
use Rattle.nfs4_compound.specs.Results.{resop4}
use Rattle.nfs4_compound.specs.Compounds.{CompoundValue}
use Rattle.nfs4_session.specs.Slots.{SlotAnswer, TakesEffect, Repeats, Refuses}
use Rattle.nfs4_session.specs.Requests.{request_answer, after_request}
use Rattle.nfs4_session.specs.Bindings.{after_binding}
use Rattle.mds_refusals.specs.declared.object.Object.{Object}
use Rattle.mds_refusals.specs.declared.object.Object.TheVariants.{Root, File}
use Rattle.mds_refusals.specs.Orders.{Order, refusal, file_of}
use Rattle.mds_refusals.specs.PutFh.{put_fh_order, object_of}
use Rattle.mds_refusals.specs.Reads.{is_made, read_order}
use Rattle.mds_receive.specs.MdsReceive.{IsCompound, incoming_of}
use Rattle.mds_rule.specs.MdsStates.{CompoundRun, WaitingRead, ServedFile, MdsValue, MdsStep, served, with_served}
use Rattle.mds_rule.specs.OpSteps.{OpStep, with_result, at_object, refuses, refused_as, refused_or}
use Rattle.mds_rule.specs.FileOps.{current_file, file_or_none, phase_or_free, put_object, read_ask, read_length, with_read, reads_at, reads_file}
use Rattle.mds_rule.specs.Compounds.{has_session, operate, operates, finishes, op_then, with_ops, runs, sequence_in, in_slot, sequenced, first_operation, new_run, runs_compound}
use Rattle.mds_walk.specs.MdsRuns.{Hears}
use Rattle.mds_histories.specs.MdsHistory.{MdsItem, Comes}
use Rattle.read_runs.specs.ReadRuns.{ReadsFile}
use Rattle.read_runs.proofs.HandleFiles.{same_handle}
use Rattle.read_runs.proofs.LiveTold.{made_live}
use Rattle.read_runs.proofs.WaitingReads.{waits_first}
use Rattle.read_runs.proofs.Holding.{IsReadSo, IsServedSo, Holds, holds_put}
use Rattle.read_runs.proofs.Steps.{KeepsAt, Keeps, stays, enters_keeps, mute_keeps}
use Rattle.read_runs.proofs.CompoundSteps.{finishes_so, repeats_so}

-- ---- what is refused

refuse_step : (m : MdsValue) (c : CompoundRun) (number : ℕ) (status : Stat4) (next : MdsValue → CompoundRun → MdsStep) → Keeps m (op_then (refuses m c number status) next)
refuse_step m c number status next =
    let d : CompoundRun = with_result c (refused_as number status) in
    enters_keeps m m [] (finishes m d status) (stays m) (mute_keeps m (finishes m d status) (finishes_so m d status))

-- of what is let through no fault is met
abbrev AreNot : Order → Type 0
AreNot [] = Unit {0}
AreNot (fault ∷ rest) = (fault.0 ≡ false) × AreNot rest

none_met : (order : Order) → refusal order ≡ None → AreNot order
none_met [] is = tt
none_met ((b, status) ∷ rest) is = by_test b is (none_met rest)
  where
    by_test : (t : Bool) → cond t (Some status) (refusal rest) ≡ None → (refusal rest ≡ None → AreNot rest) → (t ≡ false) × AreNot rest
    by_test true its more = absurd cc
    by_test false its more = (refl, more its)

was_so : (b : Bool) → not b ≡ false → b ≡ true
was_so true is = refl
was_so false is = absurd cc

-- ---- the READ

module _ (past : List MdsItem) (now : ℕ) (m : MdsValue) (c : CompoundRun) (bytes : List ℕ) (v : CompoundValue) (file : FileId) (stateid : Value stateid4) (at count : ℕ)
    (compound : incoming_of bytes ≡ IsCompound c.xid v) (reads : ReadsFile v file at count) (ends : c.stop ≡ stop.End None) where
  abbrev Kept : OpStep → Type 0
  Kept s = KeepsAt (past ++ Comes (record { now = now; input = Hears c.node bytes }) ∷ []) m (op_then s (λ n d. runs now [] n d))

  -- it waits
  begins : (f : FileId) (s : ServedFile) → served m f ≡ Some s → ReadsFile v f at count → is_made (phase_of s.file.layout.phase) ≡ true
      → Holds m (past ++ Comes (record { now = now; input = Hears c.node bytes }) ∷ []) → Holds (with_served m f (with_read (with_ops c []) at (read_length count) s)) (past ++ Comes (record { now = now; input = Hears c.node bytes }) ∷ [])
  begins f s is its made i =
      let h : List MdsItem = past ++ Comes (record { now = now; input = Hears c.node bytes }) ∷ [] in
      let so : IsServedSo h f s = i.files_so f s is in
      let r : WaitingRead = record { compound = with_ops c []; read = new_read s.file.layout.live at (read_length count) } in
      holds_put m.mirrors m.files m.calls m.next_xid h f s (with_read (with_ops c []) at (read_length count) s) i is
      (record {
        live = so.live;
        few = so.few;
        fits = so.fits;
        reads =
            all_append (IsReadSo h f) s.reads (r ∷ []) so.reads
            (waits_first past now f (with_ops c []) bytes v at count s.file.layout.live compound its refl ends (so.live ∙ made_live s.file.layout.phase (ids_of s.file.layout.live) made), tt);
        write = so.write;
      })

  read_there : (f : FileId) (o : Option ServedFile) → served m f ≡ o → ReadsFile v f at count → is_made (phase_or_free o) ≡ true → Kept (reads_at m (with_ops c []) f at (read_length count) o)
  read_there f None is its made = refuse_step m (with_ops c []) 25 stat.Stale (λ n d. runs now [] n d) (past ++ Comes (record { now = now; input = Hears c.node bytes }) ∷ [])
  read_there f (Some s) is its made =
      λ i. subst (λ (l : List MdsItem). Holds (with_served m f (with_read (with_ops c []) at (read_length count) s)) l) (sym (append-nil (past ++ Comes (record { now = now; input = Hears c.node bytes }) ∷ []))) (begins f s is its made i)

  -- where the current object is the one that the handle names
  made_now : refusal (read_order c.current (read_ask m (with_ops c []) (stateid, (at, count)))) ≡ None → is_made (phase_or_free (served m (current_file (with_ops c [])))) ≡ true
  made_now none = was_so (is_made (phase_or_free (served m (current_file (with_ops c []))))) (none_met (read_order c.current (read_ask m (with_ops c []) (stateid, (at, count)))) none).1.1.1.1.0

  at_file : (f : FileId) → current_file (with_ops c []) ≡ f → ReadsFile v f at count → refusal (read_order c.current (read_ask m (with_ops c []) (stateid, (at, count)))) ≡ None → Kept (reads_file m (with_ops c []) (stateid, (at, count)))
  at_file f is its none =
      subst (λ (x : FileId). Kept (reads_at m (with_ops c []) x at (read_length count) (served m x))) (sym is)
      (read_there f (served m f) refl its (subst (λ (x : FileId). is_made (phase_or_free (served m x)) ≡ true) is (made_now none)))

  by_object : (object : Object) → c.current ≡ Some object → object_of (file_handle_of file.0) ≡ Some object → refusal (read_order c.current (read_ask m (with_ops c []) (stateid, (at, count)))) ≡ None
      → Kept (reads_file m (with_ops c []) (stateid, (at, count)))
  by_object Root is named none =
      subst (λ (o : Option Object). Kept (reads_at m (with_ops c []) (file_or_none (file_of o)) at (read_length count) (served m (file_or_none (file_of o))))) (sym is)
      (refuse_step m (with_ops c []) 25 stat.Stale (λ n d. runs now [] n d) (past ++ Comes (record { now = now; input = Hears c.node bytes }) ∷ []))
  by_object (File f) is named none =
      at_file f (ap (λ (o : Option Object). file_or_none (file_of o)) is)
      (record { sequence = reads.sequence; stateid = reads.stateid; ops = reads.ops ∙ ap (λ (handle : List ℕ). arm 53 argop4 reads.sequence ∷ arm 22 argop4 handle ∷ arm 25 argop4 (reads.stateid, (at, count)) ∷ []) (same_handle file.0 f named); stop = reads.stop }) none

  by_order : (object : Object) → c.current ≡ Some object → object_of (file_handle_of file.0) ≡ Some object → (status : Option Stat4) → refusal (read_order c.current (read_ask m (with_ops c []) (stateid, (at, count)))) ≡ status
      → Kept (refused_or m (with_ops c []) 25 status (reads_file m (with_ops c []) (stateid, (at, count))))
  by_order object is named None so = by_object object is named so
  by_order object is named (Some status) so = refuse_step m (with_ops c []) 25 status (λ n d. runs now [] n d) (past ++ Comes (record { now = now; input = Hears c.node bytes }) ∷ [])

  read_step : (object : Object) → c.current ≡ Some object → object_of (file_handle_of file.0) ≡ Some object → Kept (operates now m (with_ops c []) (arm 25 argop4 (stateid, (at, count))))
  read_step object is named =
      cond_both (has_session m c.slot) (operate now m (with_ops c []) (arm 25 argop4 (stateid, (at, count)))) (refuses m (with_ops c []) 25 stat.BadSession) Kept
      (λ has. by_order object is named (refusal (read_order c.current (read_ask m (with_ops c []) (stateid, (at, count))))) refl)
      (λ off. refuse_step m (with_ops c []) 25 stat.BadSession (λ n d. runs now [] n d) (past ++ Comes (record { now = now; input = Hears c.node bytes }) ∷ []))

-- ---- the whole

module _ (past : List MdsItem) (now : ℕ) (c : CompoundRun) (bytes : List ℕ) (v : CompoundValue) (file : FileId) (at count : ℕ)
    (compound : incoming_of bytes ≡ IsCompound c.xid v) (reads : ReadsFile v file at count) (ends : c.stop ≡ stop.End None) where
  abbrev the_read : Value argop4
  the_read = arm 25 argop4 (reads.stateid, (at, count))

  abbrev PutKept : MdsValue → OpStep → Type 0
  PutKept m s = KeepsAt (past ++ Comes (record { now = now; input = Hears c.node bytes }) ∷ []) m (op_then s (λ n d. runs now (arm 25 argop4 (reads.stateid, (at, count)) ∷ []) n d))

  put_there : (m : MdsValue) (o : Option Object) → object_of (file_handle_of file.0) ≡ o → PutKept m (put_object m (with_ops c (the_read ∷ [])) o)
  put_there m None is = refuse_step m (with_ops c (the_read ∷ [])) 22 stat.BadHandle (λ n d. runs now (the_read ∷ []) n d) (past ++ Comes (record { now = now; input = Hears c.node bytes }) ∷ [])
  put_there m (Some object) is =
      read_step past now m (with_result (at_object (with_ops c (the_read ∷ [])) object) (arm 22 resop4 (inl tt))) bytes v file reads.stateid at count compound reads ends object refl is

  put_by : (m : MdsValue) (status : Option Stat4) → PutKept m (refused_or m (with_ops c (the_read ∷ [])) 22 status (put_object m (with_ops c (the_read ∷ [])) (object_of (file_handle_of file.0))))
  put_by m None = put_there m (object_of (file_handle_of file.0)) refl
  put_by m (Some status) = refuse_step m (with_ops c (the_read ∷ [])) 22 status (λ n d. runs now (the_read ∷ []) n d) (past ++ Comes (record { now = now; input = Hears c.node bytes }) ∷ [])

  put_step : (m : MdsValue) → KeepsAt (past ++ Comes (record { now = now; input = Hears c.node bytes }) ∷ []) m (runs now (arm 22 argop4 (file_handle_of file.0) ∷ the_read ∷ []) m c)
  put_step m =
      cond_both (has_session m c.slot) (operate now m (with_ops c (the_read ∷ [])) (arm 22 argop4 (file_handle_of file.0))) (refuses m (with_ops c (the_read ∷ [])) 22 stat.BadSession) (PutKept m)
      (λ has. put_by m (refusal (put_fh_order (file_handle_of file.0) (length m.files))))
      (λ off. refuse_step m (with_ops c (the_read ∷ [])) 22 stat.BadSession (λ n d. runs now (the_read ∷ []) n d) (past ++ Comes (record { now = now; input = Hears c.node bytes }) ∷ []))

module _ (past : List MdsItem) (now : ℕ) (m : MdsValue) (node : NodeId) (xid : ℕ) (bytes : List ℕ) (v : CompoundValue) (file : FileId) (at count : ℕ)
    (compound : incoming_of bytes ≡ IsCompound xid v) (reads : ReadsFile v file at count) where
  by_answer : (n : MdsValue) (s : Sequence) (a : SlotAnswer) → KeepsAt (past ++ Comes (record { now = now; input = Hears node bytes }) ∷ []) n
      (sequenced now n (new_run node xid v) (arm 22 argop4 (file_handle_of file.0) ∷ arm 25 argop4 (reads.stateid, (at, count)) ∷ []) s a)
  by_answer n s TakesEffect = put_step past now (in_slot (new_run node xid v) s) bytes v file at count compound reads reads.stop (record n { sessions = after_request n.sessions s now })
  by_answer n s (Repeats reply) = mute_keeps n _ (repeats_so n (new_run node xid v) reply) (past ++ Comes (record { now = now; input = Hears node bytes }) ∷ [])
  by_answer n s (Refuses status) = mute_keeps n _ (finishes_so n (with_result (new_run node xid v) (refused_as 53 status)) status) (past ++ Comes (record { now = now; input = Hears node bytes }) ∷ [])

  -- what holds before it came holds behind what it does
  pub reads_step : KeepsAt (past ++ Comes (record { now = now; input = Hears node bytes }) ∷ []) m (runs_compound now m node xid v)
  reads_step =
      let s : Sequence = sequence_in reads.sequence in
      let n : MdsValue = record m { sessions = after_binding m.sessions s.session node } in
      subst (λ (ops : List (Value argop4)). KeepsAt (past ++ Comes (record { now = now; input = Hears node bytes }) ∷ []) m (first_operation now m (new_run node xid v) v.count ops)) (sym reads.ops)
      (by_answer n s (request_answer n.sessions s))
