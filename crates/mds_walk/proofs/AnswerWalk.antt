-- What comes of an answer keeps what is kept in each case: the call leaves the table of those that were sent together with what its answer
-- does.
use Rattle.std.proofs.Common.{◌≡◌, ℕ, true, false, List, ◌++◌, Option, Some, None, refl, sym, ap, subst, ◌∙◌, ◌⊎◌, inl, inr}
use Rattle.std.specs.Prelude.{◌-◌, ◌==◌, position, slice_get, is_some}
use Rattle.std.specs.List.{find, list_any}
use Rattle.std.proofs.lemmas.Bool.{cond_both, and_parts, eqb-true}
use Rattle.std.proofs.lemmas.List.{append-nil}
use Rattle.cluster_model.specs.declared.ids.NodeId.{NodeId}
use Rattle.cluster_model.specs.declared.ids.FileId.{FileId}
use Rattle.cluster_model.specs.declared.ds_call.Shown.{Shown}
use Rattle.cluster_model.specs.declared.entry.Entry.{Entry}
use Rattle.cluster_model.specs.DsCalls.{DsCallValue, DsReplyValue}
use Rattle.cluster_model.specs.Members.{IsOneOf}
use Rattle.cluster_model.specs.Nodes.{is_node}
use Rattle.file_rule.specs.MdsFiles.{MdsFile, FileStep}
use Rattle.file_rule.specs.FilePhases.{FileInput, Answers, Sees, phase, is_outstanding}
use Rattle.mds_io.specs.Reads.{ReadState, ReadAfter}
use Rattle.mds_io.specs.Reads as read
use Rattle.mds_io.specs.OwnWrites.{after_own_reply}
use Rattle.recall.specs.Recalls as recalls
use Rattle.mds_rule.specs.MdsStates as mds
use Rattle.mds_rule.specs.MdsStates.{CompoundRun, WaitingRead, WaitingWrite, ServedFile, MdsSend, CallsServer, CallsBack, Replies, AwaitedCall, MdsValue, MdsStep, sends_none, and_then, served, with_served, is_call_to}
use Rattle.mds_rule.specs.declared.waiter.Waiter.{Waiter}
use Rattle.mds_rule.specs.declared.waiter.Waiter.TheVariants.{ForFile, ForRead, ForWrite, ForRecall}
use Rattle.mds_rule.specs.ServedFiles.{has_fresh, file_stepped, input_at, takes_input}
use Rattle.mds_rule.specs.Answers.{server_number, is_read_out, is_file_out, has_read_out, has_write_out, is_awaited_by, is_awaited, sized, fileid_of, attributes_shown, sees_in, read_step_at, read_from, read_of, steps_read, steps_write, sees_ctime, recall_end, own_answer, server_answered, answered_as, answers_found, takes_answer, is_writer_out, recalls_after}
use Rattle.mds_walk.specs.CallTables.{IsSentFor, IsOfServers, IsOfClients}
use Rattle.mds_walk.proofs.Parts.{Becomes, Keeps, HeardOf, Hearing, IsReadAt, IsHeard, heard_by, Parts, Resumes, HearsOdd, Calls}
use Rattle.mds_walk.proofs.Keeping.{none_keeps, same, becomes_keeps}
use Rattle.mds_walk.proofs.FewBytes.{GivesFew}
use Rattle.mds_walk.proofs.ReadEnds.{reply_steps_few}
use Rattle.mds_walk.proofs.Lists.{got_in, found_in, found_passes, put_back, none_there, first_there}
use Rattle.mds_walk.proofs.Served.{place_served, served_again, stepped_there}
use Rattle.mds_walk.proofs.CompoundWalk.{read_walk, write_in_walk, recalls_walk}

not_both : true ≡ false → ⊥
not_both is = absurd cc

-- a call is for a waiter of its kind, or it is not
is_for : (sent : MdsSend) (caller : Waiter) → IsSentFor sent caller ⊎ (IsSentFor sent caller → ⊥)
is_for (CallsServer server xid uid call) (ForFile file) = inl tt
is_for (CallsServer server xid uid call) (ForRead file) = inl tt
is_for (CallsServer server xid uid call) (ForWrite file) = inl tt
is_for (CallsServer server xid uid call) ForRecall = inr (λ no. no)
is_for (CallsBack xid back file stateid) (ForFile other) = inr (λ no. no)
is_for (CallsBack xid back file stateid) (ForRead other) = inr (λ no. no)
is_for (CallsBack xid back file stateid) (ForWrite other) = inr (λ no. no)
is_for (CallsBack xid back file stateid) ForRecall = inl tt
is_for (Replies node reply) caller = inr (λ no. no)
is_for (mds.Answers node bytes) caller = inr (λ no. no)

module _ (I : MdsValue → List Entry → List MdsSend → Type 0) (Heard : HeardOf) (W : CompoundRun → Type 0) (k : Parts I Heard W) (g : Resumes I W) (c : Calls I Heard) where
  -- ---- what an answer shows of a mirror's size

  size_walk : (m : MdsValue) (file : FileId) (server : ℕ) (s : ServedFile) → served m file ≡ Some s → (fileid : Option ℕ) (shown : Option Shown) → Becomes I m (with_served m file (sized s server fileid shown))
  size_walk m file server s is (Some fileid) (Some shown) = k.sizes m file s server fileid shown.size is
  size_walk m file server s is None shown = λ es ss i. subst (λ (l : List ServedFile). I (record m { files = l }) es ss) (sym (put_back m.files (file.0 - 1) s (place_served m file s is).1)) i
  size_walk m file server s is (Some fileid) None = λ es ss i. subst (λ (l : List ServedFile). I (record m { files = l }) es ss) (sym (put_back m.files (file.0 - 1) s (place_served m file s is).1)) i

  sized_file : (s : ServedFile) (server : ℕ) (fileid : Option ℕ) (shown : Option Shown) → (sized s server fileid shown).file ≡ s.file
  sized_file s server (Some fileid) (Some shown) = refl
  sized_file s server None shown = refl
  sized_file s server (Some fileid) None = refl

  sized_reads : (s : ServedFile) (server : ℕ) (fileid : Option ℕ) (shown : Option Shown) → (sized s server fileid shown).reads ≡ s.reads
  sized_reads s server (Some fileid) (Some shown) = refl
  sized_reads s server None shown = refl
  sized_reads s server (Some fileid) None = refl

  sized_write : (s : ServedFile) (server : ℕ) (fileid : Option ℕ) (shown : Option Shown) → (sized s server fileid shown).write ≡ s.write
  sized_write s server (Some fileid) (Some shown) = refl
  sized_write s server None shown = refl
  sized_write s server (Some fileid) None = refl

  -- ---- of one call

  module _ (now : ℕ) (node : NodeId) (xid : ℕ) (call : AwaitedCall) (replies : DsCallValue → DsReplyValue) (few : (d : DsCallValue) → GivesFew (replies d)) (heard : Heard call replies) (number : call.xid ≡ xid) (its : is_call_to node xid call ≡ true) where
    -- it stands among those that were sent, and was found there
    record Found (m : MdsValue) : Type 0 where
      found : find (is_call_to node xid) m.calls ≡ Some call
      inside : IsOneOf call m.calls

    module _ (server own uid : ℕ) (d : DsCallValue) (sent : call.sent ≡ CallsServer server own uid d) where
      as_heard : (m : MdsValue) (caller : Waiter) → call.caller ≡ caller → Found m → IsHeard m node xid call caller d
      as_heard m caller is f = record { server = server; own = own; uid = uid; found = f.found; waits = is; sent = sent }

      -- ---- of a file

      file_walk : (m : MdsValue) (file : FileId) → call.caller ≡ ForFile file → Found m → (t : ServedFile) → served m file ≡ Some t → is_outstanding t.file (server_number call.node) call.xid ≡ true
          → Keeps I m (takes_input (heard_by node xid m) file (Answers xid (own_answer d (replies d))))
      file_walk m file is f t there out =
          let input : FileInput = Answers xid (own_answer d (replies d)) in
          let n : MdsValue = heard_by node xid m in
          let step : FileStep = phase file t.file input m.fresh in
          subst (λ (o : Option ServedFile). Keeps I m (input_at n file input o)) (sym there)
          (cond_both (has_fresh m.fresh) (file_stepped n file t step) (sends_none n) (λ (x : MdsStep). Keeps I m x)
          (λ fresh. λ es ss i.
          subst (λ (l : List MdsSend). I (file_stepped n file t step).mds (es ++ step.entries) l) (sym (append-nil ss)) (c.hears m node xid file t call d replies heard (as_heard m (ForFile file) is f) there out fresh es ss i))
          (λ spent. none_keeps I m n (c.unheard m node xid file t call d (as_heard m (ForFile file) is f) there spent)))

      file_by : (m : MdsValue) (file : FileId) → call.caller ≡ ForFile file → Found m → (o : Option ServedFile) → served m file ≡ o → is_file_out call.node call.xid o ≡ true
          → Keeps I m (takes_input (sees_in (heard_by node xid m) file server d (own_answer d (replies d)) o) file (Answers xid (own_answer d (replies d))))
      file_by m file is f None there out = absurd (not_both (sym out))
      file_by m file is f (Some s) there out =
          let answer : DsReplyValue = own_answer d (replies d) in
          let t : ServedFile = sized s server (fileid_of d answer) (attributes_shown answer) in
          let n : MdsValue = with_served m file t in
          becomes_keeps I m n (takes_input (heard_by node xid n) file (Answers xid answer)) (size_walk m file server s there (fileid_of d answer) (attributes_shown answer))
          (file_walk n file is (record { found = f.found; inside = f.inside }) t (served_again m file s t there)
          (ap (λ (x : MdsFile). is_outstanding x (server_number call.node) call.xid) (sized_file s server (fileid_of d answer) (attributes_shown answer)) ∙ out))

      -- ---- of a READ

      read_there : (m : MdsValue) (file : FileId) → call.caller ≡ ForRead file → Found m → (t : ServedFile) → served m file ≡ Some t → (place : ℕ) → position (is_read_out xid) t.reads ≡ Some place → (o : Option WaitingRead)
          → slice_get t.reads place ≡ o → Keeps I m (read_step_at now (heard_by node xid m) file t (λ r. read.after_reply r xid (replies d)) place o)
      read_there m file is f t there place first None at = absurd (first_there (is_read_out xid) t.reads place first at)
      read_there m file is f t there place first (Some r) at =
          let stands : IsReadAt m file t xid place r = record { there = there; first = first; at = at } in
          λ es ss i.
          read_walk I Heard W k g now m (heard_by node xid m) file t place r ((k.wait m es ss i file t there).reads_so r (got_in t.reads place r at)) (read.after_reply r.read xid (replies d))
          (c.hears_read m node xid file t call d replies place r heard (as_heard m (ForRead file) is f) stands) (λ e. c.ends_read m node xid file t call d replies place r e heard (as_heard m (ForRead file) is f) stands)
          (reply_steps_few r.read xid (replies d) (few d)) es ss i

      read_first : (m : MdsValue) (file : FileId) → call.caller ≡ ForRead file → Found m → (t : ServedFile) → served m file ≡ Some t → list_any (is_read_out call.xid) t.reads ≡ true → (o : Option ℕ) → position (is_read_out xid) t.reads ≡ o
          → Keeps I m (read_from now (heard_by node xid m) file t (λ r. read.after_reply r xid (replies d)) o)
      read_first m file is f t there out None first =
          absurd (not_both (sym (ap (λ (x : ℕ). list_any (is_read_out x) t.reads) (sym number) ∙ out) ∙ none_there (is_read_out xid) t.reads first))
      read_first m file is f t there out (Some place) first = read_there m file is f t there place first (slice_get t.reads place) refl

      read_by : (m : MdsValue) (file : FileId) → call.caller ≡ ForRead file → Found m → (o : Option ServedFile) → served m file ≡ o → has_read_out call.xid o ≡ true
          → Keeps I m (steps_read now (sees_in (heard_by node xid m) file server d (replies d) o) file xid (λ r. read.after_reply r xid (replies d)))
      read_by m file is f None there out = absurd (not_both (sym out))
      read_by m file is f (Some s) there out =
          let answer : DsReplyValue = replies d in
          let t : ServedFile = sized s server (fileid_of d answer) (attributes_shown answer) in
          let n : MdsValue = with_served m file t in
          let step : ReadState → ReadAfter = λ r. read.after_reply r xid answer in
          becomes_keeps I m n (steps_read now (heard_by node xid n) file xid step) (size_walk m file server s there (fileid_of d answer) (attributes_shown answer))
          (subst (λ (o : Option ServedFile). Keeps I n (read_of now (heard_by node xid n) file xid step o)) (sym (served_again m file s t there))
          (read_first n file is (record { found = f.found; inside = f.inside }) t (served_again m file s t there)
          (ap (λ (l : List WaitingRead). list_any (is_read_out call.xid) l) (sized_reads s server (fileid_of d answer) (attributes_shown answer)) ∙ out) (position (is_read_out xid) t.reads) refl))

      -- ---- of an own write

      write_walk : (m : MdsValue) (file : FileId) → call.caller ≡ ForWrite file → Found m → has_write_out xid (served m file) ≡ true → Keeps I m (steps_write now (heard_by node xid m) file (λ w. after_own_reply w xid (replies d)))
      write_walk m file is f out =
          write_in_walk I Heard W k g now m (heard_by node xid m) file xid (λ w. after_own_reply w xid (replies d))
          (λ s w there waits its. c.hears_write m node xid file s w call d replies heard (as_heard m (ForWrite file) is f) there waits its) (λ es ss i s there. k.wait m es ss i file s there) (served m file) refl out

      -- behind what the answer shows of the mirror's ctime
      ctime_walk : (m : MdsValue) (file : FileId) → call.caller ≡ ForWrite file → Found m → (t : ServedFile) → served m file ≡ Some t → is_writer_out xid t.write ≡ true → (fileid : Option ℕ) (shown : Option Shown) → fileid_of d (replies d) ≡ fileid → attributes_shown (replies d) ≡ shown
          → Keeps I m (and_then (sees_ctime (heard_by node xid m) file server fileid shown) (λ x. steps_write now x file (λ w. after_own_reply w xid (replies d))))
      ctime_walk m file is f t there out None shown named shows = write_walk m file is f (ap (has_write_out xid) there ∙ out)
      ctime_walk m file is f t there out (Some fileid) None named shows = write_walk m file is f (ap (has_write_out xid) there ∙ out)
      ctime_walk m file is f t there out (Some fileid) (Some shown) named shows =
          let input : FileInput = Sees (record { server = server; fileid = fileid }) shown.seen in
          let n : MdsValue = heard_by node xid m in
          let next : MdsValue → MdsStep = λ x. steps_write now x file (λ w. after_own_reply w xid (replies d)) in
          let x : MdsValue = (file_stepped m file t (phase file t.file input m.fresh)).mds in
          subst (λ (o : Option ServedFile). Keeps I m (and_then (input_at n file input o) next)) (sym there)
          (cond_both (has_fresh m.fresh) (file_stepped n file t (phase file t.file input m.fresh)) (sends_none n) (λ (y : MdsStep). Keeps I m (and_then y next))
          (λ fresh. λ es ss i.
          write_walk x file is (record { found = f.found; inside = f.inside }) (ap (has_write_out xid) (stepped_there m file t (phase file t.file input m.fresh) there) ∙ out) es ss
          (subst (λ (l : List Entry). I x l ss) (append-nil es) (k.learns m file t call server own uid d replies fileid shown heard is sent named shows there fresh es ss i)))
          (λ spent. write_walk m file is f (ap (has_write_out xid) there ∙ out)))

      write_by : (m : MdsValue) (file : FileId) → call.caller ≡ ForWrite file → Found m → (o : Option ServedFile) → served m file ≡ o → has_write_out call.xid o ≡ true
          → Keeps I m (and_then (sees_ctime (sees_in (heard_by node xid m) file server d (replies d) o) file server (fileid_of d (replies d)) (attributes_shown (replies d))) (λ x. steps_write now x file (λ w. after_own_reply w xid (replies d))))
      write_by m file is f None there out = absurd (not_both (sym out))
      write_by m file is f (Some s) there out =
          let answer : DsReplyValue = replies d in
          let t : ServedFile = sized s server (fileid_of d answer) (attributes_shown answer) in
          let n : MdsValue = with_served m file t in
          becomes_keeps I m n (and_then (sees_ctime (heard_by node xid n) file server (fileid_of d answer) (attributes_shown answer)) (λ x. steps_write now x file (λ w. after_own_reply w xid answer)))
          (size_walk m file server s there (fileid_of d answer) (attributes_shown answer))
          (ctime_walk n file is (record { found = f.found; inside = f.inside }) t (served_again m file s t there)
          (ap (λ (o : Option WaitingWrite). is_writer_out xid o) (sized_write s server (fileid_of d answer) (attributes_shown answer)) ∙ (ap (λ (x : ℕ). is_writer_out x s.write) (sym number) ∙ out)) (fileid_of d answer) (attributes_shown answer) refl refl)

      -- ---- by who waits

      server_walk : (m : MdsValue) → Found m → (caller : Waiter) → call.caller ≡ caller → IsOfServers caller → is_awaited_by m call.node call.xid caller ≡ true → Keeps I m (server_answered now (heard_by node xid m) server xid d (replies d) caller)
      server_walk m f (ForFile file) is fits out = file_by m file is f (served m file) refl out
      server_walk m f (ForRead file) is fits out = read_by m file is f (served m file) refl out
      server_walk m f (ForWrite file) is fits out = write_by m file is f (served m file) refl out
      server_walk m f ForRecall is fits out = absurd fits

    back_walk : (m : MdsValue) → Found m → (status : ℕ) (caller : Waiter) → call.caller ≡ caller → IsOfClients caller → is_awaited_by m call.node call.xid caller ≡ true → Keeps I m (recalls_after (heard_by node xid m) (recalls.after_reply m.recalls xid (recall_end status)))
    back_walk m f status (ForFile file) is fits out = absurd fits
    back_walk m f status (ForRead file) is fits out = absurd fits
    back_walk m f status (ForWrite file) is fits out = absurd fits
    back_walk m f status ForRecall is fits out =
        recalls_walk I Heard W k g m (heard_by node xid m) (recalls.after_reply m.recalls xid (recall_end status)) (c.hears_recall m node xid status call f.found is (ap (λ (x : ℕ). is_some (recalls.out_at m.recalls x)) (sym number) ∙ out))

    fitting_walk : (m : MdsValue) → Found m → (status : ℕ) (sent : MdsSend) → call.sent ≡ sent → IsSentFor sent call.caller → is_awaited m call ≡ true
        → Keeps I m (answered_as now (heard_by node xid m) xid replies status call.caller sent)
    fitting_walk m f status (CallsServer server own uid d) sent fits out = server_walk server own uid d sent m f call.caller refl fits out
    fitting_walk m f status (CallsBack own back file stateid) sent fits out = back_walk m f status call.caller refl fits out
    fitting_walk m f status (Replies to other) sent fits out = absurd fits
    fitting_walk m f status (mds.Answers to bytes) sent fits out = absurd fits

    -- where it is for a waiter of another kind
    odd_walk : HearsOdd I → (m : MdsValue) → (status : ℕ) (sent : MdsSend) → (IsSentFor sent call.caller → ⊥) → call.sent ≡ sent → Keeps I m (answered_as now (heard_by node xid m) xid replies status call.caller sent)
    odd_walk odd m status (CallsServer server own uid d) off sent = by_caller call.caller off
      where
        by_caller : (caller : Waiter) → (IsOfServers caller → ⊥) → Keeps I m (server_answered now (heard_by node xid m) server xid d (replies d) caller)
        by_caller (ForFile file) other = absurd (other tt)
        by_caller (ForRead file) other = absurd (other tt)
        by_caller (ForWrite file) other = absurd (other tt)
        by_caller ForRecall other = none_keeps I m (heard_by node xid m) (odd.leaves m node xid)
    odd_walk odd m status (CallsBack own back file stateid) off sent = recalls_walk I Heard W k g m (heard_by node xid m) (recalls.after_reply m.recalls xid (recall_end status)) (odd.recalled m node xid status)
    odd_walk odd m status (Replies to other) off sent = none_keeps I m (heard_by node xid m) (odd.leaves m node xid)
    odd_walk odd m status (mds.Answers to bytes) off sent = none_keeps I m (heard_by node xid m) (odd.leaves m node xid)

    answered_walk : (m : MdsValue) → Found m → (status : ℕ) → IsSentFor call.sent call.caller ⊎ HearsOdd I → is_awaited m call ≡ true → Keeps I m (answered_as now (heard_by node xid m) xid replies status call.caller call.sent)
    answered_walk m f status fits is = by_kind (is_for call.sent call.caller) fits
      where
        by_kind : IsSentFor call.sent call.caller ⊎ (IsSentFor call.sent call.caller → ⊥) → IsSentFor call.sent call.caller ⊎ HearsOdd I → Keeps I m (answered_as now (heard_by node xid m) xid replies status call.caller call.sent)
        by_kind (inl its) either = fitting_walk m f status call.sent refl its is
        by_kind (inr off) (inl its) = fitting_walk m f status call.sent refl its is
        by_kind (inr off) (inr odd) = odd_walk odd m status call.sent off refl

  -- ---- the call that is answered

  found_walk : (now : ℕ) (m : MdsValue) (node : NodeId) (xid : ℕ) (replies : DsCallValue → DsReplyValue) (status : ℕ) → Hearing I Heard node xid replies → ((d : DsCallValue) → GivesFew (replies d)) → (o : Option AwaitedCall) → find (is_call_to node xid) m.calls ≡ o
      → Keeps I m (answers_found now m node xid replies status o)
  found_walk now m node xid replies status hearing few None found = same I m
  found_walk now m node xid replies status hearing few (Some call) found =
      let n : MdsValue = heard_by node xid m in
      let its : is_call_to node xid call ≡ true = found_passes (is_call_to node xid) m.calls call found in
      let inside : IsOneOf call m.calls = found_in (is_call_to node xid) m.calls call found in
      cond_both (is_awaited m call) (answered_as now n xid replies status call.caller call.sent) (sends_none n) (λ (s : MdsStep). Keeps I m s)
      (λ is. λ es ss i.
      answered_walk now node xid call replies few (hearing m es ss i call inside its) (eqb-true call.xid xid (and_parts (is_node call.node node) (call.xid == xid) its).1) its m (record { found = found; inside = inside }) status
      (c.fits m es ss i call inside) is es ss i)
      (λ off. none_keeps I m n (c.leaves m node xid call inside its off))

  pub answer_walk : (now : ℕ) (m : MdsValue) (node : NodeId) (xid : ℕ) (replies : DsCallValue → DsReplyValue) (status : ℕ) → Hearing I Heard node xid replies → ((d : DsCallValue) → GivesFew (replies d)) → Keeps I m (takes_answer now m node xid replies status)
  answer_walk now m node xid replies status hearing few = found_walk now m node xid replies status hearing few (find (is_call_to node xid) m.calls) refl
