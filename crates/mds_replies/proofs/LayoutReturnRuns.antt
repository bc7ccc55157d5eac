-- What a client's LAYOUTRETURN that takes effect comes to: it is refused, or the period ends that its stateid names.
use Rattle.std.proofs.Common.{◌≡◌, ◌≤◌, ◌<◌, ℕ, ◌^◌, Bool, true, false, cond, List, [], ◌∷◌, ◌++◌, take, drop, replicate, Option, Some, None, refl, sym, ap, subst, ◌∙◌, arith, inl}
use Rattle.std.specs.Prelude.{◌==◌, ◌&&◌, ◌||◌, not, bytes_eq, is_some, is_none}
use Rattle.std.specs.Int.{w32, from_be_bytes}
use Rattle.std.proofs.lemmas.Bool.{cond_both, and_parts, eqb-true, eq-eqb, eqb-false}
use Rattle.std.proofs.lemmas.Nat.{from_be_bytes-to_be_bytes_4}
use Rattle.std.proofs.lemmas.Option.{same_Some, none-some}
use Rattle.std.proofs.lemmas.Slice.Eq.{bytes_eq-Decides}
use Rattle.ff_xdr.specs.Arms.{arm}
use Rattle.ff_xdr.specs.Form.{Value, Fits, word}
use Rattle.cluster_model.specs.declared.ids.NodeId.{NodeId}
use Rattle.cluster_model.specs.declared.ids.FileId.{FileId}
use Rattle.cluster_model.specs.declared.ids.Cred.{Cred}
use Rattle.cluster_model.specs.Phases.{holder_of}
use Rattle.ff_layout.specs.IoError.{ff_ioerr4}
use Rattle.ff_layout.specs.ReturnBody.{ff_layoutreturn4}
use Rattle.file_rule.specs.FilePhases.{Returns}
use Rattle.layout_report.specs.Reports.{report_of}
use Rattle.nfs4_types.specs.declared.stateid.Stateid.{Stateid}
use Rattle.nfs4_types.specs.Stateids.{three_words}
use Rattle.nfs4_types.specs.declared.status.Stat4.{Stat4}
use Rattle.nfs4_types.specs.declared.status.Stat4.TheVariants as stat
use Rattle.nfs4_types.specs.Status.{stat4_number}
use Rattle.nfs4_compound.specs.Args.{argop4}
use Rattle.nfs4_compound.specs.Results.{resop4}
use Rattle.nfs4_session.specs.declared.begin.SlotPass.{SlotPass}
use Rattle.nfs4_session.specs.Clients.{client_in}
use Rattle.client_file_calls.specs.FileOps.{layout_return_op, put_fh_op, return_body, whole_length, flex_files}
use Rattle.client_file_calls.specs.declared.layout_return.FailedMirror.{FailedMirror}
use Rattle.mds_refusals.specs.declared.object.Object.{Object}
use Rattle.mds_refusals.specs.declared.object.Object.TheVariants.{File}
use Rattle.mds_refusals.specs.declared.named.Named.{Named}
use Rattle.mds_refusals.specs.declared.named.Named.TheVariants as name
use Rattle.mds_refusals.specs.declared.layout_return.FileReturn.{FileReturn}
use Rattle.mds_refusals.specs.Stateids.{is_open_of, is_layout_of, named_by, is_layout}
use Rattle.mds_refusals.specs.Orders.{is_file, file_of, refusal}
use Rattle.mds_refusals.specs.LayoutReturns.{is_whole, layout_return_order}
use Rattle.mds_refusals.specs.PutFh.{object_numbered}
use Rattle.client_mds_calls.specs.declared.reply.SlotReport.TheVariants.{Taken}
use Rattle.client_mds_calls.specs.MdsReplies.{slot_answer_of}
use Rattle.mds_rule.specs.MdsStates.{CompoundRun, ServedFile, MdsValue, MdsStep, served}
use Rattle.mds_rule.specs.ServedFiles.{takes_input}
use Rattle.mds_rule.specs.OpSteps.{OpStep, Ends, refuses, refused_as, refused_or}
use Rattle.mds_rule.specs.FileOps.{granted_if, granted_of, open_number, file_or_none, named_in}
use Rattle.mds_rule.specs.LayoutOps.{no_stateid, errors_of, client_number, return_by, returns_file}
use Rattle.mds_rule.specs.Compounds.{operate, has_session, op_then, runs}
use Rattle.mds_replies.specs.LayoutReplies.{HasPeriod}
use Rattle.mds_replies.specs.AnsweredRequests.{NamesNone}
use Rattle.mds_replies.proofs.HoldersHold.{IsByClient, HolderHolds}
use Rattle.mds_walk.proofs.LayoutHolders.{holds_none}
use Rattle.mds_replies.proofs.PeriodKept.{at_place}
use Rattle.mds_replies.proofs.ReplyForms.{IsRefusal, in_order, reply_fits}
use Rattle.mds_replies.proofs.ReportedMirrors.{errors_for, errors_again}
use Rattle.mds_replies.proofs.SameTables.{same_table, input_same}
use Rattle.mds_replies.proofs.TakenRequests.{run_with, HasEnded, put_first, numbered_its, numbered_some}

-- ---- what a stateid names

second_word : List ℕ → ℕ
second_word bytes = from_be_bytes w32 (take 4 (drop 4 bytes))

third_word : List ℕ → ℕ
third_word bytes = from_be_bytes w32 (take 4 (drop 8 bytes))

second_of : (a b c : ℕ) → b < 2 ^ 32 → second_word (three_words a b c) ≡ b
unfolding word second_word
second_of a b c small = from_be_bytes-to_be_bytes_4 b small

third_of : (a b c : ℕ) → c < 2 ^ 32 → third_word (three_words a b c) ≡ c
unfolding word third_word
third_of a b c small = from_be_bytes-to_be_bytes_4 c small

zeros_second : second_word (replicate 12 0) ≡ 0
unfolding second_word
zeros_second = refl

ones_third : third_word (replicate 12 255) ≡ 4294967295
unfolding third_word
ones_third = refl

off : (b : Bool) → (b ≡ true → ⊥) → b ≡ false
off true never = absurd (never refl)
off false never = refl

module _ (other : List ℕ) (file : FileId) (uid : ℕ) (some : 65536 ≤ uid) (small : uid < 2 ^ 32) (is : other ≡ three_words file.0 uid 0) where
  not_zeros : bytes_eq other (replicate 12 0) ≡ false
  not_zeros = off (bytes_eq other (replicate 12 0)) (λ same. not_so (sym (second_of file.0 uid 0 small) ∙ ap second_word (sym is ∙ (bytes_eq-Decides other (replicate 12 0)).0 same) ∙ zeros_second))
    where
      not_so : uid ≡ 0 → ⊥
      not_so zero = omega (arith, zero, some)

  not_ones : bytes_eq other (replicate 12 255) ≡ false
  not_ones = off (bytes_eq other (replicate 12 255)) (λ same. not_so (sym (third_of file.0 uid 0 (omega arith)) ∙ ap third_word (sym is ∙ (bytes_eq-Decides other (replicate 12 255)).0 same) ∙ ones_third))
    where
      not_so : (◌≡◌ {A = ℕ} 0 4294967295) → ⊥
      not_so zero = omega (arith, zero)

  not_open : (o : Option ℕ) → is_open_of other file o ≡ false
  not_open None = refl
  not_open (Some n) =
      off (bytes_eq (three_words file.0 0 n) other) (λ same. not_so (sym (second_of file.0 0 n (omega arith)) ∙ ap second_word ((bytes_eq-Decides (three_words file.0 0 n) other).0 same ∙ is) ∙ second_of file.0 uid 0 small))
    where
      not_so : (◌≡◌ {A = ℕ} 0 uid) → ⊥
      not_so zero = omega (arith, zero, some)

  its_layout : (cred : Cred) → cred.0 ≡ uid → is_layout_of other file (Some cred) ≡ true
  its_layout cred same = (bytes_eq-Decides (three_words file.0 cred.0 0) other).1 (ap (λ (n : ℕ). three_words file.0 n 0) same ∙ sym is)

  names_layout : (number : Option ℕ) (cred : Cred) → cred.0 ≡ uid → (stateid : Stateid) → stateid.other ≡ other → is_layout (named_by stateid file number (Some cred)) ≡ true
  names_layout number cred same stateid own =
      subst (λ (bytes : List ℕ). is_layout (cond {A = Named} (bytes_eq bytes (replicate 12 0)) name.Anonymous
      (cond (bytes_eq bytes (replicate 12 255)) name.Bypass (cond (is_open_of bytes file number) name.Open (cond (is_layout_of bytes file (Some cred)) name.Layout name.Nothing)))) ≡ true) (sym own)
      (ap (λ (b : Bool). is_layout (cond {A = Named} b name.Anonymous (cond (bytes_eq other (replicate 12 255)) name.Bypass (cond (is_open_of other file number) name.Open (cond (is_layout_of other file (Some cred)) name.Layout name.Nothing))))) not_zeros
      ∙ ap (λ (b : Bool). is_layout (cond {A = Named} b name.Bypass (cond (is_open_of other file number) name.Open (cond (is_layout_of other file (Some cred)) name.Layout name.Nothing)))) not_ones
      ∙ ap (λ (b : Bool). is_layout (cond {A = Named} b name.Open (cond (is_layout_of other file (Some cred)) name.Layout name.Nothing))) (not_open number)
      ∙ ap (λ (b : Bool). is_layout (cond {A = Named} b name.Layout name.Nothing)) (its_layout cred same))

-- what it names where it names a layout
layout_named : (a b c d : Bool) → is_layout (cond {A = Named} a name.Anonymous (cond b name.Bypass (cond c name.Open (cond d name.Layout name.Nothing)))) ≡ true → d ≡ true
layout_named true b c d is = absurd cc
layout_named false true c d is = absurd cc
layout_named false false true d is = absurd cc
layout_named false false false true is = refl
layout_named false false false false is = absurd cc

pub record IsNamed (other : List ℕ) (file : FileId) (client : ℕ) (o : Option ServedFile) : Type 0 where
  pub its : ServedFile
  pub there : o ≡ Some its
  pub holder : its.holder ≡ Some client
  pub names : other ≡ three_words file.0 its.file.layout.cred.0 0

named_so : (other : List ℕ) (file : FileId) (client : ℕ) (o : Option ServedFile) → is_layout_of other file (granted_of o client) ≡ true → IsNamed other file client o
named_so other file client None is = absurd cc
named_so other file client (Some s) is = by_holder s.holder refl is
  where
    by_test : (h : ℕ) (b : Bool) → (h == client) ≡ b → s.holder ≡ Some h → is_layout_of other file (cond b (Some s.file.layout.cred) None) ≡ true → IsNamed other file client (Some s)
    by_test h true same at its = record {
      its = s;
      there = refl;
      holder = at ∙ ap (λ (n : ℕ). Some n) (eqb-true h client same);
      names = sym ((bytes_eq-Decides (three_words file.0 s.file.layout.cred.0 0) other).0 its);
    }
    by_test h false same at its = absurd cc

    by_holder : (h : Option ℕ) → s.holder ≡ h → is_layout_of other file (granted_if client s.file.layout.cred h) ≡ true → IsNamed other file client (Some s)
    by_holder None at its = absurd cc
    by_holder (Some h) at its = by_test h (h == client) refl at its

-- ---- the layout that a client gave back

pub record HasGiven (m : MdsValue) (client : ℕ) (file : FileId) (stateid : Stateid) : Type 0 where
  pub its : ServedFile
  pub there : served m file ≡ Some its
  pub names : stateid.other ≡ three_words file.0 its.file.layout.cred.0 0
  pub holder : its.holder ≡ Some client
  pub held : IsByClient its.file.layout.phase

-- what it asks of the table of phases
abbrev pub given_step : MdsValue → FileId → ServedFile → List (Value ff_ioerr4) → MdsStep
given_step m file s errors = takes_input m file (Returns (client_number (holder_of s.file.layout.phase)) s.file.layout.cred (report_of errors s.file.layout.live))

pub data ReturnEnds (m : MdsValue) (node : NodeId) (xid : ℕ) (pass : SlotPass) (first : Value resop4) (file : FileId) (stateid : Stateid) (failed : List FailedMirror) (step : MdsStep) : Type 0 where
  IsRefused : (n : MdsValue) (results : List (Value resop4)) (status : Stat4) → HasEnded m n node xid pass results status step → (stat4_number status == 0) ≡ false
      → (stat4_number status ≡ 10025 → NamesNone m (client_in pass.session) file stateid) → step.entries ≡ [] → ReturnEnds m node xid pass first file stateid failed step
  Accepts : (given : HasGiven m (client_in pass.session) file stateid) → HasEnded m (given_step m file given.its (errors_for stateid failed)).mds node xid pass (first ∷ arm 22 resop4 (inl tt) ∷ no_stateid ∷ []) stat.Ok step
      → step.entries ≡ (given_step m file given.its (errors_for stateid failed)).entries ++ [] → ReturnEnds m node xid pass first file stateid failed step

-- ---- which status refuses it

not_bad : (n : ℕ) (status given : Stat4) → Some given ≡ Some status → stat4_number given ≡ n → (n == 10025) ≡ false → stat4_number status ≡ 10025 → ⊥
not_bad n status given same number other is = eqb-false n 10025 other (sym number ∙ ap stat4_number (same_Some given status same) ∙ is)

last_refuses : (a b c d e : Bool) (status : Stat4)
    → refusal ((a, stat.NoFileHandle) ∷ (b, stat.UnknownLayoutType) ∷ (c, stat.Inval) ∷ (d, stat.BadXdr) ∷ (e, stat.BadStateid) ∷ []) ≡ Some status → stat4_number status ≡ 10025 → e ≡ true
last_refuses true b c d e status is number = absurd (not_bad 10020 status stat.NoFileHandle is refl refl number)
last_refuses false true c d e status is number = absurd (not_bad 10062 status stat.UnknownLayoutType is refl refl number)
last_refuses false false true d e status is number = absurd (not_bad 22 status stat.Inval is refl refl number)
last_refuses false false false true e status is number = absurd (not_bad 10036 status stat.BadXdr is refl refl number)
last_refuses false false false false true status is number = refl
last_refuses false false false false false status is number = absurd (none-some status is)

return_statuses : (o : Option Object) (asked : FileReturn) (status : Stat4) → refusal (layout_return_order o asked) ≡ Some status → IsRefusal 51 status
return_statuses o asked status is =
    in_order (IsRefusal 51) (layout_return_order o asked) (
      record { some = refl; its_number = refl; fits = refl },
      (
        record { some = refl; its_number = refl; fits = refl },
        (
          record { some = refl; its_number = refl; fits = refl },
          (record { some = refl; its_number = refl; fits = refl }, (record { some = refl; its_number = refl; fits = refl }, tt)),
        ),
      ),
    ) status is

was_on : (b : Bool) → not b ≡ false → b ≡ true
was_on true is = refl
was_on false is = absurd cc

-- ---- the LAYOUTRETURN

module _ (now : ℕ) (m : MdsValue) (node : NodeId) (xid : ℕ) (pass : SlotPass) (kept : Bool) (first : Value resop4) (its_first : Fits resop4 first) (took_first : slot_answer_of (first ∷ []) ≡ Taken) (stateid : Stateid) (failed : List FailedMirror) (file : FileId)
    (fits : Fits ff_layoutreturn4 (errors_for stateid failed, []))
    (holds : (f : FileId) (s : ServedFile) → served m f ≡ Some s → HolderHolds s) (creds : (f : FileId) (s : ServedFile) → served m f ≡ Some s → IsByClient s.file.layout.phase → (65536 ≤ s.file.layout.cred.0) × (s.file.layout.cred.0 < 2 ^ 32)) where
  abbrev C : CompoundRun
  C = run_with node xid pass kept [] (first ∷ arm 22 resop4 (inl tt) ∷ []) (Some (object_numbered file.0))

  abbrev F : FileId
  F = file_or_none (file_of (Some (object_numbered file.0)))

  abbrev client : ℕ
  client = client_in pass.session

  abbrev named : Named
  named = named_by stateid (file_or_none (file_of (Some (object_numbered file.0)))) (open_number m (client_in pass.session) (file_or_none (file_of (Some (object_numbered file.0)))))
      (granted_of (served m (file_or_none (file_of (Some (object_numbered file.0))))) (client_in pass.session))

  abbrev asked : FileReturn
  asked = record { layout_type = flex_files; reclaim = false; offset = 0; length = whole_length; has_body = is_some (errors_of (return_body stateid failed)); named = named_in m (run_with node xid pass kept [] (first ∷ arm 22 resop4 (inl tt) ∷ []) (Some (object_numbered file.0))) stateid }

  abbrev Then : OpStep → Type 0
  Then s = ReturnEnds m node xid pass first file stateid failed (op_then s (λ n d. runs now [] n d))

  refused_then : (status : Stat4) → IsRefusal 51 status → (stat4_number status ≡ 10025 → NamesNone m client file stateid) → Then (Ends m [] (run_with node xid pass kept [] (first ∷ arm 22 resop4 (inl tt) ∷ refused_as 51 status ∷ []) (Some (object_numbered file.0))) status)
  refused_then status r none =
      IsRefused m (first ∷ arm 22 resop4 (inl tt) ∷ refused_as 51 status ∷ []) status
      (record { mds = refl; sends = refl; same = same_table m; taken = took_first; fits = reply_fits (stat4_number status) (first ∷ arm 22 resop4 (inl tt) ∷ refused_as 51 status ∷ []) r.its_number (omega arith) (its_first, (tt, (r.fits, tt))) })
      r.some none refl

  -- a layout that the client has is named by its stateid
  has_named : (uid : ℕ) → stateid.other ≡ three_words file.0 uid 0 → HasPeriod m file client uid → (is_file (Some (object_numbered file.0)) && is_layout named) ≡ true
  has_named uid own p =
      let some : (file.0 == 0) ≡ false = (at_place m.files file p.file_is p.there).0 in
      let object : object_numbered file.0 ≡ File file = numbered_some file some in
      let held : IsByClient p.file_is.file.layout.phase = record { node = p.node; is_recalled = p.is_recalled; is = p.phase } in
      let range = creds file p.file_is p.there held in
      let least : 65536 ≤ uid = subst (λ (n : ℕ). 65536 ≤ n) p.its_uid range.0 in
      let most : uid < 2 ^ 32 = subst (λ (n : ℕ). n < 2 ^ 32) p.its_uid range.1 in
      let granted : granted_of (served m file) client ≡ Some p.file_is.file.layout.cred =
      ap (λ (o : Option ServedFile). granted_of o client) p.there ∙ ap (granted_if client p.file_is.file.layout.cred) p.holder
      ∙ ap (λ (b : Bool). cond {A = Option Cred} b (Some p.file_is.file.layout.cred) None) (eq-eqb client client refl) in
      subst (λ (o : Object). (is_file (Some o) && is_layout (named_by stateid (file_or_none (file_of (Some o))) (open_number m client (file_or_none (file_of (Some o)))) (granted_of (served m (file_or_none (file_of (Some o)))) client))) ≡ true) (sym object)
      (subst (λ (g : Option Cred). is_layout (named_by stateid file (open_number m client file) g) ≡ true) (sym granted)
      (names_layout stateid.other file uid least most own (open_number m client file) p.file_is.file.layout.cred p.its_uid stateid refl))

  by_refusal : (status : Stat4) → refusal (layout_return_order (Some (object_numbered file.0)) asked) ≡ Some status → stat4_number status ≡ 10025 → NamesNone m client file stateid
  by_refusal status is number uid own p =
      not_so (sym (ap not (has_named uid own p)) ∙ last_refuses (is_none (Some (object_numbered file.0))) (not (flex_files == Rattle.mds_refusals.specs.declared.layout_get.TheConstants.FLEX_FILES)) (false || not (is_whole asked)) (not asked.has_body) (not (is_file (Some (object_numbered file.0)) && is_layout named)) status is number)
    where
      not_so : false ≡ true → ⊥
      not_so e = absurd cc

  -- it is let through
  accepted_then : is_file (Some (object_numbered file.0)) ≡ true → IsNamed stateid.other F client (served m F) → Then (return_by m C F (errors_for stateid failed) (served m F))
  accepted_then root n =
      let one : F ≡ file = numbered_its file root in
      let at : served m file ≡ Some n.its = ap (served m) (sym one) ∙ n.there in
      subst (λ (o : Option ServedFile). Then (return_by m C F (errors_for stateid failed) o)) (sym n.there)
      (subst (λ (f : FileId). Then (return_by m C f (errors_for stateid failed) (Some n.its))) (sym one)
      (Accepts (record { its = n.its; there = at; names = n.names ∙ ap (λ (f : FileId). three_words f.0 n.its.file.layout.cred.0 0) one; holder = n.holder; held = holds file n.its at client n.holder })
      (record {
        mds = refl;
        sends = refl;
        same = input_same m file (Returns (client_number (holder_of n.its.file.layout.phase)) n.its.file.layout.cred (report_of (errors_for stateid failed) n.its.file.layout.live)) (served m file);
        taken = took_first;
        fits = reply_fits 0 (first ∷ arm 22 resop4 (inl tt) ∷ no_stateid ∷ []) refl (omega arith) (its_first, (tt, (tt, tt)));
      }) refl))

  let_through : refusal (layout_return_order (Some (object_numbered file.0)) asked) ≡ None → Then (returns_file m C (errors_of (return_body stateid failed)))
  let_through none =
      let all = holds_none (layout_return_order (Some (object_numbered file.0)) asked) none in
      let both : (is_file (Some (object_numbered file.0)) && is_layout named) ≡ true = was_on (is_file (Some (object_numbered file.0)) && is_layout named) all.1.1.1.1.0 in
      let parts = and_parts (is_file (Some (object_numbered file.0))) (is_layout named) both in
      let layout : is_layout_of stateid.other F (granted_of (served m F) client) ≡ true =
      layout_named (bytes_eq stateid.other (replicate 12 0)) (bytes_eq stateid.other (replicate 12 255)) (is_open_of stateid.other F (open_number m client F)) (is_layout_of stateid.other F (granted_of (served m F) client)) parts.1 in
      subst (λ (o : Option (List (Value ff_ioerr4))). Then (returns_file m C o)) (sym (errors_again stateid failed fits)) (accepted_then parts.0 (named_so stateid.other F client (served m F) layout))

  by_status : (status : Option Stat4) → refusal (layout_return_order (Some (object_numbered file.0)) asked) ≡ status → Then (refused_or m C 51 status (returns_file m C (errors_of (return_body stateid failed))))
  by_status None is = let_through is
  by_status (Some status) is = refused_then status (return_statuses (Some (object_numbered file.0)) asked status is) (by_refusal status is)

  bad_session_not : stat4_number stat.BadSession ≡ 10025 → NamesNone m client file stateid
  bad_session_not is = absurd (eqb-false 10052 10025 refl is)

  pub return_then : ReturnEnds m node xid pass first file stateid failed (runs now (layout_return_op stateid failed ∷ []) m (run_with node xid pass kept (layout_return_op stateid failed ∷ []) (first ∷ arm 22 resop4 (inl tt) ∷ []) (Some (object_numbered file.0))))
  return_then =
      cond_both (has_session m (Some pass)) (operate now m C (layout_return_op stateid failed)) (refuses m C 51 stat.BadSession) Then
      (λ is. by_status (refusal (layout_return_order (Some (object_numbered file.0)) asked)) refl) (λ off. refused_then stat.BadSession (record { some = refl; its_number = refl; fits = refl }) bad_session_not)

-- ---- the whole compound

module _ (now : ℕ) (m : MdsValue) (node : NodeId) (xid : ℕ) (pass : SlotPass) (kept : Bool) (ops : List (Value argop4)) (first : Value resop4) (its_first : Fits resop4 first) (took_first : slot_answer_of (first ∷ []) ≡ Taken) (file : FileId) (small : file.0 < 2 ^ 64) (stateid : Stateid)
    (failed : List FailedMirror) (fits : Fits ff_layoutreturn4 (errors_for stateid failed, [])) (holds : (f : FileId) (s : ServedFile) → served m f ≡ Some s → HolderHolds s)
    (creds : (f : FileId) (s : ServedFile) → served m f ≡ Some s → IsByClient s.file.layout.phase → (65536 ≤ s.file.layout.cred.0) × (s.file.layout.cred.0 < 2 ^ 32)) where
  pub return_ends : ReturnEnds m node xid pass first file stateid failed (runs now (put_fh_op file ∷ layout_return_op stateid failed ∷ []) m (run_with node xid pass kept ops (first ∷ []) None))
  return_ends =
      put_first now m node xid pass kept ops first (ReturnEnds m node xid pass first file stateid failed)
      (λ status r other. IsRefused m (first ∷ refused_as 22 status ∷ []) status
      (record { mds = refl; sends = refl; same = same_table m; taken = took_first; fits = reply_fits (stat4_number status) (first ∷ refused_as 22 status ∷ []) r.its_number (omega arith) (its_first, (r.fits, tt)) }) r.some
      (λ number. absurd (eqb-false (stat4_number status) 10025 other number)) refl)
      file small (layout_return_op stateid failed) (return_then now m node xid pass kept first its_first took_first stateid failed file fits holds creds)
