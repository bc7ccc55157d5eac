-- What a client's LAYOUTGET that takes effect comes to: it is refused, or the layout of the file is granted to the client.
use Rattle.std.proofs.Common.{◌≡◌, ◌≤◌, ◌<◌, ℕ, ◌+◌, Bool, true, false, List, [], ◌∷◌, ◌++◌, length, Option, Some, None, refl, sym, ap, subst, ◌∙◌, arith, inl, inr, ◌⊎◌, length-append}
use Rattle.std.specs.Prelude.{◌==◌, ◌^◌}
use Rattle.std.proofs.lemmas.Bool.{cond_both, ltb-false}
use Rattle.ff_xdr.specs.Arms.{arm}
use Rattle.std.specs.List.{flat_map}
use Rattle.ff_xdr.specs.Form.{Value, Fits, word, spelling}
use Rattle.ff_xdr.proofs.Fields.{length-word}
use Rattle.cluster_model.specs.declared.ids.NodeId.{NodeId}
use Rattle.cluster_model.specs.declared.ids.NodeId.TheVariants.{Mds, Server, Client}
use Rattle.cluster_model.specs.declared.ids.FileId.{FileId}
use Rattle.cluster_model.specs.declared.phase.Phase.{Phase}
use Rattle.cluster_model.specs.declared.entry.Entry.{Entry}
use Rattle.cluster_model.specs.declared.entry.Entry.TheVariants as entry
use Rattle.cluster_model.specs.declared.layout_state.LayoutState.{LayoutState}
use Rattle.cluster_model.specs.Members.{IsOneOf}
use Rattle.file_rule.specs.FilePhases.{AsksLayout}
use Rattle.nfs4_types.specs.declared.stateid.Stateid.{Stateid}
use Rattle.nfs4_types.specs.Stateids.{three_words}
use Rattle.nfs4_types.specs.declared.status.Stat4.{Stat4}
use Rattle.nfs4_types.specs.declared.status.Stat4.TheVariants as stat
use Rattle.nfs4_types.specs.Status.{stat4_number}
use Rattle.nfs4_compound.specs.Args.{argop4}
use Rattle.nfs4_compound.specs.Results.{resop4}
use Rattle.nfs4_session.specs.declared.begin.SlotPass.{SlotPass}
use Rattle.nfs4_session.specs.Clients.{client_in}
use Rattle.nfs4_file_ops.specs.declared.layout_get.LayoutGetArgs.{LayoutGetArgs}
use Rattle.client_file_calls.specs.FileOps.{layout_get_op, put_fh_op, whole_length}
use Rattle.client_file_calls.specs.declared.layouts.TheConstants.{FLEX_FILES, MAX_COUNT, READS_AND_WRITES}
use Rattle.granted_layouts.specs.GrantedBodies.{layout_length}
use Rattle.mds_refusals.specs.declared.object.Object.{Object}
use Rattle.mds_refusals.specs.declared.layout_get.LayoutGetFound.{LayoutGetFound}
use Rattle.mds_refusals.specs.Orders.{is_root, file_of, refusal}
use Rattle.mds_refusals.specs.LayoutGets.{layout_get_order}
use Rattle.mds_refusals.specs.PutFh.{object_numbered}
use Rattle.client_mds_calls.specs.declared.reply.SlotReport.TheVariants.{Taken}
use Rattle.client_mds_calls.specs.MdsReplies.{slot_answer_of}
use Rattle.mds_rule.specs.MdsStates.{CompoundRun, ServedFile, MdsValue, MdsStep, sends_none, confirmed_node, served, with_served}
use Rattle.mds_rule.specs.ServedFiles.{has_fresh, takes_input, asks_back}
use Rattle.mds_rule.specs.OpSteps.{OpStep, refuses, refused_as, refused_or}
use Rattle.mds_rule.specs.FileOps.{file_or_none}
use Rattle.mds_rule.specs.LayoutOps.{layout_found, size_for, with_holder, layout_of_file, granted_in, grants_to, is_granted, is_try_later, phase_behind, later_by}
use Rattle.mds_rule.specs.Compounds.{operate, has_session, op_then, runs}
use Rattle.mds_walk.proofs.Lists.{in_more}
use Rattle.mds_walk.proofs.Served.{served_again}
use Rattle.mds_replies.specs.LayoutReplies.{HasPeriod}
use Rattle.mds_replies.specs.AnsweredRequests.{IsGrantedNow}
use Rattle.mds_replies.proofs.GrantRead.{body_short}
use Rattle.mds_replies.proofs.HoldersHold.{IsByClient, HolderHolds, IsAsked, asked_is, next_fits}
use Rattle.mds_walk.proofs.LayoutHolders.{holds_none, again_holds, new_free}
use Rattle.mds_replies.proofs.ReplyForms.{IsRefusal, in_order, reply_fits}
use Rattle.mds_replies.proofs.SameTables.{SameTable, same_table, input_same, asks_same}
use Rattle.mds_replies.proofs.TakenRequests.{run_with, HasEnded, put_first, numbered_file}

-- what was asked
abbrev asked : Stateid → LayoutGetArgs
asked stateid = record { signal = false; layout_type = FLEX_FILES; iomode = READS_AND_WRITES; offset = 0; length = whole_length; minlength = 0; stateid = stateid; maxcount = MAX_COUNT }

-- ---- the layout that a client got

pub record HasGot (m n : MdsValue) (client : ℕ) (file : FileId) (entries : List Entry) : Type 0 where
  pub its : ServedFile
  pub there : served n file ≡ Some its
  pub holder : its.holder ≡ Some client
  pub held : IsByClient its.file.layout.phase
  pub short : layout_length its.file.layout.cred.0 its.file.layout.live ≤ 4096
  pub seqid : its.seqid < 4294967296
  pub whence : IsGrantedNow entries file its.file.layout.cred.0 ⊎ HasPeriod m file client its.file.layout.cred.0

-- few bytes stand behind the first result
abbrev pub IsShort : Value resop4 → List (Value resop4) → Type 0
IsShort first results = length (flat_map (λ (v : Value resop4). spelling resop4 v) results) ≤ length (spelling resop4 first) + 64

pub data GetEnds (m : MdsValue) (node : NodeId) (xid : ℕ) (pass : SlotPass) (first : Value resop4) (file : FileId) (step : MdsStep) : Type 0 where
  IsRefused : (n : MdsValue) (results : List (Value resop4)) (status : Stat4) → HasEnded m n node xid pass results status step → (stat4_number status == 0) ≡ false → IsShort first results → GetEnds m node xid pass first file step
  Grants : (n : MdsValue) (got : HasGot m n (client_in pass.session) file step.entries)
      → HasEnded m n node xid pass (first ∷ arm 22 resop4 (inl tt) ∷ layout_of_file file got.its ∷ []) stat.Ok step → GetEnds m node xid pass first file step

-- ---- forms

pub words_length : (a b c : ℕ) → length (three_words a b c) ≡ 12
words_length a b c =
    let outer = length-append (word a) (word b ++ word c) in
    let inner = length-append (word b) (word c) in
    let x = length-word a in let y = length-word b in let z = length-word c in omega (arith, outer, inner, x, y, z)

layout_fits : (file : FileId) (s : ServedFile) → s.seqid < 4294967296 → layout_length s.file.layout.cred.0 s.file.layout.live ≤ 4096 → Fits resop4 (layout_of_file file s)
layout_fits file s few short =
    let body = body_short s.file.layout.cred.0 s.file.layout.live (omega (arith, short)) in
    (tt, ((omega (arith, few), words_length file.0 s.file.layout.cred.0 0), (omega arith, ((omega arith, (omega arith, (omega arith, (omega arith, body)))), tt))))

-- ---- sizes

put_size : length (spelling resop4 (arm 22 resop4 (inl tt))) ≡ 8
unfolding word
put_size = refl

later_size : length (spelling resop4 (arm 50 resop4 (inr (inl false)))) ≡ 12
unfolding word
later_size = refl

-- two words
refused_size : (number status : ℕ) → length (word number ++ word status) ≡ 8
refused_size number status = let both = length-append (word number) (word status) in let a = length-word number in let b = length-word status in omega (arith, both, a, b)

two_short : (first x : Value resop4) (k : ℕ) → length (spelling resop4 x) ≡ k → k ≤ 64 → IsShort first (first ∷ x ∷ [])
two_short first x k is few =
    let outer = length-append (spelling resop4 first) (spelling resop4 x ++ []) in
    let inner = length-append (spelling resop4 x) [] in omega (arith, outer, inner, is, few)

three_short : (first x y : Value resop4) (k j : ℕ) → length (spelling resop4 x) ≡ k → length (spelling resop4 y) ≡ j → k + j ≤ 64 → IsShort first (first ∷ x ∷ y ∷ [])
three_short first x y k j is its few =
    let outer = length-append (spelling resop4 first) (spelling resop4 x ++ (spelling resop4 y ++ [])) in
    let middle = length-append (spelling resop4 x) (spelling resop4 y ++ []) in
    let inner = length-append (spelling resop4 y) [] in omega (arith, outer, middle, inner, is, its, few)

-- LAYOUTTRYLATER is given in a result of its own
abbrev IsOther : Stat4 → Type 0
IsOther status = is_try_later (Some status) ≡ false → IsRefusal 50 status

refusal_is : (status : Stat4) → IsRefusal 50 status → IsOther status
refusal_is status r off = r

get_statuses : (o : Option Object) (args : LayoutGetArgs) (found : LayoutGetFound) (status : Stat4) → refusal (layout_get_order o args found) ≡ Some status → IsOther status
get_statuses o args found status is =
    in_order IsOther (layout_get_order o args found) (
      refusal_is stat.NoFileHandle (record { some = refl; its_number = refl; fits = refl }),
      (
        refusal_is stat.WrongType (record { some = refl; its_number = refl; fits = refl }),
        (
          refusal_is stat.UnknownLayoutType (record { some = refl; its_number = refl; fits = refl }),
          (
            refusal_is stat.BadIoMode (record { some = refl; its_number = refl; fits = refl }),
            (
              refusal_is stat.LayoutUnavailable (record { some = refl; its_number = refl; fits = refl }),
              (
                refusal_is stat.Inval (record { some = refl; its_number = refl; fits = refl }),
                (
                  refusal_is stat.BadStateid (record { some = refl; its_number = refl; fits = refl }),
                  (
                    λ off. absurd cc,
                    (
                      refusal_is stat.RecallConflict (record { some = refl; its_number = refl; fits = refl }),
                      (refusal_is stat.LayoutUnavailable (record { some = refl; its_number = refl; fits = refl }), (refusal_is stat.TooSmall (record { some = refl; its_number = refl; fits = refl }), tt)),
                    ),
                  ),
                ),
              ),
            ),
          ),
        ),
      ),
    ) status is

-- ---- the LAYOUTGET

module _ (now : ℕ) (m : MdsValue) (node : NodeId) (xid : ℕ) (pass : SlotPass) (kept : Bool) (first : Value resop4) (its_first : Fits resop4 first) (took_first : slot_answer_of (first ∷ []) ≡ Taken) (stateid : Stateid) (object : Object) (file : FileId)
    (its_file : is_root (Some object) ≡ false → file_or_none (file_of (Some object)) ≡ file) (fresh : has_fresh m.fresh ≡ true) (holds : (s : ServedFile) → served m (file_or_none (file_of (Some object))) ≡ Some s → HolderHolds s)
    (seqids : (s : ServedFile) → served m (file_or_none (file_of (Some object))) ≡ Some s → s.seqid < 4294967296) where
  abbrev C : CompoundRun
  C = run_with node xid pass kept [] (first ∷ arm 22 resop4 (inl tt) ∷ []) (Some object)

  abbrev F : FileId
  F = file_or_none (file_of (Some object))

  abbrev client : ℕ
  client = client_in pass.session

  abbrev found : LayoutGetFound
  found = layout_found m (run_with node xid pass kept [] (first ∷ arm 22 resop4 (inl tt) ∷ []) (Some object)) (asked stateid)

  abbrev Then : OpStep → Type 0
  Then s = GetEnds m node xid pass first file (op_then s (λ n d. runs now [] n d))

  -- a refusal
  refused_then : (n : MdsValue) (es : List Entry) (status : Stat4) → SameTable m n → IsRefusal 50 status → Then (Rattle.mds_rule.specs.OpSteps.Ends n es (run_with node xid pass kept [] (first ∷ arm 22 resop4 (inl tt) ∷ refused_as 50 status ∷ []) (Some object)) status)
  refused_then n es status same r =
      IsRefused n (first ∷ arm 22 resop4 (inl tt) ∷ refused_as 50 status ∷ []) status
      (record { mds = refl; sends = refl; same = same; taken = took_first; fits = reply_fits (stat4_number status) (first ∷ arm 22 resop4 (inl tt) ∷ refused_as 50 status ∷ []) r.its_number (omega arith) (its_first, (tt, (r.fits, tt))) }) r.some
      (three_short first (arm 22 resop4 (inl tt)) (refused_as 50 status) 8 8 put_size (refused_size 50 (stat4_number status)) (omega arith))

  later_then : (p : Option Phase) → Then (later_by m C now p)
  later_then None = refused_then m [] stat.LayoutUnavailable (same_table m) (record { some = refl; its_number = refl; fits = refl })
  later_then (Some p) =
      IsRefused (asks_back m F now).mds (first ∷ arm 22 resop4 (inl tt) ∷ arm 50 resop4 (inr (inl false)) ∷ []) stat.LayoutTryLater
      (record {
        mds = refl;
        sends = refl;
        same = asks_same m F now (served m F);
        taken = took_first;
        fits = reply_fits 10058 (first ∷ arm 22 resop4 (inl tt) ∷ arm 50 resop4 (inr (inl false)) ∷ []) refl (omega arith) (its_first, (tt, (tt, tt)));
      }) refl (three_short first (arm 22 resop4 (inl tt)) (arm 50 resop4 (inr (inl false))) 8 12 put_size later_size (omega arith))

  -- a grant
  granted_then : (x : MdsStep) (t : ServedFile) → SameTable m x.mds → served x.mds F ≡ Some t → (its : ServedFile) → its.file ≡ t.file → (got : F ≡ file → HasGot m (with_served x.mds F its) client file (x.entries ++ []))
      → ((one : F ≡ file) → (got one).its ≡ its) → is_root (Some object) ≡ false
      → Then (Rattle.mds_rule.specs.OpSteps.Goes (with_served x.mds F its) x.entries (run_with node xid pass kept [] (first ∷ arm 22 resop4 (inl tt) ∷ layout_of_file F its ∷ []) (Some object)))
  granted_then x t same at its file_is got same_its root =
      let one : F ≡ file = its_file root in
      let g : HasGot m (with_served x.mds F its) client file (x.entries ++ []) = got one in
      Grants (with_served x.mds F its) g
      (subst (λ (r : Value resop4). HasEnded m (with_served x.mds F its) node xid pass (first ∷ arm 22 resop4 (inl tt) ∷ r ∷ []) stat.Ok (op_then (Rattle.mds_rule.specs.OpSteps.Goes (with_served x.mds F its) x.entries (run_with node xid pass kept [] (first ∷ arm 22 resop4 (inl tt) ∷ layout_of_file F its ∷ []) (Some object))) (λ n d. runs now [] n d)))
      (ap (λ (f : FileId). layout_of_file f its) one ∙ ap (layout_of_file file) (sym (same_its one)))
      (record {
        mds = refl;
        sends = refl;
        same = record { sessions = same.sessions; calls = same.calls };
        taken = took_first;
        fits = reply_fits 0 (first ∷ arm 22 resop4 (inl tt) ∷ layout_of_file F its ∷ []) refl (omega arith)
            (its_first, (tt, (layout_fits F its (subst (λ (s : ServedFile). s.seqid < 4294967296) (same_its one) g.seqid) (subst (λ (s : ServedFile). layout_length s.file.layout.cred.0 s.file.layout.live ≤ 4096) (same_its one) g.short), tt)));
      }))

  module _ (none : refusal (layout_get_order (Some object) (asked stateid) found) ≡ None) where
    its_root : is_root (Some object) ≡ false
    its_root = (holds_none (layout_get_order (Some object) (asked stateid) found) none).1.0

    short : size_for (served m F) ≤ 4096
    short = ltb-false MAX_COUNT (size_for (served m F)) (holds_none (layout_get_order (Some object) (asked stateid) found) none).1.1.1.1.1.1.1.1.1.1.0

    -- it is the client's already
    again_then : is_granted (served m F) ≡ true → (o : Option ServedFile) → served m F ≡ o → Then (granted_in (sends_none m) C F true o)
    again_then granted None at = refused_then m [] stat.LayoutUnavailable (same_table m) (record { some = refl; its_number = refl; fits = refl })
    again_then granted (Some t) at =
        let its : ServedFile = with_holder client true t in
        let holder : t.holder ≡ Some client = again_holds m C (asked stateid) none t at granted in
        let held : IsByClient t.file.layout.phase = holds t at client holder in
        granted_then (sends_none m) t (same_table m) at its refl
        (λ one. record {
          its = its;
          there = ap (served (with_served m F its)) (sym one) ∙ served_again m F t its at;
          holder = refl;
          held = held;
          short = subst (λ (o : Option ServedFile). size_for o ≤ 4096) at short;
          seqid = next_fits t.seqid (seqids t at);
          whence = inr (record { file_is = t; there = ap (served m) (sym one) ∙ at; holder = holder; node = held.node; is_recalled = held.is_recalled; phase = held.is; its_uid = refl });
        }) (λ one. refl) its_root

    -- nobody has it
    new_then : (n : ℕ) → is_granted (served m F) ≡ false → (o : Option ServedFile) → served (takes_input m F (AsksLayout n)).mds F ≡ o → Then (granted_in (takes_input m F (AsksLayout n)) C F false o)
    new_then n free None at = refused_then (takes_input m F (AsksLayout n)).mds (takes_input m F (AsksLayout n)).entries stat.LayoutUnavailable (input_same m F (AsksLayout n) (served m F)) (record { some = refl; its_number = refl; fits = refl })
    new_then n free (Some t) at =
        let x : MdsStep = takes_input m F (AsksLayout n) in
        let its : ServedFile = with_holder client false t in
        let a : IsAsked m F n t = asked_is m F n t fresh (λ s there. new_free m C (asked stateid) none s there free) at in
        let entries : x.entries ≡ entry.Granted F a.was.file.layout.cred (Client n) ∷ [] = ap (λ (s : MdsStep). s.entries) a.step_is in
        granted_then x t (input_same m F (AsksLayout n) (served m F)) at its refl
        (λ one. record {
          its = its;
          there = ap (served (with_served x.mds F its)) (sym one) ∙ served_again x.mds F t its at;
          holder = refl;
          held = record { node = n; is_recalled = false; is = ap (λ (s : ServedFile). s.file.layout.phase) a.is };
          short = subst (λ (l : LayoutState). layout_length l.cred.0 l.live ≤ 4096) (sym (ap (λ (s : ServedFile). s.file.layout) a.is)) (subst (λ (o : Option ServedFile). size_for o ≤ 4096) a.there short);
          seqid = omega arith;
          whence = inl (
            n,
            in_more (entry.Granted file (record { 0 = t.file.layout.cred.0 }) (Client n)) x.entries []
                (subst (λ (l : List Entry). IsOneOf (entry.Granted file (record { 0 = t.file.layout.cred.0 }) (Client n)) l) (sym entries)
                (inl (ap (λ (f : FileId). entry.Granted f (record { 0 = t.file.layout.cred.0 }) (Client n)) (sym one) ∙ ap (λ (s : ServedFile). entry.Granted F s.file.layout.cred (Client n)) a.is))),
          );
        }) (λ one. refl) its_root

    grants_then : (again : Bool) → is_granted (served m F) ≡ again → (from : Option NodeId) → Then (grants_to m C F again from)
    grants_then true at from = again_then at (served m F) refl
    grants_then false at None = refused_then m [] stat.LayoutUnavailable (same_table m) (record { some = refl; its_number = refl; fits = refl })
    grants_then false at (Some Mds) = refused_then m [] stat.LayoutUnavailable (same_table m) (record { some = refl; its_number = refl; fits = refl })
    grants_then false at (Some (Server n)) = refused_then m [] stat.LayoutUnavailable (same_table m) (record { some = refl; its_number = refl; fits = refl })
    grants_then false at (Some (Client n)) = new_then n at (served (takes_input m F (AsksLayout n)).mds F) refl

  by_refusal : (status : Option Stat4) → refusal (layout_get_order (Some object) (asked stateid) found) ≡ status → is_try_later status ≡ false
      → Then (refused_or m C 50 status (grants_to m C F (is_granted (served m F)) (confirmed_node m client)))
  by_refusal None so off = grants_then so (is_granted (served m F)) refl (confirmed_node m client)
  by_refusal (Some status) so off = refused_then m [] status (same_table m) (get_statuses (Some object) (asked stateid) found status so off)

  by_status : (status : Option Stat4) → refusal (layout_get_order (Some object) (asked stateid) found) ≡ status → Then (Rattle.mds_rule.specs.LayoutOps.layout_answer m C now found status)
  by_status status so =
      cond_both (is_try_later status) (later_by m C now (phase_behind found.fault)) (refused_or m C 50 status (grants_to m C F (is_granted (served m F)) (confirmed_node m client))) Then
      (λ is. later_then (phase_behind found.fault)) (λ off. by_refusal status so off)

  pub get_then : GetEnds m node xid pass first file (runs now (layout_get_op stateid ∷ []) m (run_with node xid pass kept (layout_get_op stateid ∷ []) (first ∷ arm 22 resop4 (inl tt) ∷ []) (Some object)))
  get_then =
      cond_both (has_session m (Some pass)) (operate now m C (layout_get_op stateid)) (refuses m C 50 stat.BadSession) Then
      (λ is. by_status (refusal (layout_get_order (Some object) (asked stateid) found)) refl) (λ off. refused_then m [] stat.BadSession (same_table m) (record { some = refl; its_number = refl; fits = refl }))

-- ---- the whole compound

module _ (now : ℕ) (m : MdsValue) (node : NodeId) (xid : ℕ) (pass : SlotPass) (kept : Bool) (ops : List (Value argop4)) (first : Value resop4) (its_first : Fits resop4 first) (took_first : slot_answer_of (first ∷ []) ≡ Taken) (file : FileId) (small : file.0 < 2 ^ 64) (stateid : Stateid)
    (fresh : has_fresh m.fresh ≡ true) (holds : (f : FileId) (s : ServedFile) → served m f ≡ Some s → HolderHolds s) (seqids : (f : FileId) (s : ServedFile) → served m f ≡ Some s → s.seqid < 4294967296) where
  pub get_ends : GetEnds m node xid pass first file (runs now (put_fh_op file ∷ layout_get_op stateid ∷ []) m (run_with node xid pass kept ops (first ∷ []) None))
  get_ends =
      put_first now m node xid pass kept ops first (GetEnds m node xid pass first file)
      (λ status r other. IsRefused m (first ∷ refused_as 22 status ∷ []) status
      (record { mds = refl; sends = refl; same = same_table m; taken = took_first; fits = reply_fits (stat4_number status) (first ∷ refused_as 22 status ∷ []) r.its_number (omega arith) (its_first, (r.fits, tt)) }) r.some
      (two_short first (refused_as 22 status) 8 (refused_size 22 (stat4_number status)) (omega arith)))
      file small (layout_get_op stateid)
      (get_then now m node xid pass kept first its_first took_first stateid (object_numbered file.0) file (numbered_file file) fresh
      (holds (file_or_none (file_of (Some (object_numbered file.0))))) (seqids (file_or_none (file_of (Some (object_numbered file.0))))))
