-- In each run a file that has a client as its holder is held by a client, where uids and names are left; and the uid of each file is one that
-- was drawn.
use Rattle.std.proofs.Common.{◌≡◌, ◌≤◌, ◌<◌, ℕ, ◌+◌, ◌-◌, ◌^◌, Bool, true, false, cond, List, [], ◌∷◌, ◌++◌, length, Option, Some, None, refl, sym, ap, subst, ◌∙◌, arith}
use Rattle.std.specs.Prelude.{◌==◌, nat_lt, ◌&&◌, slice_set}
use Rattle.std.specs.List.{list_any}
use Rattle.std.proofs.lemmas.Bool.{cond_both, and_parts, ltb-true, lt-ltb, eq-eqb}
use Rattle.std.proofs.lemmas.Option.{same_Some, none-some}
use Rattle.compound_reply.specs.Replied.{success_reply}
use Rattle.cluster_model.specs.declared.ids.NodeId.{NodeId}
use Rattle.cluster_model.specs.declared.ids.NodeId.TheVariants.{Server, Client}
use Rattle.cluster_model.specs.declared.ids.FileId.{FileId}
use Rattle.cluster_model.specs.declared.entry.Entry.{Entry}
use Rattle.cluster_model.specs.declared.layout_state.LayoutState.{LayoutState}
use Rattle.cluster_model.specs.declared.layout_state.LayoutPhase.{LayoutPhase}
use Rattle.cluster_model.specs.declared.layout_state.LayoutPhase.TheVariants.{Free, Held}
use Rattle.cluster_model.specs.Phases.{holder_of, granted}
use Rattle.device_addr.specs.Universal.{AddressValue}
use Rattle.file_rule.specs.declared.fresh.Fresh.{Fresh}
use Rattle.file_rule.specs.MdsFiles.{MdsFile, FileStep, nothing, with_entries}
use Rattle.file_rule.specs.FilePhases.{FileInput, AsksLayout, Returns, Answers as IsAnswer, OwnEnds, TimesOut, Sees, are_spent, asked_in, end_of_uids, new_mds_file, phase}
use Rattle.mds_rows.specs.Draws.{drawn}
use Rattle.recall.specs.Recalls.{without_file}
use Rattle.open_state.specs.Opens.{next_seqid}
use Rattle.layout_report.specs.Reports.{report_of}
use Rattle.mds_rule.specs.Answers.{own_answer, failures_by_place}
use Rattle.mds_rule.specs.MdsStates.{ServedFile, MdsSend, CallsServer, CallsBack, Replies, Answers, AwaitedCall, MdsValue, MdsStep, sends_none, with_call, served, with_served, new_mds}
use Rattle.mds_rule.specs.declared.waiter.Waiter.TheVariants.{ForFile, ForRead, ForWrite, ForRecall}
use Rattle.mds_rule.specs.ServedFiles.{has_fresh, is_period_end, kept_holder, file_behind, file_stepped, input_at, takes_input}
use Rattle.mds_rule.specs.FileOps.{servers_of, new_served, with_new_file}
use Rattle.mds_rule.specs.LayoutOps.{with_holder}
use Rattle.mds_walk.specs.MdsRuns.{MdsEvent, mds_run}
use Rattle.mds_walk.proofs.Lists.{AllOf, all_push, all_set, all_got}
use Rattle.mds_walk.proofs.Parts.{HeardAny, AnyCompound}
use Rattle.mds_laws.proofs.Numbers.{WereSent, sent_more, sent_with, sent_kept}
use Rattle.mds_walk.proofs.Served.{place_served, served_again}
use Rattle.mds_replies.specs.ClientCalls.{server_after}
use Rattle.mds_laws.proofs.FileCreds.{out_agrees, phase_uses}
use Rattle.mds_laws.proofs.FileGrants.{out_layout}
use Rattle.mds_laws.proofs.PeriodUids.{Agrees, uid_of, uid_by, Ends}
use Rattle.mds_laws.proofs.UsedOnce.{FileAgrees, Came, Was, IsDrawn, came_of}
use Rattle.mds_replies.proofs.HeldFiles.{After, GoesOn, IsOver, held_after}
use Rattle.mds_replies.proofs.HolderCases.{Cases, RunCases}
use Rattle.mds_replies.proofs.GoesWalk.{in_each_run}

-- ---- uids and names that are left

pub fresh_from : (a b : Fresh) → a.uid ≤ b.uid → a.name ≤ b.name → has_fresh b ≡ true → has_fresh a ≡ true
fresh_from a b uids names is =
    let parts = and_parts (nat_lt b.uid end_of_uids) (nat_lt (b.name + 4) (2 ^ 64)) is in
    let uid : b.uid < end_of_uids = ltb-true b.uid end_of_uids parts.0 in
    let name : b.name + 4 < 2 ^ 64 = ltb-true (b.name + 4) (2 ^ 64) parts.1 in
    both (nat_lt a.uid end_of_uids) (nat_lt (a.name + 4) (2 ^ 64)) (lt-ltb a.uid end_of_uids (omega (arith, uid, uids))) (lt-ltb (a.name + 4) (2 ^ 64) (omega (arith, name, names)))
  where
    both : (p q : Bool) → p ≡ true → q ≡ true → (p && q) ≡ true
    both true q first second = second
    both false q first second = absurd cc

drawn_from : (fresh : Fresh) (step : FileStep) → has_fresh (drawn fresh step) ≡ true → has_fresh fresh ≡ true
drawn_from fresh step is = fresh_from fresh (drawn fresh step) (omega arith) (omega arith) is

-- where some are left behind an input, they were before it
pub fresh_before : (m : MdsValue) (file : FileId) (input : FileInput) (o : Option ServedFile) → has_fresh (input_at m file input o).mds.fresh ≡ true → has_fresh m.fresh ≡ true
fresh_before m file input None is = is
fresh_before m file input (Some s) is = by_test (has_fresh m.fresh) refl is
  where
    by_test : (b : Bool) → has_fresh m.fresh ≡ b → has_fresh (cond {A = MdsStep} b (file_stepped m file s (phase file s.file input m.fresh)) (sends_none m)).mds.fresh ≡ true → has_fresh m.fresh ≡ true
    by_test true at its = at
    by_test false at its = its

-- ---- a file that a client is to have

pub record IsByClient (p : LayoutPhase) : Type 0 where
  pub node : ℕ
  pub is_recalled : Bool
  pub is : p ≡ Held (Client node) is_recalled

abbrev pub HolderHolds : ServedFile → Type 0
HolderHolds s = (client : ℕ) → s.holder ≡ Some client → IsByClient s.file.layout.phase

-- what is granted to a client where nobody has the file
abbrev pub granted_step : FileId → MdsFile → ℕ → FileStep
granted_step file f n =
    with_entries (granted file f.layout (Client n)).entries (record { file = record { layout = (granted file f.layout (Client n)).file; activity = f.activity }; entries = []; uids = 0; names = 0 })

pub record IsAsked (m : MdsValue) (file : FileId) (n : ℕ) (t : ServedFile) : Type 0 where
  pub was : ServedFile
  pub there : served m file ≡ Some was
  pub step_is : takes_input m file (AsksLayout n) ≡ file_stepped m file was (granted_step file was.file n)
  pub is : t ≡ file_behind was (granted_step file was.file n)

asked_so : (m : MdsValue) (file : FileId) (n : ℕ) (t s : ServedFile) → has_fresh m.fresh ≡ true → served m file ≡ Some s → s.file.layout.phase ≡ Free → are_spent m.fresh ≡ false
    → served (takes_input m file (AsksLayout n)).mds file ≡ Some t → IsAsked m file n t
asked_so m file n t s fresh at free spare there =
    let step : takes_input m file (AsksLayout n) ≡ file_stepped m file s (granted_step file s.file n) =
    ap (input_at m file (AsksLayout n)) at ∙ ap (λ (b : Bool). cond {A = MdsStep} b (file_stepped m file s (phase file s.file (AsksLayout n) m.fresh)) (sends_none m)) fresh
    ∙ ap (λ (p : LayoutPhase). file_stepped m file s (asked_in file s.file (Client n) [] m.fresh p)) free
    ∙ ap (λ (b : Bool). file_stepped m file s (cond {A = FileStep} b (nothing s.file) (granted_step file s.file n))) spare in
    record {
      was = s;
      there = at;
      step_is = step;
      is = same_Some t (file_behind s (granted_step file s.file n))
          (sym there ∙ ap (λ (x : MdsStep). served x.mds file) step ∙ served_again (record m { fresh = drawn m.fresh (granted_step file s.file n) }) file s (file_behind s (granted_step file s.file n)) at);
    }

pub asked_is : (m : MdsValue) (file : FileId) (n : ℕ) (t : ServedFile) → has_fresh m.fresh ≡ true → ((s : ServedFile) → served m file ≡ Some s → (s.file.layout.phase ≡ Free) × (are_spent m.fresh ≡ false))
    → served (takes_input m file (AsksLayout n)).mds file ≡ Some t → IsAsked m file n t
asked_is m file n t fresh was there = by_case (served m file) refl
  where
    by_case : (o : Option ServedFile) → served m file ≡ o → IsAsked m file n t
    by_case None at = absurd (none-some t (sym at ∙ sym (ap (λ (x : MdsStep). served x.mds file) (ap (input_at m file (AsksLayout n)) at)) ∙ there))
    by_case (Some s) at = asked_so m file n t s fresh at (was s at).0 (was s at).1 there

-- ---- an input of the table of phases

pub kept_was : (o : Option NodeId) (h : Option ℕ) (client : ℕ) → kept_holder o h ≡ Some client → (h ≡ Some client) × (o ≡ None → ⊥)
kept_was None h client is = absurd (none-some client is)
kept_was (Some node) h client is = (is, λ none. none-some node (sym none))

behind_holds : (file : FileId) (fresh : Fresh) (s : ServedFile) (input : FileInput) → FileAgrees s → HolderHolds s → HolderHolds (file_behind s (phase file s.file input fresh))
behind_holds file fresh s input its holds client is = by_old (kept_was (holder_of (phase file s.file input fresh).file.layout.phase) s.holder client is)
  where
    by_new : (old : IsByClient s.file.layout.phase) → (holder_of (phase file s.file input fresh).file.layout.phase ≡ None → ⊥) → After file old.node s.file.layout.cred (phase file s.file input fresh)
        → IsByClient (phase file s.file input fresh).file.layout.phase
    by_new old some (GoesOn held) = record { node = old.node; is_recalled = held.is_recalled; is = held.phase }
    by_new old some (IsOver e none) = absurd (some none)

    by_old : (s.holder ≡ Some client) × (holder_of (phase file s.file input fresh).file.layout.phase ≡ None → ⊥) → IsByClient (phase file s.file input fresh).file.layout.phase
    by_old both =
        let old : IsByClient s.file.layout.phase = holds client both.0 in
        by_new old both.1 (held_after file fresh old.node s.file.layout.cred s.file input its (record { is_recalled = old.is_recalled; phase = old.is; its = refl }))

-- ---- the uid of a file

abbrev pub UidDrawn : ServedFile → Type 0
UidDrawn s = (uid : ℕ) → uid_of Ends s.file.layout ≡ Some uid → 65536 ≤ uid

behind_drawn : (file : FileId) (fresh : Fresh) (s : ServedFile) (input : FileInput) → 65536 ≤ fresh.uid → FileAgrees s → UidDrawn s → UidDrawn (file_behind s (phase file s.file input fresh))
behind_drawn file fresh s input first its old uid is =
    let step : FileStep = phase file s.file input fresh in
    by_case (came_of Ends fresh.uid (fresh.uid + step.uids) (uid_of Ends s.file.layout) step.entries (uid_of Ends step.file.layout) (phase_uses Ends file fresh s.file input its).0 uid is)
  where
    by_case : Came Ends fresh.uid (fresh.uid + (phase file s.file input fresh).uids) (uid_of Ends s.file.layout) (phase file s.file input fresh).entries uid → 65536 ≤ uid
    by_case (Was was none) = old uid was
    by_case (IsDrawn new less) = omega (arith, new, first)

-- the seqid of the layout's stateid
abbrev pub FitsSeqid : ServedFile → Type 0
FitsSeqid s = s.seqid < 4294967296

pub next_fits : (n : ℕ) → n < 4294967296 → next_seqid n < 4294967296
next_fits n less = cond_both (n == 4294967295) 1 (n + 1) (λ (k : ℕ). k < 4294967296) (λ is. omega arith) (λ off. other (λ is. not_so (sym (eq-eqb n 4294967295 is) ∙ off)))
  where
    not_so : true ≡ false → ⊥
    not_so is = absurd cc

    other : (n ≡ 4294967295 → ⊥) → n + 1 < 4294967296
    other ne = grind (arith, ne, less)

-- ---- what holds

pub record Stands (fresh : Fresh) (files : List ServedFile) (calls : List AwaitedCall) (ss : List MdsSend) : Type 0 where
  pub drawn_from_first : 65536 ≤ fresh.uid
  pub agree : AllOf FileAgrees files
  pub fits : AllOf UidDrawn files
  pub seqids : AllOf FitsSeqid files
  pub holders : has_fresh fresh ≡ true → AllOf HolderHolds files
  pub were : WereSent calls ss

abbrev pub IsSo : MdsValue → List Entry → List MdsSend → Type 0
IsSo m es ss = Stands m.fresh m.files m.calls ss

pub at_file : (P : ServedFile → Type 0) (m : MdsValue) (file : FileId) (s : ServedFile) → served m file ≡ Some s → AllOf P m.files → P s
at_file P m file s at all = all_got P m.files (file.0 - 1) s all (place_served m file s at).1

-- a file is put back with the same layout and holder
put : (m : MdsValue) (file : FileId) (s t : ServedFile) (calls : List AwaitedCall) (ss ts : List MdsSend) → served m file ≡ Some s → t.file.layout ≡ s.file.layout → t.holder ≡ s.holder → t.seqid ≡ s.seqid → FileAgrees t
    → WereSent calls ts → Stands m.fresh m.files m.calls ss → Stands m.fresh (slice_set m.files (file.0 - 1) t) calls ts
put m file s t calls ss ts at same holder seqid agrees were i = record {
  drawn_from_first = i.drawn_from_first;
  agree = all_set FileAgrees m.files (file.0 - 1) t i.agree agrees;
  fits = all_set UidDrawn m.files (file.0 - 1) t i.fits (λ uid is. at_file UidDrawn m file s at i.fits uid (sym (ap (λ (l : LayoutState). uid_of Ends l) same) ∙ is));
  seqids = all_set FitsSeqid m.files (file.0 - 1) t i.seqids (subst (λ (n : ℕ). n < 4294967296) (sym seqid) (at_file FitsSeqid m file s at i.seqids));
  holders = λ fresh.
      all_set HolderHolds m.files (file.0 - 1) t (i.holders fresh)
      (λ client is. subst (λ (l : LayoutState). IsByClient l.phase) (sym same) (at_file HolderHolds m file s at (i.holders fresh) client (sym holder ∙ is)));
  were = were;
}

-- with the same file within
puts : (m : MdsValue) (file : FileId) (s t : ServedFile) (calls : List AwaitedCall) (ss ts : List MdsSend) → served m file ≡ Some s → t.file ≡ s.file → t.holder ≡ s.holder → t.seqid ≡ s.seqid → WereSent calls ts
    → Stands m.fresh m.files m.calls ss → Stands m.fresh (slice_set m.files (file.0 - 1) t) calls ts
puts m file s t calls ss ts at same holder seqid were i =
    put m file s t calls ss ts at (ap (λ (f : MdsFile). f.layout) same) holder seqid (subst (λ (f : MdsFile). Agrees f.activity f.layout.phase) (sym same) (at_file FileAgrees m file s at i.agree)) were i

pub inputs : (m : MdsValue) (file : FileId) (s : ServedFile) (input : FileInput) → served m file ≡ Some s → (es : List Entry) (ss : List MdsSend) → IsSo m es ss
    → IsSo (file_stepped m file s (phase file s.file input m.fresh)).mds (es ++ (phase file s.file input m.fresh).entries) ss
inputs m file s input at es ss i =
    let step : FileStep = phase file s.file input m.fresh in
    let n : MdsValue = with_served (record m { fresh = drawn m.fresh step }) file (file_behind s step) in
    let its : FileAgrees s = at_file FileAgrees m file s at i.agree in
    let new : Stands n.fresh n.files n.calls ss = record {
      drawn_from_first = let first : 65536 ≤ m.fresh.uid = i.drawn_from_first in omega (arith, first);
      agree = all_set FileAgrees m.files (file.0 - 1) (file_behind s step) i.agree (phase_uses Ends file m.fresh s.file input its).1;
      fits = all_set UidDrawn m.files (file.0 - 1) (file_behind s step) i.fits (behind_drawn file m.fresh s input i.drawn_from_first its (at_file UidDrawn m file s at i.fits));
      seqids = all_set FitsSeqid m.files (file.0 - 1) (file_behind s step) i.seqids (at_file FitsSeqid m file s at i.seqids);
      holders = λ fresh.
          let all : AllOf HolderHolds m.files = i.holders (drawn_from m.fresh step fresh) in
          all_set HolderHolds m.files (file.0 - 1) (file_behind s step) all (behind_holds file m.fresh s input its (at_file HolderHolds m file s at all));
      were = i.were;
    } in
    cond_both (list_any is_period_end step.entries) (record n { recalls = without_file file n.recalls }) n (λ (x : MdsValue). Stands x.fresh x.files x.calls ss) (λ end. new) (λ off. new)

asked : (m : MdsValue) (file : FileId) (input : FileInput) (o : Option ServedFile) → served m file ≡ o → (ss : List MdsSend) → Stands m.fresh m.files m.calls ss
    → Stands (input_at m file input o).mds.fresh (input_at m file input o).mds.files (input_at m file input o).mds.calls ss
asked m file input None at ss i = i
asked m file input (Some s) at ss i =
    cond_both (has_fresh m.fresh) (file_stepped m file s (phase file s.file input m.fresh)) (sends_none m) (λ (x : MdsStep). Stands x.mds.fresh x.mds.files x.mds.calls ss) (λ fresh. inputs m file s input at [] ss i) (λ off. i)

-- a client is given the file
held_again : (m : MdsValue) (file : FileId) (s : ServedFile) (client : ℕ) (again : Bool) → served m file ≡ Some s → FitsSeqid (with_holder client again s) → (has_fresh m.fresh ≡ true → IsByClient s.file.layout.phase) → (ss : List MdsSend) → Stands m.fresh m.files m.calls ss
    → Stands m.fresh (slice_set m.files (file.0 - 1) (with_holder client again s)) m.calls ss
held_again m file s client again at few held ss i = record {
  drawn_from_first = i.drawn_from_first;
  agree = all_set FileAgrees m.files (file.0 - 1) (with_holder client again s) i.agree (at_file FileAgrees m file s at i.agree);
  fits = all_set UidDrawn m.files (file.0 - 1) (with_holder client again s) i.fits (at_file UidDrawn m file s at i.fits);
  seqids = all_set FitsSeqid m.files (file.0 - 1) (with_holder client again s) i.seqids few;
  holders = λ fresh. all_set HolderHolds m.files (file.0 - 1) (with_holder client again s) (i.holders fresh) (λ other is. held fresh);
  were = i.were;
}

again_to : (m : MdsValue) (file : FileId) (s : ServedFile) (client : ℕ) → served m file ≡ Some s → s.holder ≡ Some client → (ss : List MdsSend) → Stands m.fresh m.files m.calls ss
    → Stands m.fresh (slice_set m.files (file.0 - 1) (with_holder client true s)) m.calls ss
again_to m file s client at its ss i = held_again m file s client true at (next_fits s.seqid (at_file FitsSeqid m file s at i.seqids)) (λ fresh. at_file HolderHolds m file s at (i.holders fresh) client its) ss i

pub grants : (m : MdsValue) (file : FileId) (n client : ℕ) (t : ServedFile) → ((s : ServedFile) → served m file ≡ Some s → (s.file.layout.phase ≡ Free) × (are_spent m.fresh ≡ false))
    → served (takes_input m file (AsksLayout n)).mds file ≡ Some t → (es : List Entry) (ss : List MdsSend) → IsSo m es ss
    → IsSo (with_served (takes_input m file (AsksLayout n)).mds file (with_holder client false t)) (es ++ (takes_input m file (AsksLayout n)).entries) ss
grants m file n client t was at es ss i =
    held_again (takes_input m file (AsksLayout n)).mds file t client false at (omega arith)
    (λ fresh.
    let a : IsAsked m file n t = asked_is m file n t (fresh_before m file (AsksLayout n) (served m file) fresh) was at in
    subst (λ (x : ServedFile). IsByClient x.file.layout.phase) (sym a.is) (record { node = n; is_recalled = false; is = refl }))
    ss (asked m file (AsksLayout n) (served m file) refl ss i)

makes : (m : MdsValue) (name : List ℕ) (es : List Entry) (ss : List MdsSend) → IsSo m es ss → IsSo (with_new_file m name) es ss
makes m name es ss i = record {
  drawn_from_first = let first : 65536 ≤ m.fresh.uid = i.drawn_from_first in omega (arith, first);
  agree = all_push FileAgrees m.files new i.agree refl;
  fits = all_push UidDrawn m.files new i.fits (λ uid is. subst (λ (n : ℕ). 65536 ≤ n) (same_Some m.fresh.uid uid is) i.drawn_from_first);
  seqids = all_push FitsSeqid m.files new i.seqids (omega arith);
  holders = λ fresh. all_push HolderHolds m.files new (i.holders (fresh_from m.fresh (with_new_file m name).fresh (omega arith) (omega arith) fresh)) (λ client is. absurd (none-some client is));
  were = i.were;
}
  where
    new : ServedFile
    new = new_served name (new_mds_file m.fresh (servers_of (length m.servers) m.mirrors (length m.files + 1)))

pub sends : (m : MdsValue) (ss : List MdsSend) (s : MdsSend) → Stands m.fresh m.files m.calls ss → Stands m.fresh m.files m.calls (ss ++ s ∷ [])
sends m ss s i = record { drawn_from_first = i.drawn_from_first; agree = i.agree; fits = i.fits; seqids = i.seqids; holders = i.holders; were = sent_more m.calls ss s i.were }

pub cases : Cases IsSo HeardAny AnyCompound
cases = record {
  wait = λ m es ss i file s at. record { reads_so = λ r inside. tt; write_so = λ w is. tt };
  quiet = λ m confirmed opens reclaimed recalls old es ss i. i;
  tables = λ m move is es ss i. i;
  notes = λ m e note es ss i. i;
  puts = λ m file s t at same holder seqid write waits es ss i. puts m file s t m.calls ss ss at same holder seqid i.were i;
  again_to = λ m file s client at its es ss i. again_to m file s client at its ss i;
  grants = λ m file n client t from free was at es ss i. grants m file n client t was at es ss i;
  inputs = λ m file s input itself at fresh es ss i. inputs m file s input at es ss i;
  own_ends = λ m file s failures place bytes at fresh es ss i. inputs m file s (OwnEnds (failures_by_place failures s.file.layout.live) place bytes) at es ss i;
  timeouts = λ m file s xid at fresh es ss i. inputs m file s (TimesOut xid) at es ss i;
  hears = λ m file s call server own uid c replies heard caller sent out at fresh es ss i. inputs m file s (IsAnswer call.xid (own_answer c (replies c))) at es ss i;
  learns = λ m file s call server own uid c replies fileid shown heard caller sent named shows at fresh es ss i. inputs m file s (Sees (record { server = server; fileid = fileid }) shown.seen) at es ss i;
  makes = λ m name may. makes m name;
  calls_file = λ m file s c at has its es ss i.
      let call : AwaitedCall = record { node = Server c.server; xid = m.next_xid; caller = ForFile file; sent = CallsServer c.server m.next_xid c.uid c.call } in
      put m file s (record s { file = c.file }) (with_call call m.calls) ss (ss ++ call.sent ∷ []) at (out_layout s.file m.next_xid c its) refl refl (out_agrees s.file m.next_xid c (at_file FileAgrees m file s at i.agree) its) (sent_with m.calls ss call i.were) i;
  calls_write = λ m file s w c at has waits its is_write es ss i.
      let call : AwaitedCall = record { node = Server c.id.server; xid = m.next_xid; caller = ForWrite file; sent = CallsServer c.id.server m.next_xid w.writer.cred c.call } in
      puts m file s (record s { write = Some (record w { writer = c.writer }) }) (with_call call m.calls) ss (ss ++ call.sent ∷ []) at refl refl refl (sent_with m.calls ss call i.were) i;
  calls_read = λ m file s t server call at has same holder seqid write waits kept uid is_read es ss i.
      let out : AwaitedCall = record { node = Server server; xid = m.next_xid; caller = ForRead file; sent = CallsServer server m.next_xid 0 call } in
      puts m file s t (with_call out m.calls) ss (ss ++ out.sent ∷ []) at same holder seqid (sent_with m.calls ss out i.were) i;
  calls_back = λ m node back file stateid has es ss i. record {
    drawn_from_first = i.drawn_from_first;
    agree = i.agree;
    fits = i.fits;
    seqids = i.seqids;
    holders = i.holders;
    were = sent_with m.calls ss (record { node = node; xid = m.next_xid; caller = ForRecall; sent = CallsBack m.next_xid back file stateid }) i.were;
  };
  skips = λ m has es ss i. i;
  forgets = λ m test es ss i. record { drawn_from_first = i.drawn_from_first; agree = i.agree; fits = i.fits; seqids = i.seqids; holders = i.holders; were = sent_kept test m.calls ss i.were };
  was = λ m es ss i. i.were;
  again = λ m s es ss i inside. sends m ss s i;
}

pub runs : RunCases IsSo AnyCompound
runs = record {
  replies = λ m node xid results es ss i. sends m ss (Replies node (success_reply xid results)) i;
  finishes = λ m pass bytes es ss i. i;
  returns = λ m file s n cred errors at fresh es ss i. inputs m file s (Returns n cred (report_of errors s.file.layout.live)) at es ss i;
  confirms = λ m client node es ss i. i;
  destroys = λ m session es ss i. i;
  any = λ c. tt;
}

pub new_stands : (servers : List AddressValue) (mirrors : ℕ) → IsSo (new_mds servers mirrors) [] []
new_stands servers mirrors = record { drawn_from_first = omega arith; agree = tt; fits = tt; seqids = tt; holders = λ fresh. tt; were = λ call inside. absurd inside }

behind_run : (servers : List AddressValue) (mirrors : ℕ) (events : List MdsEvent) → Stands (mds_run servers mirrors events).mds.fresh (mds_run servers mirrors events).mds.files (mds_run servers mirrors events).mds.calls (mds_run servers mirrors events).sends
behind_run servers mirrors events =
    in_each_run IsSo AnyCompound cases runs (λ m node bytes reply is es ss i. sends m ss (Answers node bytes) i) (λ m request now es ss i. i) (new_mds servers mirrors) events
    (new_stands servers mirrors)

-- ---- behind each run

pub holder_holds : (servers : List AddressValue) (mirrors : ℕ) (events : List MdsEvent) → has_fresh (server_after servers mirrors events).fresh ≡ true → (file : FileId) (s : ServedFile)
    → served (server_after servers mirrors events) file ≡ Some s → HolderHolds s
holder_holds servers mirrors events fresh file s at = at_file HolderHolds (server_after servers mirrors events) file s at ((behind_run servers mirrors events).holders fresh)

-- the uid under which a client holds a file
pub uid_was_drawn : (servers : List AddressValue) (mirrors : ℕ) (events : List MdsEvent) (file : FileId) (s : ServedFile) → served (server_after servers mirrors events) file ≡ Some s → IsByClient s.file.layout.phase → 65536 ≤ s.file.layout.cred.0
uid_was_drawn servers mirrors events file s at held = at_file UidDrawn (server_after servers mirrors events) file s at (behind_run servers mirrors events).fits s.file.layout.cred.0 (ap (uid_by Ends s.file.layout.cred) held.is)

pub seqid_fits : (servers : List AddressValue) (mirrors : ℕ) (events : List MdsEvent) (file : FileId) (s : ServedFile) → served (server_after servers mirrors events) file ≡ Some s → s.seqid < 4294967296
seqid_fits servers mirrors events file s at = at_file FitsSeqid (server_after servers mirrors events) file s at (behind_run servers mirrors events).seqids
