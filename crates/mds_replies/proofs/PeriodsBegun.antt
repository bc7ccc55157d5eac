-- In every run a client's period was granted with the live mirrors that its file has.
use Rattle.std.proofs.Common.{◌≡◌, ◌≤◌, ℕ, zero, suc, ◌+◌, ◌-◌, Bool, true, false, List, [], ◌∷◌, ◌++◌, length, Option, Some, None, refl, sym, ap, subst, ◌∙◌, inl, inr, ◌⊎◌, arith}
use Rattle.std.specs.Prelude.{◌==◌, map, slice_get, slice_set}
use Rattle.std.specs.List.{list_any, AllByRecursion, range_with_len}
use Rattle.std.proofs.lemmas.Bool.{cond_both, cases_eq}
use Rattle.std.proofs.lemmas.List.{append-nil, length-map}
use Rattle.std.proofs.lemmas.Option.{same_Some, none-some}
use Rattle.cluster_model.specs.declared.ids.NodeId.TheVariants.{Server, Client}
use Rattle.cluster_model.specs.declared.ids.FileId.{FileId}
use Rattle.cluster_model.specs.declared.entry.Entry.{Entry}
use Rattle.cluster_model.proofs.Elements.{slice_get-set_other, slice_get-set_same, slice_get-push, Pushed, Old, New, pushed}
use Rattle.file_rule.specs.MdsFiles.{MdsFile, FileStep}
use Rattle.file_rule.specs.FilePhases.{FileInput, AsksLayout, Returns, OwnEnds, Answers as IsAnswer, TimesOut, Sees, new_mds_file, phase, creations_at}
use Rattle.cluster_model.specs.declared.layout_state.LayoutPhase.TheVariants.{Making, Held}
use Rattle.cluster_model.specs.declared.call_stage.CallStage.TheVariants.{Waits}
use Rattle.cluster_model.specs.Phases.{ids_of}
use Rattle.file_rule.specs.declared.creation.Creation.{Creation}
use Rattle.mds_rows.specs.Draws.{drawn}
use Rattle.recall.specs.Recalls.{without_file}
use Rattle.device_addr.specs.Universal.{AddressValue}
use Rattle.layout_report.specs.Reports.{report_of}
use Rattle.mds_rule.specs.Answers.{own_answer, failures_by_place}
use Rattle.compound_reply.specs.Replied.{success_reply}
use Rattle.mds_rule.specs.MdsStates.{ServedFile, MdsSend, CallsServer, CallsBack, Replies, Answers, AwaitedCall, MdsValue, MdsStep, sends_none, with_call, served, with_served, new_mds}
use Rattle.mds_rule.specs.declared.waiter.Waiter.TheVariants.{ForFile, ForRead, ForWrite, ForRecall}
use Rattle.mds_rule.specs.ServedFiles.{has_fresh, is_period_end, file_behind, file_stepped, input_at, takes_input}
use Rattle.mds_rule.specs.FileOps.{nth_server, servers_of, new_served, with_new_file}
use Rattle.mds_rule.specs.LayoutOps.{with_holder}
use Rattle.mds_walk.specs.MdsRuns.{MdsEvent, mds_run}
use Rattle.mds_laws.proofs.Keeping.{is_note}
use Rattle.mds_walk.proofs.Parts.{HeardAny, AnyCompound}
use Rattle.mds_laws.proofs.Numbers.{WereSent, sent_more, sent_with, sent_kept}
use Rattle.cluster_laws.specs.FenceLaw.{live_in}
use Rattle.cluster_laws.proofs.Journals.{live_append}
use Rattle.cluster_laws.proofs.FewMirrors.{FileHasFew}
use Rattle.mds_replies.specs.ClientCalls.{server_after}
use Rattle.mds_replies.specs.PeriodEntries.{IsBegun, PeriodsBegin}
use Rattle.mds_replies.proofs.HolderCases.{Cases, RunCases, is_plain_input}
use Rattle.mds_replies.proofs.GoesWalk.{in_each_run}
use Rattle.mds_replies.proofs.PeriodKept.{at_place, is_some_number}
use Rattle.mds_replies.proofs.MirrorsTold.{IsOf, LeaveSo, Tells, phase_tells}
use Rattle.mds_replies.proofs.MirrorsLeave.{failures_leave, reports_leave}
use Rattle.mds_replies.proofs.BegunPeriods.{SoAt, so_more, so_behind, so_out, other_live, note_live}

abbrev id_of : ℕ → FileId
id_of j = record { 0 = j + 1 }

file_at : (file : FileId) → (file.0 == 0) ≡ false → id_of (file.0 - 1) ≡ file
file_at file some = ap (λ (n : ℕ). record { 0 = n }) (number (is_some_number file.0 some))
  where
    number : (file.0 ≡ 0 → ⊥) → file.0 - 1 + 1 ≡ file.0
    number ne = grind (arith, ne)

record Mine (mirrors : ℕ) (files : List ServedFile) (es : List Entry) : Type 0 where
  pub limit : mirrors ≤ 4
  pub at : (j : ℕ) (s : ServedFile) → slice_get files j ≡ Some s → SoAt es (id_of j) s.file
  pub none : (j : ℕ) → slice_get files j ≡ None → live_in es (id_of j) ≡ None

record Stands (mirrors : ℕ) (files : List ServedFile) (calls : List AwaitedCall) (es : List Entry) (ss : List MdsSend) : Type 0 where
  pub mine : Mine mirrors files es
  pub were : WereSent calls ss

abbrev IsSo : MdsValue → List Entry → List MdsSend → Type 0
IsSo m es ss = Stands m.mirrors m.files m.calls es ss

set : (mirrors : ℕ) (files : List ServedFile) (es more : List Entry) (p : ℕ) (s t : ServedFile) → slice_get files p ≡ Some s → AllByRecursion (IsOf (id_of p)) more → SoAt (es ++ more) (id_of p) t.file → Mine mirrors files es
    → Mine mirrors (slice_set files p t) (es ++ more)
set mirrors files es more p s t there own so i = record {
  limit = i.limit;
  at = λ j x got. by_place j x got (cases_eq j p);
  none = λ j off. by_none j off (cases_eq j p);
}
  where
    apart : (j : ℕ) → (j ≡ p → ⊥) → (id_of p).0 ≡ (id_of j).0 → ⊥
    apart j ne same = ne (omega (arith, same))

    by_place : (j : ℕ) (x : ServedFile) → slice_get (slice_set files p t) j ≡ Some x → (j ≡ p) ⊎ (j ≡ p → ⊥) → SoAt (es ++ more) (id_of j) x.file
    by_place j x got (inl same) =
        let one : t ≡ x = same_Some t x (sym (slice_get-set_same files p s t there) ∙ ap (slice_get (slice_set files p t)) (sym same) ∙ got) in
        subst (λ (k : ℕ). SoAt (es ++ more) (id_of k) x.file) (sym same) (subst (λ (y : ServedFile). SoAt (es ++ more) (id_of p) y.file) one so)
    by_place j x got (inr ne) = so_more es more (id_of j) x.file (λ was. other_live (id_of p) (id_of j) more own (apart j ne) was) (i.at j x (sym (slice_get-set_other files p j t ne) ∙ got))

    by_none : (j : ℕ) → slice_get (slice_set files p t) j ≡ None → (j ≡ p) ⊎ (j ≡ p → ⊥) → live_in (es ++ more) (id_of j) ≡ None
    by_none j off (inl same) = absurd (none-some t (sym off ∙ ap (slice_get (slice_set files p t)) same ∙ slice_get-set_same files p s t there))
    by_none j off (inr ne) =
        live_append (id_of j) None es more ∙ other_live (id_of p) (id_of j) more own (apart j ne) (live_in es (id_of j)) ∙ i.none j (sym (slice_get-set_other files p j t ne) ∙ off)

put : (m : MdsValue) (file : FileId) (s t : ServedFile) (es : List Entry) → served m file ≡ Some s → (SoAt es (id_of (file.0 - 1)) s.file → SoAt es (id_of (file.0 - 1)) t.file) → Mine m.mirrors m.files es → Mine m.mirrors (slice_set m.files (file.0 - 1) t) es
put m file s t es at becomes i =
    let there = (at_place m.files file s at).1 in
    subst (λ (l : List Entry). Mine m.mirrors (slice_set m.files (file.0 - 1) t) l) (append-nil es)
    (set m.mirrors m.files es [] (file.0 - 1) s t there tt (subst (λ (l : List Entry). SoAt l (id_of (file.0 - 1)) t.file) (sym (append-nil es)) (becomes (i.at (file.0 - 1) s there))) i)

puts : (m : MdsValue) (file : FileId) (s t : ServedFile) (es : List Entry) → served m file ≡ Some s → t.file ≡ s.file → Mine m.mirrors m.files es → Mine m.mirrors (slice_set m.files (file.0 - 1) t) es
puts m file s t es at same i = put m file s t es at (λ so. subst (λ (f : MdsFile). SoAt es (id_of (file.0 - 1)) f) (sym same) so) i

inputs : (m : MdsValue) (file : FileId) (s : ServedFile) (input : FileInput) → (length s.file.layout.live ≤ 4 → LeaveSo file s.file input) → served m file ≡ Some s → (es : List Entry) (ss : List MdsSend) → IsSo m es ss
    → IsSo (file_stepped m file s (phase file s.file input m.fresh)).mds (es ++ (phase file s.file input m.fresh).entries) ss
inputs m file s input leave at es ss i =
    let step : FileStep = phase file s.file input m.fresh in
    let n : MdsValue = with_served (record m { fresh = drawn m.fresh step }) file (file_behind s step) in
    let there = at_place m.files file s at in
    let one : id_of (file.0 - 1) ≡ file = file_at file there.0 in
    let so : SoAt es file s.file = subst (λ (g : FileId). SoAt es g s.file) one (i.mine.at (file.0 - 1) s there.1) in
    let leaves : LeaveSo file s.file input = leave so.few.mirrors.few_live in
    let t : Tells file s.file.layout step = phase_tells file m.fresh s.file input so.fits leaves in
    let new : Stands n.mirrors n.files n.calls (es ++ step.entries) ss = record {
      mine = set m.mirrors m.files es step.entries (file.0 - 1) s (file_behind s step) there.1 (subst (λ (g : FileId). AllByRecursion (IsOf g) step.entries) (sym one) t.own)
          (subst (λ (g : FileId). SoAt (es ++ step.entries) g step.file) (sym one) (so_behind file m.fresh es s.file input leaves so)) i.mine;
      were = i.were;
    } in
    cond_both (list_any is_period_end step.entries) (record n { recalls = without_file file n.recalls }) n (λ (x : MdsValue). Stands x.mirrors x.files x.calls (es ++ step.entries) ss) (λ end. new) (λ off. new)

-- an input that says of no mirror that it leaves
unasked_leave : (file : FileId) (f : MdsFile) (input : FileInput) → is_plain_input input ≡ true → LeaveSo file f input
unasked_leave file f (Returns client claimed places) is = absurd cc
unasked_leave file f (OwnEnds causes at bytes) is = absurd cc
unasked_leave file f input is = tt

asked : (m : MdsValue) (file : FileId) (n : ℕ) (o : Option ServedFile) → served m file ≡ o → (es : List Entry) (ss : List MdsSend) → IsSo m es ss → IsSo (input_at m file (AsksLayout n) o).mds (es ++ (input_at m file (AsksLayout n) o).entries) ss
asked m file n None at es ss i = subst (λ (l : List Entry). IsSo m l ss) (sym (append-nil es)) i
asked m file n (Some s) at es ss i =
    cond_both (has_fresh m.fresh) (file_stepped m file s (phase file s.file (AsksLayout n) m.fresh)) (sends_none m) (λ (x : MdsStep). IsSo x.mds (es ++ x.entries) ss) (λ fresh. inputs m file s (AsksLayout n) (λ few. tt) at es ss i)
    (λ off. subst (λ (l : List Entry). IsSo m l ss) (sym (append-nil es)) i)

so_many : (f : ℕ → ℕ) (start k : ℕ) → length (map f (range_with_len start k)) ≡ k
so_many f start zero = refl
so_many f start (suc k) = let more = so_many f (start + 1) k in omega (arith, more)

past_end : (xs : List ServedFile) → slice_get xs (length xs) ≡ None
past_end [] = refl
past_end (x ∷ xs) = past_end xs

making_held : (node : ℕ) (is_recalled : Bool) → Making ≡ Held (Client node) is_recalled → ⊥
making_held node is_recalled is = absurd cc

makes : (m : MdsValue) (name : List ℕ) (es : List Entry) → Mine m.mirrors m.files es → Mine m.mirrors (with_new_file m name).files es
makes m name es i = record { limit = i.limit; at = λ j x got. by_place j x (pushed m.files new j x got); none = λ j off. by_old j off (slice_get m.files j) refl }
  where
    new : ServedFile
    new = new_served name (new_mds_file m.fresh (servers_of (length m.servers) m.mirrors (length m.files + 1)))

    few_so : FileHasFew (new_mds_file m.fresh (servers_of (length m.servers) m.mirrors (length m.files + 1)))
    few_so =
        let servers : List ℕ = servers_of (length m.servers) m.mirrors (length m.files + 1) in
        let limit : m.mirrors ≤ 4 = i.limit in
        let all : length servers ≡ m.mirrors = so_many (nth_server (length m.servers) (length m.files + 1)) 0 m.mirrors in
        let same : length (creations_at m.fresh.name servers) ≡ length servers = length-map {B = Creation} servers (λ n. record { server = n; name = m.fresh.name; stage = Waits; made = None }) in
        record { mirrors = record { few_wanted = omega (arith, limit, all); few_live = omega arith }; room = omega (arith, limit, all, same) }

    by_place : (j : ℕ) (x : ServedFile) → Pushed m.files new j x → SoAt es (id_of j) x.file
    by_place j x (Old was) = i.at j x was
    by_place j x (New is its) =
        subst (λ (y : ServedFile). SoAt es (id_of j) y.file) (sym its)
        (record { told_so = i.none j (ap (slice_get m.files) is ∙ past_end m.files); fits = refl; few = few_so; begun = λ node is_recalled at. absurd (making_held node is_recalled at) })

    by_old : (j : ℕ) → slice_get (m.files ++ new ∷ []) j ≡ None → (o : Option ServedFile) → slice_get m.files j ≡ o → live_in es (id_of j) ≡ None
    by_old j off None at = i.none j at
    by_old j off (Some x) at = absurd (none-some x (sym off ∙ slice_get-push m.files j x new at))

sends : (m : MdsValue) (es : List Entry) (ss : List MdsSend) (s : MdsSend) → IsSo m es ss → IsSo m es (ss ++ s ∷ [])
sends m es ss s i = record { mine = i.mine; were = sent_more m.calls ss s i.were }

noted : (mirrors : ℕ) (files : List ServedFile) (es : List Entry) (e : Entry) → is_note e ≡ true → Mine mirrors files es → Mine mirrors files (es ++ e ∷ [])
noted mirrors files es e note i = record {
  limit = i.limit;
  at = λ j x got. so_more es (e ∷ []) (id_of j) x.file (λ was. note_live (id_of j) e note was) (i.at j x got);
  none = λ j off. live_append (id_of j) None es (e ∷ []) ∙ note_live (id_of j) e note (live_in es (id_of j)) ∙ i.none j off;
}

called : (mirrors : ℕ) (files : List ServedFile) (calls : List AwaitedCall) (call : AwaitedCall) (es : List Entry) (ss : List MdsSend) → Mine mirrors files es → WereSent calls ss → Stands mirrors files (with_call call calls) (es ++ []) (ss ++ call.sent ∷ [])
called mirrors files calls call es ss mine were = subst (λ (l : List Entry). Stands mirrors files (with_call call calls) l (ss ++ call.sent ∷ [])) (sym (append-nil es)) (record { mine = mine; were = sent_with calls ss call were })

cases : Cases IsSo HeardAny AnyCompound
cases = record {
  wait = λ m es ss i file s at. record { reads_so = λ r inside. tt; write_so = λ w is. tt };
  quiet = λ m confirmed opens reclaimed recalls old es ss i. i;
  tables = λ m move is es ss i. i;
  notes = λ m e note es ss i. record { mine = noted m.mirrors m.files es e note i.mine; were = i.were };
  puts = λ m file s t at same holder seqid write waits es ss i. record { mine = puts m file s t es at same i.mine; were = i.were };
  again_to = λ m file s client at its es ss i. record { mine = puts m file s (with_holder client true s) es at refl i.mine; were = i.were };
  grants = λ m file n client t from free was at es ss i.
      let x : MdsStep = takes_input m file (AsksLayout n) in
      let b : IsSo x.mds (es ++ x.entries) ss = asked m file n (served m file) refl es ss i in
      record { mine = puts x.mds file t (with_holder client false t) (es ++ x.entries) at refl b.mine; were = b.were };
  inputs = λ m file s input itself at fresh es ss i. inputs m file s input (λ few. unasked_leave file s.file input itself) at es ss i;
  own_ends = λ m file s failures place bytes at fresh es ss i. inputs m file s (OwnEnds (failures_by_place failures s.file.layout.live) place bytes) (λ few. failures_leave file failures s.file.layout.live few) at es ss i;
  timeouts = λ m file s xid at fresh es ss i. inputs m file s (TimesOut xid) (λ few. tt) at es ss i;
  hears = λ m file s call server own uid c replies heard caller sent out at fresh es ss i. inputs m file s (IsAnswer call.xid (own_answer c (replies c))) (λ few. tt) at es ss i;
  learns = λ m file s call server own uid c replies fileid shown heard caller sent named shows at fresh es ss i. inputs m file s (Sees (record { server = server; fileid = fileid }) shown.seen) (λ few. tt) at es ss i;
  makes = λ m name may es ss i. record { mine = makes m name es i.mine; were = i.were };
  calls_file = λ m file s c at has its es ss i.
      called m.mirrors (slice_set m.files (file.0 - 1) (record s { file = c.file })) m.calls (record { node = Server c.server; xid = m.next_xid; caller = ForFile file; sent = CallsServer c.server m.next_xid c.uid c.call }) es ss
      (put m file s (record s { file = c.file }) es at (λ so. so_out es (id_of (file.0 - 1)) s.file m.next_xid c its so) i.mine) i.were;
  calls_write = λ m file s w c at has waits its is_write es ss i.
      called m.mirrors (slice_set m.files (file.0 - 1) (record s { write = Some (record w { writer = c.writer }) })) m.calls
      (record { node = Server c.id.server; xid = m.next_xid; caller = ForWrite file; sent = CallsServer c.id.server m.next_xid w.writer.cred c.call }) es ss
      (puts m file s (record s { write = Some (record w { writer = c.writer }) }) es at refl i.mine) i.were;
  calls_read = λ m file s t server call at has same holder seqid write waits kept uid is_read es ss i.
      called m.mirrors (slice_set m.files (file.0 - 1) t) m.calls (record { node = Server server; xid = m.next_xid; caller = ForRead file; sent = CallsServer server m.next_xid 0 call }) es ss (puts m file s t es at same i.mine) i.were;
  calls_back = λ m node back file stateid has es ss i. called m.mirrors m.files m.calls (record { node = node; xid = m.next_xid; caller = ForRecall; sent = CallsBack m.next_xid back file stateid }) es ss i.mine i.were;
  skips = λ m has es ss i. i;
  forgets = λ m test es ss i. record { mine = i.mine; were = sent_kept test m.calls ss i.were };
  was = λ m es ss i. i.were;
  again = λ m s es ss i inside. sends m es ss s i;
}

runs : RunCases IsSo AnyCompound
runs = record {
  replies = λ m node xid results es ss i. sends m es ss (Replies node (success_reply xid results)) i;
  finishes = λ m pass bytes es ss i. i;
  returns = λ m file s n cred errors at fresh es ss i. inputs m file s (Returns n cred (report_of errors s.file.layout.live)) (λ few. reports_leave file errors s.file.layout.live few) at es ss i;
  confirms = λ m client node es ss i. i;
  destroys = λ m session es ss i. i;
  any = λ c. tt;
}

-- a file behind each run
pub so_behind_run : (servers : List AddressValue) (mirrors : ℕ) (events : List MdsEvent) → mirrors ≤ 4 → (file : FileId) (s : ServedFile) → served (server_after servers mirrors events) file ≡ Some s
    → SoAt (mds_run servers mirrors events).entries file s.file
so_behind_run servers mirrors events few file s at =
    let i = in_each_run IsSo AnyCompound cases runs (λ m node bytes reply is es ss k. sends m es ss (Answers node bytes) k) (λ m request now es ss k. k) (new_mds servers mirrors) events
    (record { mine = record { limit = few; at = λ j x got. absurd (none-some x got); none = λ j off. refl }; were = λ call inside. absurd inside }) in
    let there = at_place (server_after servers mirrors events).files file s at in
    subst (λ (g : FileId). SoAt (mds_run servers mirrors events).entries g s.file) (file_at file there.0) (i.mine.at (file.0 - 1) s there.1)

pub periods_begin : PeriodsBegin
periods_begin servers mirrors events file client uid few calls p =
    subst (λ (n : ℕ). IsBegun (mds_run servers mirrors events).entries file n p.node (ids_of p.file_is.file.layout.live)) p.its_uid
    ((so_behind_run servers mirrors events few file p.file_is p.there).begun p.node p.is_recalled p.phase)
