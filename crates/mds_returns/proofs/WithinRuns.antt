-- In every run the live list that the entries tell of a file has none but mirrors of the file.
use Rattle.std.proofs.Common.{◌≡◌, ℕ, ◌+◌, ◌-◌, true, false, List, [], ◌∷◌, ◌++◌, length, Option, Some, None, refl, sym, ap, subst, ◌∙◌, inl, inr, ◌⊎◌, arith}
use Rattle.std.specs.Prelude.{◌==◌, slice_get, slice_set}
use Rattle.std.specs.List.{list_any, AllByRecursion}
use Rattle.std.proofs.lemmas.Bool.{cond_both, cases_eq}
use Rattle.std.proofs.lemmas.List.{append-nil}
use Rattle.std.proofs.lemmas.Option.{same_Some, none-some}
use Rattle.cluster_model.specs.declared.ids.NodeId.TheVariants.{Server}
use Rattle.cluster_model.specs.declared.ids.FileId.{FileId}
use Rattle.cluster_model.specs.declared.ids.MirrorId.{MirrorId}
use Rattle.cluster_model.specs.declared.entry.Entry.{Entry}
use Rattle.cluster_model.specs.declared.layout_state.LayoutState.{LayoutState}
use Rattle.cluster_model.proofs.Elements.{slice_get-set_other, slice_get-set_same, slice_get-push, Pushed, Old, New, pushed}
use Rattle.file_rule.specs.MdsFiles.{MdsFile, FileStep}
use Rattle.file_rule.specs.FilePhases.{FileInput, AsksLayout, Returns, OwnEnds, Answers as IsAnswer, TimesOut, Sees, CallOut, call_out, new_mds_file, phase}
use Rattle.file_rule.specs.declared.fresh.Fresh.{Fresh}
use Rattle.mds_rows.specs.Draws.{drawn}
use Rattle.recall.specs.Recalls.{without_file}
use Rattle.layout_report.specs.Reports.{report_of}
use Rattle.device_addr.specs.Universal.{AddressValue}
use Rattle.mds_rule.specs.Answers.{own_answer, failures_by_place}
use Rattle.compound_reply.specs.Replied.{success_reply}
use Rattle.mds_rule.specs.MdsStates.{ServedFile, MdsSend, CallsServer, CallsBack, Replies, Answers, AwaitedCall, MdsValue, MdsStep, sends_none, with_call, served, with_served, new_mds}
use Rattle.mds_rule.specs.declared.waiter.Waiter.TheVariants.{ForFile, ForRead, ForWrite, ForRecall}
use Rattle.mds_rule.specs.ServedFiles.{has_fresh, is_period_end, file_behind, file_stepped, input_at, takes_input}
use Rattle.mds_rule.specs.FileOps.{servers_of, new_served, with_new_file}
use Rattle.mds_rule.specs.LayoutOps.{with_holder}
use Rattle.mds_walk.specs.MdsRuns.{MdsEvent, mds_run}
use Rattle.mds_laws.proofs.Keeping.{is_note}
use Rattle.mds_walk.proofs.Parts.{HeardAny, AnyCompound}
use Rattle.mds_laws.proofs.Numbers.{WereSent, sent_more, sent_with, sent_kept}
use Rattle.cluster_laws.specs.FenceLaw.{live_in, live_by}
use Rattle.cluster_laws.proofs.Journals.{live_append}
use Rattle.mds_replies.specs.ClientCalls.{server_after}
use Rattle.mds_laws.proofs.FileGrants.{out_layout}
use Rattle.mds_replies.proofs.HolderCases.{Cases, RunCases}
use Rattle.mds_replies.proofs.GoesWalk.{in_each_run}
use Rattle.mds_replies.proofs.PeriodKept.{at_place, is_some_number}
use Rattle.mds_replies.proofs.MirrorsTold.{IsOf, told, Fits}
use Rattle.mds_replies.proofs.BegunPeriods.{out_fits, other_live, note_live}
use Rattle.mds_returns.proofs.LiveWithin.{Within, StaysWithin, phase_within}

-- ---- one file

record IsWithin (es : List Entry) (file : FileId) (f : MdsFile) : Type 0 where
  pub live : Within (live_in es file) (told f.layout)
  pub fits : Fits f.layout.phase f.activity

within_more : (es more : List Entry) (g : FileId) (f : MdsFile) → ((was : Option (List MirrorId)) → live_by g was more ≡ was) → IsWithin es g f → IsWithin (es ++ more) g f
within_more es more g f still i = record { live = subst (λ (l : Option (List MirrorId)). Within l (told f.layout)) (sym (live_append g None es more ∙ still (live_in es g))) i.live; fits = i.fits }

within_behind : (file : FileId) (fresh : Fresh) (es : List Entry) (f : MdsFile) (input : FileInput) → IsWithin es file f → IsWithin (es ++ (phase file f input fresh).entries) file (phase file f input fresh).file
within_behind file fresh es f input i =
    let t : StaysWithin file f.layout (phase file f input fresh) = phase_within file fresh f input i.fits in
    record {
      live = subst (λ (l : Option (List MirrorId)). Within l (told (phase file f input fresh).file.layout)) (sym (live_append file None es (phase file f input fresh).entries)) (t.live (live_in es file) i.live);
      fits = t.fits;
    }

within_out : (es : List Entry) (file : FileId) (f : MdsFile) (xid : ℕ) (c : CallOut) → call_out f xid ≡ Some c → IsWithin es file f → IsWithin es file c.file
within_out es file f xid c is i = record { live = subst (λ (l : LayoutState). Within (live_in es file) (told l)) (sym (out_layout f xid c is)) i.live; fits = out_fits f xid c i.fits is }

-- ---- each file, by its place

abbrev id_of : ℕ → FileId
id_of j = record { 0 = j + 1 }

file_at : (file : FileId) → (file.0 == 0) ≡ false → id_of (file.0 - 1) ≡ file
file_at file some = ap (λ (n : ℕ). record { 0 = n }) (number (is_some_number file.0 some))
  where
    number : (file.0 ≡ 0 → ⊥) → file.0 - 1 + 1 ≡ file.0
    number ne = grind (arith, ne)

record AllWithin (files : List ServedFile) (es : List Entry) : Type 0 where
  pub at : (j : ℕ) (s : ServedFile) → slice_get files j ≡ Some s → IsWithin es (id_of j) s.file
  pub none : (j : ℕ) → slice_get files j ≡ None → live_in es (id_of j) ≡ None

record Stands (files : List ServedFile) (calls : List AwaitedCall) (es : List Entry) (ss : List MdsSend) : Type 0 where
  pub all : AllWithin files es
  pub were : WereSent calls ss

abbrev IsSo : MdsValue → List Entry → List MdsSend → Type 0
IsSo m es ss = Stands m.files m.calls es ss

set : (files : List ServedFile) (es more : List Entry) (p : ℕ) (s t : ServedFile) → slice_get files p ≡ Some s → AllByRecursion (IsOf (id_of p)) more → IsWithin (es ++ more) (id_of p) t.file → AllWithin files es → AllWithin (slice_set files p t) (es ++ more)
set files es more p s t there own so i = record { at = λ j x got. by_place j x got (cases_eq j p); none = λ j off. by_none j off (cases_eq j p) }
  where
    apart : (j : ℕ) → (j ≡ p → ⊥) → (id_of p).0 ≡ (id_of j).0 → ⊥
    apart j ne same = ne (omega (arith, same))

    by_place : (j : ℕ) (x : ServedFile) → slice_get (slice_set files p t) j ≡ Some x → (j ≡ p) ⊎ (j ≡ p → ⊥) → IsWithin (es ++ more) (id_of j) x.file
    by_place j x got (inl same) =
        let one : t ≡ x = same_Some t x (sym (slice_get-set_same files p s t there) ∙ ap (slice_get (slice_set files p t)) (sym same) ∙ got) in
        subst (λ (k : ℕ). IsWithin (es ++ more) (id_of k) x.file) (sym same) (subst (λ (y : ServedFile). IsWithin (es ++ more) (id_of p) y.file) one so)
    by_place j x got (inr ne) = within_more es more (id_of j) x.file (λ was. other_live (id_of p) (id_of j) more own (apart j ne) was) (i.at j x (sym (slice_get-set_other files p j t ne) ∙ got))

    by_none : (j : ℕ) → slice_get (slice_set files p t) j ≡ None → (j ≡ p) ⊎ (j ≡ p → ⊥) → live_in (es ++ more) (id_of j) ≡ None
    by_none j off (inl same) = absurd (none-some t (sym off ∙ ap (slice_get (slice_set files p t)) same ∙ slice_get-set_same files p s t there))
    by_none j off (inr ne) =
        live_append (id_of j) None es more ∙ other_live (id_of p) (id_of j) more own (apart j ne) (live_in es (id_of j)) ∙ i.none j (sym (slice_get-set_other files p j t ne) ∙ off)

put : (m : MdsValue) (file : FileId) (s t : ServedFile) (es : List Entry) → served m file ≡ Some s → (IsWithin es (id_of (file.0 - 1)) s.file → IsWithin es (id_of (file.0 - 1)) t.file) → AllWithin m.files es
    → AllWithin (slice_set m.files (file.0 - 1) t) es
put m file s t es at becomes i =
    let there = (at_place m.files file s at).1 in
    subst (λ (l : List Entry). AllWithin (slice_set m.files (file.0 - 1) t) l) (append-nil es)
    (set m.files es [] (file.0 - 1) s t there tt (subst (λ (l : List Entry). IsWithin l (id_of (file.0 - 1)) t.file) (sym (append-nil es)) (becomes (i.at (file.0 - 1) s there))) i)

puts : (m : MdsValue) (file : FileId) (s t : ServedFile) (es : List Entry) → served m file ≡ Some s → t.file ≡ s.file → AllWithin m.files es → AllWithin (slice_set m.files (file.0 - 1) t) es
puts m file s t es at same i = put m file s t es at (λ so. subst (λ (f : MdsFile). IsWithin es (id_of (file.0 - 1)) f) (sym same) so) i

inputs : (m : MdsValue) (file : FileId) (s : ServedFile) (input : FileInput) → served m file ≡ Some s → (es : List Entry) (ss : List MdsSend) → IsSo m es ss
    → IsSo (file_stepped m file s (phase file s.file input m.fresh)).mds (es ++ (phase file s.file input m.fresh).entries) ss
inputs m file s input at es ss i =
    let step : FileStep = phase file s.file input m.fresh in
    let n : MdsValue = with_served (record m { fresh = drawn m.fresh step }) file (file_behind s step) in
    let there = at_place m.files file s at in
    let one : id_of (file.0 - 1) ≡ file = file_at file there.0 in
    let so : IsWithin es file s.file = subst (λ (g : FileId). IsWithin es g s.file) one (i.all.at (file.0 - 1) s there.1) in
    let t : StaysWithin file s.file.layout step = phase_within file m.fresh s.file input so.fits in
    let new : Stands n.files n.calls (es ++ step.entries) ss = record {
      all = set m.files es step.entries (file.0 - 1) s (file_behind s step) there.1 (subst (λ (g : FileId). AllByRecursion (IsOf g) step.entries) (sym one) t.own)
          (subst (λ (g : FileId). IsWithin (es ++ step.entries) g step.file) (sym one) (within_behind file m.fresh es s.file input so)) i.all;
      were = i.were;
    } in
    cond_both (list_any is_period_end step.entries) (record n { recalls = without_file file n.recalls }) n (λ (x : MdsValue). Stands x.files x.calls (es ++ step.entries) ss) (λ end. new) (λ off. new)

asked : (m : MdsValue) (file : FileId) (n : ℕ) (o : Option ServedFile) → served m file ≡ o → (es : List Entry) (ss : List MdsSend) → IsSo m es ss → IsSo (input_at m file (AsksLayout n) o).mds (es ++ (input_at m file (AsksLayout n) o).entries) ss
asked m file n None at es ss i = subst (λ (l : List Entry). IsSo m l ss) (sym (append-nil es)) i
asked m file n (Some s) at es ss i =
    cond_both (has_fresh m.fresh) (file_stepped m file s (phase file s.file (AsksLayout n) m.fresh)) (sends_none m) (λ (x : MdsStep). IsSo x.mds (es ++ x.entries) ss) (λ fresh. inputs m file s (AsksLayout n) at es ss i)
    (λ off. subst (λ (l : List Entry). IsSo m l ss) (sym (append-nil es)) i)

past_end : (xs : List ServedFile) → slice_get xs (length xs) ≡ None
past_end [] = refl
past_end (x ∷ xs) = past_end xs

makes : (m : MdsValue) (name : List ℕ) (es : List Entry) → AllWithin m.files es → AllWithin (with_new_file m name).files es
makes m name es i = record { at = λ j x got. by_place j x (pushed m.files new j x got); none = λ j off. by_old j off (slice_get m.files j) refl }
  where
    new : ServedFile
    new = new_served name (new_mds_file m.fresh (servers_of (length m.servers) m.mirrors (length m.files + 1)))

    by_place : (j : ℕ) (x : ServedFile) → Pushed m.files new j x → IsWithin es (id_of j) x.file
    by_place j x (Old was) = i.at j x was
    by_place j x (New is its) =
        subst (λ (y : ServedFile). IsWithin es (id_of j) y.file) (sym its)
        (record { live = subst (λ (l : Option (List MirrorId)). Within l None) (sym (i.none j (ap (slice_get m.files) is ∙ past_end m.files))) tt; fits = refl })

    by_old : (j : ℕ) → slice_get (m.files ++ new ∷ []) j ≡ None → (o : Option ServedFile) → slice_get m.files j ≡ o → live_in es (id_of j) ≡ None
    by_old j off None at = i.none j at
    by_old j off (Some x) at = absurd (none-some x (sym off ∙ slice_get-push m.files j x new at))

sends : (m : MdsValue) (es : List Entry) (ss : List MdsSend) (s : MdsSend) → IsSo m es ss → IsSo m es (ss ++ s ∷ [])
sends m es ss s i = record { all = i.all; were = sent_more m.calls ss s i.were }

noted : (files : List ServedFile) (es : List Entry) (e : Entry) → is_note e ≡ true → AllWithin files es → AllWithin files (es ++ e ∷ [])
noted files es e note i = record {
  at = λ j x got. within_more es (e ∷ []) (id_of j) x.file (λ was. note_live (id_of j) e note was) (i.at j x got);
  none = λ j off. live_append (id_of j) None es (e ∷ []) ∙ note_live (id_of j) e note (live_in es (id_of j)) ∙ i.none j off;
}

called : (files : List ServedFile) (calls : List AwaitedCall) (call : AwaitedCall) (es : List Entry) (ss : List MdsSend) → AllWithin files es → WereSent calls ss → Stands files (with_call call calls) (es ++ []) (ss ++ call.sent ∷ [])
called files calls call es ss all were = subst (λ (l : List Entry). Stands files (with_call call calls) l (ss ++ call.sent ∷ [])) (sym (append-nil es)) (record { all = all; were = sent_with calls ss call were })

cases : Cases IsSo HeardAny AnyCompound
cases = record {
  wait = λ m es ss i file s at. record { reads_so = λ r inside. tt; write_so = λ w is. tt };
  quiet = λ m confirmed opens reclaimed recalls old es ss i. i;
  tables = λ m move is es ss i. i;
  notes = λ m e note es ss i. record { all = noted m.files es e note i.all; were = i.were };
  puts = λ m file s t at same holder seqid write waits es ss i. record { all = puts m file s t es at same i.all; were = i.were };
  again_to = λ m file s client at its es ss i. record { all = puts m file s (with_holder client true s) es at refl i.all; were = i.were };
  grants = λ m file n client t from free was at es ss i.
      let x : MdsStep = takes_input m file (AsksLayout n) in
      let b : IsSo x.mds (es ++ x.entries) ss = asked m file n (served m file) refl es ss i in
      record { all = puts x.mds file t (with_holder client false t) (es ++ x.entries) at refl b.all; were = b.were };
  inputs = λ m file s input itself at fresh es ss i. inputs m file s input at es ss i;
  own_ends = λ m file s failures place bytes at fresh es ss i. inputs m file s (OwnEnds (failures_by_place failures s.file.layout.live) place bytes) at es ss i;
  timeouts = λ m file s xid at fresh es ss i. inputs m file s (TimesOut xid) at es ss i;
  hears = λ m file s call server own uid c replies heard caller sent out at fresh es ss i. inputs m file s (IsAnswer call.xid (own_answer c (replies c))) at es ss i;
  learns = λ m file s call server own uid c replies fileid shown heard caller sent named shows at fresh es ss i. inputs m file s (Sees (record { server = server; fileid = fileid }) shown.seen) at es ss i;
  makes = λ m name may es ss i. record { all = makes m name es i.all; were = i.were };
  calls_file = λ m file s c at has its es ss i.
      called (slice_set m.files (file.0 - 1) (record s { file = c.file })) m.calls (record { node = Server c.server; xid = m.next_xid; caller = ForFile file; sent = CallsServer c.server m.next_xid c.uid c.call }) es ss
      (put m file s (record s { file = c.file }) es at (λ so. within_out es (id_of (file.0 - 1)) s.file m.next_xid c its so) i.all) i.were;
  calls_write = λ m file s w c at has waits its is_write es ss i.
      called (slice_set m.files (file.0 - 1) (record s { write = Some (record w { writer = c.writer }) })) m.calls
      (record { node = Server c.id.server; xid = m.next_xid; caller = ForWrite file; sent = CallsServer c.id.server m.next_xid w.writer.cred c.call }) es ss
      (puts m file s (record s { write = Some (record w { writer = c.writer }) }) es at refl i.all) i.were;
  calls_read = λ m file s t server call at has same holder seqid write waits kept uid is_read es ss i.
      called (slice_set m.files (file.0 - 1) t) m.calls (record { node = Server server; xid = m.next_xid; caller = ForRead file; sent = CallsServer server m.next_xid 0 call }) es ss (puts m file s t es at same i.all) i.were;
  calls_back = λ m node back file stateid has es ss i. called m.files m.calls (record { node = node; xid = m.next_xid; caller = ForRecall; sent = CallsBack m.next_xid back file stateid }) es ss i.all i.were;
  skips = λ m has es ss i. i;
  forgets = λ m test es ss i. record { all = i.all; were = sent_kept test m.calls ss i.were };
  was = λ m es ss i. i.were;
  again = λ m s es ss i inside. sends m es ss s i;
}

runs : RunCases IsSo AnyCompound
runs = record {
  replies = λ m node xid results es ss i. sends m es ss (Replies node (success_reply xid results)) i;
  finishes = λ m pass bytes es ss i. i;
  returns = λ m file s n cred errors at fresh es ss i. inputs m file s (Returns n cred (report_of errors s.file.layout.live)) at es ss i;
  confirms = λ m client node es ss i. i;
  destroys = λ m session es ss i. i;
  any = λ c. tt;
}

pub run_within : (servers : List AddressValue) (mirrors : ℕ) (events : List MdsEvent) (file : FileId) (s : ServedFile) → served (server_after servers mirrors events) file ≡ Some s
    → Within (live_in (mds_run servers mirrors events).entries file) (told s.file.layout)
run_within servers mirrors events file s at =
    let i = in_each_run IsSo AnyCompound cases runs (λ m node bytes reply is es ss k. sends m es ss (Answers node bytes) k) (λ m request now es ss k. k) (new_mds servers mirrors) events
    (record { all = record { at = λ j x got. absurd (none-some x got); none = λ j off. refl }; were = λ call inside. absurd inside }) in
    let there = at_place (server_after servers mirrors events).files file s at in
    subst (λ (g : FileId). Within (live_in (mds_run servers mirrors events).entries g) (told s.file.layout)) (file_at file there.0) (i.all.at (file.0 - 1) s there.1).live
