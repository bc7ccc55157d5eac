-- A period goes on until its end is entered: a client that has a file's layout has it behind every event, or the end of the period was
-- entered.
use Rattle.std.proofs.Common.{◌≡◌, ℕ, ◌-◌, Bool, true, false, cond, List, [], ◌∷◌, ◌++◌, length, Option, Some, None, refl, sym, ap, subst, ◌∙◌, inl, inr, ◌⊎◌, arith}
use Rattle.std.specs.Prelude.{◌==◌, ◌+◌, map, slice_get, slice_set}
use Rattle.std.specs.List.{list_any}
use Rattle.std.proofs.lemmas.Bool.{cond_both, cases_eq}
use Rattle.std.proofs.lemmas.List.{append-nil}
use Rattle.std.proofs.lemmas.Option.{same_Some}
use Rattle.compound_reply.specs.Replied.{success_reply}
use Rattle.cluster_model.specs.declared.ids.NodeId.TheVariants.{Server}
use Rattle.cluster_model.specs.declared.ids.FileId.{FileId}
use Rattle.cluster_model.specs.declared.entry.Entry.{Entry}
use Rattle.cluster_model.specs.declared.entry.Entry.TheVariants as entry
use Rattle.cluster_model.specs.declared.layout_state.LayoutState.{LayoutState}
use Rattle.cluster_model.specs.declared.layout_state.LayoutPhase.{LayoutPhase}
use Rattle.cluster_model.specs.declared.layout_state.LayoutPhase.TheVariants.{Free}
use Rattle.cluster_model.specs.Phases.{holder_of}
use Rattle.cluster_model.specs.Members.{IsOneOf}
use Rattle.cluster_model.proofs.Elements.{slice_get-set_other, slice_get-set_same, slice_get-push}
use Rattle.file_rule.specs.FilePhases.{Answers as IsAnswer, OwnEnds, TimesOut, Sees, FileInput, AsksLayout, Returns, new_mds_file, are_spent, phase}
use Rattle.file_rule.specs.MdsFiles.{MdsFile, FileStep}
use Rattle.layout_state.specs.Grants.{is_held}
use Rattle.mds_rows.specs.Draws.{drawn}
use Rattle.recall.specs.Recalls.{without_file}
use Rattle.layout_report.specs.Reports.{report_of}
use Rattle.mds_rule.specs.Answers.{own_answer, failures_by_place}
use Rattle.mds_rule.specs.MdsStates.{ServedFile, MdsSend, CallsServer, CallsBack, Replies, Answers, AwaitedCall, MdsValue, MdsStep, sends_none, with_call, served_in, served, with_served}
use Rattle.mds_rule.specs.declared.waiter.Waiter.TheVariants.{ForFile, ForRead, ForWrite, ForRecall}
use Rattle.mds_rule.specs.ServedFiles.{has_fresh, is_period_end, kept_holder, file_behind, file_stepped, input_at, takes_input}
use Rattle.mds_rule.specs.FileOps.{servers_of, new_served, with_new_file}
use Rattle.mds_rule.specs.LayoutOps.{with_holder, is_granted}
use Rattle.mds_walk.specs.MdsRuns.{MdsEvent, run_from}
use Rattle.mds_walk.proofs.Lists.{in_more, AllOf, all_push, all_set, all_got}
use Rattle.mds_walk.proofs.Parts.{HeardAny, Enters, AnyCompound}
use Rattle.mds_laws.proofs.Numbers.{WereSent, sent_more, sent_with, sent_kept}
use Rattle.mds_laws.proofs.FileCreds.{out_agrees, phase_uses}
use Rattle.mds_laws.proofs.FileGrants.{out_layout}
use Rattle.mds_laws.proofs.PeriodUids.{Agrees, Ends}
use Rattle.mds_laws.proofs.UsedOnce.{FileAgrees}
use Rattle.mds_replies.proofs.HeldFiles.{HasEnd, IsHeld, After, GoesOn, IsOver, held_after, in_behind}
use Rattle.mds_replies.proofs.HolderCases.{Cases, RunCases}
use Rattle.mds_replies.proofs.GoesWalk.{run_walk}

-- ---- a file at a place

-- a client, by its id, has the layout of a file
pub record IsHers (client uid : ℕ) (s : ServedFile) : Type 0 where
  pub holder : s.holder ≡ Some client
  pub node : ℕ
  pub held : IsHeld node (record { 0 = uid }) s.file.layout

pub record Has (file : FileId) (client uid : ℕ) (files : List ServedFile) : Type 0 where
  pub its : ServedFile
  pub there : served_in files file ≡ Some its
  pub hers : IsHers client uid its

served_at : (b : Bool) (x : Option ServedFile) (s : ServedFile) → cond b None x ≡ Some s → (b ≡ false) × (x ≡ Some s)
served_at true x s is = absurd cc
served_at false x s is = (refl, is)

pub at_place : (files : List ServedFile) (file : FileId) (s : ServedFile) → served_in files file ≡ Some s → ((file.0 == 0) ≡ false) × (slice_get files (file.0 - 1) ≡ Some s)
at_place files file s is = served_at (file.0 == 0) (slice_get files (file.0 - 1)) s is

pub from_place : (files : List ServedFile) (file : FileId) (s : ServedFile) → (file.0 == 0) ≡ false → slice_get files (file.0 - 1) ≡ Some s → served_in files file ≡ Some s
from_place files file s some at = ap (λ (b : Bool). cond b None (slice_get files (file.0 - 1))) some ∙ at

pub is_some_number : (n : ℕ) → (n == 0) ≡ false → n ≡ 0 → ⊥
is_some_number n is zero = not_so (sym (ap (λ (k : ℕ). k == 0) zero) ∙ is)
  where
    not_so : true ≡ false → ⊥
    not_so is = absurd cc

pub one_place : (a b : ℕ) → (a == 0) ≡ false → (b == 0) ≡ false → a - 1 ≡ b - 1 → a ≡ b
one_place a b first second same = by_numbers (is_some_number a first) (is_some_number b second)
  where
    by_numbers : (a ≡ 0 → ⊥) → (b ≡ 0 → ⊥) → a ≡ b
    by_numbers p q = grind (arith, p, q, same)

-- ---- what the calls that are awaited were sent as

abbrev pub sent_with_calls : List AwaitedCall → List MdsSend
sent_with_calls calls = map (λ (call : AwaitedCall). call.sent) calls

pub in_sent : (call : AwaitedCall) (calls : List AwaitedCall) → IsOneOf call calls → IsOneOf call.sent (map (λ (c : AwaitedCall). c.sent) calls)
in_sent call [] inside = absurd inside
in_sent call (c ∷ calls) (inl is) = inl (ap (λ (x : AwaitedCall). x.sent) is)
in_sent call (c ∷ calls) (inr inside) = inr (in_sent call calls inside)

module _ (file : FileId) (client uid : ℕ) where
  -- she has it, or the end of the period was entered
  abbrev pub Goes : List ServedFile → List Entry → Type 0
  Goes files es = Has file client uid files ⊎ HasEnd file (record { 0 = uid }) es

  end_more : (es more : List Entry) → HasEnd file (record { 0 = uid }) es → HasEnd file (record { 0 = uid }) (es ++ more)
  end_more es more e = record { cause = e.cause; there = in_more (entry.Ended file (record { 0 = uid }) e.cause) es more e.there }

  goes_more : (files : List ServedFile) (es more : List Entry) → Goes files es → Goes files (es ++ more)
  goes_more files es more (inl has) = inl has
  goes_more files es more (inr e) = inr (end_more es more e)

  -- another file changes
  other_has : (files : List ServedFile) (place : ℕ) (t : ServedFile) → (file.0 - 1 ≡ place → ⊥) → Has file client uid files → Has file client uid (slice_set files place t)
  other_has files place t ne has =
      let at = at_place files file has.its has.there in
      record { its = has.its; there = from_place (slice_set files place t) file has.its at.0 (slice_get-set_other files place (file.0 - 1) t ne ∙ at.1); hers = has.hers }

  -- any file does
  set_goes : (files : List ServedFile) (es more : List Entry) (other : FileId) (s t : ServedFile) → served_in files other ≡ Some s
      → (file ≡ other → IsHers client uid s → IsHers client uid t ⊎ HasEnd file (record { 0 = uid }) more) → Goes files es → Goes (slice_set files (other.0 - 1) t) (es ++ more)
  set_goes files es more other s t at becomes (inr e) = inr (end_more es more e)
  set_goes files es more other s t at becomes (inl has) = by_place (cases_eq (file.0 - 1) (other.0 - 1))
    where
      by_what : IsHers client uid t ⊎ HasEnd file (record { 0 = uid }) more → (file.0 == 0) ≡ false → file.0 - 1 ≡ other.0 - 1 → slice_get files (other.0 - 1) ≡ Some s → Goes (slice_set files (other.0 - 1) t) (es ++ more)
      by_what (inr e) some same there = inr (record { cause = e.cause; there = in_behind (entry.Ended file (record { 0 = uid }) e.cause) es more e.there })
      by_what (inl hers) some same there =
          inl (record {
            its = t;
            there = from_place (slice_set files (other.0 - 1) t) file t some (ap (slice_get (slice_set files (other.0 - 1) t)) same ∙ slice_get-set_same files (other.0 - 1) s t there);
            hers = hers;
          })

      by_place : (file.0 - 1 ≡ other.0 - 1) ⊎ (file.0 - 1 ≡ other.0 - 1 → ⊥) → Goes (slice_set files (other.0 - 1) t) (es ++ more)
      by_place (inr ne) = inl (other_has files (other.0 - 1) t ne has)
      by_place (inl same) =
          let mine = at_place files file has.its has.there in
          let theirs = at_place files other s at in
          let one : has.its ≡ s = same_Some has.its s (sym mine.1 ∙ ap (slice_get files) same ∙ theirs.1) in
          by_what (becomes (ap (λ (n : ℕ). record { 0 = n }) (one_place file.0 other.0 mine.0 theirs.0 same)) (subst (λ (x : ServedFile). IsHers client uid x) one has.hers)) mine.0 same theirs.1

  -- ---- what holds

  record Stands (files : List ServedFile) (calls : List AwaitedCall) (es : List Entry) (ss : List MdsSend) : Type 0 where
    pub agree : AllOf FileAgrees files
    pub goes : Goes files es
    pub were : WereSent calls ss

  abbrev IsSo : MdsValue → List Entry → List MdsSend → Type 0
  IsSo m es ss = Stands m.files m.calls es ss

  -- a file is put back with the same layout and holder
  same_hers : (s t : ServedFile) → t.file.layout ≡ s.file.layout → t.holder ≡ s.holder → IsHers client uid s → IsHers client uid t
  same_hers s t same holder i = record { holder = holder ∙ i.holder; node = i.node; held = subst (λ (l : LayoutState). IsHeld i.node (record { 0 = uid }) l) (sym same) i.held }

  agrees_at : (files : List ServedFile) (other : FileId) (s : ServedFile) → served_in files other ≡ Some s → AllOf FileAgrees files → FileAgrees s
  agrees_at files other s at all = all_got FileAgrees files (other.0 - 1) s all (at_place files other s at).1

  put : (files : List ServedFile) (calls : List AwaitedCall) (es : List Entry) (ss : List MdsSend) (other : FileId) (s t : ServedFile) → served_in files other ≡ Some s → t.file.layout ≡ s.file.layout
      → t.holder ≡ s.holder → FileAgrees t → Stands files calls es ss → Stands (slice_set files (other.0 - 1) t) calls es ss
  put files calls es ss other s t at same holder its i = record {
    agree = all_set FileAgrees files (other.0 - 1) t i.agree its;
    goes = subst (λ (l : List Entry). Goes (slice_set files (other.0 - 1) t) l) (append-nil es) (set_goes files es [] other s t at (λ one hers. inl (same_hers s t same holder hers)) i.goes);
    were = i.were;
  }

  same_agrees : (s t : ServedFile) → t.file ≡ s.file → FileAgrees s → FileAgrees t
  same_agrees s t same its = subst (λ (f : MdsFile). Agrees f.activity f.layout.phase) (sym same) its

  -- with the same file within
  puts : (files : List ServedFile) (calls : List AwaitedCall) (es : List Entry) (ss : List MdsSend) (other : FileId) (s t : ServedFile) → served_in files other ≡ Some s → t.file ≡ s.file → t.holder ≡ s.holder
      → Stands files calls es ss → Stands (slice_set files (other.0 - 1) t) calls es ss
  puts files calls es ss other s t at same holder i =
      put files calls es ss other s t at (ap (λ (f : MdsFile). f.layout) same) holder (same_agrees s t same (agrees_at files other s at i.agree)) i

  -- ---- an input

  behind_hers : (other : FileId) (s : ServedFile) (step : FileStep) → file ≡ other → (i : IsHers client uid s) → After other i.node (record { 0 = uid }) step
      → IsHers client uid (file_behind s step) ⊎ HasEnd file (record { 0 = uid }) step.entries
  behind_hers other s step one i (GoesOn held) = inl (record { holder = ap (λ (p : LayoutPhase). kept_holder (holder_of p) s.holder) held.phase ∙ i.holder; node = i.node; held = held })
  behind_hers other s step one i (IsOver e none) = inr (subst (λ (x : FileId). HasEnd x (record { 0 = uid }) step.entries) (sym one) e)

  inputs : (m : MdsValue) (other : FileId) (s : ServedFile) (input : FileInput) → served m other ≡ Some s → (es : List Entry) (ss : List MdsSend) → IsSo m es ss
      → IsSo (file_stepped m other s (phase other s.file input m.fresh)).mds (es ++ (phase other s.file input m.fresh).entries) ss
  inputs m other s input at es ss i =
      let step : FileStep = phase other s.file input m.fresh in
      let n : MdsValue = with_served (record m { fresh = drawn m.fresh step }) other (file_behind s step) in
      let its : FileAgrees s = agrees_at m.files other s at i.agree in
      let new : Stands n.files n.calls (es ++ step.entries) ss = record {
        agree = all_set FileAgrees m.files (other.0 - 1) (file_behind s step) i.agree (phase_uses Ends other m.fresh s.file input its).1;
        goes = set_goes m.files es step.entries other s (file_behind s step) at (λ one hers. behind_hers other s step one hers (held_after other m.fresh hers.node (record { 0 = uid }) s.file input its hers.held)) i.goes;
        were = i.were;
      } in
      cond_both (list_any is_period_end step.entries) (record n { recalls = without_file other n.recalls }) n (λ (x : MdsValue). Stands x.files x.calls (es ++ step.entries) ss) (λ end. new) (λ off. new)

  -- ---- a grant, where nobody has the file

  asked_so : (m : MdsValue) (other : FileId) (input : FileInput) (o : Option ServedFile) → served m other ≡ o → Enters IsSo m (input_at m other input o).mds (input_at m other input o).entries
  asked_so m other input None at es ss i = subst (λ (l : List Entry). IsSo m l ss) (sym (append-nil es)) i
  asked_so m other input (Some s) at es ss i =
      cond_both (has_fresh m.fresh) (file_stepped m other s (phase other s.file input m.fresh)) (sends_none m) (λ (x : MdsStep). IsSo x.mds (es ++ x.entries) ss) (λ fresh. inputs m other s input at es ss i)
      (λ off. subst (λ (l : List Entry). IsSo m l ss) (sym (append-nil es)) i)

  not_hers : (m : MdsValue) (other : FileId) → is_granted (served m other) ≡ false → file ≡ other → Has file client uid m.files → ⊥
  not_hers m other free one has = not_so (sym (ap is_granted (ap (served_in m.files) (sym one) ∙ has.there) ∙ ap is_held has.hers.held.phase) ∙ free)
    where
      not_so : true ≡ false → ⊥
      not_so is = absurd cc

  -- what it is given is not hers
  granted : (m : MdsValue) (other : FileId) (n new : ℕ) (t : ServedFile) → is_granted (served m other) ≡ false
      → ((s : ServedFile) → served m other ≡ Some s → (s.file.layout.phase ≡ Free) × (are_spent m.fresh ≡ false)) → served (takes_input m other (AsksLayout n)).mds other ≡ Some t
      → Enters IsSo m (with_served (takes_input m other (AsksLayout n)).mds other (with_holder new false t)) (takes_input m other (AsksLayout n)).entries
  granted m other n new t free was at es ss i =
      let x : MdsStep = takes_input m other (AsksLayout n) in
      let behind : IsSo x.mds (es ++ x.entries) ss = asked_so m other (AsksLayout n) (served m other) refl es ss i in
      record {
        agree = all_set FileAgrees x.mds.files (other.0 - 1) (with_holder new false t) behind.agree (agrees_at x.mds.files other t at behind.agree);
        goes = by_first i.goes behind.goes;
        were = behind.were;
      }
    where
      by_first : Goes m.files es → Goes (takes_input m other (AsksLayout n)).mds.files (es ++ (takes_input m other (AsksLayout n)).entries)
          → Goes (slice_set (takes_input m other (AsksLayout n)).mds.files (other.0 - 1) (with_holder new false t)) (es ++ (takes_input m other (AsksLayout n)).entries)
      by_first (inr e) second = inr (end_more es (takes_input m other (AsksLayout n)).entries e)
      by_first (inl has) second =
          subst (λ (l : List Entry). Goes (slice_set (takes_input m other (AsksLayout n)).mds.files (other.0 - 1) (with_holder new false t)) l) (append-nil (es ++ (takes_input m other (AsksLayout n)).entries))
          (set_goes (takes_input m other (AsksLayout n)).mds.files (es ++ (takes_input m other (AsksLayout n)).entries) [] other t (with_holder new false t) at (λ one hers. absurd (not_hers m other free one has)) second)

  again_hers : (new : ℕ) (s : ServedFile) → s.holder ≡ Some new → IsHers client uid s → IsHers client uid (with_holder new true s)
  again_hers new s its i = record { holder = sym its ∙ i.holder; node = i.node; held = i.held }

  again : (m : MdsValue) (other : FileId) (s : ServedFile) (new : ℕ) → served m other ≡ Some s → s.holder ≡ Some new → (es : List Entry) (ss : List MdsSend) → IsSo m es ss → IsSo (with_served m other (with_holder new true s)) es ss
  again m other s new at its es ss i = put m.files m.calls es ss other s (with_holder new true s) at refl (sym its) (agrees_at m.files other s at i.agree) i

  -- ---- the cases

  makes : (m : MdsValue) (name : List ℕ) (es : List Entry) (ss : List MdsSend) → IsSo m es ss → IsSo (with_new_file m name) es ss
  makes m name es ss i = record { agree = all_push FileAgrees m.files new i.agree refl; goes = by_goes i.goes; were = i.were }
    where
      new : ServedFile
      new = new_served name (new_mds_file m.fresh (servers_of (length m.servers) m.mirrors (length m.files + 1)))

      by_goes : Goes m.files es → Goes (m.files ++ new ∷ []) es
      by_goes (inr e) = inr e
      by_goes (inl has) =
          let at = at_place m.files file has.its has.there in
          inl (record { its = has.its; there = from_place (m.files ++ new ∷ []) file has.its at.0 (slice_get-push m.files (file.0 - 1) has.its new at.1); hers = has.hers })

  sends : (files : List ServedFile) (calls : List AwaitedCall) (es : List Entry) (ss : List MdsSend) (s : MdsSend) → Stands files calls es ss → Stands files calls es (ss ++ s ∷ [])
  sends files calls es ss s i = record { agree = i.agree; goes = i.goes; were = sent_more calls ss s i.were }

  called : (files : List ServedFile) (calls : List AwaitedCall) (call : AwaitedCall) (es : List Entry) (ss : List MdsSend) → Stands files calls es ss → Stands files (with_call call calls) (es ++ []) (ss ++ call.sent ∷ [])
  called files calls call es ss i =
      subst (λ (l : List Entry). Stands files (with_call call calls) l (ss ++ call.sent ∷ [])) (sym (append-nil es)) (record { agree = i.agree; goes = i.goes; were = sent_with calls ss call i.were })

  cases : Cases IsSo HeardAny AnyCompound
  cases = record {
    wait = λ m es ss i file s at. record { reads_so = λ r inside. tt; write_so = λ w is. tt };
    quiet = λ m confirmed opens reclaimed recalls old es ss i. i;
    tables = λ m move is es ss i. i;
    notes = λ m e note es ss i. record { agree = i.agree; goes = goes_more m.files es (e ∷ []) i.goes; were = i.were };
    puts = λ m other s t at same holder seqid write waits es ss i. puts m.files m.calls es ss other s t at same holder i;
    again_to = again;
    grants = λ m file n client t from. granted m file n client t;
    inputs = λ m other s input itself at fresh es ss i. inputs m other s input at es ss i;
    own_ends = λ m other s failures place bytes at fresh es ss i. inputs m other s (OwnEnds (failures_by_place failures s.file.layout.live) place bytes) at es ss i;
    timeouts = λ m other s xid at fresh es ss i. inputs m other s (TimesOut xid) at es ss i;
    hears = λ m other s call server own uid c replies heard caller sent out at fresh es ss i. inputs m other s (IsAnswer call.xid (own_answer c (replies c))) at es ss i;
    learns = λ m other s call server own uid c replies fileid shown heard caller sent named shows at fresh es ss i. inputs m other s (Sees (record { server = server; fileid = fileid }) shown.seen) at es ss i;
    makes = λ m name may. makes m name;
    calls_file = λ m other s c at has its es ss i.
        called (slice_set m.files (other.0 - 1) (record s { file = c.file })) m.calls (record { node = Server c.server; xid = m.next_xid; caller = ForFile other; sent = CallsServer c.server m.next_xid c.uid c.call }) es ss
        (put m.files m.calls es ss other s (record s { file = c.file }) at (out_layout s.file m.next_xid c its) refl (out_agrees s.file m.next_xid c (agrees_at m.files other s at i.agree) its) i);
    calls_write = λ m other s w c at has waits its is_write es ss i.
        called (slice_set m.files (other.0 - 1) (record s { write = Some (record w { writer = c.writer }) })) m.calls
        (record { node = Server c.id.server; xid = m.next_xid; caller = ForWrite other; sent = CallsServer c.id.server m.next_xid w.writer.cred c.call }) es ss
        (puts m.files m.calls es ss other s (record s { write = Some (record w { writer = c.writer }) }) at refl refl i);
    calls_read = λ m other s t server call at has same holder seqid write waits kept uid is_read es ss i.
        called (slice_set m.files (other.0 - 1) t) m.calls (record { node = Server server; xid = m.next_xid; caller = ForRead other; sent = CallsServer server m.next_xid 0 call }) es ss
        (puts m.files m.calls es ss other s t at same holder i);
    calls_back = λ m node back other stateid has es ss i.
        called m.files m.calls (record { node = node; xid = m.next_xid; caller = ForRecall; sent = CallsBack m.next_xid back other stateid }) es ss i;
    skips = λ m has es ss i. i;
    forgets = λ m test es ss i. record { agree = i.agree; goes = i.goes; were = sent_kept test m.calls ss i.were };
    was = λ m es ss i. i.were;
    again = λ m s es ss i inside. sends m.files m.calls es ss s i;
  }

  runs : RunCases IsSo AnyCompound
  runs = record {
    replies = λ m node xid results es ss i. sends m.files m.calls es ss (Replies node (success_reply xid results)) i;
    finishes = λ m pass bytes es ss i. i;
    returns = λ m other s n cred errors at fresh es ss i. inputs m other s (Returns n cred (report_of errors s.file.layout.live)) at es ss i;
    confirms = λ m client node es ss i. i;
    destroys = λ m session es ss i. i;
    any = λ c. tt;
  }

  pub run_goes : (m : MdsValue) (events : List MdsEvent) → AllOf FileAgrees m.files → Has file client uid m.files → Goes (run_from m events).mds.files (run_from m events).entries
  run_goes m events agree has =
      (run_walk IsSo AnyCompound cases runs (λ m node bytes reply is es ss i. sends m.files m.calls es ss (Answers node bytes) i) (λ n request now es ss i. i) events m [] (sent_with_calls m.calls) (record { agree = agree; goes = inl has; were = λ call inside. in_sent call m.calls inside })).goes
