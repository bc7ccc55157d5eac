-- In each run uids and names are only drawn, the uids of each file are below the next one, and the numbers of its data servers below a limit.
use Rattle.std.proofs.Common.{◌≡◌, ◌≤◌, ◌<◌, ℕ, ◌+◌, ◌-◌, true, false, List, [], ◌∷◌, ◌++◌, length, Option, Some, None, refl, sym, subst, arith}
use Rattle.std.specs.Prelude.{nat_lt, ◌&&◌, not, slice_set}
use Rattle.std.specs.List.{list_any}
use Rattle.std.proofs.lemmas.Bool.{cond_both, and_parts, ltb-true}
use Rattle.compound_reply.specs.Replied.{success_reply}
use Rattle.cluster_model.specs.declared.ids.NodeId.TheVariants.{Server}
use Rattle.cluster_model.specs.declared.ids.FileId.{FileId}
use Rattle.cluster_model.specs.declared.entry.Entry.{Entry}
use Rattle.cluster_model.specs.declared.limits.TheConstants.{SPARE_UIDS}
use Rattle.device_addr.specs.Universal.{AddressValue}
use Rattle.file_rule.specs.declared.fresh.Fresh.{Fresh}
use Rattle.file_rule.specs.MdsFiles.{MdsFile, FileStep}
use Rattle.file_rule.specs.FilePhases.{FileInput, AsksLayout, Returns, OwnEnds, Answers as IsAnswer, TimesOut, Sees, new_mds_file, phase}
use Rattle.mds_rows.specs.Draws.{drawn}
use Rattle.recall.specs.Recalls.{without_file}
use Rattle.layout_report.specs.Reports.{report_of}
use Rattle.mds_rule.specs.Answers.{own_answer, failures_by_place}
use Rattle.mds_rule.specs.MdsStates.{ServedFile, MdsSend, CallsServer, CallsBack, Replies, Answers, AwaitedCall, MdsValue, MdsStep, sends_none, with_call, served, with_served, new_mds}
use Rattle.mds_rule.specs.declared.waiter.Waiter.TheVariants.{ForFile, ForRead, ForWrite, ForRecall}
use Rattle.mds_rule.specs.ServedFiles.{has_fresh, is_period_end, file_behind, file_stepped, input_at, takes_input}
use Rattle.mds_rule.specs.FileOps.{max_files, uids_left, servers_of, new_served, with_new_file, may_make}
use Rattle.mds_rule.specs.LayoutOps.{with_holder}
use Rattle.mds_walk.specs.MdsRuns.{MdsEvent, run_from, mds_run}
use Rattle.mds_walk.proofs.Lists.{AllOf, all_push, all_set}
use Rattle.mds_walk.proofs.Parts.{HeardAny, AnyCompound}
use Rattle.mds_laws.proofs.Numbers.{WereSent, sent_more, sent_with, sent_kept}
use Rattle.mds_replies.proofs.HoldersHold.{at_file}
use Rattle.mds_replies.proofs.HolderCases.{Cases, RunCases}
use Rattle.mds_replies.proofs.GoesWalk.{run_walk}
use Rattle.mds_room.proofs.CredsBelow.{FileBelow, phase_below, out_below, below_up}
use Rattle.mds_room.proofs.ServersIn.{FileIn, phase_in, out_in, nth_in, creations_in}

abbrev pub Below : ℕ → ServedFile → Type 0
Below b s = FileBelow b s.file

abbrev pub Within : ℕ → ServedFile → Type 0
Within n s = FileIn n s.file

all_up : (b c : ℕ) → b ≤ c → (files : List ServedFile) → AllOf (Below b) files → AllOf (Below c) files
all_up b c le [] all = tt
all_up b c le (s ∷ files) all = (below_up b c s.file le all.0, all_up b c le files all.1)

pub few_files : (m : MdsValue) → may_make m ≡ true → length m.files < 4096
few_files m may =
    let first = and_parts (nat_lt (length m.files) max_files && not (nat_lt (uids_left m) SPARE_UIDS)) (has_fresh m.fresh) may in
    let second = and_parts (nat_lt (length m.files) max_files) (not (nat_lt (uids_left m) SPARE_UIDS)) first.0 in
    ltb-true (length m.files) max_files second.0

-- from these next uid and name on, with data servers numbered below this limit
module _ (u k n : ℕ) (wide : 5000 ≤ n) where
  pub record Stands (mirrors : ℕ) (fresh : Fresh) (files : List ServedFile) (calls : List AwaitedCall) (ss : List MdsSend) : Type 0 where
    pub uids : u ≤ fresh.uid
    pub names : k ≤ fresh.name
    pub limit : mirrors ≤ 4
    pub servers : fresh.servers + 1 ≤ n
    pub below : AllOf (Below fresh.uid) files
    pub within : AllOf (Within n) files
    pub were : WereSent calls ss

  abbrev pub IsSo : MdsValue → List Entry → List MdsSend → Type 0
  IsSo m es ss = Stands m.mirrors m.fresh m.files m.calls ss

  sends : (m : MdsValue) (ss : List MdsSend) (s : MdsSend) → Stands m.mirrors m.fresh m.files m.calls ss → Stands m.mirrors m.fresh m.files m.calls (ss ++ s ∷ [])
  sends m ss s i = record { uids = i.uids; names = i.names; limit = i.limit; servers = i.servers; below = i.below; within = i.within; were = sent_more m.calls ss s i.were }

  -- a file is put back
  put : (m : MdsValue) (file : FileId) (t : ServedFile) (calls : List AwaitedCall) (ss ts : List MdsSend) → Below m.fresh.uid t → Within n t → WereSent calls ts → Stands m.mirrors m.fresh m.files m.calls ss
      → Stands m.mirrors m.fresh (slice_set m.files (file.0 - 1) t) calls ts
  put m file t calls ss ts below within were i = record {
    uids = i.uids;
    names = i.names;
    limit = i.limit;
    servers = i.servers;
    below = all_set (Below m.fresh.uid) m.files (file.0 - 1) t i.below below;
    within = all_set (Within n) m.files (file.0 - 1) t i.within within;
    were = were;
  }

  puts : (m : MdsValue) (file : FileId) (s t : ServedFile) (calls : List AwaitedCall) (ss ts : List MdsSend) → served m file ≡ Some s → t.file ≡ s.file → WereSent calls ts → Stands m.mirrors m.fresh m.files m.calls ss
      → Stands m.mirrors m.fresh (slice_set m.files (file.0 - 1) t) calls ts
  puts m file s t calls ss ts at same were i =
      put m file t calls ss ts (subst (λ (f : MdsFile). FileBelow m.fresh.uid f) (sym same) (at_file (Below m.fresh.uid) m file s at i.below)) (subst (λ (f : MdsFile). FileIn n f) (sym same) (at_file (Within n) m file s at i.within)) were i

  inputs : (m : MdsValue) (file : FileId) (s : ServedFile) (input : FileInput) → served m file ≡ Some s → (es : List Entry) (ss : List MdsSend) → IsSo m es ss
      → IsSo (file_stepped m file s (phase file s.file input m.fresh)).mds (es ++ (phase file s.file input m.fresh).entries) ss
  inputs m file s input at es ss i =
      let step : FileStep = phase file s.file input m.fresh in
      let x : MdsValue = with_served (record m { fresh = drawn m.fresh step }) file (file_behind s step) in
      let more : m.fresh.uid ≤ m.fresh.uid + step.uids = omega arith in
      let new : Stands x.mirrors x.fresh x.files x.calls ss = record {
        uids = let was : u ≤ m.fresh.uid = i.uids in omega (arith, was);
        names = let was : k ≤ m.fresh.name = i.names in omega (arith, was);
        limit = i.limit;
        servers = i.servers;
        below = all_set (Below (m.fresh.uid + step.uids)) m.files (file.0 - 1) (file_behind s step) (all_up m.fresh.uid (m.fresh.uid + step.uids) more m.files i.below)
            (phase_below (m.fresh.uid + step.uids) file m.fresh s.file input (below_up m.fresh.uid (m.fresh.uid + step.uids) s.file more (at_file (Below m.fresh.uid) m file s at i.below)) (omega arith));
        within = all_set (Within n) m.files (file.0 - 1) (file_behind s step) i.within (phase_in n file m.fresh i.servers s.file input (at_file (Within n) m file s at i.within));
        were = i.were;
      } in
      cond_both (list_any is_period_end step.entries) (record x { recalls = without_file file x.recalls }) x (λ (y : MdsValue). Stands y.mirrors y.fresh y.files y.calls ss) (λ end. new) (λ off. new)

  asked : (m : MdsValue) (file : FileId) (client : ℕ) (o : Option ServedFile) → served m file ≡ o → (ss : List MdsSend) → Stands m.mirrors m.fresh m.files m.calls ss
      → Stands (input_at m file (AsksLayout client) o).mds.mirrors (input_at m file (AsksLayout client) o).mds.fresh (input_at m file (AsksLayout client) o).mds.files (input_at m file (AsksLayout client) o).mds.calls ss
  asked m file client None at ss i = i
  asked m file client (Some s) at ss i =
      cond_both (has_fresh m.fresh) (file_stepped m file s (phase file s.file (AsksLayout client) m.fresh)) (sends_none m) (λ (x : MdsStep). Stands x.mds.mirrors x.mds.fresh x.mds.files x.mds.calls ss)
      (λ fresh. inputs m file s (AsksLayout client) at [] ss i) (λ off. i)

  grants : (m : MdsValue) (file : FileId) (client holder : ℕ) (t : ServedFile) → served (takes_input m file (AsksLayout client)).mds file ≡ Some t → (es : List Entry) (ss : List MdsSend) → IsSo m es ss
      → IsSo (with_served (takes_input m file (AsksLayout client)).mds file (with_holder holder false t)) (es ++ (takes_input m file (AsksLayout client)).entries) ss
  grants m file client holder t at es ss i =
      let x : MdsValue = (takes_input m file (AsksLayout client)).mds in
      let b : Stands x.mirrors x.fresh x.files x.calls ss = asked m file client (served m file) refl ss i in
      puts x file t (with_holder holder false t) x.calls ss ss at refl b.were b

  makes : (m : MdsValue) (name : List ℕ) → may_make m ≡ true → (es : List Entry) (ss : List MdsSend) → IsSo m es ss → IsSo (with_new_file m name) es ss
  makes m name may es ss i = record {
    uids = let was : u ≤ m.fresh.uid = i.uids in omega (arith, was);
    names = let was : k ≤ m.fresh.name = i.names in omega (arith, was);
    limit = i.limit;
    servers = i.servers;
    below = all_push (Below (m.fresh.uid + 1)) m.files new (all_up m.fresh.uid (m.fresh.uid + 1) (omega arith) m.files i.below) (record { layout_below = record { cred = omega arith; phase = tt; making = λ is. refl }; calls = tt });
    within = all_push (Within n) m.files new i.within
        (record {
          live = tt;
          calls = creations_in n m.fresh.name (servers_of (length m.servers) m.mirrors (length m.files + 1))
              (nth_in n (length m.servers) (length m.files + 1) 0 m.mirrors
              (let files : length m.files < 4096 = few_files m may in let mirrors : m.mirrors ≤ 4 = i.limit in omega (arith, files, mirrors, wide)));
        });
    were = i.were;
  }
    where
      new : ServedFile
      new = new_served name (new_mds_file m.fresh (servers_of (length m.servers) m.mirrors (length m.files + 1)))

  pub cases : Cases IsSo HeardAny AnyCompound
  cases = record {
    wait = λ m es ss i file s at. record { reads_so = λ r inside. tt; write_so = λ w is. tt };
    quiet = λ m confirmed opens reclaimed recalls old es ss i. i;
    tables = λ m move is es ss i. i;
    notes = λ m e note es ss i. i;
    puts = λ m file s t at same holder seqid write waits es ss i. puts m file s t m.calls ss ss at same i.were i;
    again_to = λ m file s client at its es ss i. puts m file s (with_holder client true s) m.calls ss ss at refl i.were i;
    grants = λ m file client holder t from free was at es ss i. grants m file client holder t at es ss i;
    inputs = λ m file s input itself at fresh es ss i. inputs m file s input at es ss i;
    own_ends = λ m file s failures place bytes at fresh es ss i. inputs m file s (OwnEnds (failures_by_place failures s.file.layout.live) place bytes) at es ss i;
    timeouts = λ m file s xid at fresh es ss i. inputs m file s (TimesOut xid) at es ss i;
    hears = λ m file s call server own uid c replies heard caller sent out at fresh es ss i. inputs m file s (IsAnswer call.xid (own_answer c (replies c))) at es ss i;
    learns = λ m file s call server own uid c replies fileid shown heard caller sent named shows at fresh es ss i. inputs m file s (Sees (record { server = server; fileid = fileid }) shown.seen) at es ss i;
    makes = λ m name may. makes m name may;
    calls_file = λ m file s c at has its es ss i.
        let call : AwaitedCall = record { node = Server c.server; xid = m.next_xid; caller = ForFile file; sent = CallsServer c.server m.next_xid c.uid c.call } in
        put m file (record s { file = c.file }) (with_call call m.calls) ss (ss ++ call.sent ∷ []) (out_below m.fresh.uid s.file (at_file (Below m.fresh.uid) m file s at i.below) m.next_xid c its)
        (out_in n s.file (at_file (Within n) m file s at i.within) m.next_xid c its) (sent_with m.calls ss call i.were) i;
    calls_write = λ m file s w c at has waits its is_write es ss i.
        let call : AwaitedCall = record { node = Server c.id.server; xid = m.next_xid; caller = ForWrite file; sent = CallsServer c.id.server m.next_xid w.writer.cred c.call } in
        puts m file s (record s { write = Some (record w { writer = c.writer }) }) (with_call call m.calls) ss (ss ++ call.sent ∷ []) at refl (sent_with m.calls ss call i.were) i;
    calls_read = λ m file s t server call at has same holder seqid write waits kept uid is_read es ss i.
        let out : AwaitedCall = record { node = Server server; xid = m.next_xid; caller = ForRead file; sent = CallsServer server m.next_xid 0 call } in
        puts m file s t (with_call out m.calls) ss (ss ++ out.sent ∷ []) at same (sent_with m.calls ss out i.were) i;
    calls_back = λ m node back file stateid has es ss i. record {
      uids = i.uids;
      names = i.names;
      limit = i.limit;
      servers = i.servers;
      below = i.below;
      within = i.within;
      were = sent_with m.calls ss (record { node = node; xid = m.next_xid; caller = ForRecall; sent = CallsBack m.next_xid back file stateid }) i.were;
    };
    skips = λ m has es ss i. i;
    forgets = λ m test es ss i. record { uids = i.uids; names = i.names; limit = i.limit; servers = i.servers; below = i.below; within = i.within; were = sent_kept test m.calls ss i.were };
    was = λ m es ss i. i.were;
    again = λ m s es ss i inside. sends m ss s i;
  }

  pub runs : RunCases IsSo AnyCompound
  runs = record {
    replies = λ m node xid results es ss i. sends m ss (Replies node (success_reply xid results)) i;
    finishes = λ m pass bytes es ss i. i;
    returns = λ m file s client cred errors at fresh es ss i. inputs m file s (Returns client cred (report_of errors s.file.layout.live)) at es ss i;
    confirms = λ m client node es ss i. i;
    destroys = λ m session es ss i. i;
    any = λ c. tt;
  }

  -- behind each run of a server of which it holds
  pub stands_on : (events : List MdsEvent) (m : MdsValue) (es : List Entry) (ss : List MdsSend) → IsSo m es ss → IsSo (run_from m events).mds (es ++ (run_from m events).entries) (ss ++ (run_from m events).sends)
  stands_on events m es ss i = run_walk IsSo AnyCompound cases runs (λ x node bytes reply is fs ts j. sends x ts (Answers node bytes) j) (λ x request now fs ts j. j) events m es ss i

-- ---- behind each run of a new server

pub new_stands : (n : ℕ) (wide : 5000 ≤ n) (servers : List AddressValue) (mirrors : ℕ) → mirrors ≤ 4 → length servers + 1 ≤ n → IsSo 0 0 n wide (new_mds servers mirrors) [] []
new_stands n wide servers mirrors few many = record { uids = omega arith; names = omega arith; limit = few; servers = many; below = tt; within = tt; were = λ call inside. absurd inside }

pub behind_run : (n : ℕ) (wide : 5000 ≤ n) (servers : List AddressValue) (mirrors : ℕ) (events : List MdsEvent) → mirrors ≤ 4 → length servers + 1 ≤ n
    → IsSo 0 0 n wide (mds_run servers mirrors events).mds (mds_run servers mirrors events).entries (mds_run servers mirrors events).sends
behind_run n wide servers mirrors events few many = stands_on 0 0 n wide events (new_mds servers mirrors) [] [] (new_stands n wide servers mirrors few many)

-- from then on
pub from_then : (n : ℕ) (wide : 5000 ≤ n) (m : MdsValue) (es : List Entry) (ss : List MdsSend) → IsSo 0 0 n wide m es ss → IsSo m.fresh.uid m.fresh.name n wide m es ss
from_then n wide m es ss i = record { uids = omega arith; names = omega arith; limit = i.limit; servers = i.servers; below = i.below; within = i.within; were = i.were }
