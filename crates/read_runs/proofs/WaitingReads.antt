-- What is known of a READ that waits, by the history so far; and that it stays known while the history goes on.
use Rattle.std.proofs.Common.{◌≡◌, ℕ, List, [], ◌∷◌, ◌++◌, length, Option, Some, None, refl, sym, ap, subst, ◌∙◌, inl, inr}
use Rattle.std.specs.Prelude.{map, slice_get}
use Rattle.std.specs.List.{AllByRecursion}
use Rattle.std.proofs.lemmas.List.{append_assoc, append-nil, map-append}
use Rattle.std.proofs.lemmas.Option.{same_Some, none-some}
use Rattle.cluster_model.specs.declared.ids.NodeId.{NodeId}
use Rattle.cluster_model.specs.declared.ids.FileId.{FileId}
use Rattle.cluster_model.specs.declared.ids.Mirror.{Mirror}
use Rattle.cluster_model.specs.declared.ids.MirrorId.{MirrorId}
use Rattle.cluster_model.specs.declared.call_stage.CallStage.{CallStage}
use Rattle.cluster_model.specs.declared.call_stage.CallStage.TheVariants.{Waits, Out, KeptOut, KeptBack, Done, GivenUp}
use Rattle.cluster_model.specs.declared.entry.Entry.{Entry}
use Rattle.cluster_model.specs.declared.entry.Entry.TheVariants.{Swapped, Failed}
use Rattle.cluster_model.specs.DsCalls.{Read}
use Rattle.cluster_model.specs.Phases.{ids_of}
use Rattle.cluster_model.specs.Members.{IsOneOf}
use Rattle.cluster_laws.specs.FenceLaw.{live_in}
use Rattle.cluster_laws.proofs.Lists.{all_append}
use Rattle.mds_io.specs.declared.read_end.Failure.{Failure}
use Rattle.mds_io.specs.Reads.{ReadState, new_read, begun_again, at_stage, in_turn, with_failure}
use Rattle.mds_receive.specs.MdsReceive.{IsCompound, incoming_of}
use Rattle.nfs4_compound.specs.declared.stop.Stop.TheVariants as stop
use Rattle.nfs4_compound.specs.Compounds.{CompoundValue}
use Rattle.mds_rule.specs.MdsStates.{CompoundRun, MdsSend, CallsServer}
use Rattle.mds_rule.specs.FileOps.{read_length}
use Rattle.mds_walk.specs.MdsRuns.{Hears}
use Rattle.mds_laws.specs.MdsRunLaws.{number_sent}
use Rattle.mds_walk.proofs.Lists.{in_more}
use Rattle.mds_histories.specs.MdsHistory.{MdsItem, Comes, Enters, Sends, entries_in, sends_in}
use Rattle.mds_histories.proofs.Histories.{sends_joined}
use Rattle.read_runs.specs.ReadRuns.{ReadsFile, EntersNoSwapOf, HasNone, HasSwap, StartsAt, WasAsked, HasFailedRead}

-- ---- what was asked and what failed, in a longer history

pub asked_more : (start since : List MdsItem) (id : MirrorId) (at count xid : ℕ) (behind more : List MdsItem) → WasAsked start since id at count xid behind → WasAsked start (since ++ more) id at count xid (behind ++ more)
asked_more start since id at count xid behind more a = record {
  before = a.before;
  split = ap (λ l. l ++ more) a.split ∙ append_assoc a.before (Sends (CallsServer id.server xid 0 (Read id.fileid at count)) ∷ behind) more;
  new = a.new;
}

pub failed_more : (start since : List MdsItem) (at count : ℕ) (id : MirrorId) (more : List MdsItem) → HasFailedRead start since at count id → HasFailedRead start (since ++ more) at count id
failed_more start since at count id more f = record {
  before = f.before;
  xid = f.xid;
  behind = f.behind ++ more;
  split = ap (λ l. l ++ more) f.split ∙ append_assoc f.before (Enters (Failed id f.xid) ∷ f.behind) more;
  later = f.later;
  asked = f.asked;
}

-- the first mirrors of a live list failed, as many as there are failures
abbrev pub HaveFailed : List MdsItem → List MdsItem → ℕ → ℕ → List Mirror → List Failure → Type 0
HaveFailed start since at count live [] = Unit {0}
HaveFailed start since at count [] (f ∷ failures) = ⊥
HaveFailed start since at count (m ∷ live) (f ∷ failures) = HasFailedRead start since at count m.id × HaveFailed start since at count live failures

pub have_more : (start since : List MdsItem) (at count : ℕ) (live : List Mirror) (failures : List Failure) (more : List MdsItem) → HaveFailed start since at count live failures → HaveFailed start (since ++ more) at count live failures
have_more start since at count live [] more h = tt
have_more start since at count [] (f ∷ failures) more h = absurd h
have_more start since at count (m ∷ live) (f ∷ failures) more h = (failed_more start since at count m.id more h.0, have_more start since at count live failures more h.1)

-- the next one fails too
have_next : (start since : List MdsItem) (at count : ℕ) (live : List Mirror) (failures : List Failure) (f : Failure) (m : Mirror) → HaveFailed start since at count live failures → slice_get live (length failures) ≡ Some m
    → HasFailedRead start since at count m.id → HaveFailed start since at count live (failures ++ f ∷ [])
have_next start since at count [] failures f m h turn one = absurd (none-some m turn)
have_next start since at count (x ∷ live) [] f m h turn one = (subst (λ (y : Mirror). HasFailedRead start since at count y.id) (sym (same_Some x m turn)) one, tt)
have_next start since at count (x ∷ live) (g ∷ failures) f m h turn one = (h.0, have_next start since at count live failures f m h.1 turn one)

-- where none is left, each has failed
pub each_failed : (start since : List MdsItem) (at count : ℕ) (live : List Mirror) (failures : List Failure) → HaveFailed start since at count live failures → slice_get live (length failures) ≡ None
    → (id : MirrorId) → IsOneOf id (ids_of live) → HasFailedRead start since at count id
each_failed start since at count [] failures h turn id inside = absurd inside
each_failed start since at count (m ∷ live) [] h turn id inside = absurd (none-some m (sym turn))
each_failed start since at count (m ∷ live) (f ∷ failures) h turn id (inl is) = subst (λ (k : MirrorId). HasFailedRead start since at count k) (sym is) h.0
each_failed start since at count (m ∷ live) (f ∷ failures) h turn id (inr inside) = each_failed start since at count live failures h.1 turn id inside

-- ---- where a READ stands

-- the mirror that has its turn was asked under this number
pub record IsOut (start since : List MdsItem) (r : ReadState) (xid : ℕ) : Type 0 where
  pub mirror : Mirror
  pub turn : in_turn r ≡ Some mirror
  pub behind : List MdsItem
  pub asked : WasAsked start since mirror.id r.at r.count xid behind

abbrev pub IsInStage : List MdsItem → List MdsItem → ReadState → CallStage → Type 0
IsInStage start since r Waits = Unit {0}
IsInStage start since r (Out xid timeouts) = IsOut start since r xid
IsInStage start since r (KeptOut xid) = ⊥
IsInStage start since r KeptBack = ⊥
IsInStage start since r Done = ⊥
IsInStage start since r GivenUp = ⊥

pub stage_more : (start since : List MdsItem) (r : ReadState) (stage : CallStage) (more : List MdsItem) → IsInStage start since r stage → IsInStage start (since ++ more) r stage
stage_more start since r Waits more h = tt
stage_more start since r (Out xid timeouts) more h =
    record { mirror = h.mirror; turn = h.turn; behind = h.behind ++ more; asked = asked_more start since h.mirror.id r.at r.count xid h.behind more h.asked }
stage_more start since r (KeptOut xid) more h = absurd h
stage_more start since r KeptBack more h = absurd h
stage_more start since r Done more h = absurd h
stage_more start since r GivenUp more h = absurd h

-- ---- a READ of a file that waits, of a compound

pub record IsWaitingFor (h : List MdsItem) (file : FileId) (c : CompoundRun) (r : ReadState) : Type 0 where
  pub bytes : List ℕ
  pub v : CompoundValue
  pub compound : incoming_of bytes ≡ IsCompound c.xid v
  pub at : ℕ
  pub count : ℕ
  pub reads : ReadsFile v file at count
  pub at_is : r.at ≡ at
  pub count_is : r.count ≡ read_length count
  pub start : List MdsItem
  pub since : List MdsItem
  pub starts : StartsAt h c.node bytes file start since
  pub live_then : live_in (entries_in start) file ≡ Some (ids_of r.live)
  -- nothing is left behind it
  pub ops : c.ops ≡ []
  pub stop : c.stop ≡ stop.End None
  pub failed : HaveFailed start since r.at r.count r.live r.failures
  pub stage : IsInStage start since r r.stage

abbrev pub NoSwapsOf : FileId → List MdsItem → Type 0
NoSwapsOf file items = AllByRecursion (EntersNoSwapOf file) items

pub starts_more : (h : List MdsItem) (node : NodeId) (bytes : List ℕ) (file : FileId) (start since more : List MdsItem) → NoSwapsOf file more → StartsAt h node bytes file start since → StartsAt (h ++ more) node bytes file start (since ++ more)
starts_more h node bytes file start since more none s = record {
  before = s.before;
  now = s.now;
  swaps = s.swaps;
  split = ap (λ l. l ++ more) s.split ∙ append_assoc start since more;
  start_is = s.start_is;
  last = s.last;
  no_more = all_append (EntersNoSwapOf file) since more s.no_more none;
}

-- it is known in a longer history in which the file has no swap
unfoldable pub waits_more : (h : List MdsItem) (file : FileId) (c : CompoundRun) (r : ReadState) (more : List MdsItem) → NoSwapsOf file more → IsWaitingFor h file c r → IsWaitingFor (h ++ more) file c r
waits_more h file c r more none w = record {
  bytes = w.bytes;
  v = w.v;
  compound = w.compound;
  at = w.at;
  count = w.count;
  reads = w.reads;
  at_is = w.at_is;
  count_is = w.count_is;
  start = w.start;
  since = w.since ++ more;
  starts = starts_more h c.node w.bytes file w.start w.since more none w.starts;
  live_then = w.live_then;
  ops = w.ops;
  stop = w.stop;
  failed = have_more w.start w.since r.at r.count r.live r.failures more w.failed;
  stage = stage_more w.start w.since r r.stage more w.stage;
}

-- ---- it begins

pub waits_first : (past : List MdsItem) (now : ℕ) (file : FileId) (c : CompoundRun) (bytes : List ℕ) (v : CompoundValue) (at count : ℕ) (live : List Mirror) → incoming_of bytes ≡ IsCompound c.xid v → ReadsFile v file at count
    → c.ops ≡ [] → c.stop ≡ stop.End None → live_in (entries_in (past ++ Comes (record { now = now; input = Hears c.node bytes }) ∷ [])) file ≡ Some (ids_of live)
    → IsWaitingFor (past ++ Comes (record { now = now; input = Hears c.node bytes }) ∷ []) file c (new_read live at (read_length count))
waits_first past now file c bytes v at count live compound reads ops stop told =
    let h : List MdsItem = past ++ Comes (record { now = now; input = Hears c.node bytes }) ∷ [] in
    record {
      bytes = bytes;
      v = v;
      compound = compound;
      at = at;
      count = count;
      reads = reads;
      at_is = refl;
      count_is = refl;
      start = h;
      since = [];
      starts = record { before = past; now = now; swaps = []; split = sym (append-nil h); start_is = refl; last = HasNone refl; no_more = tt };
      live_then = told;
      ops = ops;
      stop = stop;
      failed = tt;
      stage = tt;
    }

-- it begins again where a mirror was swapped in
again_split : (before : List MdsItem) (x : MdsItem) (swaps start since h more : List MdsItem) → h ≡ start ++ since → start ≡ before ++ x ∷ swaps → h ++ more ≡ before ++ x ∷ (swaps ++ (since ++ more))
again_split before x swaps start since h more split is =
    ap (λ l. l ++ more) (split ∙ ap (λ l. l ++ since) is) ∙ append_assoc (before ++ x ∷ swaps) since more ∙ append_assoc before (x ∷ swaps) (since ++ more)

swaps_end : (swaps since : List MdsItem) (front : List Entry) (e : Entry) → swaps ++ (since ++ map Enters (front ++ e ∷ [])) ≡ (swaps ++ (since ++ map Enters front)) ++ Enters e ∷ []
swaps_end swaps since front e =
    ap (λ l. swaps ++ (since ++ l)) (map-append Enters front (e ∷ [])) ∙ ap (λ l. swaps ++ l) (sym (append_assoc since (map Enters front) (Enters e ∷ []))) ∙ sym (append_assoc swaps (since ++ map Enters front) (Enters e ∷ []))

pub waits_again : (h : List MdsItem) (file : FileId) (c : CompoundRun) (r : ReadState) (entries front : List Entry) (old : Option MirrorId) (new : MirrorId) (live : List Mirror) → entries ≡ front ++ Swapped file old new ∷ []
    → live_in (entries_in (h ++ map Enters entries)) file ≡ Some (ids_of live) → IsWaitingFor h file c r → IsWaitingFor (h ++ map Enters entries) file c (begun_again r live)
waits_again h file c r entries front old new live is told w =
    let came : MdsItem = Comes (record { now = w.starts.now; input = Hears c.node w.bytes }) in
    let more : List MdsItem = map Enters entries in
    record {
      bytes = w.bytes;
      v = w.v;
      compound = w.compound;
      at = w.at;
      count = w.count;
      reads = w.reads;
      at_is = w.at_is;
      count_is = w.count_is;
      start = h ++ more;
      since = [];
      starts = record {
        before = w.starts.before;
        now = w.starts.now;
        swaps = w.starts.swaps ++ (w.since ++ more);
        split = sym (append-nil (h ++ more));
        start_is = again_split w.starts.before came w.starts.swaps w.start w.since h more w.starts.split w.starts.start_is;
        last = HasSwap (w.starts.swaps ++ (w.since ++ map Enters front)) old new (ap (λ (l : List Entry). w.starts.swaps ++ (w.since ++ map Enters l)) is ∙ swaps_end w.starts.swaps w.since front (Swapped file old new));
        no_more = tt;
      };
      live_then = told;
      ops = w.ops;
      stop = w.stop;
      failed = tt;
      stage = tt;
    }

-- ---- its READ goes out, is late, fails

-- what is known of it in another stage, or with another failure
pub waits_in : (h : List MdsItem) (file : FileId) (c : CompoundRun) (r : ReadState) (stage : CallStage) (w : IsWaitingFor h file c r) → IsInStage w.start w.since (at_stage r stage) stage → IsWaitingFor h file c (at_stage r stage)
waits_in h file c r stage w so = record {
  bytes = w.bytes;
  v = w.v;
  compound = w.compound;
  at = w.at;
  count = w.count;
  reads = w.reads;
  at_is = w.at_is;
  count_is = w.count_is;
  start = w.start;
  since = w.since;
  starts = w.starts;
  live_then = w.live_then;
  ops = w.ops;
  stop = w.stop;
  failed = w.failed;
  stage = so;
}

pub waits_out : (h : List MdsItem) (file : FileId) (c : CompoundRun) (r : ReadState) (m : Mirror) (xid : ℕ) → IsWaitingFor h file c r → in_turn r ≡ Some m → ((s : MdsSend) → IsOneOf s (sends_in h) → number_sent s ≡ Some xid → ⊥)
    → IsWaitingFor (h ++ Sends (CallsServer m.id.server xid 0 (Read m.id.fileid r.at r.count)) ∷ []) file c (at_stage r (Out xid 0))
unfolding waits_more
waits_out h file c r m xid w turn new =
    let sent : List MdsItem = Sends (CallsServer m.id.server xid 0 (Read m.id.fileid r.at r.count)) ∷ [] in
    waits_in (h ++ sent) file c r (Out xid 0) (waits_more h file c r sent (tt, tt) w)
    (record {
      mirror = m;
      turn = turn;
      behind = [];
      asked = record { before = w.since; split = refl; new = λ s inside. new s (subst (λ (l : List MdsItem). IsOneOf s (sends_in l)) (sym w.starts.split) (in_front s w.start w.since inside)) };
    })
  where
    in_front : (s : MdsSend) (xs ys : List MdsItem) → IsOneOf s (sends_in xs) → IsOneOf s (sends_in (xs ++ ys))
    in_front s xs ys inside = subst (λ (l : List MdsSend). IsOneOf s l) (sym (sends_joined xs ys)) (in_more s (sends_in xs) (sends_in ys) inside)

pub waits_failed : (h : List MdsItem) (file : FileId) (c : CompoundRun) (r : ReadState) (f : Failure) (w : IsWaitingFor h file c r) (o : IsOut w.start w.since r f.xid) → f.id ≡ o.mirror.id
    → IsWaitingFor (h ++ Enters (Failed f.id f.xid) ∷ []) file c (with_failure r f)
unfolding waits_more
waits_failed h file c r f w o is =
    let failed : List MdsItem = Enters (Failed f.id f.xid) ∷ [] in
    let x : IsWaitingFor (h ++ failed) file c r = waits_more h file c r failed (tt, tt) w in
    record {
      bytes = x.bytes;
      v = x.v;
      compound = x.compound;
      at = x.at;
      count = x.count;
      reads = x.reads;
      at_is = x.at_is;
      count_is = x.count_is;
      start = x.start;
      since = x.since;
      starts = x.starts;
      live_then = x.live_then;
      ops = x.ops;
      stop = x.stop;
      failed = have_next w.start (w.since ++ failed) r.at r.count r.live r.failures f o.mirror x.failed o.turn
          (record { before = w.since; xid = f.xid; behind = []; split = ap (λ (k : MirrorId). w.since ++ Enters (Failed k f.xid) ∷ []) is; later = o.behind; asked = o.asked });
      stage = tt;
    }
