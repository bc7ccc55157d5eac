-- What the queue leaves: what its head wants can be asked, or something is under way for which it waits.
use Rattle.client_progress.proofs.FlagLists.{at_map, covers, queued_covers, queued_ids, last_uncovered, IsUncommitted, uncommitted}
use Rattle.client_progress.proofs.Fits.{not_both, is_open_head, is_through_head, has_number, HasUnknown, AskFits, IsUncovered, LayoutFits, FitOf, Fit, SameHead, fit_queue, fit_layout, commits_fit, ending_fits, ending_same, ending_given}
use Rattle.std.proofs.Common.{◌≡◌, ℕ, ◌+◌, ◌<◌, ◌≤◌, Bool, true, false, List, [], ◌∷◌, ◌++◌, length, Option, Some, None, refl, sym, ap, subst, ◌∙◌, inl, inr, ◌⊎◌, arith}
use Rattle.std.specs.Prelude.{map, not, is_some, ◌==◌, if◌then◌else◌}
use Rattle.std.specs.List.{list_all}
use Rattle.std.proofs.lemmas.List.{length-append}
use Rattle.nfs4_types.specs.declared.ids.DeviceId.{DeviceId}
use Rattle.device_addr.specs.declared.net_addr.NetAddr.{NetAddr}
use Rattle.cluster_model.specs.declared.ids.MirrorId.{MirrorId}
use Rattle.cluster_model.specs.declared.answer.UserAnswer.TheVariants as answer
use Rattle.mirror_writer.specs.declared.call.TakenWrite.{TakenWrite}
use Rattle.mirror_writer.specs.Writers.{WriterMirror, WriterValue, overlaps_taken, with_write, queued, commit_wanted, open_committed}
use Rattle.client_file_calls.specs.declared.open.OpenFile.{OpenFile}
use Rattle.client_mds_calls.specs.declared.ask.MdsAsk.{MdsAsk}
use Rattle.client_mds_calls.specs.declared.ask.MdsAsk.TheVariants as ask
use Rattle.client_state.specs.declared.request.UserRequest.{UserRequest}
use Rattle.client_state.specs.declared.request.UserRequest.TheVariants.{Open, Write, Through, Commit, Read, Return}
use Rattle.client_state.specs.declared.layout.Layout.{Layout}
use Rattle.client_state.specs.declared.tie.Tie.{Tie}
use Rattle.client_state.specs.declared.tie.Tie.TheVariants.{NoClient, HasClient, HasSession}
use Rattle.client_state.specs.ClientStates.{ClientValue}
use Rattle.client_state.specs.ClientQueue.{HeadStep, IsDone, IsWaiting, Asks, answers_user, refuses_request, answers_committed, with_layout, with_writer, ending, is_writing, unknown_in, unknown_servers, is_past, taken_write, write_under, write_to, write_by, behind_return, is_all_told, layout_committing, on_open_file, opens_by, head_step, QueueRun, keeps_head, after_head, awake, with_rest, run_requests, run_queue}
use Rattle.client_laws.proofs.Later.{every_map, every_append}
use Rattle.client_laws.proofs.Stands.{Every, AtEach, IfThere}
use Rattle.client_laws.proofs.Steady.{kind_of}
use Rattle.client_progress.specs.Going.{has_request, is_given_back}

-- ---- what a request waits for

-- a mirror is to commit
abbrev pub WantsCommit : Option Layout → Type 0
WantsCommit None = ⊥
WantsCommit (Some l) = (l.writer.wants_commit ≡ true) × (open_committed l.writer.mirrors ≡ false)

abbrev pub IsUnderWay : Option Layout → Type 0
IsUnderWay layout = (is_given_back layout ≡ true) ⊎ WantsCommit layout

-- the queue is empty, or its head wants this asked, or it waits for what is under way
pub data StopsOf (tie : Tie) (file : Option OpenFile) (queue : List UserRequest) (layout : Option Layout) (devices : List (DeviceId × NetAddr)) (wants : Option MdsAsk) : Type 0 where
  NoRequest : wants ≡ None → has_request queue ≡ false → StopsOf tie file queue layout devices wants
  WantsCall : (kind : MdsAsk) → wants ≡ Some kind → AskFits tie file queue layout devices kind → StopsOf tie file queue layout devices wants
  Waits : wants ≡ None → IsUnderWay layout → StopsOf tie file queue layout devices wants

abbrev pub Stops : ClientValue → Option MdsAsk → Type 0
Stops c wants = StopsOf c.tie c.file c.queue c.layout c.devices wants

-- ---- a write is taken

taken_fits : (devices : List (DeviceId × NetAddr)) (l : Layout) (at : ℕ) (bytes : List ℕ) → is_writing l.stage ≡ true → (length (unknown_in devices l.mirrors) == 0) ≡ true → LayoutFits devices l
    → LayoutFits devices (record l { writer = with_write l.writer at bytes; untold = l.untold ++ length l.writer.taken ∷ [] })
taken_fits devices l at bytes writing known fits = record {
  writer = record {
    apart = fits.writer.apart;
    some = subst (λ (ids : List MirrorId). 1 ≤ length ids) (sym (queued_ids n w.mirrors)) fits.writer.some;
    unfenced = fits.writer.unfenced;
    sizes = at_map (λ m. length m.covered ≡ length w.taken) (λ m. length m.covered ≡ length (w.taken ++ t ∷ [])) (queued n) w.mirrors (λ m size. length-append m.covered (false ∷ []) ∙ ap (λ k. k + 1) size ∙ sym (length-append w.taken (t ∷ []))) fits.writer.sizes;
    wanted = λ is. absurd (not_both (sym writing ∙ is));
    untold_fit = every_append (IsUncovered (with_write w at bytes)) l.untold (n ∷ []) (every_map (IsUncovered w) (IsUncovered (with_write w at bytes)) older l.untold fits.writer.untold_fit) ((longer, newest w.mirrors fits.writer.some fits.writer.sizes), tt);
    known = inr known;
  };
  sound = λ is. at_map (λ m. m.has_failed ≡ false) (λ m. m.has_failed ≡ false) (queued n) w.mirrors (λ m sound. sound) (fits.sound is);
}
  where
    w : WriterValue
    w = l.writer

    n : ℕ
    n = length l.writer.taken

    t : TakenWrite
    t = record { at = at; bytes = bytes }

    longer : length l.writer.taken < length (l.writer.taken ++ (record { at = at; bytes = bytes }) ∷ [])
    longer = omega (arith, length-append l.writer.taken (t ∷ []))

    older : (k : ℕ) → IsUncovered l.writer k → IsUncovered (with_write l.writer at bytes) k
    older k is = (omega (arith, is.0, length-append l.writer.taken (t ∷ [])), queued_covers (length l.writer.taken) k l.writer.mirrors ∙ is.1)

    newest : (mirrors : List WriterMirror) → 1 ≤ length (map (λ (m : WriterMirror). m.id) mirrors) → AtEach mirrors (λ m. length m.covered ≡ length l.writer.taken) → list_all (covers (length l.writer.taken)) (map (queued (length l.writer.taken)) mirrors) ≡ false
    newest [] some sizes = absurd (omega (arith, some))
    newest (m ∷ mirrors) some sizes = queued_covers (length l.writer.taken) (length l.writer.taken) (m ∷ mirrors) ∙ last_uncovered (m ∷ mirrors) (length l.writer.taken) sizes m refl

-- ---- the head

open_head : (file : Option OpenFile) (layout : Option Layout) (old new : List UserRequest) → is_some file ≡ true → is_through_head old ≡ false → SameHead file layout old new
open_head file layout old new some none = record { opens = λ is was. absurd (not_both (sym some ∙ is)); through = λ is gone was. absurd (not_both (sym was ∙ none)) }

closed_head : (file : Option OpenFile) (layout : Option Layout) (old new : List UserRequest) → is_some file ≡ false → is_open_head old ≡ false → SameHead file layout old new
closed_head file layout old new none other = record { opens = λ is was. absurd (not_both (sym was ∙ other)); through = λ is gone was. absurd (not_both (sym is ∙ none)) }

-- of a client whose other requests are in its queue
abbrev HeadFits : UserRequest → ClientValue → HeadStep → Type 0
HeadFits request c (IsDone r) = Fit r.client × (r.client.queue ≡ c.queue)
HeadFits request c (IsWaiting d) = Fit (keeps_head request d) × IsUnderWay d.layout
HeadFits request c (Asks kind) = AskFits c.tie c.file (request ∷ c.queue) c.layout c.devices kind

head_if : (request : UserRequest) (c : ClientValue) (b : Bool) (x y : HeadStep) → (b ≡ true → HeadFits request c x) → (b ≡ false → HeadFits request c y) → HeadFits request c (if b then x else y)
head_if request c true x y first second = first refl
head_if request c false x y first second = second refl

some_file : (c : ClientValue) (file : OpenFile) → c.file ≡ Some file → is_some c.file ≡ true
some_file c file there = ap is_some there

module _ (c : ClientValue) (file : OpenFile) (there : c.file ≡ Some file) where
  -- the head goes
  done_fit : (request : UserRequest) → is_through_head (request ∷ c.queue) ≡ false → Fit (keeps_head request c) → Fit c
  done_fit request none fit = fit_queue c.tie c.file (request ∷ c.queue) c.queue c.layout c.devices (kind_of c.asked) c.again (open_head c.file c.layout (request ∷ c.queue) c.queue (some_file c file there) none) fit

  ends_fit : (request : UserRequest) (l : Layout) → c.layout ≡ Some l → Fit (keeps_head request c) → HeadFits request c (IsWaiting (with_layout c (ending l)))
  ends_fit request l at fit = (
    fit_layout c.tie c.file (request ∷ c.queue) c.layout l (ending l) c.devices (kind_of c.asked) c.again at (ending_same l) (λ fits. ending_fits c.devices l fits.writer) fit,
    inl (ap not (ending_given l)),
  )

  return_fits : (request : UserRequest) (layout : Option Layout) (step : HeadStep) → c.layout ≡ layout → Fit (keeps_head request c) → (layout ≡ None → HeadFits request c step) → HeadFits request c (behind_return step c layout)
  return_fits request None step at fit keeps = keeps refl
  return_fits request (Some l) step at fit keeps = ends_fit request l at fit

  write_fits : (layout : Option Layout) (at : ℕ) (bytes : List ℕ) → c.layout ≡ layout → Fit (keeps_head (Write at bytes) c) → HeadFits (Write at bytes) c (write_by c file layout at bytes)
  write_fits None at bytes where_is fit = (some_file c file there, where_is)
  write_fits (Some l) at bytes where_is fit =
      let request : UserRequest = Write at bytes in
      let unknown : ℕ = length (unknown_servers c l) in
      head_if request c (is_writing l.stage) (write_to c file l at bytes (length (unknown_servers c l))) (IsWaiting c)
      (λ writing.
      head_if request c (length (unknown_servers c l) == 0) (write_under c file l at bytes) (Asks (ask.DeviceInfo (length (unknown_servers c l))))
      (λ known.
      head_if request c (overlaps_taken l.writer at (length bytes)) (IsWaiting (with_layout c (ending l))) (IsDone (taken_write c file l at bytes))
      (λ over. ends_fit request l where_is fit)
      (λ apart. (
        fit_layout c.tie c.file c.queue c.layout l (record l { writer = with_write l.writer at bytes; untold = l.untold ++ length l.writer.taken ∷ [] }) c.devices (kind_of c.asked) c.again where_is (record { mirrors = refl; stage = refl }) (taken_fits c.devices l at bytes writing known) (done_fit request refl fit),
        refl,
      )))
      (λ some. subst (HasUnknown c.devices) (sym where_is) some))
      (λ ends. (fit, inl (ap is_given_back where_is ∙ ap not ends)))

  commit_waits : (l : Layout) → c.layout ≡ Some l → (length l.untold == 0) ≡ false → LayoutFits c.devices l → IsUnderWay (Some (with_writer l (commit_wanted l.writer)))
  commit_waits l at untold fits = by_stage (is_writing l.stage) refl
    where
      by_untold : (ns : List ℕ) → (length ns == 0) ≡ false → Every (IsUncovered l.writer) ns → is_writing l.stage ≡ true → IsUncommitted l.writer
      by_untold [] none all writing = absurd (not_both none)
      by_untold (n ∷ ns) some all writing = uncommitted l.writer n fits.writer.sizes (fits.sound writing) all.0

      both : IsUncommitted l.writer → IsUnderWay (Some (with_writer l (commit_wanted l.writer)))
      both is = inr (is.wants, is.unsettled)

      by_stage : (b : Bool) → is_writing l.stage ≡ b → IsUnderWay (Some (with_writer l (commit_wanted l.writer)))
      by_stage true writing = both (by_untold l.untold untold fits.writer.untold_fit writing)
      by_stage false ends = inl (ap not ends)

  commit_fits : (layout : Option Layout) → c.layout ≡ layout → is_all_told layout ≡ false → Fit (keeps_head Commit c) → HeadFits Commit c (IsWaiting (layout_committing c layout))
  commit_fits None at untold fit = absurd (not_both untold)
  commit_fits (Some l) at untold fit = (
    fit_layout c.tie c.file (Commit ∷ c.queue) c.layout l (with_writer l (commit_wanted l.writer)) c.devices (kind_of c.asked) c.again at (record { mirrors = refl; stage = refl })
        (λ fits. record { writer = commits_fit c.devices l.mirrors l.writer l.untold l.stage l.stage fits.writer; sound = fits.sound }) fit,
    commit_waits l at untold (subst (λ (o : Option Layout). IfThere o (LayoutFits c.devices)) at fit.layout_fits),
  )

  file_fits : (request : UserRequest) → Fit (keeps_head request c) → HeadFits request c (on_open_file c file request)
  file_fits (Open name) fit = (done_fit (Open name) refl fit, refl)
  file_fits (Write at bytes) fit =
      head_if (Write at bytes) c (is_past at bytes) (IsDone (refuses_request 27 c)) (write_by c file c.layout at bytes) (λ past. (done_fit (Write at bytes) refl fit, refl)) (λ within. write_fits c.layout at bytes refl fit)
  file_fits (Through at bytes) fit =
      head_if (Through at bytes) c (is_past at bytes) (IsDone (refuses_request 27 c)) (behind_return (Asks ask.Write) c c.layout)
      (λ past. (done_fit (Through at bytes) (ap not past) fit, refl))
      (λ within. return_fits (Through at bytes) c.layout (Asks ask.Write) refl fit (λ none. (some_file c file there, none, ap not within)))
  file_fits Commit fit = head_if Commit c (is_all_told c.layout) (IsDone (answers_committed c)) (IsWaiting (layout_committing c c.layout)) (λ told. (done_fit Commit refl fit, refl)) (λ untold. commit_fits c.layout refl untold fit)
  file_fits (Read at count) fit = some_file c file there
  file_fits Return fit = return_fits Return c.layout (IsDone (answers_user answer.Returned c)) refl fit (λ none. (done_fit Return refl fit, refl))

module _ (c : ClientValue) (none : c.file ≡ None) where
  no_file : is_some c.file ≡ false
  no_file = ap is_some none

  refused_fit : (request : UserRequest) → is_open_head (request ∷ c.queue) ≡ false → Fit (keeps_head request c) → HeadFits request c (IsDone (refuses_request 10020 c))
  refused_fit request other fit = (fit_queue c.tie c.file (request ∷ c.queue) c.queue c.layout c.devices (kind_of c.asked) c.again (closed_head c.file c.layout (request ∷ c.queue) c.queue no_file other) fit, refl)

  opens_fit : (name : List ℕ) (tie : Tie) → c.tie ≡ tie → HeadFits (Open name) c (Asks (opens_by tie))
  opens_fit name NoClient at = no_file
  opens_fit name (HasClient clientid sequence) at = ap has_number at
  opens_fit name (HasSession s) at = by_flag s.is_complete
    where
      its : AskFits (HasSession s) c.file (Open name ∷ c.queue) c.layout c.devices ask.Open
      its = (no_file, refl, refl)

      by_flag : (b : Bool) → HeadFits (Open name) c (Asks (if b then ask.Open else ask.ReclaimComplete))
      by_flag true = subst (λ (t : Tie). AskFits t c.file (Open name ∷ c.queue) c.layout c.devices ask.Open) (sym at) its
      by_flag false = subst (λ (t : Tie). AskFits t c.file (Open name ∷ c.queue) c.layout c.devices ask.ReclaimComplete) (sym at) refl

head_fits : (c : ClientValue) (request : UserRequest) (file : Option OpenFile) → c.file ≡ file → Fit (keeps_head request c) → HeadFits request c (head_step c file request)
head_fits c (Open name) None there fit = opens_fit c there name c.tie refl
head_fits c (Write at bytes) None there fit = refused_fit c there (Write at bytes) refl fit
head_fits c (Through at bytes) None there fit = refused_fit c there (Through at bytes) refl fit
head_fits c Commit None there fit = refused_fit c there Commit refl fit
head_fits c (Read at count) None there fit = refused_fit c there (Read at count) refl fit
head_fits c Return None there fit = refused_fit c there Return refl fit
head_fits c request (Some file) there fit = file_fits c file there request fit

-- ---- the queue

pub record QueueFits (q : QueueRun) : Type 0 where
  pub fit : Fit q.run.client
  pub stops : Stops q.run.client q.wants

after_fits : (request : UserRequest) (c : ClientValue) (step : HeadStep) (next : ClientValue → QueueRun) → Fit (keeps_head request c) → HeadFits request c step → ((d : ClientValue) → d.queue ≡ c.queue → Fit d → QueueFits (next d)) → QueueFits (after_head request c step next)
after_fits request c (IsDone r) next fit keeps further = (let q : QueueFits (next (awake r).client) = further (awake r).client keeps.1 keeps.0 in record { fit = q.fit; stops = q.stops })
after_fits request c (IsWaiting d) next fit keeps further = record { fit = keeps.0; stops = Waits refl keeps.1 }
after_fits request c (Asks kind) next fit keeps further = record { fit = fit; stops = WantsCall kind refl keeps }

requests_fit : (requests : List UserRequest) (c : ClientValue) → c.queue ≡ requests → Fit c → QueueFits (run_requests requests c)
requests_fit [] c at fit = record { fit = fit; stops = NoRequest refl (ap has_request at) }
requests_fit (request ∷ rest) c at fit =
    let here : Fit (keeps_head request (with_rest c rest)) = subst (λ (queue : List UserRequest). FitOf c.tie c.file queue c.layout c.devices (kind_of c.asked) c.again) at fit in
    after_fits request (with_rest c rest) (head_step (with_rest c rest) c.file request) (run_requests rest) here (head_fits (with_rest c rest) request c.file refl here) (requests_fit rest)

pub queue_fits : (c : ClientValue) → Fit c → QueueFits (run_queue c)
queue_fits c fit = requests_fit c.queue c refl fit
