-- What an answer of the metadata server leaves.
use Rattle.client_progress.proofs.Fits.{not_both, is_open_head, has_number, HasUnknown, AskFits, LayoutFits, FitOf, Fit}
use Rattle.std.proofs.Common.{◌≡◌, ℕ, zero, suc, ◌≤◌, Bool, true, false, List, [], ◌∷◌, length, Option, Some, None, Result, Ok, Err, refl, sym, ap, subst, ◌∙◌, inl, inr, ◌⊎◌, arith}
use Rattle.std.specs.Prelude.{map, is_some, drop, ◌==◌, ◌&&◌, if◌then◌else◌}
use Rattle.std.proofs.lemmas.Option.{none-some, same_Some}
use Rattle.ff_xdr.specs.declared.error.XdrError.{XdrError}
use Rattle.ff_xdr.specs.Form.{Value}
use Rattle.ff_xdr.specs.Reading.{reading, whole}
use Rattle.rpc_record.specs.Replies.{RpcReply, is_success}
use Rattle.nfs4_types.specs.declared.ids.DeviceId.{DeviceId}
use Rattle.nfs4_compound.specs.Results.{resop4}
use Rattle.nfs4_compound.specs.Compounds.{compound4_res}
use Rattle.device_addr.specs.declared.net_addr.NetAddr.{NetAddr}
use Rattle.cluster_model.specs.declared.ids.Mirror.{Mirror}
use Rattle.mirror_writer.specs.Writers.{WriterMirror, new_mirror}
use Rattle.client_session_calls.specs.SessionResults.{exchange_id_results, create_session_results, reclaim_complete_results, renew_results}
use Rattle.client_file_calls.specs.declared.open.OpenFile.{OpenFile}
use Rattle.client_file_calls.specs.declared.grant.LayoutGrant.{LayoutGrant}
use Rattle.client_file_calls.specs.FileResults.{open_results, layout_get_results, device_info_results, write_results, read_results, layout_return_results}
use Rattle.client_mds_calls.specs.declared.ask.MdsAsk.{MdsAsk}
use Rattle.client_mds_calls.specs.declared.ask.MdsAsk.TheVariants as ask
use Rattle.client_mds_calls.specs.declared.reply.SlotReport.{SlotReport}
use Rattle.client_mds_calls.specs.declared.reply.SlotReport.TheVariants.{Taken, Uncached, Delayed, Unknown}
use Rattle.client_mds_calls.specs.MdsReplies.{MdsAnswerValue, Client, Session, Complete, Opened, Granted, Devices, Written, Bytes, Returned, Renewed, Refused, MdsReplyValue, answer_if, answer_where, results_of_ask, compound_answer, compound_reply, reply_of_ask, odd_mds_reply}
use Rattle.client_state.specs.declared.stage.LayoutStage.{LayoutStage}
use Rattle.client_state.specs.declared.stage.LayoutStage.TheVariants.{Writing, Ending, Deferred, Returning}
use Rattle.client_state.specs.declared.request.UserRequest.{UserRequest}
use Rattle.client_state.specs.declared.layout.Layout.{Layout}
use Rattle.client_state.specs.declared.asked.Asked.{Asked}
use Rattle.client_state.specs.declared.tie.Tie.{Tie}
use Rattle.client_state.specs.declared.tie.Tie.TheVariants.{NoClient, HasClient, HasSession}
use Rattle.client_state.specs.ClientStates.{ClientValue, ClientRun, unmoved, as_new, is_layout_return}
use Rattle.client_state.specs.ClientQueue.{is_writing, unknown_in, unknown_servers, revoked_layout}
use Rattle.client_answers.specs.ClientAnswers.{moved_tie, fresh_session, completed_tie, new_layout, with_addresses, learns_devices, layout_returned, head_refused, has_session, deferred, defers, after_refusal, refused_otherwise, is_for_later, asks_later, session_lost, refused_by_mds, by_answer, delayed, mds_answered}
use Rattle.client_laws.proofs.GrantFacts.{IsSome, granted_apart, granted_some}
use Rattle.client_laws.proofs.Stands.{AtEach, IfThere}
use Rattle.client_laws.proofs.Steady.{kind_of}
use Rattle.client_progress.specs.Going.{is_returning_stage, is_returning}

-- ---- which compound an answer is to

abbrev Answers : MdsAsk → MdsAnswerValue → Type 0
Answers kind (Client clientid sequence) = kind ≡ ask.ExchangeId
Answers kind (Session session) = kind ≡ ask.CreateSession
Answers kind Complete = kind ≡ ask.ReclaimComplete
Answers kind (Opened file) = kind ≡ ask.Open
Answers kind (Granted grant) = kind ≡ ask.LayoutGet
Answers kind (Devices addresses) = (count : ℕ) × (kind ≡ ask.DeviceInfo count)
Answers kind Written = kind ≡ ask.Write
Answers kind (Bytes eof bytes) = (at : ℕ) × (count : ℕ) × (kind ≡ ask.Read at count)
Answers kind Returned = kind ≡ ask.LayoutReturn
Answers kind Renewed = kind ≡ ask.Renew
Answers kind (Refused status) = Unit {0}

where_answers : {A : Type 0} (kind : MdsAsk) (answer : A → MdsAnswerValue) → ((a : A) → Answers kind (answer a)) → (o : Option A) → Answers kind (answer_where answer o)
where_answers kind answer each None = tt
where_answers kind answer each (Some a) = each a

if_answers : (kind : MdsAsk) (answer : MdsAnswerValue) → Answers kind answer → (b : Bool) → Answers kind (answer_if b answer)
if_answers kind answer its true = its
if_answers kind answer its false = tt

results_answer : (kind : MdsAsk) (results : List (Value resop4)) → Answers kind (results_of_ask kind results)
results_answer ask.ExchangeId results = where_answers ask.ExchangeId _ (λ c. refl) (exchange_id_results results)
results_answer ask.CreateSession results = where_answers ask.CreateSession Session (λ c. refl) (create_session_results results)
results_answer ask.ReclaimComplete results = if_answers ask.ReclaimComplete Complete refl (reclaim_complete_results results)
results_answer ask.Open results = where_answers ask.Open Opened (λ c. refl) (open_results results)
results_answer ask.LayoutGet results = where_answers ask.LayoutGet Granted (λ c. refl) (layout_get_results results)
results_answer (ask.DeviceInfo count) results = where_answers (ask.DeviceInfo count) Devices (λ c. (count, refl)) (device_info_results count results)
results_answer ask.Write results = if_answers ask.Write Written refl (write_results results)
results_answer (ask.Read at count) results = where_answers (ask.Read at count) _ (λ c. (at, count, refl)) (read_results at count results)
results_answer ask.LayoutReturn results = if_answers ask.LayoutReturn Returned refl (layout_return_results results)
results_answer ask.Renew results = if_answers ask.Renew Renewed refl (renew_results results)

compound_answers : (kind : MdsAsk) (status : ℕ) (results : List (Value resop4)) → Answers kind (compound_answer kind status results)
compound_answers kind status results = by_test (status == 0)
  where
    by_test : (b : Bool) → Answers kind (if b then results_of_ask kind results else Refused status)
    by_test true = results_answer kind results
    by_test false = tt

whole_answers : (kind : MdsAsk) (r : Result (Value compound4_res) XdrError) → Answers kind (compound_reply kind r).answer
whole_answers kind (Ok (status, (tag, results))) = compound_answers kind status results
whole_answers kind (Err e) = tt

reply_answers : (kind : MdsAsk) (reply : RpcReply) → Answers kind (reply_of_ask kind reply).answer
reply_answers kind reply = by_test (is_success reply.stat)
  where
    by_test : (b : Bool) → Answers kind (if b then compound_reply kind (whole reply.results (reading compound4_res reply.results 0)) else odd_mds_reply).answer
    by_test true = whole_answers kind (whole reply.results (reading compound4_res reply.results 0))
    by_test false = tt

-- ---- nothing is out any more

-- the client has the session that it had, or none
same_tied : (tie tie' : Tie) (file : Option OpenFile) → has_session tie' ≡ has_session tie → (is_some file ≡ true → has_session tie ≡ true) → is_some file ≡ true → has_session tie' ≡ true
same_tied tie tie' file same tied some = same ∙ tied some

over_fit : (queue : List UserRequest) (devices : List (DeviceId × NetAddr)) → FitOf NoClient None queue None devices None None
over_fit queue devices = record { tied = λ is. absurd (not_both (sym is)); held = tt; layout_fits = tt; out = tt; anew = tt; returning = λ is. absurd (not_both (sym is)) }

no_layout : (layout : Option Layout) (file : Option OpenFile) → IfThere layout (λ l. is_some file ≡ true) → is_some file ≡ false → layout ≡ None
no_layout None file held none = refl
no_layout (Some l) file held none = absurd (not_both (sym held ∙ none))

-- a new layout
new_fits : (devices : List (DeviceId × NetAddr)) (kind : MdsAsk) (reply : RpcReply) (g : LayoutGrant) → (reply_of_ask kind reply).answer ≡ Granted g → LayoutFits devices (new_layout g)
new_fits devices kind reply g is = record {
  writer = record {
    apart = granted_apart kind reply g is;
    some = some_ids g.mirrors (granted_some kind reply g is);
    unfenced = refl;
    sizes = new_sizes g.mirrors;
    wanted = λ ends. absurd (not_both ends);
    untold_fit = tt;
    known = inl refl;
  };
  sound = λ writing. new_sound g.mirrors;
}
  where
    some_ids : (mirrors : List Mirror) → IsSome mirrors → 1 ≤ length (map (λ (m : WriterMirror). m.id) (map new_mirror mirrors))
    some_ids [] some = absurd some
    some_ids (m ∷ mirrors) some = omega arith

    new_sizes : (mirrors : List Mirror) → AtEach (map new_mirror mirrors) (λ m. length m.covered ≡ 0)
    new_sizes [] place m there = absurd (none-some m there)
    new_sizes (x ∷ mirrors) zero m there = ap (λ (k : WriterMirror). length k.covered) (sym (same_Some (new_mirror x) m there))
    new_sizes (x ∷ mirrors) (suc place) m there = new_sizes mirrors place m there

    new_sound : (mirrors : List Mirror) → AtEach (map new_mirror mirrors) (λ m. m.has_failed ≡ false)
    new_sound [] place m there = absurd (none-some m there)
    new_sound (x ∷ mirrors) zero m there = ap (λ (k : WriterMirror). k.has_failed) (sym (same_Some (new_mirror x) m there))
    new_sound (x ∷ mirrors) (suc place) m there = new_sound mirrors place m there

-- other devices, where nothing was taken yet
learned_fits : (devices more : List (DeviceId × NetAddr)) (l : Layout) → HasUnknown devices (Some l) → LayoutFits devices l → LayoutFits more l
learned_fits devices more l unknown fits = record {
  writer = record {
    apart = fits.writer.apart;
    some = fits.writer.some;
    unfenced = fits.writer.unfenced;
    sizes = fits.writer.sizes;
    wanted = fits.writer.wanted;
    untold_fit = fits.writer.untold_fit;
    known = inl (none_taken fits.writer.known);
  };
  sound = fits.sound;
}
  where
    none_taken : (l.writer.taken ≡ []) ⊎ ((length (unknown_in devices l.mirrors) == 0) ≡ true) → l.writer.taken ≡ []
    none_taken (inl none) = none
    none_taken (inr known) = absurd (not_both (sym known ∙ unknown))

-- the return waits for a tick
deferred_fits : (devices : List (DeviceId × NetAddr)) (l : Layout) → is_returning_stage l.stage ≡ true → LayoutFits devices l → LayoutFits devices (record l { stage = Deferred })
deferred_fits devices l back fits = record {
  writer = record {
    apart = fits.writer.apart;
    some = fits.writer.some;
    unfenced = fits.writer.unfenced;
    sizes = fits.writer.sizes;
    wanted = λ is. fits.writer.wanted (ends l.stage back);
    untold_fit = fits.writer.untold_fit;
    known = fits.writer.known;
  };
  sound = λ writing. absurd (not_both (sym writing));
}
  where
    ends : (stage : LayoutStage) → is_returning_stage stage ≡ true → is_writing stage ≡ false
    ends Writing is = absurd cc
    ends Ending is = absurd cc
    ends Deferred is = absurd cc
    ends Returning is = refl

moved_session : (now : ℕ) (tie : Tie) → has_session (moved_tie now tie) ≡ has_session tie
moved_session now NoClient = refl
moved_session now (HasClient clientid sequence) = refl
moved_session now (HasSession s) = refl

moved_number : (now : ℕ) (tie : Tie) → has_number (moved_tie now tie) ≡ has_number tie
moved_number now NoClient = refl
moved_number now (HasClient clientid sequence) = refl
moved_number now (HasSession s) = refl

completed_session : (tie : Tie) → has_session (completed_tie tie) ≡ has_session tie
completed_session NoClient = refl
completed_session (HasClient clientid sequence) = refl
completed_session (HasSession s) = refl

pub ask_tie : (tie tie' : Tie) (file : Option OpenFile) (queue : List UserRequest) (layout : Option Layout) (devices : List (DeviceId × NetAddr)) (kind : MdsAsk) → has_session tie' ≡ has_session tie → has_number tie' ≡ has_number tie → AskFits tie file queue layout devices kind → AskFits tie' file queue layout devices kind
ask_tie tie tie' file queue layout devices ask.ExchangeId same number fits = fits
ask_tie tie tie' file queue layout devices ask.CreateSession same number fits = number ∙ fits
ask_tie tie tie' file queue layout devices ask.ReclaimComplete same number fits = same ∙ fits
ask_tie tie tie' file queue layout devices ask.Open same number fits = (fits.0, same ∙ fits.1, fits.2)
ask_tie tie tie' file queue layout devices ask.LayoutGet same number fits = fits
ask_tie tie tie' file queue layout devices (ask.DeviceInfo count) same number fits = fits
ask_tie tie tie' file queue layout devices ask.Write same number fits = fits
ask_tie tie tie' file queue layout devices (ask.Read at count) same number fits = fits
ask_tie tie tie' file queue layout devices ask.LayoutReturn same number fits = fits
ask_tie tie tie' file queue layout devices ask.Renew same number fits = same ∙ fits

-- ---- the answer

module _ (file : Option OpenFile) (queue : List UserRequest) (layout : Option Layout) (devices : List (DeviceId × NetAddr)) (old : Tie) (kind : MdsAsk) (fit : FitOf old file queue layout devices (Some kind) None) where
  -- no return is out where something else was asked
  no_return : (kind ≡ ask.LayoutReturn → ⊥) → is_returning layout ≡ false
  no_return other = by_return (is_returning layout) refl
    where
      by_either : (Some kind ≡ Some ask.LayoutReturn) ⊎ (None ≡ Some ask.LayoutReturn) → ⊥
      by_either (inl out) = other (same_Some kind ask.LayoutReturn out)
      by_either (inr again) = none-some ask.LayoutReturn again

      by_return : (b : Bool) → is_returning layout ≡ b → is_returning layout ≡ false
      by_return true is = absurd (by_either (fit.returning is))
      by_return false is = is

  -- nothing is out, and the layout is this
  module _ (tie : Tie) (same : has_session tie ≡ has_session old) where
    free_fit : (queue' : List UserRequest) → is_returning layout ≡ false → FitOf tie file queue' layout devices None None
    free_fit queue' still = record { tied = same_tied old tie file same fit.tied; held = fit.held; layout_fits = fit.layout_fits; out = tt; anew = tt; returning = λ is. absurd (not_both (sym is ∙ still)) }

    lost_fit : (queue' : List UserRequest) → FitOf tie file queue' None devices None None
    lost_fit queue' = record { tied = same_tied old tie file same fit.tied; held = tt; layout_fits = tt; out = tt; anew = tt; returning = λ is. absurd (not_both (sym is)) }

    later_fit : (queue' : List UserRequest) → kind ≡ ask.LayoutReturn → FitOf tie file queue' (deferred layout) devices None None
    later_fit queue' is = by_layout layout fit.held fit.layout_fits (subst (AskFits old file queue layout devices) is fit.out)
      where
        by_layout : (o : Option Layout) → IfThere o (λ l. is_some file ≡ true) → IfThere o (LayoutFits devices) → is_returning o ≡ true → FitOf tie file queue' (deferred o) devices None None
        by_layout None held fits back = absurd cc
        by_layout (Some l) held fits back = record { tied = same_tied old tie file same fit.tied; held = held; layout_fits = deferred_fits devices l back fits; out = tt; anew = tt; returning = λ is. absurd (not_both (sym is)) }

defers_so : (P : ClientValue → Type 0) (kind : MdsAsk) (d : ClientValue) → (kind ≡ ask.LayoutReturn → P (record d { layout = deferred d.layout })) → ((kind ≡ ask.LayoutReturn → ⊥) → P d) → P (defers kind d)
defers_so P ask.LayoutReturn d back other = back refl
defers_so P ask.ExchangeId d back other = other (λ is. absurd cc)
defers_so P ask.CreateSession d back other = other (λ is. absurd cc)
defers_so P ask.ReclaimComplete d back other = other (λ is. absurd cc)
defers_so P ask.Open d back other = other (λ is. absurd cc)
defers_so P ask.LayoutGet d back other = other (λ is. absurd cc)
defers_so P (ask.DeviceInfo count) d back other = other (λ is. absurd cc)
defers_so P ask.Write d back other = other (λ is. absurd cc)
defers_so P (ask.Read at count) d back other = other (λ is. absurd cc)
defers_so P ask.Renew d back other = other (λ is. absurd cc)

later_so : (P : ClientValue → Type 0) (kind : MdsAsk) (d : ClientValue) → (kind ≡ ask.LayoutReturn → P (record d { layout = deferred d.layout })) → ((kind ≡ ask.LayoutReturn → ⊥) → (waits : Bool) → P (record d { waits = waits })) → P (asks_later kind d)
later_so P ask.LayoutReturn d back other = back refl
later_so P ask.ExchangeId d back other = other (λ is. absurd cc) true
later_so P ask.CreateSession d back other = other (λ is. absurd cc) true
later_so P ask.ReclaimComplete d back other = other (λ is. absurd cc) true
later_so P ask.Open d back other = other (λ is. absurd cc) true
later_so P ask.LayoutGet d back other = other (λ is. absurd cc) true
later_so P (ask.DeviceInfo count) d back other = other (λ is. absurd cc) true
later_so P ask.Write d back other = other (λ is. absurd cc) true
later_so P (ask.Read at count) d back other = other (λ is. absurd cc) true
later_so P ask.Renew d back other = other (λ is. absurd cc) d.waits

is_return : (kind : MdsAsk) → is_layout_return kind ≡ true → kind ≡ ask.LayoutReturn
is_return ask.LayoutReturn is = refl
is_return ask.ExchangeId is = absurd cc
is_return ask.CreateSession is = absurd cc
is_return ask.ReclaimComplete is = absurd cc
is_return ask.Open is = absurd cc
is_return ask.LayoutGet is = absurd cc
is_return (ask.DeviceInfo count) is = absurd cc
is_return ask.Write is = absurd cc
is_return (ask.Read at count) is = absurd cc
is_return ask.Renew is = absurd cc

pub run_if : (P : ClientValue → Type 0) (b : Bool) (x y : ClientRun) → (b ≡ true → P x.client) → (b ≡ false → P y.client) → P (if b then x else y).client
run_if P true x y first second = first refl
run_if P false x y first second = second refl

-- of a client d at which nothing is out now; `fit` is of the client before
module _ (d : ClientValue) (none : d.asked ≡ None) (idle : d.again ≡ None) (old : Tie) (kind : MdsAsk) (fit : FitOf old d.file d.queue d.layout d.devices (Some kind) None) (same : has_session d.tie ≡ has_session old) where
  -- with nothing out
  as_free : (tie : Tie) (file : Option OpenFile) (queue : List UserRequest) (layout : Option Layout) (devices : List (DeviceId × NetAddr)) → FitOf tie file queue layout devices None None → FitOf tie file queue layout devices (kind_of d.asked) d.again
  as_free tie file queue layout devices free = subst (λ (o : Option MdsAsk). FitOf tie file queue layout devices (kind_of d.asked) o) (sym idle) (subst (λ (o : Option Asked). FitOf tie file queue layout devices (kind_of o) None) (sym none) free)

  free_here : (queue : List UserRequest) → (kind ≡ ask.LayoutReturn → ⊥) → FitOf d.tie d.file queue d.layout d.devices (kind_of d.asked) d.again
  free_here queue other = as_free d.tie d.file queue d.layout d.devices (free_fit d.file d.queue d.layout d.devices old kind fit d.tie same queue (no_return d.file d.queue d.layout d.devices old kind fit other))

  later_here : (queue : List UserRequest) → kind ≡ ask.LayoutReturn → FitOf d.tie d.file queue (deferred d.layout) d.devices (kind_of d.asked) d.again
  later_here queue is = as_free d.tie d.file queue (deferred d.layout) d.devices (later_fit d.file d.queue d.layout d.devices old kind fit d.tie same queue is)

  lost_here : (queue : List UserRequest) → FitOf d.tie d.file queue None d.devices (kind_of d.asked) d.again
  lost_here queue = as_free d.tie d.file queue None d.devices (lost_fit d.file d.queue d.layout d.devices old kind fit d.tie same queue)

  -- ---- a refusal

  lost_over : (layout : Option Layout) → Fit (session_lost layout d).client
  lost_over None = by_queue d.queue
    where
      by_queue : (queue : List UserRequest) → Fit (as_new (head_refused 10052 queue d).client)
      by_queue [] = over_fit d.queue []
      by_queue (request ∷ rest) = over_fit (drop 1 d.queue) []
  lost_over (Some l) = over_fit _ []

  otherwise_fit : (status : ℕ) (queue : List UserRequest) → Fit (after_refusal kind (head_refused status queue d).client)
  otherwise_fit status [] = by_session (has_session d.tie)
    where
      by_session : (b : Bool) → Fit (if b then defers kind d else as_new d)
      by_session true = defers_so Fit kind d (later_here d.queue) (free_here d.queue)
      by_session false = over_fit d.queue []
  otherwise_fit status (request ∷ rest) = by_session (has_session d.tie)
    where
      e : ClientValue
      e = (head_refused status (request ∷ rest) d).client

      by_session : (b : Bool) → Fit (if b then defers kind (head_refused status (request ∷ rest) d).client else as_new (head_refused status (request ∷ rest) d).client)
      by_session true = defers_so Fit kind e (later_here (drop 1 d.queue)) (free_here (drop 1 d.queue))
      by_session false = over_fit (drop 1 d.queue) []

  refused_fit : (status : ℕ) → Fit (refused_by_mds kind status d).client
  refused_fit status =
      run_if Fit (status == 10052) (session_lost d.layout d) _ (λ lost. lost_over d.layout)
      (λ held. run_if Fit (is_for_later status) (unmoved (asks_later kind d)) _ (λ later. later_so Fit kind d (later_here d.queue) (λ other waits. free_here d.queue other))
      (λ now. run_if Fit ((status == 10025) && is_layout_return kind) (revoked_layout d) (refused_otherwise kind status d) (λ bad. lost_here _) (λ fine. otherwise_fit status d.queue)))

  -- ---- what was asked is done

  opened_fit : (file : OpenFile) → kind ≡ ask.Open → FitOf d.tie (Some file) (drop 1 d.queue) d.layout d.devices (kind_of d.asked) d.again
  opened_fit file is = as_free d.tie (Some file) (drop 1 d.queue) d.layout d.devices (by_layout (subst (AskFits old d.file d.queue d.layout d.devices) is fit.out))
    where
      by_layout : (is_some d.file ≡ false) × (has_session old ≡ true) × (is_open_head d.queue ≡ true) → FitOf d.tie (Some file) (drop 1 d.queue) d.layout d.devices None None
      by_layout (closed, has, head) = subst (λ (o : Option Layout). FitOf d.tie (Some file) (drop 1 d.queue) o d.devices None None) (sym (no_layout d.layout d.file fit.held closed))
          (record { tied = λ some. same ∙ has; held = tt; layout_fits = tt; out = tt; anew = tt; returning = λ is. absurd (not_both (sym is)) })

  granted_fit : (reply : RpcReply) (g : LayoutGrant) → (reply_of_ask kind reply).answer ≡ Granted g → kind ≡ ask.LayoutGet → FitOf d.tie d.file d.queue (Some (new_layout g)) d.devices (kind_of d.asked) d.again
  granted_fit reply g says is = as_free d.tie d.file d.queue (Some (new_layout g)) d.devices (record {
    tied = same_tied old d.tie d.file same fit.tied;
    held = (subst (AskFits old d.file d.queue d.layout d.devices) is fit.out).0;
    layout_fits = new_fits d.devices kind reply g says;
    out = tt;
    anew = tt;
    returning = λ back. absurd (not_both (sym back));
  })

  learns_fit : (count : ℕ) (addresses : List NetAddr) → kind ≡ ask.DeviceInfo count → Fit (learns_devices d.layout addresses d)
  learns_fit count addresses is = by_layout d.layout refl
    where
      not_return : kind ≡ ask.LayoutReturn → ⊥
      not_return other = absurd (cc (is, other))

      unknown : HasUnknown d.devices d.layout
      unknown = subst (AskFits old d.file d.queue d.layout d.devices) is fit.out

      by_layout : (o : Option Layout) → d.layout ≡ o → Fit (learns_devices o addresses d)
      by_layout None at = free_here d.queue not_return
      by_layout (Some l) at =
          let more : List (DeviceId × NetAddr) = with_addresses d.devices (unknown_servers d l) addresses in
          let here : FitOf d.tie d.file d.queue (Some l) d.devices (kind_of d.asked) d.again = subst (λ (o : Option Layout). FitOf d.tie d.file d.queue o d.devices (kind_of d.asked) d.again) at (free_here d.queue not_return) in
          let fits : LayoutFits more l = learned_fits d.devices more l (subst (HasUnknown d.devices) at unknown) here.layout_fits in
          subst (λ (o : Option Layout). FitOf d.tie d.file d.queue o more (kind_of d.asked) d.again) (sym at)
          (as_free d.tie d.file d.queue (Some l) more (record {
            tied = here.tied;
            held = here.held;
            layout_fits = fits;
            out = tt;
            anew = tt;
            returning = λ back. absurd (not_both (sym back ∙ sym (ap is_returning at) ∙ no_return d.file d.queue d.layout d.devices old kind fit not_return));
          }))

  returned_fit : kind ≡ ask.LayoutReturn → (file : Option OpenFile) (layout : Option Layout) → d.file ≡ file → d.layout ≡ layout → Fit (layout_returned file layout d).client
  returned_fit is (Some file) (Some l) there at = lost_here d.queue
  returned_fit is (Some file) None there at = absurd (not_both (sym (subst (AskFits old d.file d.queue d.layout d.devices) is fit.out) ∙ ap is_returning at))
  returned_fit is None None there at = absurd (not_both (sym (subst (AskFits old d.file d.queue d.layout d.devices) is fit.out) ∙ ap is_returning at))
  returned_fit is None (Some l) there at = absurd (not_both (sym (subst (λ (o : Option Layout). IfThere o (λ l. is_some d.file ≡ true)) at fit.held) ∙ ap is_some there))

  answer_fit : (reply : RpcReply) (says : MdsAnswerValue) → (reply_of_ask kind reply).answer ≡ says → Answers kind says → Fit (by_answer kind says d).client
  answer_fit reply (Refused status) at its = refused_fit status
  answer_fit reply (Client clientid sequence) at its = as_free (HasClient clientid sequence) d.file d.queue d.layout d.devices (record {
    tied = λ some. absurd (not_both (sym some ∙ subst (AskFits old d.file d.queue d.layout d.devices) its fit.out));
    held = fit.held;
    layout_fits = fit.layout_fits;
    out = tt;
    anew = tt;
    returning = λ back. absurd (not_both (sym back ∙ no_return d.file d.queue d.layout d.devices old kind fit (λ other. absurd (cc (its, other)))));
  })
  answer_fit reply (Session session) at its = as_free (HasSession (fresh_session session)) d.file d.queue d.layout d.devices (record {
    tied = λ some. refl;
    held = fit.held;
    layout_fits = fit.layout_fits;
    out = tt;
    anew = tt;
    returning = λ back. absurd (not_both (sym back ∙ no_return d.file d.queue d.layout d.devices old kind fit (λ other. absurd (cc (its, other)))));
  })
  answer_fit reply Complete at its = as_free (completed_tie d.tie) d.file d.queue d.layout d.devices
      (free_fit d.file d.queue d.layout d.devices old kind fit (completed_tie d.tie) (completed_session d.tie ∙ same) d.queue (no_return d.file d.queue d.layout d.devices old kind fit (λ other. absurd (cc (its, other)))))
  answer_fit reply (Opened file) at its = opened_fit file its
  answer_fit reply (Granted g) at its = granted_fit reply g at its
  answer_fit reply (Devices addresses) at its = learns_fit its.0 addresses its.1
  answer_fit reply Written at its = free_here (drop 1 d.queue) (λ other. absurd (cc (its, other)))
  answer_fit reply (Bytes eof bytes) at its = free_here (drop 1 d.queue) (λ other. absurd (cc (its.2, other)))
  answer_fit reply Returned at its = returned_fit its d.file d.layout refl refl
  answer_fit reply Renewed at its = free_here d.queue (λ other. absurd (cc (its, other)))

-- ---- the reply

module _ (c : ClientValue) (fit : Fit c) (a : Asked) (at : c.asked ≡ Some a) (idle : c.again ≡ None) (reply : RpcReply) (now : ℕ) where
  out_fit : FitOf c.tie c.file c.queue c.layout c.devices (Some a.ask) None
  out_fit = subst (λ (o : Option MdsAsk). FitOf c.tie c.file c.queue c.layout c.devices (Some a.ask) o) idle (subst (λ (o : Option Asked). FitOf c.tie c.file c.queue c.layout c.devices (kind_of o) c.again) at fit)

  -- the same goes out anew
  anew_fit : Fit (record c { tie = moved_tie now c.tie; asked = None; again = Some a.ask })
  anew_fit = record {
    tied = same_tied c.tie (moved_tie now c.tie) c.file (moved_session now c.tie) fit.tied;
    held = fit.held;
    layout_fits = fit.layout_fits;
    out = tt;
    anew = ask_tie c.tie (moved_tie now c.tie) c.file c.queue c.layout c.devices a.ask (moved_session now c.tie) (moved_number now c.tie) out_fit.out;
    returning = λ back. by_either (out_fit.returning back);
  }
    where
      by_either : (Some a.ask ≡ Some ask.LayoutReturn) ⊎ (None ≡ Some ask.LayoutReturn) → (None ≡ Some ask.LayoutReturn) ⊎ (Some a.ask ≡ Some ask.LayoutReturn)
      by_either (inl out) = inr out
      by_either (inr again) = inl again

  delayed_kind : (asked : Option Asked) → kind_of (delayed asked) ≡ kind_of asked
  delayed_kind None = refl
  delayed_kind (Some b) = refl

  by_report : (says : MdsAnswerValue) → (reply_of_ask a.ask reply).answer ≡ says → Answers a.ask says → (report : SlotReport) → Fit (mds_answered a.ask (record { slot = report; answer = says }) now c).client
  by_report says is its Taken = answer_fit (record c { tie = moved_tie now c.tie; asked = None }) refl idle c.tie a.ask out_fit (moved_session now c.tie) reply says is its
  by_report says is its Unknown = answer_fit (record c { asked = None }) refl idle c.tie a.ask out_fit refl reply says is its
  by_report says is its Uncached = anew_fit
  by_report says is its Delayed = subst (λ (o : Option MdsAsk). FitOf c.tie c.file c.queue c.layout c.devices o c.again) (sym (delayed_kind c.asked)) fit

  pub reply_fit : Fit (mds_answered a.ask (reply_of_ask a.ask reply) now c).client
  reply_fit = by_reply (reply_of_ask a.ask reply) refl
    where
      by_reply : (r : MdsReplyValue) → reply_of_ask a.ask reply ≡ r → Fit (mds_answered a.ask r now c).client
      by_reply r is = by_report r.answer (ap (λ (k : MdsReplyValue). k.answer) is) (subst (λ (k : MdsReplyValue). Answers a.ask k.answer) is (reply_answers a.ask reply)) r.slot
