-- What the calls of an event's end leave: no mirror waits to send, and what is due was asked.
use Rattle.client_progress.proofs.Fits.{not_both, is_open_head, is_through_head, has_number, AskFits, LayoutFits, FitOf, Fit, SameAsk, ask_layout, fit_layout}
use Rattle.client_progress.proofs.QueueFits.{StopsOf, NoRequest, WantsCall, Waits}
use Rattle.client_progress.proofs.Ticks.{step_if}
use Rattle.client_progress.proofs.Waiting.{waits_in, waits_none, AreCallable, nothing_waits, OneFewer, one_fewer}
use Rattle.client_progress.proofs.WriterSteps.{SentFits, sent_fits}
use Rattle.std.proofs.Common.{◌≡◌, ◌≢◌, ℕ, suc, ◌≤◌, Bool, true, false, List, [], ◌∷◌, Option, Some, None, refl, sym, ap, subst, ◌∙◌, inl, inr, ◌⊎◌, arith}
use Rattle.std.specs.Prelude.{not, is_some, ◌==◌}
use Rattle.nfs4_types.specs.declared.ids.DeviceId.{DeviceId}
use Rattle.device_addr.specs.declared.net_addr.NetAddr.{NetAddr}
use Rattle.mirror_writer.specs.Writers.{WriterSends, next_sent, open_committed}
use Rattle.client_file_calls.specs.declared.open.OpenFile.{OpenFile}
use Rattle.client_mds_calls.specs.declared.ask.MdsAsk.{MdsAsk}
use Rattle.client_mds_calls.specs.declared.ask.MdsAsk.TheVariants as ask
use Rattle.client_mds_calls.specs.MdsCalls.{MdsCallValue, SlotCallValue}
use Rattle.client_state.specs.declared.stage.LayoutStage.TheVariants.{Returning}
use Rattle.client_state.specs.declared.request.UserRequest.{UserRequest}
use Rattle.client_state.specs.declared.request.UserRequest.TheVariants.{Open, Write, Through, Commit, Read, Return}
use Rattle.client_state.specs.declared.layout.Layout.{Layout}
use Rattle.client_state.specs.declared.tie.Tie.{Tie}
use Rattle.client_state.specs.declared.tie.Tie.TheVariants.{NoClient, HasClient, HasSession}
use Rattle.client_state.specs.ClientStates.{ClientValue}
use Rattle.client_state.specs.ClientSends.{sends_none}
use Rattle.client_state.specs.ClientQueue.{is_writing}
use Rattle.client_calls.specs.ClientCalls.{calls_next, calls_under, calls_mirror, calls_two, calls_mirrors, open_call, through_call, return_call, devices_call, file_call, on_slot, session_call, call_by_ask, layout_asked}
use Rattle.client_answers.specs.ClientAnswers.{has_session}
use Rattle.client_laws.proofs.CallsOut.{nonzero}
use Rattle.client_laws.proofs.Places.{same_number}
use Rattle.client_laws.proofs.Stands.{IfThere}
use Rattle.client_laws.proofs.Steady.{kind_of}
use Rattle.client_progress.specs.Going.{is_given_back, is_returning}

-- ---- calls to data servers

abbrev pub waits_of : Option Layout → ℕ
waits_of None = 0
waits_of (Some l) = waits_in l.writer.wants_commit l.writer.mirrors

-- at most so many mirrors wait to send, and they can
pub record CallingOf (wants : Option MdsAsk) (most : ℕ) (tie : Tie) (file : Option OpenFile) (queue : List UserRequest) (layout : Option Layout) (devices : List (DeviceId × NetAddr)) (asked again : Option MdsAsk) (next : ℕ) : Type 0 where
  pub fit : FitOf tie file queue layout devices asked again
  pub stops : StopsOf tie file queue layout devices wants
  pub callable : IfThere layout (λ l. AreCallable l.writer)
  pub few : next ≢ 0 → waits_of layout ≤ most

abbrev pub Calling : Option MdsAsk → ℕ → ClientValue → Type 0
Calling wants most c = CallingOf wants most c.tie c.file c.queue c.layout c.devices (kind_of c.asked) c.again c.next_xid

stops_layout : (tie : Tie) (file : Option OpenFile) (queue : List UserRequest) (l new : Layout) (devices : List (DeviceId × NetAddr)) (wants : Option MdsAsk) → SameAsk l new → is_writing new.stage ≡ is_writing l.stage → new.writer.wants_commit ≡ l.writer.wants_commit
    → open_committed new.writer.mirrors ≡ open_committed l.writer.mirrors → StopsOf tie file queue (Some l) devices wants → StopsOf tie file queue (Some new) devices wants
stops_layout tie file queue l new devices wants same stage wish all (NoRequest is none) = NoRequest is none
stops_layout tie file queue l new devices wants same stage wish all (WantsCall kind is fits) = WantsCall kind is (ask_layout tie file queue l new devices kind same fits)
stops_layout tie file queue l new devices wants same stage wish all (Waits is (inl back)) = Waits is (inl (ap not stage ∙ back))
stops_layout tie file queue l new devices wants same stage wish all (Waits is (inr commits)) = Waits is (inr (wish ∙ commits.0, all ∙ commits.1))

module _ (wants : Option MdsAsk) (most : ℕ) where
  -- no call waits
  rest_calling : (c : ClientValue) → Calling wants (suc most) c → (c.next_xid ≢ 0 → waits_of c.layout ≤ most) → Calling wants most c
  rest_calling c i few = record { fit = i.fit; stops = i.stops; callable = i.callable; few = few }

  next_calling : (c : ClientValue) (l : Layout) → c.layout ≡ Some l → c.next_xid ≢ 0 → Calling wants (suc most) c → (o : Option WriterSends) → next_sent l.writer c.next_xid ≡ o → Calling wants most (calls_next c l o).client
  next_calling c l at some i None is =
      rest_calling c i (λ some. subst (λ (o : Option Layout). waits_of o ≤ most) (sym at) (zero_few (none_left (subst (λ (o : Option Layout). IfThere o (λ l. AreCallable l.writer)) at i.callable) (subst (λ (o : Option Layout). IfThere o (LayoutFits c.devices)) at i.fit.layout_fits))))
    where
      zero_few : waits_in l.writer.wants_commit l.writer.mirrors ≡ 0 → waits_in l.writer.wants_commit l.writer.mirrors ≤ most
      zero_few none = omega (arith, none)

      none_left : AreCallable l.writer → LayoutFits c.devices l → waits_in l.writer.wants_commit l.writer.mirrors ≡ 0
      none_left can fits = waits_none l.writer.wants_commit l.writer.mirrors (nothing_waits l.writer c.next_xid fits.writer.unfenced can is)
  next_calling c l at some i (Some s) is =
      let j : CallingOf wants (suc most) c.tie c.file c.queue (Some l) c.devices (kind_of c.asked) c.again c.next_xid = subst (λ (o : Option Layout). CallingOf wants (suc most) c.tie c.file c.queue o c.devices (kind_of c.asked) c.again c.next_xid) at i in
      let new : Layout = record l { writer = s.writer } in
      let sent : SentFits c.devices l.mirrors l.writer s.writer l.untold l.stage = sent_fits c.devices l.mirrors l.writer l.untold l.stage c.next_xid s is in
      let fewer : OneFewer l.writer s.writer = one_fewer l.writer c.next_xid s j.callable is in
      record {
        fit = fit_layout c.tie c.file c.queue (Some l) l new c.devices (kind_of c.asked) c.again refl (record { mirrors = refl; stage = refl }) (λ fits. record { writer = sent.fits fits.writer; sound = λ writing. sent.sound (fits.sound writing) }) j.fit;
        stops = stops_layout c.tie c.file c.queue l new c.devices wants (record { mirrors = refl; stage = refl }) refl sent.wants sent.settled j.stops;
        callable = fewer.callable;
        few = λ left. omega (arith, fewer.fewer, j.few some);
      }

  under_calling : (c : ClientValue) → c.next_xid ≢ 0 → Calling wants (suc most) c → (layout : Option Layout) → c.layout ≡ layout → Calling wants most (calls_under c layout).client
  under_calling c some i None at = rest_calling c i (λ some. subst (λ (o : Option Layout). waits_of o ≤ most) (sym at) (omega arith))
  under_calling c some i (Some l) at = next_calling c l at some i (next_sent l.writer c.next_xid) refl

  mirror_calling : (c : ClientValue) → Calling wants (suc most) c → Calling wants most (calls_mirror c).client
  mirror_calling c i = step_if (Calling wants most) (c.next_xid == 0) (sends_none c) (calls_under c c.layout) (λ is. rest_calling c i (λ some. absurd (some (same_number c.next_xid 0 is)))) (λ is. under_calling c (nonzero c.next_xid is) i c.layout refl)

pub mirrors_calling : (wants : Option MdsAsk) (c : ClientValue) → Calling wants 4 c → Calling wants 0 (calls_mirrors c).client
mirrors_calling wants c i = two_calling 0 (calls_two c).client (two_calling 2 c i)
  where
    two_calling : (most : ℕ) (d : ClientValue) → Calling wants (suc (suc most)) d → Calling wants most (calls_two d).client
    two_calling most d j = mirror_calling wants most (calls_mirror d).client (mirror_calling wants (suc most) d j)

-- ---- what is asked can be asked

on_slot_some : (tie : Tie) → has_session tie ≡ true → (o : Option SlotCallValue) (call : SlotCallValue) → o ≡ Some call → (x : MdsCallValue) × (on_slot tie o ≡ Some x)
on_slot_some NoClient has o call is = absurd cc
on_slot_some (HasClient clientid sequence) has o call is = absurd cc
on_slot_some (HasSession s) has o call is = (_, ap (on_slot (HasSession s)) is)

session_some : (tie : Tie) → has_number tie ≡ true → (x : MdsCallValue) × (session_call tie ≡ Some x)
session_some NoClient has = absurd cc
session_some (HasClient clientid sequence) has = (_, refl)
session_some (HasSession s) has = absurd cc

opens_some : (queue : List UserRequest) → is_open_head queue ≡ true → (call : SlotCallValue) × (open_call queue ≡ Some call)
opens_some [] is = absurd cc
opens_some (Open name ∷ rest) is = (_, refl)
opens_some (Write at bytes ∷ rest) is = absurd cc
opens_some (Through at bytes ∷ rest) is = absurd cc
opens_some (Commit ∷ rest) is = absurd cc
opens_some (Read at count ∷ rest) is = absurd cc
opens_some (Return ∷ rest) is = absurd cc

through_some : (file : OpenFile) (queue : List UserRequest) → is_through_head queue ≡ true → (call : SlotCallValue) × (through_call file queue ≡ Some call)
through_some file [] is = absurd cc
through_some file (Open name ∷ rest) is = absurd cc
through_some file (Write at bytes ∷ rest) is = absurd cc
through_some file (Through at bytes ∷ rest) is = (_, refl)
through_some file (Commit ∷ rest) is = absurd cc
through_some file (Read at count ∷ rest) is = absurd cc
through_some file (Return ∷ rest) is = absurd cc

some_of : {A : Type 0} (o : Option A) → is_some o ≡ true → (a : A) × (o ≡ Some a)
some_of None is = absurd cc
some_of (Some a) is = (a, refl)

abbrev pub CanAsk : ClientValue → MdsAsk → Type 0
CanAsk c kind = (call : MdsCallValue) × (call_by_ask c kind ≡ Some call)

module _ (c : ClientValue) (fit : Fit c) where
  -- of a file
  file_some : (kind : MdsAsk) → is_some c.file ≡ true → ((file : OpenFile) → (call : SlotCallValue) × (file_call c (Some file) kind ≡ Some call)) → (x : MdsCallValue) × (on_slot c.tie (file_call c c.file kind) ≡ Some x)
  file_some kind some each = by_file (some_of c.file some)
    where
      by_call : (o : Option SlotCallValue) → (call : SlotCallValue) × (o ≡ Some call) → file_call c c.file kind ≡ o → (x : MdsCallValue) × (on_slot c.tie (file_call c c.file kind) ≡ Some x)
      by_call o (call, is) at = on_slot_some c.tie (fit.tied some) (file_call c c.file kind) call (at ∙ is)

      by_file : (file : OpenFile) × (c.file ≡ Some file) → (x : MdsCallValue) × (on_slot c.tie (file_call c c.file kind) ≡ Some x)
      by_file (file, there) = by_call (file_call c (Some file) kind) (each file) (ap (λ o. file_call c o kind) there)

  its_file : (l : Layout) → c.layout ≡ Some l → is_some c.file ≡ true
  its_file l at = subst (λ (o : Option Layout). IfThere o (λ l. is_some c.file ≡ true)) at fit.held

  pub can_return : (l : Layout) → c.layout ≡ Some l → CanAsk c ask.LayoutReturn
  can_return l at = file_some ask.LayoutReturn (its_file l at) (λ file. (_, ap (return_call file) at))

  can_learn : (layout : Option Layout) → c.layout ≡ layout → (count : ℕ) → AskFits c.tie c.file c.queue layout c.devices (ask.DeviceInfo count) → CanAsk c (ask.DeviceInfo count)
  can_learn None at count fits = absurd fits
  can_learn (Some l) at count fits = file_some (ask.DeviceInfo count) (its_file l at) (λ file. (_, ap (devices_call c) at))

  can_give : (layout : Option Layout) → c.layout ≡ layout → is_returning layout ≡ true → CanAsk c ask.LayoutReturn
  can_give None at fits = absurd cc
  can_give (Some l) at fits = can_return l at

  by_open : has_session c.tie ≡ true → (call : SlotCallValue) × (open_call c.queue ≡ Some call) → CanAsk c ask.Open
  by_open has (call, is) = on_slot_some c.tie has (open_call c.queue) call is

  pub can_ask : (kind : MdsAsk) → AskFits c.tie c.file c.queue c.layout c.devices kind → CanAsk c kind
  can_ask ask.ExchangeId fits = (_, refl)
  can_ask ask.CreateSession fits = session_some c.tie fits
  can_ask ask.ReclaimComplete fits = on_slot_some c.tie fits _ _ refl
  can_ask ask.Open fits = by_open fits.1 (opens_some c.queue fits.2)
  can_ask ask.LayoutGet fits = file_some ask.LayoutGet fits.0 (λ file. (_, refl))
  can_ask (ask.DeviceInfo count) fits = can_learn c.layout refl count fits
  can_ask ask.Write fits = file_some ask.Write fits.0 (λ file. through_some file c.queue fits.2)
  can_ask (ask.Read at count) fits = file_some (ask.Read at count) fits (λ file. (_, refl))
  can_ask ask.LayoutReturn fits = can_give c.layout refl fits
  can_ask ask.Renew fits = on_slot_some c.tie fits _ _ refl

-- ---- a compound goes out

-- a layout's return, or something else where no return is out
abbrev pub IsReady : Tie → Option OpenFile → List UserRequest → Option Layout → List (DeviceId × NetAddr) → MdsAsk → Type 0
IsReady tie file queue layout devices kind = ((kind ≡ ask.LayoutReturn) × (is_given_back layout ≡ true)) ⊎ (AskFits tie file queue layout devices kind × (is_returning layout ≡ false))

back_fits : (devices : List (DeviceId × NetAddr)) (l : Layout) → is_writing l.stage ≡ false → LayoutFits devices l → LayoutFits devices (record l { stage = Returning; was_sent = true })
back_fits devices l ends fits = record {
  writer = record {
    apart = fits.writer.apart;
    some = fits.writer.some;
    unfenced = fits.writer.unfenced;
    sizes = fits.writer.sizes;
    wanted = λ is. fits.writer.wanted ends;
    untold_fit = fits.writer.untold_fit;
    known = fits.writer.known;
  };
  sound = λ is. absurd (not_both (sym is));
}

flip : (b : Bool) → not b ≡ true → b ≡ false
flip true is = absurd cc
flip false is = refl

module _ (tie : Tie) (file : Option OpenFile) (queue : List UserRequest) (devices : List (DeviceId × NetAddr)) where
  return_fit : (layout : Option Layout) (asked again : Option MdsAsk) → is_given_back layout ≡ true → FitOf tie file queue layout devices asked again → FitOf tie file queue (layout_asked ask.LayoutReturn layout) devices (Some ask.LayoutReturn) None
  return_fit None asked again back fit = absurd cc
  return_fit (Some l) asked again back fit = record {
    tied = fit.tied;
    held = fit.held;
    layout_fits = back_fits devices l (flip (is_writing l.stage) back) fit.layout_fits;
    out = refl;
    anew = tt;
    returning = λ is. inl refl;
  }

  other_fit : (layout : Option Layout) (kind : MdsAsk) (asked again : Option MdsAsk) → layout_asked kind layout ≡ layout → AskFits tie file queue layout devices kind → is_returning layout ≡ false → FitOf tie file queue layout devices asked again
      → FitOf tie file queue (layout_asked kind layout) devices (Some kind) None
  other_fit layout kind asked again same fits still fit =
      subst (λ (o : Option Layout). FitOf tie file queue o devices (Some kind) None) (sym same) (record { tied = fit.tied; held = fit.held; layout_fits = fit.layout_fits; out = fits; anew = tt; returning = λ is. absurd (not_both (sym is ∙ still)) })

  kind_fit : (layout : Option Layout) (kind : MdsAsk) (asked again : Option MdsAsk) → AskFits tie file queue layout devices kind → is_returning layout ≡ false → FitOf tie file queue layout devices asked again
      → FitOf tie file queue (layout_asked kind layout) devices (Some kind) None
  kind_fit layout ask.LayoutReturn asked again fits still fit = absurd (not_both (sym fits ∙ still))
  kind_fit layout ask.ExchangeId asked again fits still fit = other_fit layout ask.ExchangeId asked again refl fits still fit
  kind_fit layout ask.CreateSession asked again fits still fit = other_fit layout ask.CreateSession asked again refl fits still fit
  kind_fit layout ask.ReclaimComplete asked again fits still fit = other_fit layout ask.ReclaimComplete asked again refl fits still fit
  kind_fit layout ask.Open asked again fits still fit = other_fit layout ask.Open asked again refl fits still fit
  kind_fit layout ask.LayoutGet asked again fits still fit = other_fit layout ask.LayoutGet asked again refl fits still fit
  kind_fit layout (ask.DeviceInfo count) asked again fits still fit = other_fit layout (ask.DeviceInfo count) asked again refl fits still fit
  kind_fit layout ask.Write asked again fits still fit = other_fit layout ask.Write asked again refl fits still fit
  kind_fit layout (ask.Read at count) asked again fits still fit = other_fit layout (ask.Read at count) asked again refl fits still fit
  kind_fit layout ask.Renew asked again fits still fit = other_fit layout ask.Renew asked again refl fits still fit

  pub asked_fit : (layout : Option Layout) (kind : MdsAsk) (asked again : Option MdsAsk) → IsReady tie file queue layout devices kind → FitOf tie file queue layout devices asked again → FitOf tie file queue (layout_asked kind layout) devices (Some kind) None
  asked_fit layout kind asked again (inl back) fit = subst (λ (k : MdsAsk). FitOf tie file queue (layout_asked k layout) devices (Some k) None) (sym back.0) (return_fit layout asked again back.1 fit)
  asked_fit layout kind asked again (inr other) fit = kind_fit layout kind asked again other.0 other.1 fit
