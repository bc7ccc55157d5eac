-- What is so of a client at every moment, also within an event: what is asked of the metadata server can be asked, and how a layout's writer is.
use Rattle.std.proofs.Common.{◌≡◌, ℕ, ◌<◌, ◌≤◌, Bool, true, false, List, [], ◌∷◌, length, Option, Some, None, refl, sym, ap, subst, ◌∙◌, inl, inr, ◌⊎◌}
use Rattle.std.specs.Prelude.{not, is_some, ◌==◌, ◌||◌, ◌&&◌}
use Rattle.std.specs.List.{list_all}
use Rattle.nfs4_types.specs.declared.ids.DeviceId.{DeviceId}
use Rattle.device_addr.specs.declared.net_addr.NetAddr.{NetAddr}
use Rattle.cluster_model.specs.declared.ids.Mirror.{Mirror}
use Rattle.cluster_model.specs.Mirrors.{are_on_different_servers}
use Rattle.mirror_writer.specs.Writers.{WriterMirror, WriterValue, commit_wanted, open_committed, all_committed, is_committed}
use Rattle.mirror_writer.specs.Outstanding.{is_covered_everywhere}
use Rattle.client_file_calls.specs.declared.open.OpenFile.{OpenFile}
use Rattle.client_mds_calls.specs.declared.ask.MdsAsk.{MdsAsk}
use Rattle.client_mds_calls.specs.declared.ask.MdsAsk.TheVariants as ask
use Rattle.client_state.specs.declared.stage.LayoutStage.{LayoutStage}
use Rattle.client_state.specs.declared.stage.LayoutStage.TheVariants.{Writing, Ending, Deferred, Returning}
use Rattle.client_state.specs.declared.request.UserRequest.{UserRequest}
use Rattle.client_state.specs.declared.request.UserRequest.TheVariants.{Open, Through}
use Rattle.client_state.specs.declared.layout.Layout.{Layout}
use Rattle.client_state.specs.declared.tie.Tie.{Tie}
use Rattle.client_state.specs.declared.tie.Tie.TheVariants.{NoClient, HasClient, HasSession}
use Rattle.client_state.specs.ClientStates.{ClientValue}
use Rattle.client_state.specs.ClientQueue.{ends_layout, ending, is_writing, is_past, unknown_in}
use Rattle.client_answers.specs.ClientAnswers.{has_session}
use Rattle.client_laws.proofs.Stands.{Every, AtEach, IfThere, writer_ids}
use Rattle.client_laws.proofs.Steady.{kind_of}
use Rattle.client_progress.specs.Going.{is_returning_stage, is_returning}

pub not_both : true ≡ false → ⊥
not_both e = absurd cc

-- ---- what is asked can be asked

abbrev pub is_open_head : List UserRequest → Bool
is_open_head [] = false
is_open_head (Open name ∷ rest) = true
is_open_head (request ∷ rest) = false

-- a write through the metadata server, within a file
abbrev pub is_through_head : List UserRequest → Bool
is_through_head [] = false
is_through_head (Through at bytes ∷ rest) = not (is_past at bytes)
is_through_head (request ∷ rest) = false

abbrev pub has_number : Tie → Bool
has_number NoClient = false
has_number (HasClient clientid sequence) = true
has_number (HasSession s) = false

-- an address of a device of the layout is not known
abbrev pub HasUnknown : List (DeviceId × NetAddr) → Option Layout → Type 0
HasUnknown devices None = ⊥
HasUnknown devices (Some l) = (length (unknown_in devices l.mirrors) == 0) ≡ false

abbrev pub AskFits : Tie → Option OpenFile → List UserRequest → Option Layout → List (DeviceId × NetAddr) → MdsAsk → Type 0
AskFits tie file queue layout devices ask.ExchangeId = is_some file ≡ false
AskFits tie file queue layout devices ask.CreateSession = has_number tie ≡ true
AskFits tie file queue layout devices ask.ReclaimComplete = has_session tie ≡ true
AskFits tie file queue layout devices ask.Open = (is_some file ≡ false) × (has_session tie ≡ true) × (is_open_head queue ≡ true)
AskFits tie file queue layout devices ask.LayoutGet = (is_some file ≡ true) × (layout ≡ None)
AskFits tie file queue layout devices (ask.DeviceInfo count) = HasUnknown devices layout
AskFits tie file queue layout devices ask.Write = (is_some file ≡ true) × (layout ≡ None) × (is_through_head queue ≡ true)
AskFits tie file queue layout devices (ask.Read at count) = is_some file ≡ true
AskFits tie file queue layout devices ask.LayoutReturn = is_returning layout ≡ true
AskFits tie file queue layout devices ask.Renew = has_session tie ≡ true

-- ---- a layout's writer

-- a write that is not told is not covered at some mirror
abbrev pub IsUncovered : WriterValue → ℕ → Type 0
IsUncovered w n = (n < length w.taken) × (is_covered_everywhere w n ≡ false)

-- A layout that is given back wants its writes committed, unless they are; the address of each device is known where a write was taken.
pub record WriterFits (devices : List (DeviceId × NetAddr)) (mirrors : List Mirror) (w : WriterValue) (untold : List ℕ) (stage : LayoutStage) : Type 0 where
  pub apart : are_on_different_servers mirrors ≡ true
  pub some : 1 ≤ length (writer_ids w)
  pub unfenced : w.is_fenced ≡ false
  pub sizes : AtEach w.mirrors (λ m. length m.covered ≡ length w.taken)
  pub wanted : is_writing stage ≡ false → (w.wants_commit ≡ true) ⊎ (open_committed w.mirrors ≡ true)
  pub untold_fit : Every (IsUncovered w) untold
  pub known : (w.taken ≡ []) ⊎ ((length (unknown_in devices mirrors) == 0) ≡ true)

abbrev pub IsSound : List WriterMirror → Type 0
IsSound mirrors = AtEach mirrors (λ m. m.has_failed ≡ false)

-- and no mirror has failed while writes are taken
pub record LayoutFitsOf (devices : List (DeviceId × NetAddr)) (mirrors : List Mirror) (w : WriterValue) (untold : List ℕ) (stage : LayoutStage) : Type 0 where
  pub writer : WriterFits devices mirrors w untold stage
  pub sound : is_writing stage ≡ true → IsSound w.mirrors

abbrev pub LayoutFits : List (DeviceId × NetAddr) → Layout → Type 0
LayoutFits devices l = LayoutFitsOf devices l.mirrors l.writer l.untold l.stage

-- ---- the client

pub record FitOf (tie : Tie) (file : Option OpenFile) (queue : List UserRequest) (layout : Option Layout) (devices : List (DeviceId × NetAddr)) (asked again : Option MdsAsk) : Type 0 where
  pub tied : is_some file ≡ true → has_session tie ≡ true
  pub held : IfThere layout (λ l. is_some file ≡ true)
  pub layout_fits : IfThere layout (LayoutFits devices)
  pub out : IfThere asked (AskFits tie file queue layout devices)
  pub anew : IfThere again (AskFits tie file queue layout devices)
  pub returning : is_returning layout ≡ true → (asked ≡ Some ask.LayoutReturn) ⊎ (again ≡ Some ask.LayoutReturn)

abbrev pub Fit : ClientValue → Type 0
Fit c = FitOf c.tie c.file c.queue c.layout c.devices (kind_of c.asked) c.again

-- ---- another queue

-- what is asked does not hang on the head, or the head is as before
pub record SameHead (file : Option OpenFile) (layout : Option Layout) (old new : List UserRequest) : Type 0 where
  pub opens : is_some file ≡ false → is_open_head old ≡ true → is_open_head new ≡ true
  pub through : is_some file ≡ true → layout ≡ None → is_through_head old ≡ true → is_through_head new ≡ true

pub ask_queue : (tie : Tie) (file : Option OpenFile) (old new : List UserRequest) (layout : Option Layout) (devices : List (DeviceId × NetAddr)) (kind : MdsAsk) → SameHead file layout old new → AskFits tie file old layout devices kind → AskFits tie file new layout devices kind
ask_queue tie file old new layout devices ask.ExchangeId same fits = fits
ask_queue tie file old new layout devices ask.CreateSession same fits = fits
ask_queue tie file old new layout devices ask.ReclaimComplete same fits = fits
ask_queue tie file old new layout devices ask.Open same fits = (fits.0, fits.1, same.opens fits.0 fits.2)
ask_queue tie file old new layout devices ask.LayoutGet same fits = fits
ask_queue tie file old new layout devices (ask.DeviceInfo count) same fits = fits
ask_queue tie file old new layout devices ask.Write same fits = (fits.0, fits.1, same.through fits.0 fits.1 fits.2)
ask_queue tie file old new layout devices (ask.Read at count) same fits = fits
ask_queue tie file old new layout devices ask.LayoutReturn same fits = fits
ask_queue tie file old new layout devices ask.Renew same fits = fits

asks_queue : (tie : Tie) (file : Option OpenFile) (old new : List UserRequest) (layout : Option Layout) (devices : List (DeviceId × NetAddr)) (kind : Option MdsAsk) → SameHead file layout old new → IfThere kind (AskFits tie file old layout devices) → IfThere kind (AskFits tie file new layout devices)
asks_queue tie file old new layout devices None same fits = tt
asks_queue tie file old new layout devices (Some kind) same fits = ask_queue tie file old new layout devices kind same fits

pub fit_queue : (tie : Tie) (file : Option OpenFile) (old new : List UserRequest) (layout : Option Layout) (devices : List (DeviceId × NetAddr)) (asked again : Option MdsAsk) → SameHead file layout old new → FitOf tie file old layout devices asked again → FitOf tie file new layout devices asked again
fit_queue tie file old new layout devices asked again same fit = record {
  tied = fit.tied;
  held = fit.held;
  layout_fits = fit.layout_fits;
  out = asks_queue tie file old new layout devices asked same fit.out;
  anew = asks_queue tie file old new layout devices again same fit.anew;
  returning = fit.returning;
}

-- ---- another layout

-- it has the same mirrors, and its return is out where it was
pub record SameAsk (l new : Layout) : Type 0 where
  pub mirrors : new.mirrors ≡ l.mirrors
  pub stage : is_returning_stage new.stage ≡ is_returning_stage l.stage

pub ask_layout : (tie : Tie) (file : Option OpenFile) (queue : List UserRequest) (l new : Layout) (devices : List (DeviceId × NetAddr)) (kind : MdsAsk) → SameAsk l new → AskFits tie file queue (Some l) devices kind → AskFits tie file queue (Some new) devices kind
ask_layout tie file queue l new devices ask.ExchangeId same fits = fits
ask_layout tie file queue l new devices ask.CreateSession same fits = fits
ask_layout tie file queue l new devices ask.ReclaimComplete same fits = fits
ask_layout tie file queue l new devices ask.Open same fits = fits
ask_layout tie file queue l new devices ask.LayoutGet same fits = absurd (cc (fits.1))
ask_layout tie file queue l new devices (ask.DeviceInfo count) same fits = ap (λ (ms : List Mirror). length (unknown_in devices ms) == 0) same.mirrors ∙ fits
ask_layout tie file queue l new devices ask.Write same fits = absurd (cc (fits.1))
ask_layout tie file queue l new devices (ask.Read at count) same fits = fits
ask_layout tie file queue l new devices ask.LayoutReturn same fits = same.stage ∙ fits
ask_layout tie file queue l new devices ask.Renew same fits = fits

asks_layout : (tie : Tie) (file : Option OpenFile) (queue : List UserRequest) (l new : Layout) (devices : List (DeviceId × NetAddr)) (kind : Option MdsAsk) → SameAsk l new → IfThere kind (AskFits tie file queue (Some l) devices) → IfThere kind (AskFits tie file queue (Some new) devices)
asks_layout tie file queue l new devices None same fits = tt
asks_layout tie file queue l new devices (Some kind) same fits = ask_layout tie file queue l new devices kind same fits

pub fit_layout : (tie : Tie) (file : Option OpenFile) (queue : List UserRequest) (layout : Option Layout) (l new : Layout) (devices : List (DeviceId × NetAddr)) (asked again : Option MdsAsk) → layout ≡ Some l → SameAsk l new → (LayoutFits devices l → LayoutFits devices new)
    → FitOf tie file queue layout devices asked again → FitOf tie file queue (Some new) devices asked again
fit_layout tie file queue layout l new devices asked again at same keeps fit =
    let old : FitOf tie file queue (Some l) devices asked again = subst (λ (o : Option Layout). FitOf tie file queue o devices asked again) at fit in
    record {
      tied = old.tied;
      held = old.held;
      layout_fits = keeps old.layout_fits;
      out = asks_layout tie file queue l new devices asked same old.out;
      anew = asks_layout tie file queue l new devices again same old.anew;
      returning = λ is. old.returning (sym same.stage ∙ is);
    }

-- ---- the layout is to be given back

all_settled : (mirrors : List WriterMirror) → list_all is_committed mirrors ≡ true → open_committed mirrors ≡ true
all_settled [] all = refl
all_settled (m ∷ mirrors) all = by_both (is_committed m) (list_all is_committed mirrors) refl refl all (all_settled mirrors)
  where
    joined : (a b c : Bool) → b ≡ true → c ≡ true → (a || b) && c ≡ true
    joined true b c first second = second
    joined false true c first second = second
    joined false false c first second = absurd cc

    by_both : (a b : Bool) → is_committed m ≡ a → list_all is_committed mirrors ≡ b → a && b ≡ true → (list_all is_committed mirrors ≡ true → open_committed mirrors ≡ true) → (m.has_failed || is_committed m) && open_committed mirrors ≡ true
    by_both true true one rest is further = joined m.has_failed (is_committed m) (open_committed mirrors) one (further rest)
    by_both true false one rest is further = absurd cc
    by_both false b one rest is further = absurd cc

-- the wish to commit is no wish only where all is committed
pub wished : (w : WriterValue) → ((commit_wanted w).wants_commit ≡ true) ⊎ (open_committed w.mirrors ≡ true)
wished w = by_all (all_committed w) refl
  where
    by_all : (b : Bool) → all_committed w ≡ b → (not (all_committed w) ≡ true) ⊎ (open_committed w.mirrors ≡ true)
    by_all true is = inr (all_settled w.mirrors is)
    by_all false is = inl (ap not is)

pub commits_fit : (devices : List (DeviceId × NetAddr)) (mirrors : List Mirror) (w : WriterValue) (untold : List ℕ) (stage stage' : LayoutStage) → WriterFits devices mirrors w untold stage → WriterFits devices mirrors (commit_wanted w) untold stage'
commits_fit devices mirrors w untold stage stage' fits = record {
  apart = fits.apart;
  some = fits.some;
  unfenced = fits.unfenced;
  sizes = fits.sizes;
  wanted = λ is. wished w;
  untold_fit = fits.untold_fit;
  known = fits.known;
}

-- whether mirrors failed or not
pub ending_fits : (devices : List (DeviceId × NetAddr)) (l : Layout) → WriterFits devices l.mirrors l.writer l.untold l.stage → LayoutFits devices (ending l)
ending_fits devices l fits = by_stage l.stage refl fits
  where
    as_it_is : (stage : LayoutStage) → l.stage ≡ stage → is_writing stage ≡ false → WriterFits devices l.mirrors l.writer l.untold stage → LayoutFits devices l
    as_it_is stage at ends fits = record {
      writer = subst (WriterFits devices l.mirrors l.writer l.untold) (sym at) fits;
      sound = λ is. absurd (not_both (sym is ∙ ap is_writing at ∙ ends));
    }

    by_stage : (stage : LayoutStage) → l.stage ≡ stage → WriterFits devices l.mirrors l.writer l.untold stage → LayoutFits devices (ends_layout l stage)
    by_stage Writing at fits = record { writer = commits_fit devices l.mirrors l.writer l.untold Writing Ending fits; sound = λ is. absurd (not_both (sym is)) }
    by_stage Ending at fits = as_it_is Ending at refl fits
    by_stage Deferred at fits = as_it_is Deferred at refl fits
    by_stage Returning at fits = as_it_is Returning at refl fits

pub ending_same : (l : Layout) → SameAsk l (ending l)
ending_same l = by_stage l.stage refl
  where
    by_stage : (stage : LayoutStage) → l.stage ≡ stage → SameAsk l (ends_layout l stage)
    by_stage Writing at = record { mirrors = refl; stage = sym (ap is_returning_stage at) }
    by_stage Ending at = record { mirrors = refl; stage = refl }
    by_stage Deferred at = record { mirrors = refl; stage = refl }
    by_stage Returning at = record { mirrors = refl; stage = refl }

pub ending_given : (l : Layout) → is_writing (ending l).stage ≡ false
ending_given l = by_stage l.stage refl
  where
    by_stage : (stage : LayoutStage) → l.stage ≡ stage → is_writing (ends_layout l stage).stage ≡ false
    by_stage Writing at = refl
    by_stage Ending at = ap is_writing at
    by_stage Deferred at = ap is_writing at
    by_stage Returning at = ap is_writing at
