-- Steps, one after the other, as items of a history.
use Rattle.client_laws.specs.RecallLaws.{KeepsRecalled}
use Rattle.std.proofs.lemmas.Option.{none-some}
use Rattle.std.proofs.Common.{◌≡◌, ℕ, List, [], ◌∷◌, ◌++◌, Option, Some, None, refl, sym, ap, subst, ◌∙◌}
use Rattle.std.specs.Prelude.{slice_get}
use Rattle.std.proofs.lemmas.List.{append_assoc, append-nil, map-append}
use Rattle.nfs4_types.specs.declared.stateid.Stateid.{Stateid}
use Rattle.client_file_calls.specs.declared.layout_return.FailedMirror.{FailedMirror}
use Rattle.cluster_model.specs.declared.entry.Entry.{Entry}
use Rattle.cluster_model.specs.declared.entry.Entry.TheVariants.{Sent}
use Rattle.cluster_model.specs.declared.ids.FileId.{FileId}
use Rattle.client_state.specs.declared.layout.Layout.{Layout}
use Rattle.client_state.specs.declared.asked.Asked.{Asked}
use Rattle.client_state.specs.declared.stage.LayoutStage.TheVariants.{Returning}
use Rattle.client_mds_calls.specs.declared.ask.MdsAsk.{MdsAsk}
use Rattle.client_mds_calls.specs.declared.ask.MdsAsk.TheVariants as ask
use Rattle.client_mds_calls.specs.FittingCalls.{reports_server}
use Rattle.client_mds_calls.specs.MdsCalls.{MdsCallValue}
use Rattle.client_state.specs.ClientStates.{ClientValue, ClientRun, unmoved, followed_by}
use Rattle.client_state.specs.ClientSends.{ClientSend, CallsMds, ClientStep, sends_none, and_then, run_then}
use Rattle.client_laws.specs.ClientHistory.{HistoryItem, Enters, Sends, entered, sent, Each, HasItem}
use Rattle.client_laws.specs.ClientRunLaws.{SendsAlone, TellsCommitted, ReturnsCommitted, KeepsSilent, WritesApart, WasCovered}
use Rattle.client_laws.proofs.Orders.{each_append}
use Rattle.client_laws.proofs.Later.{AreNumberless, numbers_later, all_replied_later, ask_later, there_later, AreQuiet, AreMute}
use Rattle.client_laws.proofs.Stands.{StandsOf, Stands, LayoutStands, ReturnOut, AskFits, AskOut, IfThere, reported_of, TakenUnder}

-- what is asked of each item
abbrev pub IsRight : List HistoryItem → HistoryItem → Type 0
IsRight past item = SendsAlone past item × TellsCommitted past item × ReturnsCommitted past item × KeepsSilent past item × WritesApart past item × KeepsRecalled past item

pub record RunGoes (past : List HistoryItem) (r : ClientRun) : Type 0 where
  pub entries : Each IsRight past (entered r.entries)
  pub stands : Stands (past ++ entered r.entries) r.client

pub record StepGoes (past : List HistoryItem) (s : ClientStep) : Type 0 where
  pub entries : Each IsRight past (entered s.entries)
  pub sends : Each IsRight (past ++ entered s.entries) (sent s.sends)
  pub stands : Stands ((past ++ entered s.entries) ++ sent s.sends) s.client

-- it enters nothing
pub record CallsGo (past : List HistoryItem) (s : ClientStep) : Type 0 where
  pub none : s.entries ≡ []
  pub sends : Each IsRight past (sent s.sends)
  pub stands : Stands (past ++ sent s.sends) s.client

pub run_unmoved : (past : List HistoryItem) (c : ClientValue) → Stands past c → RunGoes past (unmoved c)
run_unmoved past c s = record { entries = tt; stands = subst (λ h. Stands h c) (sym (append-nil past)) s }

pub calls_none : (past : List HistoryItem) (c : ClientValue) → Stands past c → CallsGo past (sends_none c)
calls_none past c s = record { none = refl; sends = tt; stands = subst (λ h. Stands h c) (sym (append-nil past)) s }

pub step_none : (past : List HistoryItem) (c : ClientValue) → Stands past c → StepGoes past (sends_none c)
step_none past c s = record { entries = tt; sends = tt; stands = subst (λ h. Stands h c) (sym (append-nil (past ++ []) ∙ append-nil past)) s }

entered_append : (a b : List Entry) → entered (a ++ b) ≡ entered a ++ entered b
entered_append a b = map-append Enters a b

sent_append : (a b : List ClientSend) → sent (a ++ b) ≡ sent a ++ sent b
sent_append a b = map-append Sends a b

joined_past : (past a b c : List HistoryItem) → c ≡ a ++ b → (past ++ a) ++ b ≡ past ++ c
joined_past past a b c is = append_assoc past a b ∙ ap (λ l. past ++ l) (sym is)

each_joined : (past a b c : List HistoryItem) → c ≡ a ++ b → Each IsRight past a → Each IsRight (past ++ a) b → Each IsRight past c
each_joined past a b c is first second = subst (λ l. Each IsRight past l) (sym is) (each_append IsRight past a b first second)

pub run_follows : (past : List HistoryItem) (r : ClientRun) (next : ClientValue → ClientRun) → RunGoes past r → RunGoes (past ++ entered r.entries) (next r.client) → RunGoes past (followed_by r next)
run_follows past r next first second = record {
  entries = each_joined past (entered r.entries) (entered (next r.client).entries) _ (entered_append r.entries (next r.client).entries) first.entries second.entries;
  stands = subst (λ h. Stands h (next r.client).client) (joined_past past (entered r.entries) (entered (next r.client).entries) _ (entered_append r.entries (next r.client).entries)) second.stands;
}

pub run_then_goes : (past : List HistoryItem) (r : ClientRun) (next : ClientValue → ClientStep) → RunGoes past r → StepGoes (past ++ entered r.entries) (next r.client) → StepGoes past (run_then r next)
run_then_goes past r next first second =
    let same : (past ++ entered r.entries) ++ entered (next r.client).entries ≡ past ++ entered (r.entries ++ (next r.client).entries) = joined_past past (entered r.entries) (entered (next r.client).entries) _ (entered_append r.entries (next r.client).entries) in
    record {
      entries = each_joined past (entered r.entries) (entered (next r.client).entries) _ (entered_append r.entries (next r.client).entries) first.entries second.entries;
      sends = subst (λ h. Each IsRight h (sent (next r.client).sends)) same second.sends;
      stands = subst (λ h. Stands (h ++ sent (next r.client).sends) (next r.client).client) same second.stands;
    }

-- calls behind a run
pub run_calls : (past : List HistoryItem) (r : ClientRun) (next : ClientValue → ClientStep) → RunGoes past r → CallsGo (past ++ entered r.entries) (next r.client) → StepGoes past (run_then r next)
run_calls past r next first second =
    run_then_goes past r next first (record {
      entries = subst (λ (l : List Entry). Each IsRight (past ++ entered r.entries) (entered l)) (sym second.none) tt;
      sends = subst (λ h. Each IsRight h (sent (next r.client).sends)) same second.sends;
      stands = subst (λ h. Stands (h ++ sent (next r.client).sends) (next r.client).client) same second.stands;
    })
  where
    same : past ++ entered r.entries ≡ (past ++ entered r.entries) ++ entered (next r.client).entries
    same = sym (append-nil (past ++ entered r.entries)) ∙ ap (λ (l : List Entry). (past ++ entered r.entries) ++ entered l) (sym second.none)

pub calls_then : (past : List HistoryItem) (s : ClientStep) (next : ClientValue → ClientStep) → CallsGo past s → CallsGo (past ++ sent s.sends) (next s.client) → CallsGo past (and_then s next)
calls_then past s next first second = record {
  none = ap (λ l. l ++ (next s.client).entries) first.none ∙ second.none;
  sends = each_joined past (sent s.sends) (sent (next s.client).sends) _ (sent_append s.sends (next s.client).sends) first.sends second.sends;
  stands = subst (λ h. Stands h (next s.client).client) (joined_past past (sent s.sends) (sent (next s.client).sends) _ (sent_append s.sends (next s.client).sends)) second.stands;
}

-- calls behind a step
pub step_calls : (past : List HistoryItem) (s : ClientStep) (next : ClientValue → ClientStep) → StepGoes past s → CallsGo ((past ++ entered s.entries) ++ sent s.sends) (next s.client) → StepGoes past (and_then s next)
step_calls past s next first second =
    let same : s.entries ≡ s.entries ++ (next s.client).entries = sym (append-nil s.entries) ∙ ap (λ l. s.entries ++ l) (sym second.none) in
    let later : List HistoryItem = past ++ entered s.entries in
    record {
      entries = subst (λ (l : List Entry). Each IsRight past (entered l)) same first.entries;
      sends = subst (λ (l : List Entry). Each IsRight (past ++ entered l) (sent (s.sends ++ (next s.client).sends))) same (each_joined later (sent s.sends) (sent (next s.client).sends) _ (sent_append s.sends (next s.client).sends) first.sends second.sends);
      stands =
          subst (λ (l : List Entry). Stands ((past ++ entered l) ++ sent (s.sends ++ (next s.client).sends)) (next s.client).client) same
          (subst (λ h. Stands h (next s.client).client) (joined_past later (sent s.sends) (sent (next s.client).sends) _ (sent_append s.sends (next s.client).sends)) second.stands);
    }

-- ---- another layout

-- a LAYOUTRETURN of it that is out is one of the other
pub record SameReturn (l new : Layout) : Type 0 where
  pub stateid : new.stateid ≡ l.stateid
  pub mirrors : new.mirrors ≡ l.mirrors
  pub cred : new.writer.cred ≡ l.writer.cred
  pub taken : new.writer.taken ≡ l.writer.taken
  pub stage : new.stage ≡ Returning

abbrev pub KeepsReturn : Layout → Layout → Type 0
KeepsReturn l new = l.stage ≡ Returning → SameReturn l new

abbrev pub KeepsLayout : Option Layout → Option Layout → Type 0
KeepsLayout layout None = Unit {0}
KeepsLayout None (Some new) = ⊥
KeepsLayout (Some l) (Some new) = KeepsReturn l new

return_keeps : (h : List HistoryItem) (item : HistoryItem) (stateid : Stateid) (failed : List FailedMirror) (layout new : Option Layout) → KeepsLayout layout new → IfThere layout (ReturnOut h item stateid failed) → IfThere new (ReturnOut h item stateid failed)
return_keeps h item stateid failed layout None keeps out = tt
return_keeps h item stateid failed None (Some new) keeps out = absurd keeps
return_keeps h item stateid failed (Some l) (Some new) keeps out =
    let s : SameReturn l new = keeps out.stage in
    record {
      its_stateid = out.its_stateid ∙ sym s.stateid;
      stage = s.stage;
      covered = λ n w there place m at not_so. subst (λ (k : ℕ). WasCovered h m.id k w.at w.bytes (item ∷ [])) (sym s.cred) (out.covered n w (ap (λ t. slice_get t n) (sym s.taken) ∙ there) place m (ap (λ t. slice_get t place) (sym s.mirrors) ∙ at) not_so);
    }

keeps_none : (layout new : Option Layout) → KeepsLayout layout new → layout ≡ None → new ≡ None
keeps_none layout None keeps none = refl
keeps_none None (Some new) keeps none = absurd keeps
keeps_none (Some l) (Some new) keeps none = absurd (none-some l (sym none))

fits_keeps : (h : List HistoryItem) (item : HistoryItem) (layout new : Option Layout) (call : MdsCallValue) (kind : MdsAsk) → KeepsLayout layout new → AskFits h item layout call kind → AskFits h item new call kind
fits_keeps h item layout new call ask.LayoutReturn keeps g = record { session = g.session; sequence = g.sequence; file = g.file; stateid = g.stateid; failed = g.failed; is = g.is; out = return_keeps h item g.stateid g.failed layout new keeps g.out }
fits_keeps h item layout new call ask.LayoutGet keeps g = record { session = g.session; sequence = g.sequence; file = g.file; is = g.is; no_layout = keeps_none layout new keeps g.no_layout; before = g.before; since = g.since; split = g.split; quiet = g.quiet; unrecalled = g.unrecalled }
fits_keeps h item layout new call ask.ExchangeId keeps g = tt
fits_keeps h item layout new call ask.CreateSession keeps g = tt
fits_keeps h item layout new call ask.ReclaimComplete keeps g = tt
fits_keeps h item layout new call ask.Open keeps g = tt
fits_keeps h item layout new call (ask.DeviceInfo count) keeps g = tt
fits_keeps h item layout new call ask.Write keeps g = tt
fits_keeps h item layout new call (ask.Read at count) keeps g = tt
fits_keeps h item layout new call ask.Renew keeps g = tt

ask_keeps : (h : List HistoryItem) (name : List ℕ) (layout new : Option Layout) (asked : Option Asked) → KeepsLayout layout new → IfThere asked (AskOut h name layout) → IfThere asked (AskOut h name new)
ask_keeps h name layout new None keeps out = tt
ask_keeps h name layout new (Some a) keeps out = record { call = out.call; sent = out.sent; fits = fits_keeps h (Sends (CallsMds a.xid name out.call)) layout new out.call a.ask keeps out.fits }

again_keeps : (layout new : Option Layout) → KeepsLayout layout new → IfThere layout (λ l. l.stage ≡ Returning) → IfThere new (λ l. l.stage ≡ Returning)
again_keeps layout None keeps out = tt
again_keeps None (Some new) keeps out = absurd keeps
again_keeps (Some l) (Some new) keeps out = (keeps out).stage

pub keeps_same : (layout : Option Layout) → KeepsLayout layout layout
keeps_same None = tt
keeps_same (Some l) = λ at. record { stateid = refl; mirrors = refl; cred = refl; taken = refl; stage = at }

pub with_layout_stands : (h : List HistoryItem) (c : ClientValue) (new : Option Layout) → Stands h c → KeepsLayout c.layout new → IfThere new (λ l. LayoutStands h c.name (reports_server (reported_of l)) l)
    → StandsOf h c.name c.next_xid new c.asked c.again
with_layout_stands h c new s keeps stands = record {
  numbers = s.numbers;
  replied = s.replied;
  asked_out = ask_keeps h c.name c.layout new c.asked keeps s.asked_out;
  alone = s.alone;
  layout_stands = stands;
  taken_under = s.taken_under;
  gets_again = λ is. keeps_none c.layout new keeps (s.gets_again is);
  returns_again = λ is. again_keeps c.layout new keeps (s.returns_again is);
}

-- in a longer history, in which no number is taken
pub moved_stands : (h more : List HistoryItem) (c : ClientValue) (new : Option Layout) → AreNumberless more → (new ≡ None → AreQuiet more × AreMute more) → Stands h c → KeepsLayout c.layout new → IfThere new (λ l. LayoutStands (h ++ more) c.name (reports_server (reported_of l)) l)
    → ((file : FileId) (cred at : ℕ) (bytes : List ℕ) → HasItem (h ++ more) (Enters (Sent file (record { 0 = cred }) at bytes)) → TakenUnder (h ++ more) cred file at bytes) → StandsOf (h ++ more) c.name c.next_xid new c.asked c.again
moved_stands h more c new numberless quiet s keeps stands under = record {
  numbers = numbers_later h more c.next_xid numberless s.numbers;
  replied = all_replied_later h more c.asked numberless s.replied;
  asked_out = there_later c.asked (AskOut h c.name new) (AskOut (h ++ more) c.name new) (λ a. ask_later h more c.name new a (λ gets none. quiet none)) (ask_keeps h c.name c.layout new c.asked keeps s.asked_out);
  alone = s.alone;
  layout_stands = stands;
  taken_under = under;
  gets_again = λ is. keeps_none c.layout new keeps (s.gets_again is);
  returns_again = λ is. again_keeps c.layout new keeps (s.returns_again is);
}
