-- Timeouts that name their call.
use Rattle.std.proofs.Common.{◌≡◌, ℕ, if◌then◌else◌, false, Option, Some, None, refl, ap, ◌∙◌}
use Rattle.std.specs.Prelude.{◌≢◌, slice_get}
use Rattle.std.proofs.lemmas.Bool.{eq-eqb, ne_eqb}
use Rattle.cluster_model.specs.declared.ids.NodeId.{NodeId}
use Rattle.cluster_model.specs.declared.ids.NodeId.TheVariants.{Mds, Server, Client}
use Rattle.cluster_model.specs.declared.entry.Entry.TheVariants.{TimedOut}
use Rattle.client_file_calls.specs.declared.open.OpenFile.{OpenFile}
use Rattle.mirror_writer.specs.Outstanding.{OutCall, out_at}
use Rattle.client_state.specs.declared.layout.Layout.{Layout}
use Rattle.client_state.specs.declared.asked.Asked.{Asked}
use Rattle.client_state.specs.ClientStates.{ClientValue}
use Rattle.client_state.specs.ClientSends.{ClientStep, sends_none, and_then}
use Rattle.client_calls.specs.ClientCalls.{ends_event}
use Rattle.client_answers.specs.ClientMirrors.{late_out, ds_timed_out_by}
use Rattle.mirror_client.specs.ClientRule.{bears_number, client_late, client_timed_out, compound_number, ds_call_number, ds_outstanding, mds_timed_out, outstanding_to, timed_out_to}
use Rattle.mirror_client.proofs.StepLemmas.{still_here}

pub named : (to : NodeId) (xid : ℕ) (c : ClientValue) → outstanding_to to c ≡ Some xid → client_late to (Some xid) c ≡ client_timed_out to c
named to xid c is =
    ap (λ (o : Option ℕ). if bears_number xid o then client_timed_out to c else sends_none c) is
    ∙ ap (λ b. if b then client_timed_out to c else sends_none c) (eq-eqb xid xid refl)

no_number : (xid : ℕ) (o : Option ℕ) → o ≢ Some xid → bears_number xid o ≡ false
no_number xid None other = refl
no_number xid (Some out) other = ne_eqb out xid (λ same. other (ap Some same))

pub others : (to : NodeId) (xid : ℕ) (c : ClientValue) → outstanding_to to c ≢ Some xid → client_late to (Some xid) c ≡ sends_none c
others to xid c other = ap (λ b. if b then client_timed_out to c else sends_none c) (no_number xid (outstanding_to to c) other)

-- ---- the first entry of a timeout

-- it says that the client's call of this number timed out
abbrev BeginsWith : ℕ → ClientValue → ClientStep → Type 0
BeginsWith xid c s = slice_get s.entries 0 ≡ Some (TimedOut (Client c.number) xid)

compound_entered : (asked : Option Asked) (xid : ℕ) (c : ClientValue) → compound_number asked ≡ Some xid → BeginsWith xid c (mds_timed_out asked c)
compound_entered None xid c is = absurd (cc (is))
compound_entered (Some asked) xid c is = let same : asked.xid ≡ xid = cc (is) in ap (λ (n : ℕ). Some (TimedOut (Client c.number) n)) same

late_entered : (file : OpenFile) (l : Layout) (server : ℕ) (o : Option OutCall) (xid : ℕ) (c : ClientValue) → ds_call_number o ≡ Some xid → BeginsWith xid c (and_then (late_out file l server o c) ends_event)
late_entered file l server None xid c is = absurd (cc (is))
late_entered file l server (Some out) xid c is = let same : out.xid ≡ xid = cc (is) in ap (λ (n : ℕ). Some (TimedOut (Client c.number) n)) same

ds_entered : (file : Option OpenFile) (layout : Option Layout) (server xid : ℕ) (c : ClientValue) → ds_outstanding file layout server ≡ Some xid → BeginsWith xid c (and_then (ds_timed_out_by file layout server c) ends_event)
ds_entered None layout server xid c is = absurd (cc (is))
ds_entered (Some file) None server xid c is = absurd (cc (is))
ds_entered (Some file) (Some l) server xid c is = late_entered file l server (out_at l.writer server) xid c is

to_entered : (to : NodeId) (xid : ℕ) (c : ClientValue) → outstanding_to to c ≡ Some xid → BeginsWith xid c (timed_out_to to c)
to_entered Mds xid c is = compound_entered c.asked xid c is
to_entered (Server server) xid c is = ds_entered c.file c.layout server xid c is
to_entered (Client number) xid c is = absurd (cc (is))

pub entered : (to : NodeId) (xid : ℕ) (c : ClientValue) → c.has_left ≡ false → outstanding_to to c ≡ Some xid → BeginsWith xid c (client_timed_out to c)
entered to xid c here is = ap (λ (s : ClientStep). slice_get s.entries 0) (still_here c (timed_out_to to c) here) ∙ to_entered to xid c is
