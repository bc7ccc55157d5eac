-- A call to a data server that timed out.
use Rattle.std.proofs.Common.{◌≡◌, ℕ, List, [], ◌∷◌, ◌++◌, map, Option, Some, None, refl, sym, ap, ◌∙◌, subst, append_assoc, append-nil}
use Rattle.cluster_model.specs.declared.outbox.Outbox.{Outbox}
use Rattle.cluster_model.specs.declared.ids.NodeId.TheVariants.{Server, Client}
use Rattle.cluster_model.specs.declared.entry.Entry.TheVariants.{TimedOut}
use Rattle.client_file_calls.specs.declared.open.OpenFile.{OpenFile}
use Rattle.mirror_writer.specs.declared.step.WriterStep.{WriterStep}
use Rattle.mirror_writer.specs.declared.step.WriterStep.TheVariants as step
use Rattle.mirror_writer.specs.Writers.{WriterAfter, after_timeout}
use Rattle.mirror_writer.specs.Outstanding.{OutCall, out_at}
use Rattle.ds_calls.specs.MadeCalls.{ds_call_bytes}
use Rattle.client_state.specs.declared.layout.Layout.{Layout}
use Rattle.client_answers.specs.declared.late.Late.{Late}
use Rattle.client_state.specs.ClientStates.{ClientValue, ClientRun}
use Rattle.client_state.specs.ClientQueue.{with_layout}
use Rattle.client_state.specs.ClientSends.{ClientSend, RepeatsToServer, SendValue, spelled_send, ClientStep}
use Rattle.client_answers.specs.ClientMirrors.{is_commit, after_step, has_writer, goes_again, late_out, ds_timed_out_by, ds_timed_out}
use Rattle.client_state.specs.QueueSteps.{HasRun, HasStepped}
use Rattle.client_answers.specs.LateSteps.{out_under, cred_of, IsLate, TimesOut, SendsAgain}

abbrev to_server : ℕ → List ℕ → SendValue
to_server server message = (Server server, message)

abbrev sent_again : WriterStep → SendValue → List SendValue
sent_again step.Waiting s = s ∷ []
sent_again came s = []

record Again (more : List SendValue) (old new : Outbox) : Type 0 where
  entries : new.entries.items ≡ old.entries.items
  sends : new.sends.items ≡ old.sends.items ++ more

again_parts : (came : WriterStep) (s : SendValue) (old new : Outbox) → SendsAgain came s old new → Again (sent_again came s) old new
again_parts step.Stranger s old new h = record { entries = h.0; sends = h.1 ∙ sym (append-nil old.sends.items) }
again_parts step.Waiting s old new h = record { entries = h.0; sends = h.1 }
again_parts (step.Failed id cause) s old new h = record { entries = h.0; sends = h.1 ∙ sym (append-nil old.sends.items) }
again_parts (step.Fenced id status) s old new h = record { entries = h.0; sends = h.1 ∙ sym (append-nil old.sends.items) }
again_parts step.Committed s old new h = record { entries = h.0; sends = h.1 ∙ sym (append-nil old.sends.items) }

resent_as : (came : WriterStep) (send : ClientSend) (s : SendValue) → s ≡ spelled_send send → sent_again came s ≡ map spelled_send (goes_again send came)
resent_as step.Stranger send s same = refl
resent_as step.Waiting send s same = ap (λ x. x ∷ []) same
resent_as (step.Failed id cause) send s same = refl
resent_as (step.Fenced id status) send s same = refl
resent_as step.Committed send s same = refl

module _ (server : ℕ) (c : ClientValue) (file : OpenFile) (l : Layout) (late : Late) (came : WriterStep) (l' : Layout) (before mid again new : Outbox) (d : ClientValue)
    (opened : c.file ≡ Some file) (held : c.layout ≡ Some l) (timed : TimesOut l late.xid came l')
    (entered : mid.entries.items ≡ before.entries.items ++ TimedOut (Client c.number) late.xid ∷ []) (sent : mid.sends.items ≡ before.sends.items)
    (sends : SendsAgain came (Server server, late.message) mid again) (ran : HasRun (after_step late.is_commit file came (with_layout c l')) again d new) where
  late_out_done : (out : OutCall) → out_under c.layout server ≡ Some out → IsLate c (Some out) (Some late) → HasStepped (ds_timed_out server c) before d new
  late_out_done out is facts =
      let after = after_timeout l.writer out.xid in
      let a : WriterAfter = record { writer = l'.writer; step = came } in
      let at : a ≡ after = timed.writer ∙ ap (after_timeout l.writer) facts.0 in
      let there : out_at l.writer server ≡ Some out = ap (λ x. out_under x server) (sym held) ∙ is in
      let whole : ds_timed_out server c ≡ late_out file l server (Some out) c = (λ i. ds_timed_out_by (opened i) (held i) server c) ∙ ap (λ x. late_out file l server x c) there in
      let same : after_step late.is_commit file came (with_layout c l') ≡ after_step (is_commit out.call) file after.step (has_writer c l after) =
      ap (λ x. after_step late.is_commit file came (with_layout c x)) timed.rest ∙ (λ i. after_step (facts.1 i) file (at i).step (has_writer c l (at i))) in
      let run = subst (λ (r : ClientRun). HasRun r again d new) same ran in
      let parts = again_parts came (Server server, late.message) mid again sends in
      let send : ClientSend = RepeatsToServer server out.xid c.name l.writer.cred out.call in
      let message : late.message ≡ ds_call_bytes out.xid c.name l.writer.cred out.call = facts.2 ∙ ap (λ x. ds_call_bytes out.xid c.name (cred_of x) out.call) held in
      let entry = TimedOut (Client c.number) out.xid ∷ [] in
      let more = (after_step (is_commit out.call) file after.step (has_writer c l after)).entries in
      subst (λ (s : ClientStep). HasStepped s before d new) (sym whole) (record {
        client = run.client;
        entries =
            run.entries ∙ ap (λ x. x ++ more) (parts.entries ∙ entered ∙ ap (λ x. before.entries.items ++ TimedOut (Client c.number) x ∷ []) facts.0)
            ∙ append_assoc before.entries.items entry more;
        sends =
            run.sends ∙ parts.sends ∙ ap (λ x. x ++ sent_again came (Server server, late.message)) sent
            ∙ ap (λ x. before.sends.items ++ x) (resent_as came send (Server server, late.message) (ap (to_server server) message) ∙ (λ i. map spelled_send (goes_again send (at i).step)));
      })

  pub late_done : IsLate c (out_under c.layout server) (Some late) → HasStepped (ds_timed_out server c) before d new
  late_done facts = by_out (out_under c.layout server) refl facts
    where
      by_out : (o : Option OutCall) → out_under c.layout server ≡ o → IsLate c o (Some late) → HasStepped (ds_timed_out server c) before d new
      by_out None is no_call = absurd cc
      by_out (Some out) is told = late_out_done out is told
