use Rattle.std.proofs.Common.{◌≡◌, [], ◌∷◌, ◌++◌, Some, refl, sym, ap, ◌∙◌, subst, Option}
use Rattle.std.proofs.lemmas.Result.{on_ok_weaker}
use Rattle.cluster_model.specs.declared.ids.NodeId.TheVariants.{Client}
use Rattle.cluster_model.specs.declared.entry.Entry.TheVariants.{TimedOut}
use Rattle.cluster_model.specs.declared.outbox.Outbox.{Outbox}
use Rattle.client_answers.specs.declared.late.Late.{Late}
use Rattle.client_state.specs.ClientStates.{ClientValue}
use Rattle.client_state.specs.ClientQueue.{with_layout}
use Rattle.client_answers.specs.ClientMirrors.{after_step}
use Rattle.client_state.specs.QueueSteps.{HasRun}
use Rattle.client_answers.specs.LateSteps.{out_under, IsLate}
use Rattle.client_answers.proofs.LateLemmas.{late_done}
use Rattle.client_answers.proofs.late.ds_timed_out.Goals as goal

pub returns : goal.returns
returns c =
    let v = c.args.client.now in
    let file = c.in-Some.file in
    let late = c.in-Some-2.late in
    let came = c.time_out_call-step.result in
    let l' = c.time_out_call-step.new.layout in
    let mid : Outbox = record { entries = c.push.new.self; sends = c.args.out.now.sends } in
    let again = c.send_again.new.out in
    let new = c.after_step.new.out in
    let d = c.after_step.new.client in
    let opened : v.file ≡ Some file = ap (λ (x : ClientValue). x.file) (sym c.client.view_is) ∙ c.in-Some.is in
    let held : v.layout ≡ Some c.in-Some-layout.layout = ap (λ (x : ClientValue). x.layout) (sym c.client.view_is) ∙ c.in-Some-layout.is in
    let entered : mid.entries.items ≡ c.args.out.now.entries.items ++ TimedOut (Client v.number) late.xid ∷ [] =
    c.in_ok-push.ensures.items ∙ ap (λ (x : ClientValue). c.args.out.now.entries.items ++ TimedOut (Client x.number) late.xid ∷ []) c.client.view_is in
    let facts : IsLate v (out_under v.layout c.args.server) (Some late) = subst (λ (x : Option Late). IsLate v (out_under v.layout c.args.server) x) c.in-Some-2.is c.in_ok-late.ensures in
    on_ok_weaker c.after_step.result
    (λ ran. late_done c.args.server v file c.in-Some-layout.layout late came l' c.args.out.now mid again new d opened held c.time_out_call-step.ensures entered refl c.in_ok-send_again.ensures
    (subst (λ (x : ClientValue). HasRun (after_step late.is_commit file came (with_layout x l')) again d new) c.client.view_is ran) facts)
    c.after_step.ensures
