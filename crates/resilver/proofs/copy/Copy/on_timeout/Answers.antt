use Rattle.std.proofs.Common.{◌≡◌, sym, ap, subst, ◌∙◌}
use Rattle.std.specs.List.{position}
use Rattle.cluster_model.specs.Fences.{is_out}
use Rattle.copy_rule.specs.Copies.{CopyState, CopyAfter, target_late, by_read, read_late, on_timeout}
use Rattle.resilver.proofs.Steps.{step_here, place_within}
use Rattle.resilver.proofs.copy.Copy.on_timeout.Goals as goal

pub returns-in-Some : goal.returns-in-Some
returns-in-Some c =
    let k = c.self.inside in
    let s : CopyState = record { copier = k.copier.0; source = k.source; at = k.at; piece = k.piece; ended = k.ended; read = k.read; targets = k.targets.items } in
    let place = c.in-Some.place in
    let found = sym (ap (position (λ t. is_out c.args.xid t.stage)) c.as_slice.ensures.value) ∙ sym c.outstanding.ensures ∙ c.in-Some.is in
    subst (λ (v : CopyState). ◌≡◌ {A = CopyAfter} (record { copy = c.go_on.new.self; step = c.go_on.result }) (on_timeout v c.args.xid)) c.self.view_is
    (c.go_on.ensures ∙ step_here s c.deref.result.now c.deref_mut.result.now _ place _ (λ t. target_late t t.stage) (by_read s c.args.xid (read_late s s.read)) (record { target = c.timed_out-step.result.0; step = c.timed_out-step.result.1 })
    found (place_within _ k.targets.items place found) c.deref.ensures.0 c.deref_mut.ensures.value c.timed_out-step.ensures)
