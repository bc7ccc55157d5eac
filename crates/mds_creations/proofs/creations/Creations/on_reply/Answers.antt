use Rattle.std.proofs.Common.{sym, ap, subst, ◌∙◌}
use Rattle.std.specs.List.{position}
use Rattle.cluster_model.specs.DsCalls.{plain_ds_reply}
use Rattle.cluster_model.specs.Fences.{is_out}
use Rattle.mds_creations.specs.Makings.{AreCreations, answered_with}
use Rattle.mds_creations.proofs.MakingLemmas.{answer_ok}
use Rattle.mds_creations.proofs.CreationSteps.{place_within, place_passes, set_with, put_with}
use Rattle.mds_creations.proofs.creations.Creations.on_reply.Goals as goal

pub invariant_of-self : goal.invariant_of-self
invariant_of-self c =
    let items = c.self.inside.items.items in
    let place = c.in-Some.place in
    let reply = plain_ds_reply c.args.reply.now in
    let found = sym (ap (position (λ x. is_out c.args.xid x.stage)) c.as_slice.ensures.value) ∙ sym c.outstanding.ensures ∙ c.in-Some.is in
    let within = place_within (λ x. is_out c.args.xid x.stage) items place found in
    subst AreCreations (sym (set_with items c.deref.result.now c.deref_mut.result.now c.as_slice-2.result.now place _ c.answered.result c.has_spare-spare.result (λ b x. answered_with b x reply) c.deref.ensures.0 c.deref_mut.ensures.value c.as_slice-2.ensures.value c.has_spare-spare.ensures c.answered.ensures))
    (answer_ok items place _ within c.self.invariant c.args.xid reply (place_passes (λ x. is_out c.args.xid x.stage) items place _ found))

pub returns-clause-answered : goal.returns-clause-answered
returns-clause-answered c =
    let items = c.self.inside.items.items in
    let place = c.in-Some.place in
    let reply = plain_ds_reply c.args.reply.now in
    let found = sym (ap (position (λ x. is_out c.args.xid x.stage)) c.as_slice.ensures.value) ∙ sym c.outstanding.ensures ∙ c.in-Some.is in
    rw (← c.self.view_is) (put_with c.self.inside.owner.0 items c.deref.result.now c.deref_mut.result.now c.as_slice-2.result.now _ place _ c.answered.result c.has_spare-spare.result (λ b x. answered_with b x reply) found (place_within (λ x. is_out c.args.xid x.stage) items place found) c.deref.ensures.0 c.deref_mut.ensures.value c.as_slice-2.ensures.value c.has_spare-spare.ensures c.answered.ensures)
