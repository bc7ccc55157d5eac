use Rattle.std.proofs.Common.{position, sym, ap, subst, ◌∙◌, Option}
use Rattle.cluster_model.specs.declared.ids.FileId.{FileId}
use Rattle.recall.specs.Calls.{WaitsFor}
use Rattle.recall.specs.Entries.{is_ready}
use Rattle.recall.proofs.Answered.{sends_none, waits_it}
use Rattle.recall.proofs.recalls.Recalls.waiting_file.Goals as goal

pub returns-in_err-place : goal.returns-in_err-place
returns-in_err-place c xid =
    let found = sym (ap (position is_ready) c.as_slice.ensures.value) ∙ sym c.ready.ensures ∙ c.in_err-place.was in
    subst (λ (file : Option FileId). WaitsFor c.args.self.now xid file) (sym c.from_residual.ensures) (sends_none c.self.inside.entries.items c.args.self.now xid c.self.invariant c.self.view_is found)

pub returns : goal.returns
returns c xid =
    let e = c.index.result.now in
    let found = sym (ap (position is_ready) c.as_slice.ensures.value) ∙ sym c.ready.ensures ∙ c.in_ok-place.was in
    waits_it c.self.inside.entries.items c.self.invariant c.in_ok-place.place e xid found c.index.ensures c.args.self.now c.self.view_is
