use Rattle.std.proofs.Common.{Some, map, position, length, sym, ap, ◌∙◌}
use Rattle.std.proofs.lemmas.List.{length-map}
use Rattle.recall.specs.Recalls.{grant_of}
use Rattle.recall.specs.Entries.{is_ready, held_as}
use Rattle.recall.proofs.Answered.{sends_none, sends_nothing, sends_stands, sends_it}
use Rattle.recall.proofs.Loops.{written}
use Rattle.recall.proofs.recalls.Recalls.next_call.Goals as goal

pub returns-in_err-place : goal.returns-in_err-place
returns-in_err-place c =
    let found = sym (ap (position is_ready) c.as_slice.ensures.value) ∙ sym c.ready.ensures ∙ c.in_err-place.was in
    sends_nothing c.args.self.now c.args.xid c.from_residual.result c.from_residual.ensures (sends_none c.self.inside.entries.items c.args.self.now c.args.xid c.self.invariant c.self.view_is found)

pub invariant_of-self : goal.invariant_of-self
invariant_of-self c =
    let e = c.index.result.now in
    let mark = held_as e.recall.client (Some (grant_of e.recall)) in
    let found = sym (ap (position is_ready) c.as_slice.ensures.value) ∙ sym c.ready.ensures ∙ c.in_ok-place.was in
    sends_stands c.self.inside.entries.items c.self.invariant c.in_ok-place.place e c.args.xid found c.index.ensures _
    (written _ _ c.hold.new.entries (ap length c.hold.ensures ∙ length-map c.as_mut_slice.result.now mark ∙ c.as_mut_slice.ensures.len) ∙ c.hold.ensures ∙ ap (map mark) c.as_mut_slice.ensures.value)

pub returns : goal.returns
returns c =
    let e = c.index.result.now in
    let mark = held_as e.recall.client (Some (grant_of e.recall)) in
    let found = sym (ap (position is_ready) c.as_slice.ensures.value) ∙ sym c.ready.ensures ∙ c.in_ok-place.was in
    sends_it c.self.inside.entries.items c.self.invariant c.in_ok-place.place e c.args.xid found c.index.ensures c.args.self.now _ c.self.view_is
    (written _ _ c.hold.new.entries (ap length c.hold.ensures ∙ length-map c.as_mut_slice.result.now mark ∙ c.as_mut_slice.ensures.len) ∙ c.hold.ensures ∙ ap (map mark) c.as_mut_slice.ensures.value)
