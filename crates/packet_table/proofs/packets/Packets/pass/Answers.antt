use Rattle.std.proofs.Common.{ℕ, List, rules, subst, ap, ◌∙◌, not}
use Rattle.std.specs.Prelude.{slice_get}
use Rattle.std.proofs.lemmas.Fn.{filter_same}
use Rattle.cluster_model.specs.declared.ids.NodeId.{NodeId}
use Rattle.packet_table.specs.declared.note.PacketNote.{PacketNote}
use Rattle.packet_table.specs.Packets.{is_pair, after_pass}
use Rattle.packet_table.specs.PacketLines.{line_at, numbers_in, front_in, with_front, low_before, ChangesLine, MovesFront}
use Rattle.packet_table.proofs.FoundPackets.{passed_found}
use Rattle.packet_table.proofs.packets.Packets.pass.Goals as goal

pub invariant_of-self : goal.invariant_of-self
invariant_of-self c =
    let p = c.self.inside in
    let from = c.args.from in
    let to = c.args.to in
    let notes = p.notes.items in
    let lines = p.lines.entries in
    let lines' = c.set_front.new.lines.entries in
    let front = c.front_of-front.result in
    let key = c.pair_key-key.ensures.exact in
    let machines = c.pair_key-key.ensures.machines in
    let left = filter_same _ (λ (pair : NodeId × NodeId). not (is_pair from to pair)) _ (λ x b f' k. search rules) _ _ c.retain.ensures.filtered in
    let changes = subst (λ (k : ℕ). ChangesLine k (with_front front) lines lines') key c.set_front.ensures in
    let moves = subst (λ (k : ℕ). MovesFront notes (numbers_in (line_at lines k)) (front_in (line_at lines k)) front) key
    (subst (λ (xs : List PacketNote). MovesFront xs (numbers_in (line_at lines c.pair_key-key.result)) (front_in (line_at lines c.pair_key-key.result)) front) c.as_slice.ensures.value c.front_of-front.ensures) in
    let low = c.low_before-self-inside.ensures ∙ ap (low_before p.low) (c.number_at-first.ensures ∙ ap (λ (k : ℕ). slice_get (numbers_in (line_at lines k)) front) key) in
    rw (left, low) (passed_found from to machines.0 machines.1 notes p.held.items lines lines' p.low front changes moves c.self.invariant)

pub returns : goal.returns
returns c =
    let left = filter_same _ (λ (pair : NodeId × NodeId). not (is_pair c.args.from c.args.to pair)) _ (λ x b f' k. search rules) _ _ c.retain.ensures.filtered in
    ap (λ (held : List (NodeId × NodeId)). record { notes = c.self.inside.notes.items; held = held }) left ∙ ap (after_pass c.args.from c.args.to) c.self.view_is
