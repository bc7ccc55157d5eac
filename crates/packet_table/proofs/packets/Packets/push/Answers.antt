use Rattle.std.proofs.Common.{ℕ, ◌+◌, length, subst, refl, rules, ◌≡◌}
use Rattle.packet_table.specs.PacketLines.{ChangesLine, with_number}
use Rattle.packet_table.proofs.FoundPackets.{sent_found}
use Rattle.packet_table.proofs.packets.Packets.push.Goals as goal

pub invariant_of-self-2 : goal.invariant_of-self-2
invariant_of-self-2 c =
    let p = c.self.inside in
    let notes = p.notes.items in
    let lines = p.lines.entries in
    let lines' = c.put_number.new.lines.entries in
    let same = c.in_ok-reserve.ensures.items in
    let size : c.len.result ≡ length notes = search rules in
    let changes = subst (λ (n : ℕ). ChangesLine c.pair_key.result (with_number (n + 1)) lines lines') size c.in_ok-put_number.ensures.ok in
    let theirs = subst (λ (key : ℕ). ChangesLine key (with_number (length notes + 1)) lines lines') c.pair_key.ensures.exact changes in
    let machines = c.pair_key.ensures.machines in
    rw (c.in_ok-push.ensures.items, same) (sent_found c.args.from c.args.to machines.0 machines.1 notes p.held.items lines lines' p.low _ refl refl theirs c.self.invariant)
