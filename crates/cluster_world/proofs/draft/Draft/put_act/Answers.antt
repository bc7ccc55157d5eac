use Rattle.std.proofs.Common.{◌≡◌, ◌+◌, ◌≤◌, length, length-append, ap, sym, subst, ◌∙◌, arith}
use Rattle.world_journal.specs.declared.journal.TheConstants.{MAX_ENTRIES}
use Rattle.cluster_world.specs.Drafts.{DraftValue}
use Rattle.cluster_world.proofs.Lengths.{length_part}
use Rattle.cluster_world.proofs.draft.Draft.put_act.Goals as goal

pub invariant_of-self-2 : goal.invariant_of-self-2
invariant_of-self-2 c =
    let room : c.self.inside.begun + length c.self.inside.entries.items + (length c.args.entries.items + length c.args.sends.items) ≤ MAX_ENTRIES =
    subst (λ (d : DraftValue). d.begun + length d.entries + (length c.args.entries.items + length c.args.sends.items) ≤ MAX_ENTRIES) (sym c.self.view_is) c.requires in
    let part : length c.push_packets.new.entries.items ≡ length c.args.entries.items + length c.args.sends.items =
    ap length c.in_ok-push_packets.ensures ∙ length_part c.args.node c.self.inside.sent c.args.entries.items c.args.sends.items in
    let all : length c.append.new.self.items ≡ length c.self.inside.entries.items + length c.push_packets.new.entries.items =
    ap length c.in_ok-append.ensures.items ∙ length-append c.self.inside.entries.items c.push_packets.new.entries.items in
    record { few = omega (arith, all, part, room); packets = omega (arith, all, part, c.self.invariant.packets) }
