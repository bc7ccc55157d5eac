use Rattle.std.proofs.Common.{rules, not, ap, ◌≡◌, ◌++◌, length, refl, arith, length-append}
use Rattle.std.specs.List.{filter}
use Rattle.std.proofs.lemmas.Fn.{filter_same}
use Rattle.std.proofs.lemmas.List.Filters.{length-filter_both}
use Rattle.waiting_calls.specs.LinkCalls.{is_read_of}
use Rattle.waiting_calls.specs.declared.link_call.LinkCall.{LinkCall}
use Rattle.waiting_calls.proofs.link_calls.move_reads.Goals as goal

pub returns-clause-waiting : goal.returns-clause-waiting
returns-clause-waiting c = filter_same _ (λ (call : LinkCall). not (is_read_of c.args.number call)) _ (λ x b f' k. search rules) _ _ c.retain.ensures.filtered

pub returns-clause-room : goal.returns-clause-room
returns-clause-room c =
    let waits = filter_same _ (λ (call : LinkCall). not (is_read_of c.args.number call)) _ (λ x b f' k. search rules) _ _ c.retain.ensures.filtered in
    let moved : length c.copy_reads.new.at_once.items ≡ length (c.args.at_once.now.items ++ filter (λ (call : LinkCall). is_read_of c.args.number call) c.args.waiting.now.items) = ap length c.copy_reads.ensures.items in
    let left : length c.retain.new.self.items ≡ length (filter (λ (call : LinkCall). not (is_read_of c.args.number call)) c.args.waiting.now.items) = ap length waits in
    let joined = length-append c.args.at_once.now.items (filter (λ (call : LinkCall). is_read_of c.args.number call) c.args.waiting.now.items) in
    let both = length-filter_both (λ (call : LinkCall). is_read_of c.args.number call) (λ (call : LinkCall). not (is_read_of c.args.number call)) (λ call. refl) c.args.waiting.now.items in
    omega (arith, moved, left, joined, both, c.copy_reads.new.at_once.ok.0, c.retain.new.self.ok.0, c.args.at_once.now.ok.0, c.args.waiting.now.ok.0, c.requires.room, c.copy_reads.ensures.capacity)
