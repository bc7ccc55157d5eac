use Rattle.std.proofs.Common.{◌≡◌, length, sym, ap, arith, eqb-true}
use Rattle.serde_json.specs.View.{view}
use Rattle.ff_node.proofs.ConfigLemmas.{many_servers, reads_servers, not_zero}
use Rattle.ff_node.proofs.config.servers_at.Goals.{then-is_empty-via-then-is_empty, then-is_empty-via-else-is_empty+then-len-gt-MAX_SERVERS}
use Rattle.ff_node.proofs.config.servers_at.Goals as goal

pub returns-then-is_empty : goal.returns-then-is_empty
returns-then-is_empty c = λ servers lists.
    let many = many_servers (view c.args.value.now) c.in-Some.items.now.items (sym c.in-Some.ensures) servers lists in
    let some = lists.some in
    let few = lists.few in
    elim c.then-is_empty.branch [
      | then-is_empty-via-then-is_empty w ↦ let none = eqb-true _ 0 (sym w.if-is_empty.ensures) in absurd (omega (arith, many, some, none))
      | then-is_empty-via-else-is_empty+then-len-gt-MAX_SERVERS w ↦ absurd (omega (arith, many, few))
    ]

pub returns : goal.returns
returns c =
    let items = c.in-Some.items.now.items in
    let size : length items ≡ length c.deref.result.now = ap length (sym c.deref.ensures.value) in
    let some = not_zero _ c.if-is_empty.ensures in
    reads_servers (view c.args.value.now) items c.addresses_at.result (sym c.in-Some.ensures) (omega (arith, some, size, c.deref.ensures.len)) (omega (arith, size, c.deref.ensures.len))
    (rw c.deref.ensures.value at c.addresses_at.ensures)
