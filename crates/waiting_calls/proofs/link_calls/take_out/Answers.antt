use Rattle.std.proofs.Common.{◌<◌, false, sym, ◌∙◌, arith}
use Rattle.std.specs.VecDeque.{deque_len}
use Rattle.waiting_calls.specs.declared.link_call.LinkCall.{LinkCall}
use Rattle.waiting_calls.proofs.TakeOutLemmas.{without_found, without_missing, removed}
use Rattle.waiting_calls.proofs.link_calls.take_out.Goals as goal

pub returns-in-Some-clause-items : goal.returns-in-Some-clause-items
returns-in-Some-clause-items c =
    let there = without_found c.args.node c.args.xid c.args.calls.now.items c.in-Some.place (sym c.place_of.ensures ∙ c.in-Some.is) in
    let long = c.args.calls.now.ok.0 in
    let first = there.0 in
    let within : c.in-Some.place < deque_len c.args.calls.now = omega arith in
    let call : LinkCall = record { node = c.args.node; xid = c.args.xid; due = 0; is_data_read = false } in
    removed _ _ _ c.remove.ensures.items (c.remove.ensures.succeeds call within) ∙ sym there.1

pub returns-in_default-clause-items : goal.returns-in_default-clause-items
returns-in_default-clause-items c = sym (without_missing c.args.node c.args.xid c.args.calls.now.items (sym c.place_of.ensures ∙ c.in_default.is))
