use Rattle.std.proofs.Common.{◌≡◌, length, vec_len, ap, ◌∙◌}
use Rattle.std.specs.Vec.{with_items}
use Rattle.std.proofs.lemmas.List.{with_items_is}
use Rattle.waiting_calls.specs.declared.server_news.NewsChange.TheVariants.{IsGivenUp}
use Rattle.waiting_calls.specs.ServerNews.{is_found_down, with_news}
use Rattle.waiting_calls.specs.LinkCalls.{LinkCallsValue}
use Rattle.waiting_calls.proofs.TakeOutLemmas.{gave_up}
use Rattle.waiting_calls.proofs.link_calls.LinkCalls.give_up_server.Goals as goal

pub returns-then-is_down : goal.returns-then-is_down
returns-then-is_down c =
    let old : LinkCallsValue = record { waiting = c.self.inside.waiting.items; at_once = c.self.inside.at_once.items; servers = c.self.inside.servers.items; highest = c.self.inside.highest } in
    let long : length c.change_news.new.servers ≡ vec_len c.self.inside.servers = c.change_news.auto.servers ∙ c.deref_mut.ensures.len in
    rw (← c.self.view_is)
    (gave_up c.args.now c.args.number old c.is_found_down-is_down.result c.move_reads.new.waiting.items c.move_reads.new.at_once.items (with_items c.self.inside.servers c.change_news.new.servers).items c.if-is_down.true
    (c.is_found_down-is_down.ensures ∙ ap (is_found_down c.args.now c.args.number) c.deref.ensures.value)
    (with_items_is c.self.inside.servers c.change_news.new.servers long ∙ c.change_news.ensures ∙ ap (with_news c.args.now c.args.number (IsGivenUp c.is_found_down-is_down.result)) c.deref_mut.ensures.value)
    c.move_reads.ensures.waiting c.move_reads.ensures.at_once)
