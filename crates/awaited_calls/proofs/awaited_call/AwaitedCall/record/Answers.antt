use Rattle.std.proofs.Common.{ℕ, List, sym, ap, ◌∙◌}
use Rattle.mds_rule.specs.MdsStates.{AwaitedCall}
use Rattle.mds_rule.specs.Spelled.{spelled_send}
use Rattle.awaited_calls.specs.declared.awaited_call.SentTo.{SentTo}
use Rattle.awaited_calls.specs.Awaited.{sent_under}
use Rattle.awaited_calls.proofs.awaited_call.AwaitedCall.record.Goals as goal

pub returns-in_ok-record-in-ToClient : goal.returns-in_ok-record-in-ToClient
returns-in_ok-record-in-ToClient c =
    ap (λ (bytes : List ℕ). (c.in-ToClient.back.node, bytes)) c.in_ok-record-in-ToClient.ensures
    ∙ ap (λ (sent : SentTo). spelled_send (sent_under c.self.inside.xid sent)) (sym c.in-ToClient.is)
    ∙ ap (λ (call : AwaitedCall). spelled_send call.sent) c.self.view_is
