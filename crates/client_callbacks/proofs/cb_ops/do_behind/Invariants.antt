use Rattle.std.proofs.Common.{length}
use Rattle.client_callbacks.specs.Callbacks.{cb_behind}
use Rattle.client_callbacks.proofs.CallbackLemmas.{GoesOnJudged}
use Rattle.client_callbacks.proofs.cb_ops.do_behind.Given as goal

abbrev pub invariant-loop-args : goal.invariant-loop-args
invariant-loop-args l = GoesOnJudged l.results (cb_behind l.ops.values l.ops.stop l.client) l.fn.results (cb_behind l.fn.ops.values l.fn.ops.stop l.fn.client)

abbrev pub decreases-loop-args : goal.decreases-loop-args
decreases-loop-args l = length l.ops.values
