use Rattle.std.proofs.Common.{◌+◌, ◌<◌, ◌∷◌, ◌++◌, ◌∙◌, ℕ, List, [], take, length, sym, ap, arith}
use Rattle.std.proofs.lemmas.List.{take_more}
use Rattle.store_disk.specs.Crashes.{left_behind}
use Rattle.store_disk.specs.declared.recorded.Recorded.{Recorded}
use Rattle.store_disk.proofs.CrashLemmas.{tracks_more}
use Rattle.store_disk.proofs.crash.replay.Goals as goal

pub loop-call-preserved : goal.loop-call-preserved
loop-call-preserved c =
    let i = c.loop-call.call-index in
    let calls = c.args.calls.now in
    let call = c.call-item.result in
    let within : i < length calls = omega arith in
    tracks_more c.args.tear c.args.start.now (take i calls) (take (i + 1) calls) call c.loop-call.seen.items c.loop-call.left.items c.replay_seen.new.seen.items c.replay_left.new.left.items
    (take_more calls i call within ∙ ap (λ (x : Recorded). take i calls ++ x ∷ []) (sym c.call-item.is))
    c.in_ok-replay_seen.ensures
    (c.in_ok-replay_left.ensures ∙ ap (λ (xs : List ℕ). left_behind c.args.tear call xs c.loop-call.left.items) c.deref.ensures.value)
    c.loop-call.invariant
