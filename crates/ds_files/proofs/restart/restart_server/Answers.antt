use Rattle.std.proofs.Common.{List, arith, ap, ◌∙◌}
use Rattle.cluster_model.specs.Ticks.{rebooted}
use Rattle.cluster_model.specs.File.{StoredFile}
use Rattle.cluster_model.specs.Server.{ServerState, total_size}
use Rattle.ds_files.proofs.Restarted.{all_restarted, fewer_bytes, keeps}
use Rattle.ds_files.proofs.restart.restart_server.Goals as goal

pub total_size-head-requires : goal.total_size-head-requires
total_size-head-requires c =
    let less = fewer_bytes c.args.files.now c.in_ok-kept.kept.items c.in_ok-kept.ensures.bounded in
    let total = c.requires.server.total in
    let most = c.requires.server.bounded in
    rw (c.restart_files.ensures) (omega (arith, less, total, most))

pub returns-clause-ok : goal.returns-clause-ok
returns-clause-ok c =
    let h = c.args.head.now in
    let files = c.restart_files.ensures ∙ all_restarted c.args.files.now c.in_ok-kept.kept.items c.args.pieces.now c.in_ok-kept.ensures.bounded c.in_ok-kept.ensures.kept in
    ap (λ (fs : List StoredFile). let s : ServerState = record { number = h.number; clock = rebooted h.clock; root = h.root; names = h.names; files = fs } in s) files

pub returns-clause-keeps : goal.returns-clause-keeps
returns-clause-keeps c =
    rw (c.restart_files.ensures) (keeps c.args.head.now c.args.files.now c.in_ok-kept.kept.items c.total_size-head.result c.requires.server c.in_ok-kept.ensures.bounded (c.total_size-head.ensures ∙ ap total_size c.restart_files.ensures))
