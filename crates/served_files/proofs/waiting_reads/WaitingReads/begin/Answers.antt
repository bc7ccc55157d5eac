use Rattle.std.proofs.Common.{List, [], ◌∷◌, ◌++◌, sym, ap, subst, arith}
use Rattle.cluster_model.specs.Fences.{is_out}
use Rattle.mds_io.specs.Reads.{ReadState}
use Rattle.mds_rule.specs.MdsStates.{WaitingRead}
use Rattle.served_files.specs.Tickets.{AreReadsFound}
use Rattle.served_files.proofs.FoundReads.{still_found, found_pushed}
use Rattle.served_files.proofs.waiting_reads.WaitingReads.begin.Goals as goal

pub invariant_of-self-2 : goal.invariant_of-self-2
invariant_of-self-2 c = λ whole.
    let reads = c.self.inside.reads.items in
    let w : WaitingRead = record { compound = c.args.compound; read = c.start-read.result } in
    let t = c.push.new.self in
    let old = c.self.invariant (c.in_ok-push.ensures.was whole) in
    let found = still_found reads c.self.inside.tickets old.1 t c.in_ok-push.ensures.kept in
    let more = found_pushed reads t found w (λ xid. ap (λ (r : ReadState). is_out xid r.stage) c.start-read.ensures) in (
      omega (arith, old.0, c.in_ok-push.ensures.ok whole, c.in_ok-reserve.ensures.len, c.in_ok-push-2.ensures.len),
      subst (λ (l : List WaitingRead). AreReadsFound l t) (sym c.in_ok-push-2.ensures.items) (subst (λ (l : List WaitingRead). AreReadsFound (l ++ w ∷ []) t) (sym c.in_ok-reserve.ensures.items) more),
    )
