use Rattle.std.proofs.Common.{◌≡◌, ◌<◌, List, length, length-set, set, Some, None, refl, sym, ap, subst, ◌∙◌}
use Rattle.std.specs.Prelude.{slice_get}
use Rattle.std.proofs.lemmas.Option.{slice_get_read}
use Rattle.mds_io.specs.Reads.{next_sent}
use Rattle.mds_rule.specs.MdsStates.{WaitingRead}
use Rattle.served_files.specs.Sending.{SendsAmong}
use Rattle.served_files.proofs.FoundReads.{still_found, found_sent}
use Rattle.served_files.proofs.SendLemmas.{never_waits, stays_among, fails_among, goes_among}
use Rattle.served_files.proofs.waiting_reads.WaitingReads.send.Goals as goal

pub returns-then-is_none : goal.returns-then-is_none
returns-then-is_none c =
    let reads = c.deref.result.now in
    let r = c.in-Some.waiting.now in
    let looked = c.in-Some.ensures.lookup in
    let there : slice_get reads c.args.n ≡ Some r = slice_get_read reads (length reads) c.args.n r refl looked.3.0 looked.1 in
    let none : next_sent r.read c.args.xid ≡ None =
    ap (λ (w : WaitingRead). next_sent w.read c.args.xid) (sym c.waiting.view_is) ∙ never_waits c.waiting.inside.read c.waiting_mirror.result c.if-is_none.ensures c.waiting_mirror.ensures c.args.xid in
    subst (λ (l : List WaitingRead). SendsAmong c.args.file l c.args.n c.args.xid _ l) (c.deref.ensures.value ∙ c.self.view_is) (stays_among c.args.file reads c.args.n c.args.xid r there none)

pub returns-in_err-enter : goal.returns-in_err-enter
returns-in_err-enter c =
    let reads = c.self.inside.reads.items in
    let r = c.in-Some.waiting.now in
    let looked = c.in-Some.ensures.lookup in
    let there : slice_get reads c.args.n ≡ Some r = ap (λ (l : List WaitingRead). slice_get l c.args.n) (sym c.deref.ensures.value) ∙ slice_get_read c.deref.result.now (length c.deref.result.now) c.args.n r refl looked.3.0 looked.1 in
    subst (λ (l : List WaitingRead). SendsAmong c.args.file l c.args.n c.args.xid c.from_residual.result reads) c.self.view_is (fails_among c.args.file reads c.args.n c.args.xid r c.from_residual.result c.from_residual.ensures.0 there)

pub invariant_of-self-2 : goal.invariant_of-self-2
invariant_of-self-2 c = λ whole.
    let reads = c.self.inside.reads.items in
    let looked = c.in-Some.ensures.lookup in
    let old = c.self.invariant (c.in_ok-enter.ensures.was whole) in
    let within : c.args.n < length reads = subst (λ (l : List WaitingRead). c.args.n < length l) c.deref.ensures.value looked.3.0 in
    let r = c.index_mut.result.now in
    let there : slice_get reads c.args.n ≡ Some r = slice_get_read reads (length reads) c.args.n r refl within c.index_mut.ensures.value in
    let v = c.send_of_read.new.waiting in
    let found = still_found reads c.self.inside.tickets old.1 c.enter.new.self c.in_ok-enter.ensures.kept in
    (c.in_ok-enter.ensures.len ∙ old.0 ∙ sym (length-set reads c.args.n v), found_sent reads c.enter.new.self found c.args.n c.args.xid r v there (c.in_ok-enter.ensures.found whole) c.send_of_read.ensures.out)

pub returns : goal.returns
returns c =
    let reads = c.self.inside.reads.items in
    let looked = c.in-Some.ensures.lookup in
    let within : c.args.n < length reads = subst (λ (l : List WaitingRead). c.args.n < length l) c.deref.ensures.value looked.3.0 in
    let r = c.index_mut.result.now in
    let there : slice_get reads c.args.n ≡ Some r = slice_get_read reads (length reads) c.args.n r refl within c.index_mut.ensures.value in
    let v = c.send_of_read.new.waiting in
    subst (λ (l : List WaitingRead). SendsAmong c.args.file l c.args.n c.args.xid c.send_of_read.result (set reads c.args.n v)) c.self.view_is
    (goes_among c.args.file reads c.args.n c.args.xid r c.send_of_read.result v there c.send_of_read.ensures.sends)
