use Rattle.std.proofs.Common.{◌≡◌, ◌<◌, true, false, List, length, Some, None, refl, sym, ap, subst, ◌∙◌, arith}
use Rattle.std.specs.Prelude.{slice_get, position}
use Rattle.std.proofs.lemmas.Option.{slice_get_read}
use Rattle.cluster_model.specs.Fences.{is_out}
use Rattle.mds_rule.specs.MdsStates.{WaitingRead}
use Rattle.mds_rule.specs.Answers.{is_read_out}
use Rattle.served_files.proofs.FoundReads.{none_out, out_there, not_there}
use Rattle.served_files.proofs.waiting_reads.WaitingReads.place_out.Goals as goal

pub returns-in_err-place-clause-place : goal.returns-in_err-place-clause-place
returns-in_err-place-clause-place c =
    let t = c.self.inside.tickets in
    let index = c.self.invariant (sym c.if-not-is_whole.ensures) in
    c.from_residual.ensures
    ∙ sym (subst (λ (l : List WaitingRead). position (is_read_out c.args.xid) l ≡ None) c.self.view_is (none_out c.self.inside.reads.items t index.1 c.args.xid c.in_err-place.ensures.found))

pub returns-then-not-is_outstanding-clause-place : goal.returns-then-not-is_outstanding-clause-place
returns-then-not-is_outstanding-clause-place c =
    let reads = c.self.inside.reads.items in
    let place = c.in_ok-place.place in
    let r = c.index.result.now in
    let index = c.self.invariant (sym c.if-not-is_whole.ensures) in
    let within : place < length reads = omega (arith, index.0, c.in_ok-place.ensures.within) in
    let there : slice_get reads place ≡ Some r = slice_get_read reads (length reads) place r refl within c.index.ensures in
    let not : is_read_out c.args.xid r ≡ false = ap (λ (w : WaitingRead). is_out c.args.xid w.read.stage) (sym c.behind-self.view_is) ∙ sym c.if-not-is_outstanding.ensures in
    sym (subst (λ (l : List WaitingRead). position (is_read_out c.args.xid) l ≡ None) c.self.view_is (not_there reads c.self.inside.tickets index.1 c.args.xid place r c.in_ok-place.ensures.found there not))

pub returns-clause-place : goal.returns-clause-place
returns-clause-place c =
    let reads = c.self.inside.reads.items in
    let place = c.in_ok-place.place in
    let r = c.index.result.now in
    let index = c.self.invariant (sym c.if-not-is_whole.ensures) in
    let within : place < length reads = omega (arith, index.0, c.in_ok-place.ensures.within) in
    let there : slice_get reads place ≡ Some r = slice_get_read reads (length reads) place r refl within c.index.ensures in
    let out : is_read_out c.args.xid r ≡ true = ap (λ (w : WaitingRead). is_out c.args.xid w.read.stage) (sym c.behind-self.view_is) ∙ sym c.if-not-is_outstanding.ensures in
    sym (subst (λ (l : List WaitingRead). position (is_read_out c.args.xid) l ≡ Some place) c.self.view_is (out_there reads c.self.inside.tickets index.1 c.args.xid place r c.in_ok-place.ensures.found there out))
