use Rattle.std.proofs.Common.{◌≡◌, ◌+◌, ◌-◌, ◌<◌, ◌≤◌, ℕ, Ok, Option, inl, inr, sym, subst, ◌∙◌, arith}
use Rattle.store_disk.specs.Disks.{DiskLife}
use Rattle.gate_log.specs.Heads.{FindsHead, FitsIn}
use Rattle.gate_log.specs.Staging.{FindsEnd}
use Rattle.gate_log.specs.declared.reading.Head.{Head}
use Rattle.gate_log.specs.declared.staging.LogEnd.TheVariants as log_end
use Rattle.gate_log.proofs.EndLemmas.{ReadsTo, reads_more, ends_absent, ends_broken, ends_whole}
use Rattle.gate_log.proofs.staging.find_end.Goals as goal

pub returns-in-Absent-clause-finds : goal.returns-in-Absent-clause-finds
returns-in-Absent-clause-finds g c =
    let told = g.D.Disk.told c.loop-length.disk in
    let at = c.loop-length.at in
    let finds = c.in_ok-read_head.ensures.told in
    let many : 1 < c.args.size = omega arith in
    subst (λ (o : Option DiskLife). FindsEnd o c.args.size (Ok (log_end.Cut at))) c.loop-length.invariant.told
    (elim c.in-Absent.is [
      | inl is ↦ ends_absent told c.args.size at many c.loop-length.invariant.reads (subst (λ (h : Head). FindsHead told at (c.args.size - at) (Ok h)) is finds)
      | inr is ↦ ends_broken told c.args.size at many c.loop-length.invariant.reads (subst (λ (h : Head). FindsHead told at (c.args.size - at) (Ok h)) is finds)
    ])

pub returns-in-Closed-clause-finds : goal.returns-in-Closed-clause-finds
returns-in-Closed-clause-finds g c =
    let told = g.D.Disk.told c.loop-length.disk in
    let at = c.loop-length.at in
    subst (λ (o : Option DiskLife). FindsEnd o c.args.size (Ok (log_end.Whole at))) c.loop-length.invariant.told
    (ends_whole told c.args.size at (omega arith) c.loop-length.invariant.reads (subst (λ (h : Head). FindsHead told at (c.args.size - at) (Ok h)) c.in-Closed.is c.in_ok-read_head.ensures.told))

pub loop-length-preserved : goal.loop-length-preserved
loop-length-preserved g c =
    let told = g.D.Disk.told c.loop-length.disk in
    let at = c.loop-length.at in
    let fits : 5 + c.in-Opens.length ≤ c.args.size - at = subst (FitsIn (c.args.size - at)) c.in-Opens.is c.in_ok-read_head.ensures.fits in
    let finds = subst (λ (h : Head). FindsHead told at (c.args.size - at) (Ok h)) c.in-Opens.is c.in_ok-read_head.ensures.told in
    let same : c.from.result ≡ c.in-Opens.length = c.from.ensures in
    record {
      within = omega (arith, fits, same, c.loop-length.invariant.within);
      told = c.in_ok-read_head.ensures.same ∙ c.loop-length.invariant.told;
      faults = c.in_ok-read_head.ensures.faults ∙ c.loop-length.invariant.faults;
      reads = subst (λ (o : Option DiskLife). ReadsTo o c.args.size (at + (5 + c.from.result))) (sym c.in_ok-read_head.ensures.same)
          (subst (λ (n : ℕ). ReadsTo told c.args.size (at + (5 + n))) (sym same) (reads_more told c.args.size at c.in-Opens.length c.loop-length.invariant.reads finds));
    }
