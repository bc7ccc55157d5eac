use Rattle.std.proofs.Common.{◌<◌, ◌+◌, not, sym, ap, ◌∙◌, arith}
use Rattle.arrayvec.specs.ArrayVec.{array_vec_len}
use Rattle.cluster_model.specs.Mirrors.{has_server}
use Rattle.mds_rows.proofs.PlanLemmas.{passed_more, added_more}
use Rattle.mds_rows.proofs.plan.adding.Goals as goal

pub loop-below-preserved-then-has_server : goal.loop-below-preserved-then-has_server
loop-below-preserved-then-has_server c = record {
  items = passed_more (λ n. not (has_server c.args.live n)) _ _ c.loop-below.below c.args.fresh.now.servers c.loop-below.plan.items _ (ap not (sym c.has_server.ensures ∙ c.if-has_server.true)) c.loop-below-test.true c.loop-below.invariant.items;
  size = c.loop-below.invariant.size;
}

pub loop-below-preserved : goal.loop-below-preserved
loop-below-preserved c =
    let size = c.loop-below.invariant.size in
    let len = c.len.ensures.value in
    let other = c.if-len-missing.false in
    let more = c.push.ensures.len in
    let room : array_vec_len c.loop-below.plan < c.args.missing = omega (arith, size, len, other) in
    record {
      items = added_more (λ n. not (has_server c.args.live n)) c.args.fresh.now.name c.args.missing (array_vec_len c.loop-below.plan) _ _ c.loop-below.below c.args.fresh.now.servers c.loop-below.plan.items c.push.new.self.items _ (ap not (sym c.has_server.ensures ∙ c.if-has_server.false)) c.loop-below-test.true room c.push.ensures.len
          (ap (λ n. c.args.fresh.now.name + n) c.len-in-loop-below.ensures.value) c.loop-below.invariant.items c.push.ensures.items;
      size = omega (arith, room, more);
    }
