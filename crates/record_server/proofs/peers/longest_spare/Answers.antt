use Rattle.std.proofs.Common.{◌≡◌, ℕ, ◌+◌, length, Some, Option, refl, sym, ap, subst, ◌∙◌, arith}
use Rattle.std.specs.Prelude.{slice_get}
use Rattle.std.proofs.lemmas.Option.{same_Some, slice_get_read}
use Rattle.record_link.specs.Peers.{PeerState}
use Rattle.record_server.proofs.FindLemmas.{BestOf, best_found, best_within, best_stays, best_next}
use Rattle.record_server.proofs.peers.longest_spare.Goals as goal
use Rattle.record_server.proofs.peers.longest_spare.Goals.{then-is_longer, else-is_longer}

pub loop-place-init : goal.loop-place-init
loop-place-init g c = (omega arith, λ i e below there. absurd (omega (arith, below)))

pub loop-place-preserved : goal.loop-place-preserved
loop-place-preserved g c =
    let peers = c.args.peers.now in
    let n = c.loop-place.place in
    let e : PeerState = c.index-peers-place.result in
    let there : slice_get peers n ≡ Some e = slice_get_read peers (length peers) n e refl c.loop-place-test.true c.index-peers-place.is in
    elim c.if-is_longer.branch [
      | then-is_longer w ↦
          let again : PeerState = w.index-peers-place-then-is_longer.result in
          let same : again ≡ e = same_Some again e (sym (slice_get_read peers (length peers) n again refl c.loop-place-test.true w.index-peers-place-then-is_longer.is) ∙ there) in
          let heard : c.if-is_longer.heard ≡ e.heard = w.heard-is ∙ w.heard-heard.ensures ∙ ap (λ (y : PeerState). y.heard) same in
          subst (λ (b : Option ℕ). BestOf c.args.time peers (n + 1) b c.if-is_longer.heard) (sym w.best-is)
          (subst (λ (h : ℕ). BestOf c.args.time peers (n + 1) (Some n) h) (sym heard)
          (best_next c.args.time peers n c.loop-place.best c.loop-place.heard e there (sym c.is_longer.ensures ∙ w.if-is_longer.true) c.loop-place.invariant))
      | else-is_longer w ↦
          subst (λ (b : Option ℕ). BestOf c.args.time peers (n + 1) b c.if-is_longer.heard) (sym w.best-is)
          (subst (λ (h : ℕ). BestOf c.args.time peers (n + 1) c.loop-place.best h) (sym w.heard-is)
          (best_stays c.args.time peers n c.loop-place.best c.loop-place.heard e c.ranges.time.fits there (sym c.is_longer.ensures ∙ w.if-is_longer.false) c.loop-place.invariant))
    ]

pub returns-clause-told : goal.returns-clause-told
returns-clause-told g c =
    let peers = c.args.peers.now in
    let behind : c.loop-place.place ≡ length peers = omega (arith, c.loop-place.auto.place-end, c.loop-place-test.false) in
    best_found c.args.time peers c.loop-place.best c.loop-place.heard (subst (λ (n : ℕ). BestOf c.args.time peers n c.loop-place.best c.loop-place.heard) behind c.loop-place.invariant)

pub returns-clause-within : goal.returns-clause-within
returns-clause-within g c =
    let peers = c.args.peers.now in
    let behind : c.loop-place.place ≡ length peers = omega (arith, c.loop-place.auto.place-end, c.loop-place-test.false) in
    best_within c.args.time peers c.loop-place.best c.loop-place.heard (subst (λ (n : ℕ). BestOf c.args.time peers n c.loop-place.best c.loop-place.heard) behind c.loop-place.invariant)
