-- A ctime is seen at a mirror.
use Rattle.std.proofs.Common.{ℕ, List, [], ◌∷◌, map, Option, Some, None, sym, ap, subst, ◌∙◌}
use Rattle.std.proofs.lemmas.Bool.{cond_both, and_parts, eqb-true}
use Rattle.cluster_model.specs.declared.tick.Tick.{Tick}
use Rattle.cluster_model.specs.declared.ids.MirrorId.{MirrorId}
use Rattle.cluster_model.specs.declared.ids.Mirror.{Mirror}
use Rattle.cluster_model.specs.declared.entry.Entry.{Entry}
use Rattle.cluster_model.specs.declared.layout_state.LayoutState.{LayoutState}
use Rattle.cluster_model.specs.Journal.{is_mirror}
use Rattle.cluster_model.specs.Phases.{seen_if, seen_at, with_live}
use Rattle.file_rule.specs.MdsFiles.{Activity, Idle, Makes, Fences, Settles, Copies}
use Rattle.cluster_laws.proofs.Facts.{HasGiven}
use Rattle.cluster_laws.proofs.Invariant.{Net, IsMirrorOf, IsNotSource, site_of, IsBusyWith, live_of, IsFile}
use Rattle.cluster_laws.proofs.Plans.{plan_more, none_seen}
use Rattle.cluster_laws.proofs.Lives.{all_map, seen_id, ids_seen, apart_seen}
use Rattle.cluster_laws.proofs.Lists.{all_more}

module _ (net : Net) (journal : List Entry) (n : ℕ) (s : LayoutState) (id : MirrorId) (tick : Tick) (given : HasGiven net.servers id.server tick) where
  seen_mirror : (m : Mirror) → IsMirrorOf net n journal m → IsMirrorOf net n journal (seen_if id tick m)
  seen_mirror m h =
      cond_both (is_mirror m.id id) (record { id = m.id; seen = tick }) m (λ (x : Mirror). IsMirrorOf net n journal x)
      (λ e. record { name = h.name; drawn = h.drawn; bears = h.bears; home = h.home; seen = subst (λ (k : ℕ). HasGiven net.servers k tick) (sym (eqb-true m.id.server id.server (and_parts _ _ e).0)) given; owned = h.owned })
      (λ e. h)

  still_not : (replaced : Option MirrorId) (live : List Mirror) → IsNotSource live replaced → IsNotSource (seen_at id tick live) replaced
  still_not None live k = tt
  still_not (Some x) [] k = k
  still_not (Some x) (m ∷ live) k = ap (λ (y : MirrorId). is_mirror y x) (seen_id id tick m) ∙ k

  still_busy : (activity : Activity) → IsBusyWith net journal n s activity → IsBusyWith net journal n (with_live s (seen_at id tick s.live)) activity
  still_busy Idle h = h
  still_busy (Makes all) h = record { phase = h.phase; owner = h.owner; least = h.least; items = h.items; apart = h.apart; fences = h.fences }
  still_busy (Fences fence) h = record { next = h.next; end = h.end; phase = h.phase; fresh = h.fresh; top = h.top; later = h.later; mirrors = h.mirrors; ids = ids_seen id tick s.live ∙ h.ids }
  still_busy (Settles stage) h = record { copies = h.copies; phase = h.phase }
  still_busy (Copies c) h = record { copier = h.copier; copies = h.copies; phase = h.phase; targets = h.targets; later = h.later; top = h.top; fences = h.fences; sources = all_more (λ t. IsNotSource s.live t.replaced) (λ t. IsNotSource (seen_at id tick s.live) t.replaced) c.targets (λ t. still_not t.replaced s.live) h.sources; plan = plan_more s.live (seen_at id tick s.live) (none_seen id tick s.live) (map site_of c.targets) h.plan; source = h.source; short = h.short }

  pub seen_ok : (activity : Activity) → IsFile net journal n (record { layout = s; activity = activity }) → IsFile net journal n (record { layout = with_live s (seen_at id tick s.live); activity = activity })
  seen_ok activity h = record {
    live = h.live ∙ ap (live_of s.phase) (sym (ids_seen id tick s.live));
    apart = apart_seen id tick s.live h.apart;
    mirrors = all_map (IsMirrorOf net n journal) (IsMirrorOf net n journal) (seen_if id tick) s.live seen_mirror h.mirrors;
    cred = h.cred;
    top = h.top;
    busy = still_busy activity h.busy;
  }
