-- The source of a copy is committed, and a copy begins.
use Rattle.std.proofs.Common.{◌≡◌, ℕ, suc, ◌+◌, ◌-◌, ◌<◌, ◌≤◌, Bool, true, false, eqb, cond, List, [], ◌∷◌, ◌++◌, length, take, drop, Option, Some, None, refl, sym, ap, subst, ◌∙◌, arith, append-nil, inl, inr}
use Rattle.std.specs.List.{AllByRecursion}
use Rattle.std.proofs.lemmas.Bool.{eqb-false, and_parts}
use Rattle.cluster_model.specs.declared.ids.Mirror.{Mirror}
use Rattle.cluster_model.specs.declared.phase.LeftCause.{LeftCause}
use Rattle.cluster_model.specs.declared.phase.LeftCause.TheVariants.{Error}
use Rattle.cluster_model.specs.declared.entry.Entry.{Entry}
use Rattle.cluster_model.specs.declared.entry.Entry.TheVariants as entry
use Rattle.cluster_model.specs.declared.call_stage.CallStage.{CallStage}
use Rattle.cluster_model.specs.declared.call_stage.CallStage.TheVariants.{Waits, KeptBack}
use Rattle.cluster_model.specs.declared.layout_state.LayoutState.{LayoutState}
use Rattle.cluster_model.specs.declared.layout_state.LayoutPhase.TheVariants.{Free, Copying}
use Rattle.cluster_model.specs.declared.layout_state.CopyKind.{CopyKind}
use Rattle.cluster_model.specs.declared.layout_state.CopyKind.TheVariants.{Replacing, Adding}
use Rattle.cluster_model.specs.Mirrors.{has_server, are_on_different_servers}
use Rattle.cluster_model.specs.DsCalls.{DsReplyValue, Created, Set, Written, Committed, Bytes, NotSync, Failed}
use Rattle.cluster_model.specs.Fences.{odd_status}
use Rattle.cluster_model.specs.Phases.{ids_of, is_last_live, with_phase, after_loss, freed, has_targets}
use Rattle.copy_rule.specs.Copies.{to_make, new_copy}
use Rattle.copy_rule.specs.declared.copy_target.Target.{Target}
use Rattle.file_rule.specs.MdsFiles.{Idle, Settles, Copies, stays, a_uid, goes_idle, servers_without, replacing, adding, plan_of, source_of, copying, settled, source_left, settling_answered}
use Rattle.file_rule.specs.declared.fresh.Fresh.{Fresh}
use Rattle.cluster_laws.specs.Machine.{file_id}
use Rattle.cluster_laws.specs.FenceLaw.{live_in}
use Rattle.cluster_laws.proofs.Facts.{AllFollow}
use Rattle.cluster_laws.proofs.Lists.{all_more}
use Rattle.cluster_laws.proofs.Invariant.{Net, FenceNote, fence_in, If, IsFenceNote, IsEntry, IsFencedTo, IsMirrorOf, IsTargetOf, IsNotSource, live_of, IsFile, IsNamedSource}
use Rattle.cluster_laws.proofs.Onward.{mirror_on}
use Rattle.cluster_laws.proofs.Plans.{plan_ok}
use Rattle.cluster_laws.proofs.Rows.{RowOk}
use Rattle.cluster_laws.proofs.Lives.{other_server, not_true, all_map}
use Rattle.cluster_laws.proofs.CopySteps.{frees, source_ok, StepOk, Plain, Draws}
use Rattle.std.specs.Prelude.{◌||◌}
use Rattle.cluster_laws.proofs.Draws.{drawn_net, later_drawn, top_here, new_home, new_low}

-- ---- the plan of a copy

pub record IsPlanned (first count : ℕ) (t : Target) : Type 0 where
  pub from : first ≤ t.name
  pub to : t.name < first + count

replacing_ok : (first count k : ℕ) (live : List Mirror) → first ≤ k → k + length live ≤ first + count → AllByRecursion (IsPlanned first count) (replacing k live)
replacing_ok first count k [] le up = tt
replacing_ok first count k (m ∷ live) le up = (record { from = le; to = omega (arith, up) }, replacing_ok first count (k + 1) live (omega (arith, le)) (omega (arith, up)))

adding_ok : (first count k : ℕ) (servers : List ℕ) → first ≤ k → k + length servers ≤ first + count → AllByRecursion (IsPlanned first count) (adding k servers)
adding_ok first count k [] le up = tt
adding_ok first count k (x ∷ servers) le up = (record { from = le; to = omega (arith, up) }, adding_ok first count (k + 1) servers (omega (arith, le)) (omega (arith, up)))

replacing_size : (k : ℕ) (live : List Mirror) → length (replacing k live) ≡ length live
replacing_size k [] = refl
replacing_size k (m ∷ live) = ap suc (replacing_size (k + 1) live)

adding_size : (k : ℕ) (servers : List ℕ) → length (adding k servers) ≡ length servers
adding_size k [] = refl
adding_size k (x ∷ servers) = ap suc (adding_size (k + 1) servers)

planned_ok : (copies : CopyKind) (layout : LayoutState) (fresh : Fresh) → AllByRecursion (IsPlanned fresh.name (length (plan_of copies layout fresh))) (plan_of copies layout fresh)
planned_ok Replacing layout fresh =
    let size = replacing_size fresh.name (drop 1 layout.live) in
    replacing_ok fresh.name _ fresh.name (drop 1 layout.live) (omega arith) (omega (arith, size))
planned_ok Adding layout fresh =
    let servers : List ℕ = take (layout.wanted - length layout.live) (servers_without fresh.servers layout.live) in
    let size = adding_size fresh.name servers in
    adding_ok fresh.name _ fresh.name servers (omega arith) (omega (arith, size))

-- no target is to replace the source
other_first : (m : Mirror) (k : ℕ) (live : List Mirror) → has_server live m.id.server ≡ false → AllByRecursion (λ c. IsNotSource (m ∷ live) c.replaced) (replacing k live)
other_first m k live none = each k live live none
  where
    neither : (a b : Bool) → (a || b) ≡ false → (a ≡ false) × (b ≡ false)
    neither true b e = absurd cc
    neither false b e = (refl, e)

    each : (j : ℕ) (whole rest : List Mirror) → has_server rest m.id.server ≡ false → AllByRecursion (λ c. IsNotSource (m ∷ whole) c.replaced) (replacing j rest)
    each j whole [] e = tt
    each j whole (x ∷ rest) e =
        let parts = neither (eqb x.id.server m.id.server) (has_server rest m.id.server) e in
        (other_server m.id x.id (λ same. eqb-false _ _ parts.0 (sym same)), each (j + 1) whole rest parts.1)

none_replaced : (k : ℕ) (servers : List ℕ) (live : List Mirror) → AllByRecursion (λ c. IsNotSource live c.replaced) (adding k servers)
none_replaced k [] live = tt
none_replaced k (x ∷ servers) live = (tt, none_replaced (k + 1) servers live)

sources_ok : (copies : CopyKind) (layout : LayoutState) (fresh : Fresh) → are_on_different_servers layout.live ≡ true → AllByRecursion (λ c. IsNotSource layout.live c.replaced) (plan_of copies layout fresh)
sources_ok Replacing layout fresh apart = by_live layout.live apart
  where
    by_live : (live : List Mirror) → are_on_different_servers live ≡ true → AllByRecursion (λ c. IsNotSource live c.replaced) (replacing fresh.name (drop 1 live))
    by_live [] e = tt
    by_live (m ∷ live) e = other_first m fresh.name live (not_true _ (and_parts _ _ e).0)
sources_ok Adding layout fresh apart = none_replaced fresh.name _ layout.live

-- ---- the source is committed

below : (n uid files : ℕ) (journal : List Entry) → AllByRecursion (IsEntry files uid) journal → AllByRecursion (IsFencedTo n uid) journal
below n uid files journal h = all_more (IsEntry files uid) (IsFencedTo n uid) journal (λ e k. note (fence_in e) k.fence) h
  where
    note : (x : Option FenceNote) → If x (IsFenceNote files uid) → If x (λ y. y.file ≡ n → y.new ≤ uid)
    note None k = tt
    note (Some x) k = λ e. let less = k.drawn in omega (arith, less)

module _ (net : Net) (n next_uid files : ℕ) (journal : List Entry) (same : AllFollow net.servers net.servers) (tops : (g : ℕ) → net.drawn.top g < next_uid) (entries_ok : AllByRecursion (IsEntry files next_uid) journal)
    (s : LayoutState) (stage : CallStage) (h : IsFile net journal n (record { layout = s; activity = Settles stage })) (servers : ℕ) where
  abbrev fresh : Fresh
  fresh = record { uid = next_uid; name = net.next_name; servers = servers }

  new_target : (names : ℕ) (t : Target) → IsPlanned net.next_name names t → IsTargetOf (drawn_net net n next_uid names) n next_uid 0 [] (to_make t)
  new_target names t k = record {
    drawn = k.to;
    home = new_home net.drawn net.next_name n next_uid t.name k.from;
    low = new_low net.drawn net.next_name n next_uid t.name k.from;
    out = λ xid is. absurd cc;
    made = λ m is. absurd cc;
  }

  first_named : (live : List Mirror) → AllByRecursion (IsMirrorOf net n journal) live → IsNamedSource net.servers (source_of live)
  first_named [] all = inl refl
  first_named (m ∷ live) all = inr (all.0.name, all.0.bears)

  begins_copying : (copies : CopyKind) → RowOk (drawn_net net n next_uid (length (plan_of copies s fresh))) journal n (next_uid + 1) (record { layout = with_phase s (Copying (a_uid next_uid) copies); activity = Copies (new_copy (source_of s.live) (plan_of copies s fresh) next_uid) }) []
  begins_copying copies =
      let names = length (plan_of copies s fresh) in
      let new = drawn_net net n next_uid names in
      let later = later_drawn net n next_uid names same tops in
      let less = tops n in
      let top = top_here net.drawn net.next_name n next_uid in
      let cred = h.top in
      record {
        notes = tt;
        right = tt;
        file = record {
          live = ap (λ j. live_in j (file_id n)) (append-nil journal) ∙ h.live ∙ ap (λ p. live_of p (ids_of s.live)) h.busy.phase;
          apart = h.apart;
          mirrors = all_more (IsMirrorOf net n journal) (IsMirrorOf new n (journal ++ [])) s.live (mirror_on net new later n journal [] tt) h.mirrors;
          cred = h.cred;
          top = omega (arith, top, cred, less);
          busy = record {
            copier = a_uid next_uid;
            copies = copies;
            phase = refl;
            targets = all_map (IsPlanned net.next_name names) (IsTargetOf new n next_uid 0 []) to_make (plan_of copies s fresh) (new_target names) (planned_ok copies s fresh);
            later = omega (arith, cred, less);
            top = omega (arith, top);
            fences = subst (λ (j : List Entry). AllByRecursion (IsFencedTo n next_uid) j) (sym (append-nil journal)) (below n next_uid files journal entries_ok);
            sources = all_map (λ t. IsNotSource s.live t.replaced) (λ t. IsNotSource s.live t.replaced) to_make (plan_of copies s fresh) (λ t k. k) (sources_ok copies s fresh h.apart);
            plan = plan_ok copies s fresh h.apart;
            source = first_named s.live h.mirrors;
            short = record { size = omega arith; end = omega arith };
          };
        };
      }

  freed_settling : RowOk net journal n next_uid (record { layout = with_phase s Free; activity = Idle }) (entry.Free (file_id n) (ids_of s.live) ∷ [])
  freed_settling = frees net n next_uid journal s (Settles stage) h (ap (λ p. live_of p (ids_of s.live)) h.busy.phase)

  settled_ok : (copies : CopyKind) → StepOk net journal n next_uid (settled (file_id n) s copies fresh)
  settled_ok copies = by_targets (has_targets copies (length s.live) s.wanted) refl
    where
      by_targets : (b : Bool) → has_targets copies (length s.live) s.wanted ≡ b
          → StepOk net journal n next_uid (cond b (copying (cond b (record { file = with_phase s (Copying (a_uid next_uid) copies); entries = [] }) (freed (file_id n) s)).file fresh (plan_of copies s fresh)) (goes_idle (cond b (record { file = with_phase s (Copying (a_uid next_uid) copies); entries = [] }) (freed (file_id n) s)) 0))
      by_targets true e = Draws refl (begins_copying copies)
      by_targets false e = Plain refl refl freed_settling

  plain_source : (cause : LeftCause) (kept : CallStage) → StepOk net journal n next_uid (source_left (file_id n) s s.live cause (Settles kept))
  plain_source cause kept = by_live s.live (source_ok net n next_uid journal s stage h s.live cause kept)
    where
      by_live : (live : List Mirror) → RowOk net journal n next_uid (source_left (file_id n) s live cause (Settles kept)).file (source_left (file_id n) s live cause (Settles kept)).entries → StepOk net journal n next_uid (source_left (file_id n) s live cause (Settles kept))
      by_live [] ok = Plain refl refl ok
      by_live (m ∷ live) ok = Plain (draws_none (is_last_live s.live)) (names_none (is_last_live s.live)) ok
        where
          draws_none : (b : Bool) → (cond b (stays s (Settles kept)) (record { file = record { layout = after_loss s m.id; activity = Settles Waits }; entries = entry.Left (file_id n) m.id cause ∷ []; uids = 0; names = 0 })).uids ≡ 0
          draws_none true = refl
          draws_none false = refl

          names_none : (b : Bool) → (cond b (stays s (Settles kept)) (record { file = record { layout = after_loss s m.id; activity = Settles Waits }; entries = entry.Left (file_id n) m.id cause ∷ []; uids = 0; names = 0 })).names ≡ 0
          names_none true = refl
          names_none false = refl

  pub settling_answer : (copies : CopyKind) (reply : DsReplyValue) → StepOk net journal n next_uid (settling_answered (file_id n) s copies fresh reply)
  settling_answer copies (Created fileid shown) = plain_source (Error odd_status) KeptBack
  settling_answer copies (Set shown) = plain_source (Error odd_status) KeptBack
  settling_answer copies (Written shown verifier) = plain_source (Error odd_status) KeptBack
  settling_answer copies (Committed shown verifier) = settled_ok copies
  settling_answer copies (Bytes shown eof bytes) = plain_source (Error odd_status) KeptBack
  settling_answer copies (NotSync shown) = plain_source (Error odd_status) KeptBack
  settling_answer copies (Failed status shown) = plain_source (Error status) KeptBack
