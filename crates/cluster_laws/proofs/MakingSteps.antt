-- A new file whose mirrors are being made.
use Rattle.std.proofs.Common.{◌≡◌, ℕ, ◌≤◌, Bool, true, cond, List, [], ◌∷◌, ◌++◌, set, Option, Some, None, refl, sym, ap, subst, ◌∙◌, arith}
use Rattle.std.specs.Prelude.{slice_get}
use Rattle.std.specs.List.{AllByRecursion, list_all}
use Rattle.std.proofs.lemmas.Bool.{cond_both}
use Rattle.cluster_model.specs.declared.ids.NodeId.TheVariants.{Mds}
use Rattle.cluster_model.specs.declared.ids.MirrorId.{MirrorId}
use Rattle.cluster_model.specs.declared.entry.Entry.{Entry}
use Rattle.cluster_model.specs.declared.entry.Entry.TheVariants as entry
use Rattle.cluster_model.specs.declared.layout_state.LayoutState.{LayoutState}
use Rattle.cluster_model.specs.DsCalls.{DsReplyValue}
use Rattle.cluster_model.specs.Fences.{is_out, is_over}
use Rattle.cluster_model.specs.Phases.{ids_of, made, free_with}
use Rattle.file_rule.specs.MdsFiles.{Creations, Idle, Makes, FileStep, stays, goes_idle, with_creation, all_made, creation_answered, creation_timed_out, creation_of, making_on, making_at, making_by}
use Rattle.file_rule.specs.declared.creation.Creation.{Creation}
use Rattle.cluster_laws.specs.Machine.{file_id}
use Rattle.cluster_laws.specs.FenceLaw.{live_by, first_free}
use Rattle.cluster_laws.proofs.Facts.{OwnedFrom}
use Rattle.cluster_laws.proofs.Lists.{all_append, all_at, all_set, found_at}
use Rattle.cluster_laws.proofs.Invariant.{Net, IsAnswer, FenceNote, fence_in, If, IsFenceNote, IsEntry, KeepsOwner, IsFencedTo, IsMirrorOf, IsCreationOf, servers_of, are_apart, live_of, IsFile}
use Rattle.cluster_laws.proofs.Journals.{live_append}
use Rattle.cluster_laws.proofs.Rows.{RowOk, free_note}
use Rattle.cluster_laws.proofs.Lives.{own_file}
use Rattle.cluster_laws.proofs.FenceSteps.{nothing_new}
use Rattle.cluster_laws.proofs.Makings.{answer_ok, late_ok, its_call, answered_server, servers_set, made_apart, made_all}

module _ (net : Net) (n next_uid files : ℕ) (journal : List Entry) (entries_ok : AllByRecursion (IsEntry files next_uid) journal) (s : LayoutState) (all : Creations) (h : IsFile net journal n (record { layout = s; activity = Makes all })) where
  -- other states of its CREATEs
  pub remade : (items : List Creation) → AllByRecursion (IsCreationOf net n all.owner) items → servers_of items ≡ servers_of all.items → IsFile net journal n (record { layout = s; activity = Makes (record { owner = all.owner; items = items }) })
  remade items ok same = record {
    live = h.live;
    apart = h.apart;
    mirrors = h.mirrors;
    cred = h.cred;
    top = h.top;
    busy = record { phase = h.busy.phase; owner = h.busy.owner; least = h.busy.least; items = ok; apart = ap are_apart same ∙ h.busy.apart; fences = h.busy.fences };
  }

  pub put_creation : (place : ℕ) (c new : Creation) → slice_get all.items place ≡ Some c → new.server ≡ c.server → IsCreationOf net n all.owner new → IsFile net journal n (record { layout = s; activity = Makes (with_creation all place new) })
  put_creation place c new there same ok = remade (set all.items place new) (all_set (IsCreationOf net n all.owner) all.items place new h.busy.items ok) (servers_set all.items place c new there same)

  -- ---- free

  never : (servers : _) (id : MirrorId) (x : Option FenceNote) → If x (λ y. y.file ≡ n → y.new ≤ 0) → If x (IsFenceNote files next_uid) → If x (λ y. y.file ≡ n → OwnedFrom servers id y.new)
  never servers id None none note = tt
  never servers id (Some x) none note = λ e. let le = none e in let later = note.later in absurd (omega (arith, le, later))

  no_fence_yet : (id : MirrorId) (rest : List Entry) → AllByRecursion (IsFencedTo n 0) rest → AllByRecursion (IsEntry files next_uid) rest → AllByRecursion (KeepsOwner net.servers n id) rest
  no_fence_yet id [] none ok = tt
  no_fence_yet id (e ∷ rest) none ok = (never net.servers id (fence_in e) none.0 ok.0.fence, no_fence_yet id rest none.1 ok.1)

  freed : RowOk net journal n next_uid (record { layout = free_with s (all_made all); activity = Idle }) (entry.Free (file_id n) (ids_of (all_made all)) ∷ [])
  freed =
      let e : Entry = entry.Free (file_id n) (ids_of (all_made all)) in
      record {
        notes = (free_note n next_uid (ids_of (all_made all)), tt);
        right = (tt, tt);
        file = record {
          live = live_append (file_id n) None journal (e ∷ []) ∙ ap (λ x. live_by (file_id n) x (e ∷ [])) (h.live ∙ ap (λ p. live_of p (ids_of s.live)) h.busy.phase)
              ∙ ap (λ (b : Bool). cond b (first_free (ids_of (all_made all)) None) None) (own_file (file_id n));
          apart = made_apart net n all.owner all.items h.busy.items h.busy.apart;
          mirrors = made_all net n all.owner (IsMirrorOf net n (journal ++ e ∷ [])) all.items h.busy.items
              (λ c m ok is. let made = ok.made m is in
              record { name = c.name; drawn = ok.drawn; bears = made.1; home = ok.home; seen = made.2; owned = all_append (KeepsOwner net.servers n m.id) journal (e ∷ []) (no_fence_yet m.id journal h.busy.fences entries_ok) (tt, tt) });
          cred = h.cred;
          top = h.top;
          busy = refl;
        };
      }

-- it is free, or goes on
pub making_on_ok : (net : Net) (n next_uid files : ℕ) (journal : List Entry) → AllByRecursion (IsEntry files next_uid) journal → (s : LayoutState) (all : Creations) → IsFile net journal n (record { layout = s; activity = Makes all })
    → RowOk net journal n next_uid (making_on (file_id n) s all).file (making_on (file_id n) s all).entries
making_on_ok net n next_uid files journal ok s all h =
    cond_both (list_all (λ c. is_over c.stage) all.items) (goes_idle (made (file_id n) s (all_made all)) 0) (stays s (Makes all)) (λ (x : FileStep). RowOk net journal n next_uid x.file x.entries)
    (λ e. freed net n next_uid files journal ok s all h) (λ e. nothing_new net journal n next_uid _ h)

module _ (net : Net) (n next_uid files : ℕ) (journal : List Entry) (entries_ok : AllByRecursion (IsEntry files next_uid) journal) (s : LayoutState) (all : Creations) (h : IsFile net journal n (record { layout = s; activity = Makes all })) where
  -- a CREATE of it takes a step that keeps its server and what is known of it
  making_step : (step : Creation → Creation) (xid : ℕ) → ((c : Creation) → (step c).server ≡ c.server) → ((c : Creation) → IsCreationOf net n all.owner c → is_out xid c.stage ≡ true → IsCreationOf net n all.owner (step c))
      → RowOk net journal n next_uid (making_by (file_id n) s all step (creation_of all xid)).file (making_by (file_id n) s all step (creation_of all xid)).entries
  making_step step xid same ok = by_found (creation_of all xid) refl
    where
      at : (place : ℕ) (c : Creation) → slice_get all.items place ≡ Some c → is_out xid c.stage ≡ true → RowOk net journal n next_uid (making_at (file_id n) s all step place (Some c)).file (making_at (file_id n) s all step place (Some c)).entries
      at place c there out =
          making_on_ok net n next_uid files journal entries_ok s (with_creation all place (step c))
          (put_creation net n next_uid files journal entries_ok s all h place c (step c) there (same c) (ok c (all_at (IsCreationOf net n all.owner) all.items place c h.busy.items there) out))

      by_found : (found : Option ℕ) → creation_of all xid ≡ found → RowOk net journal n next_uid (making_by (file_id n) s all step found).file (making_by (file_id n) s all step found).entries
      by_found None is = nothing_new net journal n next_uid _ h
      by_found (Some place) is =
          let c = found_at (λ (x : Creation). is_out xid x.stage) all.items place is in
          subst (λ (got : Option Creation). RowOk net journal n next_uid (making_at (file_id n) s all step place got).file (making_at (file_id n) s all step place got).entries) (sym c.1) (at place c.0 c.1 c.2)

  pub making_answer : (xid server : ℕ) (reply : DsReplyValue) → IsAnswer net.packets net.servers server Mds xid reply
      → RowOk net journal n next_uid (making_by (file_id n) s all (λ c. creation_answered all c reply) (creation_of all xid)).file (making_by (file_id n) s all (λ c. creation_answered all c reply) (creation_of all xid)).entries
  making_answer xid server reply a =
      making_step (λ c. creation_answered all c reply) xid (λ c. answered_server all c reply)
      (λ c ok out. let call = its_call net n all.owner c ok xid server reply out a in answer_ok net n all.owner c ok all a.call reply call.0 call.1)

  pub making_timeout : (xid : ℕ) → RowOk net journal n next_uid (making_by (file_id n) s all (creation_timed_out all) (creation_of all xid)).file (making_by (file_id n) s all (creation_timed_out all) (creation_of all xid)).entries
  making_timeout xid = making_step (creation_timed_out all) xid (λ c. refl) (λ c ok out. late_ok net n all.owner c ok all)
