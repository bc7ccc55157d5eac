use Rattle.std.proofs.Common.{◌≡◌, ℕ, zero, suc, List, [], ◌∷◌, Option, Some, refl, sym, ap, subst, arith, inl, inr}
use Rattle.std.specs.Prelude.{slice_get}
use Rattle.std.specs.List.{AllByRecursion}
use Rattle.std.proofs.lemmas.Option.{same_Some}
use Rattle.cluster_model.specs.declared.ids.NodeId.TheVariants.{Client}
use Rattle.cluster_model.specs.declared.phase.EndCause.TheVariants.{Returned, Lease}
use Rattle.cluster_model.specs.declared.entry.Entry.TheVariants.{Granted, Sent, Told, Ended, Fenced, Free, Applied, Committed as AllCommitted, Owner, Restarted}
use Rattle.file_rule.specs.MdsFiles.{a_uid}
use Rattle.cluster_laws.specs.Machine.{file_id}
use Rattle.cluster_laws.specs.WorkedRuns.{at_server}
use Rattle.cluster_model.specs.declared.ids.NodeId.{NodeId}
use Rattle.cluster_model.specs.declared.ids.MirrorId.{MirrorId}
use Rattle.cluster_model.specs.declared.ds_call.Shown.{Shown}
use Rattle.cluster_model.specs.Content.{Pending}
use Rattle.cluster_model.specs.DsCalls.{Written, Committed}
use Rattle.cluster_laws.specs.Machine.{PacketValue, Reply, Holding, new_machine, machine_after}
use Rattle.cluster_laws.specs.FenceLaw.{new_servers}
use Rattle.cluster_laws.specs.Holders.{IsCovered, the_write}
use Rattle.cluster_laws.specs.BadJournals.{told_until_repeat}
use Rattle.cluster_laws.proofs.refused_journals.Goals as goal

pub returns-clause-fence_of_nothing : goal.returns-clause-fence_of_nothing
returns-clause-fence_of_nothing c = λ h.
    let wrong = (h (Owner (at_server 1 2) (a_uid 65537) ∷ []) [] (file_id 1) (a_uid 65536) (a_uid 65537) (at_server 1 2 ∷ []) refl).live_list in
    absurd cc

pub returns-clause-fence_of_one_mirror : goal.returns-clause-fence_of_one_mirror
returns-clause-fence_of_one_mirror c = λ h.
    let wrong : 65536 ≡ 65537 =
    (h (Owner (at_server 1 2) (a_uid 65536) ∷ Owner (at_server 2 2) (a_uid 65536) ∷ Free (file_id 1) (at_server 1 2 ∷ at_server 2 2 ∷ []) ∷ Owner (at_server 1 2) (a_uid 65537) ∷ []) [] (file_id 1) (a_uid 65536) (a_uid 65537)
    (at_server 1 2 ∷ at_server 2 2 ∷ []) refl).owners.1.0 in
    absurd (omega (arith, wrong))

pub returns-clause-write_behind_the_fence : goal.returns-clause-write_behind_the_fence
returns-clause-write_behind_the_fence c = λ h.
    let wrong =
    (h (Owner (at_server 1 2) (a_uid 65536) ∷ Free (file_id 1) (at_server 1 2 ∷ []) ∷ Owner (at_server 1 2) (a_uid 65537) ∷ []) (Applied (at_server 1 2) (a_uid 65536) 0 (65 ∷ []) ∷ []) (file_id 1) (a_uid 65536) (a_uid 65537)
    (at_server 1 2 ∷ []) refl).shut_out [] [] (at_server 1 2) 0 (65 ∷ []) refl in
    absurd cc

pub returns-clause-grant_without_a_fence : goal.returns-clause-grant_without_a_fence
returns-clause-grant_without_a_fence c = λ h.
    let wrong =
    (h (Owner (at_server 1 2) (a_uid 65536) ∷ Free (file_id 1) (at_server 1 2 ∷ []) ∷ Granted (file_id 1) (a_uid 65536) (Client 1) ∷ Ended (file_id 1) (a_uid 65536) Returned ∷ []) [] (Granted (file_id 1) (a_uid 65537) (Client 2)) refl).fenced in
    absurd cc

pub returns-clause-fence_without_mirrors : goal.returns-clause-fence_without_mirrors
returns-clause-fence_without_mirrors c = λ h.
    let wrong =
    h (Owner (at_server 1 2) (a_uid 65536) ∷ Free (file_id 1) (at_server 1 2 ∷ []) ∷ Granted (file_id 1) (a_uid 65536) (Client 1) ∷ Ended (file_id 1) (a_uid 65536) Returned ∷ []) []
    (Fenced (file_id 1) (a_uid 65536) (a_uid 65537) []) refl in
    absurd (omega (arith, wrong))

pub returns-clause-granted_again : goal.returns-clause-granted_again
returns-clause-granted_again c = λ h.
    let wrong =
    (h (Owner (at_server 1 2) (a_uid 65536) ∷ Free (file_id 1) (at_server 1 2 ∷ []) ∷ Granted (file_id 1) (a_uid 65536) (Client 1) ∷ []) [] (Granted (file_id 1) (a_uid 65536) (Client 2)) refl).new in
    absurd cc

pub returns-clause-mirrors_differ : goal.returns-clause-mirrors_differ
returns-clause-mirrors_differ c = λ h.
    let wrong =
    (h.free (Owner (at_server 1 2) (a_uid 65536) ∷ Owner (at_server 2 2) (a_uid 65536) ∷ Applied (at_server 2 2) (a_uid 65536) 0 (65 ∷ []) ∷ []) [] [] (at_server 1 2 ∷ at_server 2 2 ∷ []) refl refl refl).1.1.0.shown in
    absurd cc

pub returns-clause-told_and_lost : goal.returns-clause-told_and_lost
returns-clause-told_and_lost c = λ h.
    let wrong =
    (h.steps (Owner (at_server 1 2) (a_uid 65536) ∷ [])
    (Granted (file_id 1) (a_uid 65536) (Client 1) ∷ Sent (file_id 1) (a_uid 65536) 0 (65 ∷ []) ∷ Applied (at_server 1 2) (a_uid 65536) 0 (65 ∷ []) ∷ Told (file_id 1) (a_uid 65536) 0 (65 ∷ []) ∷ Restarted 1 []
    ∷ Ended (file_id 1) (a_uid 65536) Lease ∷ Owner (at_server 1 2) (a_uid 65537) ∷ Fenced (file_id 1) (a_uid 65536) (a_uid 65537) (at_server 1 2 ∷ []) ∷ AllCommitted (at_server 1 2) ∷ [])
    [] (at_server 1 2 ∷ []) (at_server 1 2 ∷ []) refl refl).least in
    absurd (omega (arith, wrong))

pub returns-clause-untaken : goal.returns-clause-untaken
returns-clause-untaken c = record {
  is = refl;
  loose = λ h. elim h.1.1.1.1.1.0 [
    | inl wrong ↦ absurd wrong
    | inr wrong ↦ absurd wrong
  ];
  breaks = λ h.
      let wrong =
      (h.steps (Owner (at_server 1 2) (a_uid 65536) ∷ [])
      (Granted (file_id 1) (a_uid 65536) (Client 1) ∷ Applied (at_server 1 2) (a_uid 65536) 0 (65 ∷ []) ∷ Ended (file_id 1) (a_uid 65536) Returned ∷ Owner (at_server 1 2) (a_uid 65537)
      ∷ Fenced (file_id 1) (a_uid 65536) (a_uid 65537) (at_server 1 2 ∷ []) ∷ [])
      [] (at_server 1 2 ∷ []) (at_server 1 2 ∷ []) refl refl).bytes in
      absurd cc;
}

-- the packets before the write is told: its answer stands at 5, and the COMMIT that was answered at 2
abbrev packets : List PacketValue
packets = (machine_after (new_machine (new_servers 1 (1 ∷ []))) told_until_repeat).packets

answered_at : (k place server xid verifier : ℕ) (to : NodeId) (shown : Option Shown) → slice_get packets k ≡ Some (Reply place server to xid (Written shown verifier)) → k ≡ 5
answered_at zero place server xid verifier to shown is = absurd cc
answered_at (suc zero) place server xid verifier to shown is = absurd cc
answered_at (suc (suc zero)) place server xid verifier to shown is = absurd cc
answered_at (suc (suc (suc zero))) place server xid verifier to shown is = absurd cc
answered_at (suc (suc (suc (suc zero)))) place server xid verifier to shown is = absurd cc
answered_at (suc (suc (suc (suc (suc zero))))) place server xid verifier to shown is = refl
answered_at (suc (suc (suc (suc (suc (suc zero)))))) place server xid verifier to shown is = absurd cc
answered_at (suc (suc (suc (suc (suc (suc (suc k))))))) place server xid verifier to shown is = absurd cc

commit_at : (k place server xid verifier : ℕ) (to : NodeId) (shown : Option Shown) → slice_get packets k ≡ Some (Reply place server to xid (Committed shown verifier)) → 2 ≡ place
commit_at zero place server xid verifier to shown is = absurd cc
commit_at (suc zero) place server xid verifier to shown is = absurd cc
commit_at (suc (suc zero)) place server xid verifier to shown is = absurd cc
commit_at (suc (suc (suc zero))) place server xid verifier to shown is = cc
commit_at (suc (suc (suc (suc zero)))) place server xid verifier to shown is = absurd cc
commit_at (suc (suc (suc (suc (suc zero))))) place server xid verifier to shown is = absurd cc
commit_at (suc (suc (suc (suc (suc (suc zero)))))) place server xid verifier to shown is = absurd cc
commit_at (suc (suc (suc (suc (suc (suc (suc k))))))) place server xid verifier to shown is = absurd cc

not_covered : (uid : ℕ) (id : MirrorId) (w : Pending) → IsCovered packets uid id w → ⊥
not_covered uid id w k =
    let behind = k.behind in
    let written = answered_at k.written_place k.write_place id.server k.write_xid k.verifier k.writer k.write_shown k.written in
    let committed = commit_at k.committed_place k.commit_place id.server k.commit_xid k.verifier k.committer k.commit_shown k.committed in
    absurd (omega (arith, behind, written, committed))

-- the only layout that was granted names the only mirror
held_mirrors : (place : ℕ) (h : Holding) → slice_get (machine_after (new_machine (new_servers 1 (1 ∷ []))) told_until_repeat).holdings place ≡ Some h → h.mirrors ≡ at_server 1 2 ∷ []
held_mirrors zero h is = ap (λ (x : Holding). x.mirrors) (sym (same_Some _ h is))
held_mirrors (suc k) h is = absurd cc

not_told : (h : Holding) → h.mirrors ≡ at_server 1 2 ∷ [] → AllByRecursion (λ id. IsCovered packets h.uid id (the_write 0 (65 ∷ []))) h.mirrors → ⊥
not_told h is covered = not_covered h.uid (at_server 1 2) (the_write 0 (65 ∷ [])) (subst (λ (ids : List MirrorId). AllByRecursion (λ id. IsCovered packets h.uid id (the_write 0 (65 ∷ []))) ids) is covered).0

pub returns-clause-told_by_a_repeat : goal.returns-clause-told_by_a_repeat
returns-clause-told_by_a_repeat c = record {
  is = refl;
  loose = λ h.
      let told = h.1.1.1.1.1.1.1.1.1.1.1.0 in
      elim told.so [
        | inl clean ↦ let wrong = clean.causes in absurd cc
        | inr k ↦ absurd (not_told told.held (held_mirrors told.place told.held told.there) k.covered)
      ];
  breaks = λ h.
      let wrong =
      (h.steps (Owner (at_server 1 2) (a_uid 65536) ∷ [])
      (Granted (file_id 1) (a_uid 65536) (Client 1) ∷ Sent (file_id 1) (a_uid 65536) 0 (65 ∷ []) ∷ AllCommitted (at_server 1 2) ∷ Applied (at_server 1 2) (a_uid 65536) 0 (65 ∷ []) ∷ Told (file_id 1) (a_uid 65536) 0 (65 ∷ [])
      ∷ Restarted 1 [] ∷ Ended (file_id 1) (a_uid 65536) Lease ∷ Owner (at_server 1 2) (a_uid 65537) ∷ Fenced (file_id 1) (a_uid 65536) (a_uid 65537) (at_server 1 2 ∷ []) ∷ AllCommitted (at_server 1 2) ∷ [])
      [] (at_server 1 2 ∷ []) (at_server 1 2 ∷ []) refl refl).least in
      absurd (omega (arith, wrong));
}
