-- A layout is asked for, granted, recalled and given back; the metadata server's own write begins and ends; mirrors are to be added.
use Rattle.std.proofs.Common.{◌≡◌, ◌≢◌, ℕ, ◌+◌, ◌<◌, Bool, true, false, eqb, ltb, cond, ◌&&◌, List, [], ◌∷◌, ◌++◌, length, map, Option, Some, is_some, refl, ap, ◌∙◌, arith}
use Rattle.std.specs.List.{AllByRecursion}
use Rattle.std.proofs.lemmas.Bool.{cond_both}
use Rattle.cluster_model.specs.declared.ids.NodeId.{NodeId}
use Rattle.cluster_model.specs.declared.ids.NodeId.TheVariants.{Mds, Server, Client}
use Rattle.cluster_model.specs.declared.ids.Cred.{Cred}
use Rattle.cluster_model.specs.declared.ids.MirrorId.{MirrorId}
use Rattle.cluster_model.specs.declared.phase.EndCause.{EndCause}
use Rattle.cluster_model.specs.declared.phase.EndCause.TheVariants.{Returned, Own}
use Rattle.cluster_model.specs.declared.phase.LeftCause.{LeftCause}
use Rattle.cluster_model.specs.declared.entry.Entry.{Entry}
use Rattle.cluster_model.specs.declared.entry.Entry.TheVariants as entry
use Rattle.cluster_model.specs.declared.call_stage.CallStage.TheVariants.{Waits}
use Rattle.cluster_model.specs.declared.layout_state.LayoutPhase.{LayoutPhase}
use Rattle.cluster_model.specs.declared.layout_state.LayoutPhase.TheVariants.{Making, Free, Held, Fencing, Settling, Copying}
use Rattle.cluster_model.specs.declared.layout_state.FenceEnd.TheVariants.{Dirty}
use Rattle.cluster_model.specs.declared.layout_state.CopyKind.TheVariants.{Adding}
use Rattle.cluster_model.specs.Phases.{ids_of, unreported, left_entries, is_clean, granted, reported_cause, returned, revoked, resilvered}
use Rattle.file_rule.specs.MdsFiles.{Settles, MdsFile, FileStep, nothing, stays, a_uid, goes_fencing, with_entries}
use Rattle.file_rule.specs.declared.fresh.Fresh.{Fresh}
use Rattle.file_rule.specs.FilePhases.{are_spent, asked_in, held_in, by_client, by_mds, recalled_row, returned_row, revoked_row, own_row, resilvered_in}
use Rattle.cluster_laws.specs.Machine.{file_id}
use Rattle.cluster_laws.specs.FenceLaw.{live_in, live_after}
use Rattle.cluster_laws.proofs.Lists.{all_append}
use Rattle.cluster_laws.proofs.Lives.{all_left}
use Rattle.cluster_laws.proofs.Invariant.{Net, fence_in, If, is_idle, live_of, IsFile, AreRight}
use Rattle.cluster_laws.proofs.Journals.{live_append, live_same, right_more}
use Rattle.cluster_laws.proofs.Onward.{Later}
use Rattle.cluster_laws.proofs.Moved.{IsNote}
use Rattle.cluster_laws.proofs.Rows.{granted_note, sent_note, told_note, ended_note, left_notes, left_no_fences, left_right, rephased, idles, fences, ends}
use Rattle.cluster_laws.proofs.FenceSteps.{nothing_new}
use Rattle.cluster_laws.proofs.Draws.{drawn_net, later_drawn, later_same, top_here}
use Rattle.cluster_laws.proofs.CopySteps.{StepOk, Plain, Draws}
use Rattle.cluster_laws.proofs.Known.{Known, fresh_from}

-- the places at which a mirror was reported
reported_places : (places : List Bool) → map is_some (map reported_cause places) ≡ places
reported_places [] = refl
reported_places (true ∷ places) = ap (λ bs. true ∷ bs) (reported_places places)
reported_places (false ∷ places) = ap (λ bs. false ∷ bs) (reported_places places)

module _ (net : Net) (n next_uid files servers : ℕ) (journal : List Entry) (known : Known net next_uid files journal) (f : MdsFile) (h : IsFile net journal n f) where
  abbrev Ok : FileStep → Type 0
  Ok x = StepOk net journal n next_uid x

  abbrev fresh : Fresh
  fresh = fresh_from net next_uid servers

  pub same_file : Ok (nothing f)
  same_file = Plain refl refl (nothing_new net journal n next_uid f h)

  -- ---- Free

  pub asked_ok : (holder : NodeId) (entries : List Entry) → AllByRecursion (IsNote n next_uid) entries → AllByRecursion (λ e. If (fence_in e) (λ x. x.file ≢ n)) entries
      → AllByRecursion (λ e. (x : Option (List MirrorId)) → live_after (file_id n) x e ≡ x) entries → ((before : List Entry) → AreRight before entries) → (p : LayoutPhase) → f.layout.phase ≡ p → Ok (asked_in (file_id n) f holder entries fresh p)
  asked_ok holder entries notes none same right Making is = same_file
  asked_ok holder entries notes none same right Free is =
      let e : Entry = entry.Granted (file_id n) f.layout.cred holder in
      cond_both (are_spent fresh) (nothing f) (with_entries (granted (file_id n) f.layout holder).entries (record { file = record { layout = (granted (file_id n) f.layout holder).file; activity = f.activity }; entries = entries; uids = 0; names = 0 })) Ok
      (λ b. same_file)
      (λ b. Plain refl refl (record {
        notes = (granted_note n next_uid (file_id n) f.layout.cred holder, notes);
        right = (tt, right (journal ++ e ∷ []));
        file = idles net net (later_same net known.same) n next_uid journal f h (Held holder false) (e ∷ entries) (tt, none) (λ x. refl, same) (ap is_idle is) refl;
      }))
  asked_ok holder entries notes none same right (Held other is_recalled) is = same_file
  asked_ok holder entries notes none same right (Fencing next end) is = same_file
  asked_ok holder entries notes none same right (Settling copies) is = same_file
  asked_ok holder entries notes none same right (Copying copier copies) is = same_file

  pub client_asks : (client : ℕ) → Ok (asked_in (file_id n) f (Client client) [] fresh f.layout.phase)
  client_asks client = asked_ok (Client client) [] tt tt tt (λ before. tt) f.layout.phase refl

  pub own_begins : (at : ℕ) (bytes : List ℕ) → Ok (asked_in (file_id n) f Mds (entry.Sent (file_id n) f.layout.cred at bytes ∷ []) fresh f.layout.phase)
  own_begins at bytes =
      asked_ok Mds (entry.Sent (file_id n) f.layout.cred at bytes ∷ []) (sent_note n next_uid (file_id n) f.layout.cred at bytes, tt) (tt, tt) (λ x. refl, tt) (λ before. (tt, tt)) f.layout.phase refl

  pub resilver_ok : (p : LayoutPhase) → f.layout.phase ≡ p → Ok (resilvered_in f fresh p)
  resilver_ok Making is = same_file
  resilver_ok Free is =
      cond_both (ltb (length f.layout.live) f.layout.wanted && (cond (are_spent fresh) false true)) (stays (resilvered f.layout) (Settles Waits)) (nothing f) Ok
      (λ b. Plain refl refl (record {
        notes = tt;
        right = tt;
        file = rephased net net (later_same net known.same) n next_uid journal f h (Settling Adding) (Settles Waits) [] tt tt (ap (λ p. live_of p (ids_of f.layout.live)) is) (record { copies = Adding; phase = refl });
      }))
      (λ b. same_file)
  resilver_ok (Held holder is_recalled) is = same_file
  resilver_ok (Fencing next end) is = same_file
  resilver_ok (Settling copies) is = same_file
  resilver_ok (Copying copier copies) is = same_file

  -- ---- Held

  held_ok : (row : NodeId → FileStep) → ((holder : NodeId) (is_recalled : Bool) → f.layout.phase ≡ Held holder is_recalled → Ok (row holder)) → (p : LayoutPhase) → f.layout.phase ≡ p → Ok (held_in f row p)
  held_ok row ok Making is = same_file
  held_ok row ok Free is = same_file
  held_ok row ok (Held holder is_recalled) is = ok holder is_recalled is
  held_ok row ok (Fencing next end) is = same_file
  held_ok row ok (Settling copies) is = same_file
  held_ok row ok (Copying copier copies) is = same_file

  client_ok : (row : ℕ → FileStep) → ((client : ℕ) → Ok (row client)) → (holder : NodeId) → Ok (by_client f row holder)
  client_ok row ok Mds = same_file
  client_ok row ok (Server k) = same_file
  client_ok row ok (Client k) = ok k

  mds_ok : (row : FileStep) → Ok row → (holder : NodeId) → Ok (by_mds f row holder)
  mds_ok row ok Mds = ok
  mds_ok row ok (Server k) = same_file
  mds_ok row ok (Client k) = same_file

  pub recall_ok : Ok (held_in f (by_client f (recalled_row f)) f.layout.phase)
  recall_ok =
      held_ok (by_client f (recalled_row f)) (λ holder is_recalled is. client_ok (recalled_row f) (λ client. recalls client (ap is_idle is)) holder) f.layout.phase refl
    where
      recalls : (client : ℕ) → is_idle f.layout.phase ≡ true → Ok (recalled_row f client)
      recalls client idle = Plain refl refl (record {
        notes = tt;
        right = tt;
        file = idles net net (later_same net known.same) n next_uid journal f h (Held (Client client) true) [] tt tt idle refl;
      })

  -- ---- the period ends, and a fence to the uid that is drawn begins

  abbrev new : Net
  new = drawn_net net n next_uid 0

  later : Later net new
  later = later_drawn net n next_uid 0 known.same known.tops

  top : new.drawn.top n ≡ next_uid
  top = top_here net.drawn net.next_name n next_uid

  less : f.layout.cred.0 < next_uid
  less = let cred = h.top in let drawn = known.tops n in omega (arith, cred, drawn)

  now : (holder : NodeId) (is_recalled : Bool) → f.layout.phase ≡ Held holder is_recalled → live_in journal (file_id n) ≡ Some (ids_of f.layout.live)
  now holder is_recalled is = h.live ∙ ap (λ p. live_of p (ids_of f.layout.live)) is

  pub return_ok : (client : ℕ) (claimed : Cred) (places : List Bool) → Ok (held_in f (by_client f (returned_row (file_id n) f client claimed places fresh)) f.layout.phase)
  return_ok client claimed places =
      held_ok (by_client f (returned_row (file_id n) f client claimed places fresh)) (λ holder is_recalled is. client_ok (returned_row (file_id n) f client claimed places fresh) (λ k. returns k (now holder is_recalled is)) holder) f.layout.phase refl
    where
      returns : (k : ℕ) → live_in journal (file_id n) ≡ Some (ids_of f.layout.live) → Ok (returned_row (file_id n) f client claimed places fresh k)
      returns k live =
          let causes : List (Option LeftCause) = map reported_cause places in
          cond_both (eqb k client && (eqb f.layout.cred.0 claimed.0)) (goes_fencing (returned (file_id n) f.layout places (a_uid next_uid)) next_uid) (nothing f) Ok
          (λ e. Draws refl
          (ends net new later n (next_uid + 1) journal f h next_uid (left_entries (file_id n) causes f.layout.live) places Returned
          (left_notes n (next_uid + 1) causes f.layout.live) (left_no_fences n (next_uid + 1) causes f.layout.live) (left_right n (next_uid + 1) journal causes f.layout.live)
          (all_left (file_id n) causes [] f.layout.live h.apart ∙ ap (λ ps. Some (ids_of (unreported ps f.layout.live))) (reported_places places)) live top less (unreported places f.layout.live) refl))
          (λ e. same_file)

  pub revoke_ok : (cause : EndCause) → Ok (held_in f (by_client f (λ client. revoked_row (file_id n) f cause fresh)) f.layout.phase)
  revoke_ok cause =
      held_ok (by_client f (λ client. revoked_row (file_id n) f cause fresh)) (λ holder is_recalled is. client_ok (λ client. revoked_row (file_id n) f cause fresh) (λ k. revokes (now holder is_recalled is)) holder) f.layout.phase refl
    where
      revokes : live_in journal (file_id n) ≡ Some (ids_of f.layout.live) → Ok (revoked_row (file_id n) f cause fresh)
      revokes live =
          let e : Entry = entry.Ended (file_id n) f.layout.cred cause in
          cond_both (is_clean cause) (nothing f) (goes_fencing (revoked (file_id n) f.layout cause (a_uid next_uid)) next_uid) Ok
          (λ b. same_file)
          (λ b. Draws refl (record {
            notes = (ended_note n (next_uid + 1) (file_id n) f.layout.cred cause, tt);
            right = (tt, tt);
            file = fences net new later n (next_uid + 1) journal f h next_uid f.layout.live Dirty (e ∷ []) (tt, tt) top less (live_same (file_id n) journal (e ∷ []) (λ x. refl, tt) ∙ live) h.apart h.mirrors;
          }))

  own_ends : (causes : List (Option LeftCause)) (told : Entry) → IsNote n (next_uid + 1) told → If (fence_in told) (λ x. x.file ≢ n) → ((before : List Entry) → AreRight before (told ∷ []))
      → ((x : Option (List MirrorId)) → live_after (file_id n) x told ≡ x) → live_in journal (file_id n) ≡ Some (ids_of f.layout.live) → Ok (own_row (file_id n) f causes told fresh)
  own_ends causes told note none right same live =
      let left : List Entry = left_entries (file_id n) causes f.layout.live in
      Draws refl
      (ends net new later n (next_uid + 1) journal f h next_uid (left ++ told ∷ []) (map is_some causes) Own
      (all_append (IsNote n (next_uid + 1)) left (told ∷ []) (left_notes n (next_uid + 1) causes f.layout.live) (note, tt))
      (all_append (λ e. If (fence_in e) (λ x. x.file ≢ n)) left (told ∷ []) (left_no_fences n (next_uid + 1) causes f.layout.live) (none, tt))
      (right_more journal left (told ∷ []) (left_right n (next_uid + 1) journal causes f.layout.live) (right (journal ++ left)))
      (live_append (file_id n) (Some (ids_of f.layout.live)) left (told ∷ []) ∙ same _ ∙ all_left (file_id n) causes [] f.layout.live h.apart)
      live top less (unreported (map is_some causes) f.layout.live) refl)

  pub own_end_ok : (causes : List (Option LeftCause)) (at : ℕ) (bytes : List ℕ) → Ok (held_in f (by_mds f (own_row (file_id n) f causes (entry.Told (file_id n) f.layout.cred at bytes) fresh)) f.layout.phase)
  own_end_ok causes at bytes =
      let told : Entry = entry.Told (file_id n) f.layout.cred at bytes in
      let note = told_note n (next_uid + 1) (file_id n) f.layout.cred at bytes in
      held_ok (by_mds f (own_row (file_id n) f causes told fresh))
      (λ holder is_recalled is. mds_ok (own_row (file_id n) f causes told fresh) (own_ends causes told note tt (λ before. (tt, tt)) (λ x. refl) (now holder is_recalled is)) holder) f.layout.phase refl
