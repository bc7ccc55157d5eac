-- What goes out under a layout, and what is taken under it.
use Rattle.client_mds_calls.specs.MdsCalls.{OnSlot}
use Rattle.client_mds_calls.specs.MdsCalls as slot
use Rattle.client_state.specs.ClientSends.{CallsMds}
use Rattle.client_laws.specs.RecallLaws.{RecalledSince, WasRecalled, up_to}
use Rattle.std.proofs.lemmas.List.{append_assoc, append_cancel_right}
use Rattle.std.proofs.Common.{◌≡◌, ℕ, zero, suc, Bool, true, false, List, [], ◌∷◌, length, Some, refl, sym, ap, subst, ◌∙◌, ◌++◌}
use Rattle.std.specs.Prelude.{slice_get, ◌||◌}
use Rattle.std.specs.List.{list_any}
use Rattle.std.proofs.lemmas.Option.{none-some, same_Some}
use Rattle.cluster_model.specs.declared.ids.FileId.{FileId}
use Rattle.cluster_model.specs.declared.entry.Entry.TheVariants.{Sent}
use Rattle.cluster_model.specs.DsCalls.{DsCallValue, Create, SetAttr, Write, Commit, Read}
use Rattle.mirror_writer.specs.declared.call.TakenWrite.{TakenWrite}
use Rattle.mirror_writer.specs.Writers.{WriterSends, next_sent, touches, overlaps_taken}
use Rattle.mirror_writer.specs.Outstanding.{OutCall, out_at}
use Rattle.client_file_calls.specs.declared.grant.LayoutGrant.{LayoutGrant}
use Rattle.client_state.specs.declared.stage.LayoutStage.TheVariants.{Writing}
use Rattle.client_state.specs.declared.layout.Layout.{Layout}
use Rattle.client_state.specs.ClientQueue.{is_writing}
use Rattle.client_laws.specs.ClientHistory.{HistoryItem, Enters, HasItem, Sends}
use Rattle.client_laws.specs.ClientRunLaws.{HasEnded, WasReturned, WasRevoked, IsSilent, IsFree, WritesEntered, WasSent, AreGrantedOnce, WasGranted}
use Rattle.client_laws.proofs.WriterMoves.{IsDone, IsOfTaken, sends_nothing, nothing_out}
use Rattle.client_laws.proofs.Stands.{LayoutStands, TakenUnder}

not_both : false ≡ true → ⊥
not_both e = absurd cc

module _ (past : List HistoryItem) (name : List ℕ) (reports : ℕ → Bool) (l : Layout) (s : LayoutStands past name reports l) where
  -- no LAYOUTRETURN of it was sent
  pub silent_now : l.was_sent ≡ false → IsSilent past l.writer.cred
  silent_now unsent once g i uid ended = by_end (subst (λ (k : LayoutGrant). HasEnded s.granted.since k) (once g s.grant i s.granted (uid ∙ s.uid)).0 (subst (λ (k : List HistoryItem). HasEnded k g) (once g s.grant i s.granted (uid ∙ s.uid)).1 ended))
    where
      by_end : HasEnded s.granted.since s.grant → ⊥
      by_end (WasReturned xid caller session sequence file failed i) = not_both (sym unsent ∙ s.was_given xid caller session sequence file failed i)
      by_end (WasRevoked client i) = s.was_taken client i

  is_done : l.was_sent ≡ true → IsDone l.writer
  is_done sent = record { counts = λ place m there. (s.writer place m there).counts; settled = s.settled sent }

  pub unsent_writing : l.stage ≡ Writing → l.was_sent ≡ false
  unsent_writing at = by_sent l.was_sent refl
    where
      by_sent : (b : Bool) → l.was_sent ≡ b → b ≡ false
      by_sent true sent = absurd (not_both (sym (s.not_writing sent) ∙ ap is_writing at))
      by_sent false sent = refl

  pub unsent_sending : (xid : ℕ) (sends : WriterSends) → next_sent l.writer xid ≡ Some sends → l.was_sent ≡ false
  unsent_sending xid sends is = by_sent l.was_sent refl
    where
      by_sent : (b : Bool) → l.was_sent ≡ b → b ≡ false
      by_sent true sent = absurd (sends_nothing l.writer xid sends (is_done sent) is)
      by_sent false sent = refl

  pub unsent_out : (server : ℕ) (out : OutCall) → out_at l.writer server ≡ Some out → l.was_sent ≡ false
  unsent_out server out is = by_sent l.was_sent refl
    where
      by_sent : (b : Bool) → l.was_sent ≡ b → b ≡ false
      by_sent true sent = absurd (nothing_out l.writer server out (is_done sent) is)
      by_sent false sent = refl

  pub writes_now : (call : DsCallValue) → IsOfTaken l.writer call → WritesEntered past l.writer.cred call
  writes_now (Write fileid at synced bytes) (n, there) = WasSent (s.entered n (record { at = at; bytes = bytes }) there)
  writes_now (Commit fileid) of = tt
  writes_now (Create owner file) of = tt
  writes_now (SetAttr fileid owner guard) of = tt
  writes_now (Read fileid at count) of = tt

  -- ---- a write is taken

  none_at : (test : TakenWrite → Bool) (xs : List TakenWrite) (n : ℕ) (t : TakenWrite) → list_any test xs ≡ false → slice_get xs n ≡ Some t → test t ≡ false
  none_at test [] n t none there = absurd (none-some t there)
  none_at test (x ∷ xs) zero t none there = ap test (sym (same_Some x t there)) ∙ first (test x) (list_any test xs) none
    where
      first : (a b : Bool) → (a || b) ≡ false → a ≡ false
      first true b is = is
      first false b is = refl
  none_at test (x ∷ xs) (suc n) t none there = none_at test xs n t (second (test x) (list_any test xs) none) there
    where
      second : (a b : Bool) → (a || b) ≡ false → b ≡ false
      second true b is = absurd cc
      second false b is = is

  pub free_now : (at : ℕ) (bytes : List ℕ) → ((file : FileId) (cred at : ℕ) (bytes : List ℕ) → HasItem past (Enters (Sent file (record { 0 = cred }) at bytes)) → TakenUnder past cred file at bytes) → overlaps_taken l.writer at (length bytes) ≡ false
      → IsFree past l.writer.cred at bytes
  free_now at bytes under free once file place taken i = by_taken (s.taken file place taken (since (under file l.writer.cred place taken i)))
    where
      since : TakenUnder past l.writer.cred file place taken → HasItem s.granted.since (Enters (Sent file (record { 0 = l.writer.cred }) place taken))
      since u = subst (λ k. HasItem k (Enters (Sent file (record { 0 = l.writer.cred }) place taken))) (once u.grant s.grant u.granted s.granted (u.uid ∙ s.uid)).1 u.since

      by_taken : (n : ℕ) × (slice_get l.writer.taken n ≡ Some (record { at = place; bytes = taken })) → touches at (length bytes) (record { at = place; bytes = taken }) ≡ false
      by_taken (n, there) = none_at (touches at (length bytes)) l.writer.taken n (record { at = place; bytes = taken }) free there

  -- ---- no recall of it was answered OK

  same_front : (a b items rest : List HistoryItem) (x y : HistoryItem) → a ++ x ∷ rest ≡ b ++ y ∷ rest → a ++ x ∷ items ≡ b ++ y ∷ items
  same_front a b items rest x y is =
      let front : a ++ x ∷ [] ≡ b ++ y ∷ [] = append_cancel_right (a ++ x ∷ []) (b ++ y ∷ []) rest (append_assoc a (x ∷ []) rest ∙ is ∙ sym (append_assoc b (y ∷ []) rest)) in
      sym (append_assoc a (x ∷ []) items) ∙ ap (λ l. l ++ items) front ∙ append_assoc b (y ∷ []) items

  pub unrecalled_now : l.stage ≡ Writing → AreGrantedOnce past → (grant : LayoutGrant) (i : WasGranted past grant) → grant.uid.0 ≡ l.writer.cred → RecalledSince i → ⊥
  unrecalled_now writing once g i uid r =
      not_both (sym (s.recalled its) ∙ ap is_writing writing)
    where
      since : i.since ≡ s.granted.since
      since = (once g s.grant i s.granted (uid ∙ s.uid)).1

      fronts : up_to i r.items ≡ up_to s.granted r.items
      fronts =
          same_front i.before s.granted.before r.items s.granted.since (Sends (CallsMds i.xid i.name (OnSlot i.session i.sequence (slot.LayoutGet i.file))))
          (Sends (CallsMds s.granted.xid s.granted.name (OnSlot s.granted.session s.granted.sequence (slot.LayoutGet s.granted.file))))
          (ap (λ x. i.before ++ Sends (CallsMds i.xid i.name (OnSlot i.session i.sequence (slot.LayoutGet i.file))) ∷ x) (sym since) ∙ sym i.split ∙ s.granted.split)

      its : RecalledSince s.granted
      its = record {
        items = r.items;
        behind = r.behind;
        reply = r.reply;
        split = sym since ∙ r.split;
        recalled = subst (λ x. WasRecalled x r.reply s.grant.stateid.other) fronts (subst (λ (k : LayoutGrant). WasRecalled (up_to i r.items) r.reply k.stateid.other) (once g s.grant i s.granted (uid ∙ s.uid)).0 r.recalled);
      }
