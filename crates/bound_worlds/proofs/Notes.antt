-- What a client enters is moves of the machine that are bound, where it keeps its part.
use Rattle.std.proofs.Common.{◌≡◌, ◌<◌, ℕ, ◌+◌, Bool, true, false, cond, List, [], ◌∷◌, ◌++◌, length, Some, refl, sym, ap, subst, ◌∙◌, inl, inr, ◌⊎◌}
use Rattle.std.specs.Prelude.{slice_get, not}
use Rattle.std.specs.List.{AllByRecursion}
use Rattle.std.proofs.lemmas.List.{append_assoc, append-nil}
use Rattle.cluster_model.specs.declared.ids.NodeId.{NodeId}
use Rattle.cluster_model.specs.declared.ids.FileId.{FileId}
use Rattle.cluster_model.specs.declared.ids.Cred.{Cred}
use Rattle.cluster_model.specs.declared.ids.MirrorId.{MirrorId}
use Rattle.cluster_model.specs.declared.phase.EndCause.{EndCause}
use Rattle.cluster_model.specs.declared.entry.Entry.{Entry}
use Rattle.cluster_model.specs.declared.entry.Entry.TheVariants as entry
use Rattle.cluster_model.specs.Content.{Pending}
use Rattle.cluster_model.specs.Laws.{AreDisjoint}
use Rattle.cluster_model.specs.Phases.{is_clean}
use Rattle.cluster_model.specs.Server.{ServerState}
use Rattle.cluster_laws.specs.Machine.{PacketValue, Holding, Machine, Move, Takes, Strays, Tells, new_machine, machine_after, journal_of}
use Rattle.cluster_laws.specs.FenceLaw.{live_in, new_servers}
use Rattle.cluster_laws.specs.Telling.{is_telling, telling}
use Rattle.cluster_laws.specs.Agreement.{sent_of, rogue_of, causes_of}
use Rattle.cluster_laws.specs.Holders.{IsCovered, IsIn, the_write, HasEndedClean, HasNotEndedClean, MayTake, IsCoveredEverywhere, MayTell, HeldUnder, IsBound}
use Rattle.cluster_laws.proofs.SameTold.{TellSame, same_told}
use Rattle.cluster_laws.proofs.Lists.{all_more}
use Rattle.machine_moves.proofs.Going.{telling_append}
use Rattle.machine_moves.proofs.Packets.{keeps_same}
use Rattle.mds_rule.specs.MdsStates.{MdsSend, MdsValue}
use Rattle.mds_moves.specs.MdsBinds.{MdsHasOwnWrites, OwnWritesStay}
use Rattle.mds_forms.specs.Forms.{IsNoPacket}
use Rattle.world_moves.specs.WorldMoves.{IsEntryCarried}
use Rattle.client_sends.specs.SendsOfUsers.{is_user_entry}
use Rattle.holder_parts.specs.CoveredRecords.{IsCoveredIn}
use Rattle.holder_parts.specs.HolderParts.{WasBegun, TakesInPlace, StraysInPlace, IsCoveredWhereBegun, TellsInPlace, EndsOwnNext, KeepsPart, HoldersKeepParts}
use Rattle.held_mirrors.specs.HeldMirrors.{HasHolding, EachGrantIsHeld}
use Rattle.bound_worlds.specs.MatchedPackets.{Stage, Shows, Hides, entries_of, packets_of, Matches, AreMatched}
use Rattle.bound_worlds.specs.BoundWorlds.{IsBoundRun}
use Rattle.bound_worlds.proofs.CoveredCalls.{ToldApart, covered_so}
use Rattle.bound_worlds.proofs.Extending.{GoesFurther, goes}

untold : (e : Entry) → not (is_telling e) ≡ true → telling (e ∷ []) ≡ []
untold e is = by_kind (is_telling e) is
  where
    by_kind : (b : Bool) → not b ≡ true → cond b (e ∷ []) [] ≡ []
    by_kind true is = absurd cc
    by_kind false is = refl

-- the laws of crates below
pub record BoundLaws : Type 0 where
  pub held : (boots : List ℕ) (moves : List Move) → EachGrantIsHeld boots moves
  pub apart : ToldApart
  pub stay : OwnWritesStay

-- the metadata server does not end its own write right behind it
abbrev pub IsNotOwnNext : Entry → List Entry → Type 0
IsNotOwnNext (entry.Told file cred at bytes) behind = EndsOwnNext behind file cred.0 → ⊥
IsNotOwnNext e behind = Unit {0}

module _ (laws : BoundLaws) (boots : List ℕ) (servers : List ServerState) (mds : MdsValue) (journal : List Entry) (i : IsBoundRun boots servers mds journal) where
  told : TellSame (telling journal) journal
  told = same_told journal

  -- a period that began is held, with its mirrors
  holding : (file : FileId) (uid : ℕ) (b : WasBegun journal file uid) → HasHolding i.machine file uid b.mirrors
  holding file uid b =
      let split : journal_of (new_machine (new_servers 1 boots)) i.moves ≡ telling b.before ++ entry.Granted file (record { 0 = uid }) b.holder ∷ telling b.behind =
      i.told ∙ (ap telling b.split ∙ telling_append b.before (entry.Granted file (record { 0 = uid }) b.holder ∷ b.behind)) in
      let live : live_in (telling b.before) file ≡ Some b.mirrors = (same_told b.before).live file ∙ b.live in
      subst (λ (m : Machine). HasHolding m file uid b.mirrors) i.reached (laws.held boots i.moves i.bound (telling b.before) (telling b.behind) file uid b.holder b.mirrors split live)

  held_under : (file : FileId) (uid : ℕ) (b : WasBegun journal file uid) (P : Holding → Type 0) → ((h : Holding) → h.uid ≡ uid → h.mirrors ≡ b.mirrors → P h) → HeldUnder i.machine uid P
  held_under file uid b P so =
      let h : HasHolding i.machine file uid b.mirrors = holding file uid b in
      record { place = h.place; held = h.held; there = h.there; its_uid = h.its_uid; so = so h.held h.its_uid h.its_mirrors }

  covered_now : (uid : ℕ) (id : MirrorId) (w : Pending) → IsCoveredIn journal uid id w → IsCovered i.machine.packets uid id w
  covered_now uid id w c =
      subst (λ (l : List PacketValue). IsCovered l uid id w) i.brought (covered_so laws.apart i.stages i.matched uid id w (subst (λ (l : List Entry). IsCoveredIn l uid id w) (sym i.stages_are) c))

  may_take : (uid at : ℕ) (bytes : List ℕ) → MayTake journal uid at bytes → MayTake (telling journal) uid at bytes
  may_take uid at bytes k = record {
    some = k.some;
    apart = subst (λ (l : List Pending). AllByRecursion (λ w. AreDisjoint w.at w.bytes at bytes) l) (sym (told.sent uid)) k.apart;
    follows = told.rogue uid ∙ k.follows;
    not_clean = subst (λ (l : List EndCause). AllByRecursion (λ (cause : EndCause). is_clean cause ≡ false) l) (sym (told.causes uid)) k.not_clean;
  }

  ended_clean : (uid : ℕ) → HasEndedClean journal uid → HasEndedClean (telling journal) uid
  ended_clean uid k = record { cause = k.cause; more = k.more; causes = told.causes uid ∙ k.causes; clean = k.clean }

  takes_bound : (file : FileId) (uid at : ℕ) (bytes : List ℕ) → TakesInPlace journal file uid at bytes → IsBound i.machine (telling journal) (Takes file uid at bytes)
  takes_bound file uid at bytes k = held_under file uid k.begun (λ h. MayTake (telling journal) uid at bytes) (λ h its mirrors. may_take uid at bytes k.may)

  strays_bound : (file : FileId) (uid at : ℕ) (bytes : List ℕ) → StraysInPlace journal file uid → IsBound i.machine (telling journal) (Strays file uid at bytes)
  strays_bound file uid at bytes k =
      held_under file uid k.begun (λ h. HasNotEndedClean (telling journal) uid) (λ h its mirrors. subst (λ (l : List EndCause). AllByRecursion (λ (cause : EndCause). is_clean cause ≡ false) l) (sym (told.causes uid)) k.not_clean)

  tells_bound : (file : FileId) (uid at : ℕ) (bytes : List ℕ) → TellsInPlace journal file uid at bytes → IsBound i.machine (telling journal) (Tells file uid at bytes)
  tells_bound file uid at bytes k = by_may k.may
    where
      whole : (c : IsCoveredWhereBegun journal file uid at bytes) (h : Holding) → h.uid ≡ uid → h.mirrors ≡ c.begun.mirrors → IsCoveredEverywhere i.machine.packets (telling journal) h at bytes
      whole c h its mirrors = record {
        some = c.some;
        sent = subst (λ (u : ℕ). IsIn (the_write at bytes) (sent_of u (telling journal))) (sym its) (subst (λ (l : List Pending). IsIn (the_write at bytes) l) (sym (told.sent uid)) c.sent);
        covered = subst (λ (l : List MirrorId). AllByRecursion (λ id. IsCovered i.machine.packets h.uid id (the_write at bytes)) l) (sym mirrors)
            (subst (λ (u : ℕ). AllByRecursion (λ id. IsCovered i.machine.packets u id (the_write at bytes)) c.begun.mirrors) (sym its)
            (all_more (λ id. IsCoveredIn journal uid id (the_write at bytes)) (λ id. IsCovered i.machine.packets uid id (the_write at bytes)) c.begun.mirrors (λ id. covered_now uid id (the_write at bytes)) c.covered));
      }

      by_may : HasEndedClean journal uid ⊎ IsCoveredWhereBegun journal file uid at bytes → IsBound i.machine (telling journal) (Tells file uid at bytes)
      by_may (inl ended) = held_under file uid k.begun (λ h. MayTell i.machine.packets (telling journal) h at bytes) (λ h its mirrors. inl (subst (HasEndedClean (telling journal)) (sym its) (ended_clean uid ended)))
      by_may (inr c) = held_under file uid c.begun (λ h. MayTell i.machine.packets (telling journal) h at bytes) (λ h its mirrors. inr (whole c h its mirrors))

  -- ---- one entry of a client

  no_move : (e : Entry) → telling (e ∷ []) ≡ [] → Matches journal (length i.machine.packets) e [] → IsEntryCarried i.machine i.sends e → GoesFurther boots i.machine journal (e ∷ []) i.sends i.machine
  no_move e quiet matches carried = record {
    moves = [];
    machine = refl;
    told = sym quiet;
    bound = tt;
    stages = Shows e [] ∷ [];
    stages_are = refl;
    brought = append-nil i.machine.packets;
    matched = (matches, tt);
    carried = (carried, tt);
  }

  one_entry : (e : Entry) (behind : List Entry) → is_user_entry e ≡ true → KeepsPart journal e behind → IsNotOwnNext e behind → GoesFurther boots i.machine journal (e ∷ []) i.sends i.machine
  one_entry (entry.Sent file cred at bytes) behind user part own = record {
    moves = Takes file cred.0 at bytes ∷ [];
    machine = refl;
    told = refl;
    bound = (takes_bound file cred.0 at bytes part, tt);
    stages = Shows (entry.Sent file cred at bytes) [] ∷ [];
    stages_are = refl;
    brought = append-nil i.machine.packets;
    matched = (tt, tt);
    carried = (tt, tt);
  }
  one_entry (entry.Rogue file cred at bytes) behind user part own = record {
    moves = Strays file cred.0 at bytes ∷ [];
    machine = refl;
    told = refl;
    bound = (strays_bound file cred.0 at bytes part, tt);
    stages = Shows (entry.Rogue file cred at bytes) [] ∷ [];
    stages_are = refl;
    brought = append-nil i.machine.packets;
    matched = (tt, tt);
    carried = (tt, tt);
  }
  one_entry (entry.Told file cred at bytes) behind user (inl part) own = record {
    moves = Tells file cred.0 at bytes ∷ [];
    machine = refl;
    told = refl;
    bound = (tells_bound file cred.0 at bytes part, tt);
    stages = Shows (entry.Told file cred at bytes) [] ∷ [];
    stages_are = refl;
    brought = append-nil i.machine.packets;
    matched = (tt, tt);
    carried = (tt, tt);
  }
  one_entry (entry.Told file cred at bytes) behind user (inr next) own = absurd (own next)
  one_entry (entry.Packet number from to bytes) behind user part own = absurd cc
  one_entry e behind user part own = no_move e (untold e user) tt tt

  -- it stands behind that entry, with all else as it was
  note_goes : (e : Entry) → GoesFurther boots i.machine journal (e ∷ []) i.sends i.machine → IsBoundRun boots servers mds (journal ++ e ∷ [])
  note_goes e g =
      goes boots servers mds journal i (e ∷ []) i.sends i.machine servers mds g (λ s inside. inside) (keeps_same i.machine) i.servers_are i.proper i.mds_is
      (subst (λ (l : List Entry). MdsHasOwnWrites i.machine.packets l mds i.sends) (sym (telling_append journal (e ∷ []))) (laws.stay i.machine i.machine (telling journal) (telling (e ∷ [])) mds i.sends (keeps_same i.machine) i.own)) i.forms

  pub one_note : (e : Entry) (behind : List Entry) → is_user_entry e ≡ true → KeepsPart journal e behind → IsNotOwnNext e behind → IsBoundRun boots servers mds (journal ++ e ∷ [])
  one_note e behind user part own = note_goes e (one_entry e behind user part own)

  -- and so what tells nothing
  pub one_quiet : (e : Entry) → telling (e ∷ []) ≡ [] → IsNoPacket e → IsBoundRun boots servers mds (journal ++ e ∷ [])
  one_quiet e quiet none = note_goes e (no_move e quiet (plain_matches e none) (plain_carried e none))
    where
      plain_matches : (e : Entry) → IsNoPacket e → Matches journal (length i.machine.packets) e []
      plain_matches (entry.Packet number from to bytes) none = absurd none
      plain_matches e none = tt

      plain_carried : (e : Entry) → IsNoPacket e → IsEntryCarried i.machine i.sends e
      plain_carried (entry.Packet number from to bytes) none = absurd none
      plain_carried e none = tt

-- ---- all that a client enters

-- none of them is right before the end of the metadata server's own write
abbrev pub AreNotOwn : List Entry → List Entry → Type 0
AreNotOwn [] rest = Unit {0}
AreNotOwn (e ∷ entries) rest = IsNotOwnNext e (entries ++ rest) × AreNotOwn entries rest

pub all_notes : BoundLaws → (boots : List ℕ) (servers : List ServerState) (mds : MdsValue) (journal entries rest : List Entry) → IsBoundRun boots servers mds journal → AllByRecursion (λ e. is_user_entry e ≡ true) entries
    → HoldersKeepParts (journal ++ (entries ++ rest)) → AreNotOwn entries rest → IsBoundRun boots servers mds (journal ++ entries)
all_notes laws boots servers mds journal [] rest i user parts own = subst (IsBoundRun boots servers mds) (sym (append-nil journal)) i
all_notes laws boots servers mds journal (e ∷ entries) rest i user parts own =
    let j : IsBoundRun boots servers mds (journal ++ e ∷ []) = one_note laws boots servers mds journal i e (entries ++ rest) user.0 (parts journal (entries ++ rest) e refl) own.0 in
    subst (IsBoundRun boots servers mds) (append_assoc journal (e ∷ []) entries)
    (all_notes laws boots servers mds (journal ++ e ∷ []) entries rest j user.1 (subst HoldersKeepParts (sym (append_assoc journal (e ∷ []) (entries ++ rest))) parts) own.1)

pub all_quiet : BoundLaws → (boots : List ℕ) (servers : List ServerState) (mds : MdsValue) (journal entries : List Entry) → IsBoundRun boots servers mds journal → telling entries ≡ [] → AllByRecursion IsNoPacket entries → IsBoundRun boots servers mds (journal ++ entries)
all_quiet laws boots servers mds journal [] i quiet none = subst (IsBoundRun boots servers mds) (sym (append-nil journal)) i
all_quiet laws boots servers mds journal (e ∷ entries) i quiet none =
    let both = by_kind (is_telling e) quiet in
    let j : IsBoundRun boots servers mds (journal ++ e ∷ []) = one_quiet laws boots servers mds journal i e both.0 none.0 in
    subst (IsBoundRun boots servers mds) (append_assoc journal (e ∷ []) entries) (all_quiet laws boots servers mds (journal ++ e ∷ []) entries j both.1 none.1)
  where
    by_kind : (b : Bool) → cond b (e ∷ telling entries) (telling entries) ≡ [] → (cond b (e ∷ []) [] ≡ []) × (telling entries ≡ [])
    by_kind true is = absurd cc
    by_kind false is = (refl, is)
