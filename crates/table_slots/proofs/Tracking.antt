-- Over every call the effects of a slot are those of a list of requests of one slot, and it stands at its place.
use Rattle.std.proofs.Common.{◌≡◌, ℕ, ◌<◌, List, [], ◌++◌, Option, Some, None, refl, sym, ◌∙◌, subst, arith, append-nil}
use Rattle.cluster_model.specs.declared.ids.NodeId.{NodeId}
use Rattle.nfs4_types.specs.declared.ids.SessionId.{SessionId}
use Rattle.nfs4_types.specs.declared.status.Stat4.{Stat4}
use Rattle.nfs4_session.specs.declared.faults.IdFault.{IdFault}
use Rattle.nfs4_session.specs.Slots.{SlotState, new_slot}
use Rattle.nfs4_session.specs.SlotsLaw.{SlotMove, slot_run}
use Rattle.nfs4_session.specs.Clients.{ClientState, SessionState, SessionsState, has_id, client_in, number_in}
use Rattle.nfs4_session.specs.ExchangeIds.{ExchangeCase, IsKnown, IsAgain, ReplacesUnconfirmed, Restarts, IsNewOwner, is_unconfirmed_of, new_client, after_exchange}
use Rattle.nfs4_session.specs.CreateSessions.{CreateSessionCase, IsDue, IsReplay, IsMisordered, HasNoRoom, IsStale, is_before_restart, after_creating}
use Rattle.nfs4_session.specs.Ends.{without_client}
use Rattle.nfs4_session.specs.TableLaw.{exchanged_unless, called_back_by, destroyed_unless, expired_by}
use Rattle.table_slots.proofs.Places.{AreAt}
use Rattle.table_slots.proofs.Changes.{renewed, called, removed, pushed, added}

pub record Tracks (id : SessionId) (place : ℕ) (s : SessionsState) (effects : List ℕ) : Type 0 where
  pub moves : List SlotMove
  pub told : effects ≡ (slot_run moves).effects
  pub stands : AreAt (client_in id) (number_in id) place (slot_run moves).slot s.numbers s.clients
  -- before the session is made its slot is new
  pub fresh : s.numbers < number_in id → (slot_run moves).slot ≡ new_slot

module _ (id : SessionId) (place : ℕ) (s : SessionsState) (effects : List ℕ) (t : Tracks id place s effects) where
  abbrev client : ℕ
  client = client_in id

  abbrev number : ℕ
  number = number_in id

  abbrev slot : SlotState
  slot = (slot_run t.moves).slot

  -- the slot is as it was
  pub kept : (s' : SessionsState) → s'.numbers ≡ s.numbers → AreAt client number place slot s.numbers s'.clients → Tracks id place s' (effects ++ [])
  kept s' same stands = record {
    moves = t.moves;
    told = append-nil effects ∙ t.told;
    stands = subst (λ n. AreAt client number place slot n s'.clients) (sym same) stands;
    fresh = λ low. t.fresh (omega (arith, low, same));
  }

  pub stays : Tracks id place s (effects ++ [])
  stays = kept s refl t.stands

  -- ---- EXCHANGE_ID

  pub exchanged : (verifier owner : List ℕ) (now : ℕ) (case : ExchangeCase) (fault : Option IdFault) → Tracks id place (exchanged_unless s (after_exchange s verifier owner now case) fault) (effects ++ [])
  exchanged verifier owner now case (Some fault) = stays
  exchanged verifier owner now (IsKnown c) None = kept _ refl (renewed client number place slot s.numbers c.id now s.clients t.stands)
  exchanged verifier owner now (IsAgain c) None = kept _ refl (renewed client number place slot s.numbers c.id now s.clients t.stands)
  exchanged verifier owner now ReplacesUnconfirmed None =
      kept _ refl (pushed client number place slot s.numbers _ (new_client s verifier owner now) refl (removed client number place slot s.numbers (is_unconfirmed_of owner) s.clients t.stands))
  exchanged verifier owner now Restarts None = kept _ refl (pushed client number place slot s.numbers _ (new_client s verifier owner now) refl t.stands)
  exchanged verifier owner now IsNewOwner None = kept _ refl (pushed client number place slot s.numbers _ (new_client s verifier owner now) refl t.stands)

  -- ---- CREATE_SESSION

  pub created : (program : ℕ) (node : NodeId) (now : ℕ) (case : CreateSessionCase) → Tracks id place (after_creating s program node now case) (effects ++ [])
  created program node now (IsDue c) = record {
    moves = t.moves;
    told = append-nil effects ∙ t.told;
    stands = added client number place slot s.numbers c.id program now node _ t.fresh (removed client number place slot s.numbers (is_before_restart c) s.clients t.stands);
    fresh = λ low. t.fresh (omega (arith, low));
  }
  created program node now (IsReplay session) = stays
  created program node now IsMisordered = stays
  created program node now HasNoRoom = stays
  created program node now IsStale = stays

  -- ---- the ends

  pub called_so : (c : ℕ) (o : Option SessionState) → Tracks id place (called_back_by s c o) (effects ++ [])
  called_so c None = stays
  called_so c (Some session) = kept _ refl (called client number place slot s.numbers c session.number s.clients t.stands)

  pub ended : (c : ℕ) (o : Option Stat4) → Tracks id place (destroyed_unless s (without_client s c) o) (effects ++ [])
  ended c None = kept _ refl (removed client number place slot s.numbers (has_id c) s.clients t.stands)
  ended c (Some status) = stays

  pub expired : (o : Option ClientState) → Tracks id place (expired_by s o) (effects ++ [])
  expired None = stays
  expired (Some c) = kept _ refl (removed client number place slot s.numbers (has_id c.id) s.clients t.stands)
