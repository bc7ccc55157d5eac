-- Which records the code looks for.
use Rattle.std.specs.Prelude.{Bool, true, false, ◌&&◌, not}
use Rattle.nfs4_session.specs.declared.seek.Seek.{Seek}
use Rattle.nfs4_session.specs.declared.seek.Seek.TheVariants as seek
use Rattle.nfs4_session.specs.Clients.{ClientState, has_id, is_owned_by}
use Rattle.nfs4_session.specs.ExchangeIds.{is_by, is_unconfirmed_of, is_confirmed_of}
use Rattle.nfs4_session.specs.Ends.{has_ended}

-- the record is one of them
abbrev pub is_sought : Seek → ClientState → Bool
is_sought (seek.Known verifier owner) c = is_by true verifier owner.now c
is_sought (seek.Again verifier owner) c = is_by false verifier owner.now c
is_sought (seek.Unconfirmed owner) c = is_unconfirmed_of owner.now c
is_sought (seek.Confirmed owner) c = is_confirmed_of owner.now c
is_sought (seek.OwnedBy owner) c = is_owned_by owner.now c
is_sought (seek.BeforeRestart id owner) c = is_confirmed_of owner.now c && not (has_id id c)
is_sought (seek.Ended now) c = has_ended now c
