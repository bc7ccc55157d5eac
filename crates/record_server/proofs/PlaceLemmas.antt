-- What is done on the connection at a place.
use Rattle.std.proofs.Common.{◌≡◌, ℕ, zero, suc, List, [], ◌∷◌, get_or, set, refl, sym, ap, subst, ◌∙◌, inl, Option, Some, None, Result, Ok, Err, MatchOption}
use Rattle.std.specs.Prelude.{slice_get}
use Rattle.std.proofs.lemmas.Option.{none-some, same_Some, get_or_from_slice_get}
use Rattle.ff_xdr.specs.declared.error.NoMemory.{NoMemory}
use Rattle.record_link.specs.Peers.{PeerState, excused_peer, PutsPeer}
use Rattle.record_server.specs.Server.{ServingState, with_peer, HasNoNumber, IsPlaceOf, SendsRecord, ExcusesCall}

pub set_same : (es : List PeerState) (i : ℕ) (e : PeerState) → slice_get es i ≡ Some e → set es i e ≡ es
set_same [] i e there = absurd (none-some e there)
set_same (x ∷ es) zero e there = ap (λ (y : PeerState). y ∷ es) (sym (same_Some x e there))
set_same (x ∷ es) (suc i) e there = ap (λ (ys : List PeerState). x ∷ ys) (set_same es i e there)

-- the connection that was found is the one that was read
pub found_is : (number : ℕ) (listed items : List PeerState) (place : ℕ) (e : PeerState) → listed ≡ items → IsPlaceOf number listed place → e ≡ get_or items place e → slice_get items place ≡ Some e
found_is number listed items place e same found read =
    let there : slice_get items place ≡ Some found.peer = subst (λ (es : List PeerState). slice_get es place ≡ Some found.peer) same found.at in
    there ∙ ap Some (sym (read ∙ get_or_from_slice_get items place found.peer e there))

pub found_at : (number : ℕ) (listed items : List PeerState) (place : ℕ) (e : PeerState) → listed ≡ items → IsPlaceOf number listed place → e ≡ get_or items place e → e.number ≡ number
found_at number listed items place e same found read =
    let there : slice_get items place ≡ Some found.peer = subst (λ (es : List PeerState). slice_get es place ≡ Some found.peer) same found.at in
    ap (λ (y : PeerState). y.number) (read ∙ get_or_from_slice_get items place found.peer e there) ∙ found.numbered

-- where none was found there is none
pub not_found : (number : ℕ) (peers : List PeerState) (r : Option ℕ) → ((place : ℕ) → r ≡ Some place → ⊥) → MatchOption r (HasNoNumber number peers) (λ place. IsPlaceOf number peers place) → HasNoNumber number peers
not_found number peers None none told = told
not_found number peers (Some place) none told = absurd (none place refl)

-- a message was put on it
pub puts_done : (number : ℕ) (message : List ℕ) (old new : ServingState) (place : ℕ) (e after : PeerState) (r : Result (Unit {0}) NoMemory) → slice_get old.peers place ≡ Some e → e.number ≡ number
    → PutsPeer e message r after → new ≡ with_peer old place after → SendsRecord number message old r new
puts_done number message old new place e after (Ok x) there numbered puts is =
    inl (record { place = place; found = record { peer = e; at = there; numbered = numbered }; after = after; puts = puts; rest = is })
puts_done number message old new place e after (Err x) there numbered puts is =
    is ∙ ap (λ (ps : List PeerState). record old { peers = ps }) (ap (λ (y : PeerState). set old.peers place y) puts ∙ set_same old.peers place e there)

pub excused_done : (number : ℕ) (old new : ServingState) (place : ℕ) (e : PeerState) → slice_get old.peers place ≡ Some e → e.number ≡ number → new ≡ with_peer old place (excused_peer e) → ExcusesCall number old new
excused_done number old new place e there numbered is = inl (record { place = place; found = record { peer = e; at = there; numbered = numbered }; rest = is })
