-- A connection keeps its number, whatever is done on it.
use Rattle.std.proofs.Common.{◌≡◌, ℕ, Bool, true, false, List, refl, ap, ◌∙◌, if◌then◌else◌, Option, None, Some, Result, Ok, Err}
use Rattle.ff_xdr.specs.declared.error.NoMemory.{NoMemory}
use Rattle.record_link.specs.declared.stream.Halt.{Halt}
use Rattle.record_link.specs.declared.stream.Halt.TheVariants as halt
use Rattle.record_link.specs.Connection.{ConnectionState}
use Rattle.record_link.specs.Peers.{PeerState, is_to_write, is_to_read, after_drain, DrainsPeer, FillsPeer, HandsPeer, PutsPeer, WritesIf, ReadsIf, VisitsPeer}
use Rattle.record_server.specs.Server.{resumed_by, was_reported}

drained_number : (now : ℕ) (e : PeerState) (r : Result (Unit {0}) Halt) (c : ConnectionState) → (after_drain now e r c).number ≡ e.number
drained_number now e (Ok x) c = refl
drained_number now e (Err halt.WouldBlock) c = refl
drained_number now e (Err halt.Ended) c = refl
drained_number now e (Err halt.Lost) c = refl
drained_number now e (Err halt.NoMemory) c = refl

pub drains_number : (now : ℕ) (old new : PeerState) → DrainsPeer now old new → new.number ≡ old.number
drains_number now old new drains = ap (λ (e : PeerState). e.number) drains.rest ∙ drained_number now old drains.result new.connection

pub writes_number : (write : Bool) (now : ℕ) (old new : PeerState) → WritesIf write now old new → new.number ≡ old.number
writes_number false now old new is = ap (λ (e : PeerState). e.number) is
writes_number true now old new drains = drains_number now old new drains

pub fills_number : (now : ℕ) (old : PeerState) (r : Result (Unit {0}) Halt) (new : PeerState) → FillsPeer now old r new → new.number ≡ old.number
fills_number now old (Ok x) new fills = ap (λ (e : PeerState). e.number) fills.4
fills_number now old (Err halt.Ended) new fills = ap (λ (e : PeerState). e.number) fills.1
fills_number now old (Err halt.WouldBlock) new is = ap (λ (e : PeerState). e.number) is
fills_number now old (Err halt.Lost) new is = ap (λ (e : PeerState). e.number) is
fills_number now old (Err halt.NoMemory) new fills = fills.2

pub reads_number : (read : Bool) (now : ℕ) (old : PeerState) (r : Result Bool NoMemory) (new : PeerState) → ReadsIf read now old r new → new.number ≡ old.number
reads_number false now old r new is = ap (λ (e : PeerState). e.number) is.1
reads_number true now old (Ok true) new fills = fills_number now old (Ok tt) new fills
reads_number true now old (Ok false) new fills = fills_number now old (Err fills.0) new fills.2
reads_number true now old (Err e) new fills = fills_number now old (Err halt.NoMemory) new fills

pub visits_number : (now : ℕ) (old : PeerState) (r : Result Bool NoMemory) (new : PeerState) → VisitsPeer now old r new → new.number ≡ old.number
visits_number now old r new visits =
    reads_number (is_to_read visits.0) now visits.0 r new visits.2 ∙ writes_number (is_to_write now old) now old visits.0 visits.1

pub hands_number : (old : PeerState) (r : Result (Option (List ℕ)) NoMemory) (new : PeerState) → HandsPeer old r new → new.number ≡ old.number
hands_number old (Ok (Some message)) new hands = ap (λ (e : PeerState). e.number) hands.3
hands_number old (Ok None) new hands = ap (λ (e : PeerState). e.number) hands.1
hands_number old (Err e) new hands = ap (λ (e : PeerState). e.number) hands.2

pub puts_number : (old : PeerState) (message : List ℕ) (r : Result (Unit {0}) NoMemory) (new : PeerState) → PutsPeer old message r new → new.number ≡ old.number
puts_number old message (Ok x) new puts = ap (λ (e : PeerState). e.number) puts.1
puts_number old message (Err e) new is = ap (λ (e : PeerState). e.number) is

resumed_if : (b : Bool) (e : PeerState) → (if b then record e { readable = true; writable = true } else e).number ≡ e.number
resumed_if true e = refl
resumed_if false e = refl

pub resumed_number : (reported : List ℕ) (e : PeerState) → (resumed_by reported e).number ≡ e.number
resumed_number reported e = resumed_if (was_reported reported e.number) e
