-- No more connections than may be are open.
use Rattle.std.proofs.Common.{◌≡◌, inl, inr, ℕ, ◌+◌, ◌≤◌, Bool, true, false, not, List, [], ◌∷◌, ◌++◌, length, take, drop, sym, ap, subst, ◌∙◌, arith, eqb}
use Rattle.std.specs.Prelude.{slice_set, cond}
use Rattle.std.specs.List.{filter}
use Rattle.std.proofs.lemmas.List.{length-append, length-take, length-drop, length-set, length-map}
use Rattle.std.proofs.lemmas.Option.{slice_get_within}
use Rattle.record_link.specs.Peers.{PeerState, new_peer, is_to_close}
use Rattle.record_server.specs.declared.server.TheConstants.{MOST_OPEN}
use Rattle.record_server.specs.Network.{Waiting, Made}
use Rattle.record_server.specs.Server.{ServingState, no_connections, resumed_by, TriesAgain, MakesRoom, ServingStep, Begins, Accepts, Visits, Leaves, Makes, Misses, Pushes, Passes, Ends, DoesStep}
use Rattle.record_server.specs.History.{Event, Does, Hands, Puts, Excuses, DoesEvent, HasHappened, FewOpen}

abbrev pub FitsOpen : ServingState → Type 0
FitsOpen s = length s.peers ≤ MOST_OPEN

set_fits : (old new : ServingState) (place : ℕ) (after : PeerState) → new.peers ≡ slice_set old.peers place after → FitsOpen old → FitsOpen new
set_fits old new place after is fits = omega (arith, fits, ap length is, length-set old.peers place after)

filter_fewer : (test : PeerState → Bool) (es : List PeerState) → length (filter test es) ≤ length es
filter_fewer test [] = omega (arith)
filter_fewer test (x ∷ es) = by_test (test x) (filter_fewer test es)
  where
    by_test : (b : Bool) → length (filter test es) ≤ length es → length (cond b (x ∷ filter test es) (filter test es)) ≤ length (x ∷ es)
    by_test true fewer = omega (arith, fewer)
    by_test false fewer = omega (arith, fewer)

-- where room was made, one more is still not too many
room_fits : (time : ℕ) (old room : List PeerState) (e : PeerState) → MakesRoom time old room → length old ≤ MOST_OPEN → length (room ++ e ∷ []) ≤ MOST_OPEN
room_fits time old room e (inl same) fits = omega (arith, same.0, ap length same.1, length-append room (e ∷ []))
room_fits time old room e (inr did) fits =
    let place = did.1 in
    let within = slice_get_within old place did.2.peer did.2.at in
    let removed = ap length did.3 in
    let parts = length-append (take place old) (drop (place + 1) old) in
    omega (arith, fits, within, removed, parts, length-take place old, length-drop (place + 1) old, length-append room (e ∷ []))

tried_length : (reported : List ℕ) (old tries : List PeerState) → TriesAgain reported old tries → length tries ≡ length old
tried_length reported old tries (inl is) = ap length is ∙ length-map old (resumed_by reported)
tried_length reported old tries (inr is) = ap length is.1

step_fits : (step : ServingStep) (old new : ServingState) → DoesStep step old new → FitsOpen old → FitsOpen new
step_fits (Begins time reported) old new did fits =
    let left = filter (λ e. not (is_to_close e)) old.peers in
    omega (arith, fits, ap (λ s. length s.peers) did.2.2, tried_length reported left did.2.0 did.2.1, filter_fewer (λ e. not (is_to_close e)) old.peers)
step_fits (Accepts number coming gone faults) old new did fits =
    let room = did.4 in
    let added = room_fits old.time old.peers room.0 (new_peer number old.time coming gone faults) room.1 fits in
    subst (λ (s : ServingState). FitsOpen s) (sym room.2) added
step_fits (Visits came) old new did fits = set_fits old new old.place did.1 (ap (λ s. s.peers) did.4) fits
step_fits Leaves old new did fits = set_fits old new did.0 did.2 (ap (λ s. s.peers) did.6) fits
step_fits (Makes number address coming went faults) old new did fits =
    omega (arith, did.0, ap (λ s. length s.peers) did.3, length-append old.peers (new_peer number old.time coming went faults ∷ []))
step_fits (Misses address) old new did fits = omega (arith, fits, ap (λ s. length s.peers) did)
step_fits (Pushes place) old new did fits = set_fits old new place did.1 (ap (λ s. s.peers) did.4) fits
step_fits (Passes could time) old new did fits = omega (arith, fits, ap (λ s. length s.peers) did.1)
step_fits Ends old new did fits = omega (arith, fits, ap (λ s. length s.peers) did, filter_fewer (λ e. eqb (length e.connection.to_go) 0) old.peers)

event_fits : (event : Event) (old new : ServingState) → DoesEvent event old new → FitsOpen old → FitsOpen new
event_fits (Does step) old new did fits = step_fits step old new did fits
event_fits (Hands number message) old new did fits = set_fits old new did.place did.after (ap (λ s. s.peers) did.rest) fits
event_fits (Puts number message) old new did fits = set_fits old new did.place did.after (ap (λ s. s.peers) did.rest) fits
event_fits (Excuses number) old new did fits = set_fits old new did.place _ (ap (λ s. s.peers) did.rest) fits

history_fits : (events : List Event) (old new : ServingState) → HasHappened events old new → FitsOpen old → FitsOpen new
history_fits [] old new same fits = subst (λ (s : ServingState). FitsOpen s) (sym same) fits
history_fits (event ∷ events) old new did fits = history_fits events did.0 new did.2 (event_fits event old did.0 did.1 fits)

pub few_open : (waiting : Waiting) (made : Made) (reported : List ℕ) (moment faults : ℕ) (events : List Event) (new : ServingState) → FewOpen waiting made reported moment faults events new
few_open waiting made reported moment faults events new happened = history_fits events (no_connections waiting made reported moment faults) new happened (omega (arith))
