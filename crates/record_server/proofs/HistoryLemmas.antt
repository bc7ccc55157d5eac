-- What each event leaves of all connections and their accounts.
use Rattle.std.proofs.Common.{◌≡◌, ◌≢◌, inl, inr, ℕ, ◌+◌, Bool, true, false, not, List, [], ◌∷◌, ◌++◌, length, refl, sym, ap, subst, ◌∙◌, arith, eqb, Option, Some}
use Rattle.std.specs.Prelude.{slice_get, slice_set, cond}
use Rattle.std.specs.List.{filter}
use Rattle.std.proofs.lemmas.Bool.{eq-eqb, ne_eqb, cond_both}
use Rattle.record_link.specs.Peers.{PeerState, new_peer, resumed, excused_peer, is_to_close, is_to_write}
use Rattle.record_server.specs.Network.{Waiting, Made}
use Rattle.record_server.specs.Server.{ServingState, no_connections, was_reported, resumed_by, TriesAgain, MakesRoom, ServingStep, Begins, Accepts, Visits, Leaves, Makes, Misses, Pushes, Passes, Ends, DoesStep}
use Rattle.record_server.specs.History.{Account, Accounts, new_account, with_account, with_message, with_sent, no_accounts, account_step, account_event, accounts_after, Event, Does, Hands, Puts, Excuses, DoesEvent, HasHappened, AllStand}
use Rattle.record_server.proofs.AccountLemmas.{Good, writes_go, visit_goes, resumed_good, excused_good, put_good, handed_good, new_good}
use Rattle.record_server.proofs.NumberLemmas.{resumed_number}
use Rattle.record_server.proofs.PeerLists.{Each, each_at, each_set, each_removed, each_push, each_filter, each_map}

-- ---- the account of a number

account_same : (accounts : Accounts) (number : ℕ) (a : Account) → with_account accounts number a number ≡ a
account_same accounts number a = let test : eqb number number ≡ true = eq-eqb number number refl in ap (λ (t : Bool). cond t a (accounts number)) test

account_other : (accounts : Accounts) (number : ℕ) (a : Account) (k : ℕ) → k ≢ number → with_account accounts number a k ≡ accounts k
account_other accounts number a k other = let test : eqb k number ≡ false = ne_eqb k number other in ap (λ (t : Bool). cond t a (accounts k)) test

-- ---- all connections

abbrev pub AllGood : Accounts → ServingState → Type 0
AllGood accounts s = Each accounts 0 s.peers s.given

same_good : (accounts : Accounts) (old new : ServingState) (peers : List PeerState) → new.peers ≡ peers → new.given ≡ old.given → Each accounts 0 peers old.given → AllGood accounts new
same_good accounts old new peers is given all = subst (λ (n : ℕ). Each accounts 0 new.peers n) (sym given) (subst (λ (l : List PeerState). Each accounts 0 l old.given) (sym is) all)

-- one became another of its number, and its account with it
module _ (accounts accounts' : Accounts) (old new : ServingState) (place : ℕ) (e after : PeerState) (at : slice_get old.peers place ≡ Some e) (peers : new.peers ≡ slice_set old.peers place after) (given : new.given ≡ old.given)
    (number : after.number ≡ e.number) where
  set_good : (Good (accounts e.number) e → Good (accounts' e.number) after) → ((k : ℕ) → k ≢ e.number → accounts' k ≡ accounts k) → AllGood accounts old → AllGood accounts' new
  set_good good agree all =
      same_good accounts' old new (slice_set old.peers place after) peers given
      (each_set accounts accounts' 0 old.peers old.given place e after at number (good (each_at accounts 0 old.peers old.given place e at all).1) agree all)

-- the account of its number became another
module _ (accounts : Accounts) (old new : ServingState) (number : ℕ) (f : Account → Account) (place : ℕ) (e after : PeerState) (at : slice_get old.peers place ≡ Some e) (peers : new.peers ≡ slice_set old.peers place after)
    (given : new.given ≡ old.given) (same : after.number ≡ e.number) (numbered : e.number ≡ number) where
  account_good : ((a : Account) → Good a e → Good (f a) after) → AllGood accounts old → AllGood (with_account accounts number (f (accounts number))) new
  account_good good all = set_good accounts (with_account accounts number (f (accounts number))) old new place e after at peers given same now other all
    where
      now : Good (accounts e.number) e → Good (with_account accounts number (f (accounts number)) e.number) after
      now was =
          subst (λ (n : ℕ). Good (with_account accounts number (f (accounts number)) n) after) (sym numbered)
          (subst (λ (a : Account). Good a after) (sym (account_same accounts number (f (accounts number)))) (good (accounts number) (subst (λ (n : ℕ). Good (accounts n) e) numbered was)))

      other : (k : ℕ) → k ≢ e.number → with_account accounts number (f (accounts number)) k ≡ accounts k
      other k differs = account_other accounts number (f (accounts number)) k (λ is. differs (is ∙ sym numbered))

-- ---- the steps

room_good : (accounts : Accounts) (time given : ℕ) (old new : List PeerState) → MakesRoom time old new → Each accounts 0 old given → Each accounts 0 new given
room_good accounts time given old new (inl same) all = subst (λ (l : List PeerState). Each accounts 0 l given) (sym same.1) all
room_good accounts time given old new (inr did) all = subst (λ (l : List PeerState). Each accounts 0 l given) (sym did.3) (each_removed accounts 0 old given did.1 did.2.peer did.2.at all)

-- a new one under the next number
opened_good : (accounts : Accounts) (given time number : ℕ) (coming gone : Option (List ℕ)) (faults : ℕ) (room : List PeerState) → number ≡ given + 1 → Each accounts 0 room given
    → Each (with_account accounts number (new_account coming gone)) 0 (room ++ new_peer number time coming gone faults ∷ []) number
opened_good accounts given time number coming gone faults room next all =
    let a = new_account coming gone in
    let peer = new_peer number time coming gone faults in
    let good : Good (with_account accounts number a number) peer = subst (λ (b : Account). Good b peer) (sym (account_same accounts number a)) (new_good number time coming gone faults) in
    each_push accounts (with_account accounts number a) 0 room given peer next good (λ k most. account_other accounts number a k (λ is. absurd (omega (arith, is, most, next)))) all

resumed_by_good : (reported : List ℕ) (a : Account) (e : PeerState) → Good a e → Good a (resumed_by reported e)
resumed_by_good reported a e good = cond_both (was_reported reported e.number) (resumed e) e (λ (x : PeerState). Good a x) (λ is. resumed_good a e good) (λ is. good)

tried_good : (accounts : Accounts) (reported : List ℕ) (old tries : List PeerState) (given : ℕ) → TriesAgain reported old tries → Each accounts 0 old given → Each accounts 0 tries given
tried_good accounts reported old tries given (inl is) all =
    subst (λ (es : List PeerState). Each accounts 0 es given) (sym is) (each_map accounts (resumed_by reported) (resumed_number reported) (resumed_by_good reported) 0 old given all)
tried_good accounts reported old tries given (inr is) all = subst (λ (es : List PeerState). Each accounts 0 es given) (sym is.1) all

step_good : (accounts : Accounts) (step : ServingStep) (old new : ServingState) → DoesStep step old new → AllGood accounts old → AllGood (account_step step accounts) new
step_good accounts (Begins time reported) old new did all =
    let left = each_filter accounts (λ e. not (is_to_close e)) 0 old.peers old.given all in
    same_good accounts old new did.2.0 (ap (λ s. s.peers) did.2.2) (ap (λ s. s.given) did.2.2)
    (tried_good accounts reported (filter (λ e. not (is_to_close e)) old.peers) did.2.0 old.given did.2.1 left)
step_good accounts (Accepts number coming gone faults) old new did all =
    let room = did.4 in
    let opened = opened_good accounts old.given old.time number coming gone faults room.0 did.1 (room_good accounts old.time old.given old.peers room.0 room.1 all) in
    subst (λ (s : ServingState). AllGood (with_account accounts number (new_account coming gone)) s) (sym room.2) opened
step_good accounts (Visits came) old new did all =
    let e = did.0 in
    let goes = visit_goes (accounts e.number) old.time e did.1 came did.3 in
    set_good accounts accounts old new old.place e did.1 did.2 (ap (λ s. s.peers) did.4) (ap (λ s. s.given) did.4) goes.number goes.good (λ k other. refl) all
step_good accounts Leaves old new did all =
    let e = did.1 in
    let goes = writes_go (accounts e.number) (is_to_write old.time e) old.time e did.2 did.5 in
    set_good accounts accounts old new did.0 e did.2 did.4 (ap (λ s. s.peers) did.6) (ap (λ s. s.given) did.6) goes.number goes.good (λ k other. refl) all
step_good accounts (Makes number address coming went faults) old new did all =
    let opened = opened_good accounts old.given old.time number coming went faults old.peers did.1 all in
    subst (λ (s : ServingState). AllGood (with_account accounts number (new_account coming went)) s) (sym did.3) opened
step_good accounts (Misses address) old new did all = same_good accounts old new old.peers (ap (λ s. s.peers) did) (ap (λ s. s.given) did) all
step_good accounts (Pushes place) old new did all =
    let e = did.0 in
    let goes = writes_go (accounts e.number) (is_to_write old.time (resumed e)) old.time (resumed e) did.1 did.3 in
    set_good accounts accounts old new place e did.1 did.2 (ap (λ s. s.peers) did.4) (ap (λ s. s.given) did.4) goes.number (λ good. goes.good (resumed_good (accounts e.number) e good)) (λ k other. refl) all
step_good accounts (Passes could time) old new did all = same_good accounts old new old.peers (ap (λ s. s.peers) did.1) (ap (λ s. s.given) did.1) all
step_good accounts Ends old new did all =
    same_good accounts old new (filter (λ e. eqb (length e.connection.to_go) 0) old.peers) (ap (λ s. s.peers) did) (ap (λ s. s.given) did) (each_filter accounts (λ e. eqb (length e.connection.to_go) 0) 0 old.peers old.given all)

event_good : (accounts : Accounts) (event : Event) (old new : ServingState) → DoesEvent event old new → AllGood accounts old → AllGood (account_event event accounts) new
event_good accounts (Does step) old new did all = step_good accounts step old new did all
event_good accounts (Hands number message) old new did all =
    account_good accounts old new number (λ a. with_message a message) did.place did.peer did.after did.at (ap (λ s. s.peers) did.rest) (ap (λ s. s.given) did.rest) (ap (λ e. e.number) did.hands.3) did.numbered
    (λ a good. handed_good a message did.peer did.after did.hands good) all
event_good accounts (Puts number message) old new did all =
    account_good accounts old new number (λ a. with_sent a message) did.place did.found.peer did.after did.found.at (ap (λ s. s.peers) did.rest) (ap (λ s. s.given) did.rest) (ap (λ e. e.number) did.puts.1) did.found.numbered
    (λ a good. put_good a message did.found.peer did.after did.puts good) all
event_good accounts (Excuses number) old new did all =
    let e = did.found.peer in
    set_good accounts accounts old new did.place e (excused_peer e) did.found.at (ap (λ s. s.peers) did.rest) (ap (λ s. s.given) did.rest) refl (λ good. excused_good (accounts e.number) e good) (λ k other. refl) all

history_good : (accounts : Accounts) (events : List Event) (old new : ServingState) → HasHappened events old new → AllGood accounts old → AllGood (accounts_after events accounts) new
history_good accounts [] old new same all = subst (λ (s : ServingState). AllGood accounts s) (sym same) all
history_good accounts (event ∷ events) old new did all = history_good (account_event event accounts) events did.0 new did.2 (event_good accounts event old did.0 did.1 all)

pub all_stand : (waiting : Waiting) (made : Made) (reported : List ℕ) (moment faults : ℕ) (events : List Event) (new : ServingState) → AllStand waiting made reported moment faults events new
all_stand waiting made reported moment faults events new happened i e there =
    (each_at (accounts_after events no_accounts) 0 new.peers new.given i e there (history_good no_accounts events (no_connections waiting made reported moment faults) new happened (omega (arith)))).1.0
