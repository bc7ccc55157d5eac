-- An id of a client is given to one owner and verifier, in every run.
use Rattle.std.proofs.Common.{◌≡◌, ◌≤◌, ℕ, ◌+◌, List, [], ◌∷◌, ◌++◌, refl, sym, ap, subst, ◌∙◌, arith}
use Rattle.ff_xdr.specs.Form.{Value, long}
use Rattle.cluster_model.specs.Members.{IsOneOf}
use Rattle.device_addr.specs.Universal.{AddressValue}
use Rattle.nfs4_compound.specs.Args.{argop4}
use Rattle.nfs4_session.specs.Clients.{ClientState, SessionsState, client_id}
use Rattle.nfs4_session.specs.ExchangeIds.{new_client}
use Rattle.nfs4_session.specs.TableLaw.{TableMove, ExchangeId as Exchanges, table_after}
use Rattle.client_mds_calls.specs.MdsCalls.{ExchangeId}
use Rattle.mds_rule.specs.MdsStates.{MdsValue, new_mds}
use Rattle.mds_rule.specs.Goes.{calls_out}
use Rattle.mds_walk.specs.MdsRuns.{MdsInput, MdsEvent, Hears, after_event, run_from}
use Rattle.mds_receive.specs.MdsReceive.{IncomingValue, IsCompound, incoming_of}
use Rattle.client_compounds.specs.MdsResults.{in_arm}
use Rattle.mds_replies.specs.ClientCalls.{server_after}
use Rattle.mds_replies.specs.ClientIds.{GivesId, IdsAreOwn}
use Rattle.mds_replies.proofs.Periods.{run_behind}
use Rattle.mds_replies.proofs.OutCalls.{are_called}
use Rattle.mds_replies.proofs.TableKeys.{Came, Was, IsNew}
use Rattle.mds_replies.proofs.TableRuns.{run_keeps, out_keeps}
use Rattle.mds_replies.proofs.ClientRecords.{IsTable, IsOwn, table_keeps, own_keeps, came}
use Rattle.mds_replies.proofs.ReplySent.{event_is}
use Rattle.mds_replies.proofs.ExchangeRuns.{IsGiven, OfOld, OfNew, Gave, gave}

-- ---- the table of every run

new_table : (servers : List AddressValue) (mirrors : ℕ) → IsTable (new_mds servers mirrors).sessions
new_table servers mirrors = record { boot = refl; few = omega arith; ids = λ c inside. absurd inside; sequences = λ c inside. absurd inside; pairs = λ c d inside there one. absurd inside }

pub table_of_run : (servers : List AddressValue) (mirrors : ℕ) (events : List MdsEvent) → IsTable (server_after servers mirrors events).sessions
table_of_run servers mirrors events = run_keeps IsTable (λ s move i. table_keeps s move i) (new_mds servers mirrors) events (new_table servers mirrors)

-- ---- an id that was given is its owner's from then on

module _ (id : ℕ) (owner verifier : List ℕ) where
  abbrev Owns : SessionsState → Type 0
  Owns s = IsTable s × IsOwn id owner verifier s

  owns_keeps : (s : SessionsState) (move : TableMove) → Owns s → Owns (table_after s move)
  owns_keeps s move i = (table_keeps s move i.0, own_keeps s move i.0 id owner verifier i.1)

  pub run_owns : (m : MdsValue) (events : List MdsEvent) → Owns m.sessions → Owns (run_from m events).mds.sessions
  run_owns m events i = run_keeps Owns owns_keeps m events i

  pub out_owns : (m : MdsValue) → Owns m.sessions → Owns (calls_out [] m).mds.sessions
  out_owns m i = out_keeps Owns owns_keeps m i

module _ (s : SessionsState) (t : IsTable s) (owner verifier : List ℕ) (now : ℕ) where
  abbrev move : TableMove
  move = Exchanges verifier owner now

  -- behind the call
  old_own : (c : ClientState) → IsOneOf c s.clients → c.owner ≡ owner → c.verifier ≡ verifier → IsOwn c.id owner verifier s
  old_own c inside own its = record { given = t.ids c inside; its = λ d there same. let both = t.pairs d c there inside same in (both.0 ∙ own, both.1 ∙ its) }

  new_own : (id : ℕ) → id ≡ client_id 1 (s.ids + 1) → id ≤ client_id 1 (table_after s (Exchanges verifier owner now)).ids → IsOwn id owner verifier (table_after s (Exchanges verifier owner now))
  new_own id new given = record { given = given; its = λ d inside same. by_it d (came s (Exchanges verifier owner now) d inside) same }
    where
      not_old : (d c : ClientState) → IsOneOf c s.clients → d.id ≡ c.id → d.id ≡ id → ⊥
      not_old d c inside old same = let within : c.id ≤ client_id 1 s.ids = t.ids c inside in omega (arith, within, old, same, new)

      by_it : (d : ClientState) → Came s (table_after s (Exchanges verifier owner now)).ids verifier owner d → d.id ≡ id → (d.owner ≡ owner) × (d.verifier ≡ verifier)
      by_it d (Was c inside key) same = absurd (not_old d c inside key.id same)
      by_it d (IsNew at is more) same = (ap (λ (c : ClientState). c.owner) is, ap (λ (c : ClientState). c.verifier) is)

  new_number : (g : ClientState) → g ≡ new_client s verifier owner now → g.id ≡ client_id 1 (s.ids + 1)
  new_number g is = ap (λ (c : ClientState). c.id) is ∙ ap (λ (n : ℕ). client_id n (s.ids + 1)) t.boot

  -- what was given before is the same owner's
  same_owner : (g : ClientState) (id : ℕ) (other another : List ℕ) → (ids : ℕ) → IsGiven s verifier owner now ids g → g.id ≡ id → IsOwn id other another s → (other ≡ owner) × (another ≡ verifier)
  same_owner g id other another ids (OfOld c inside own its number sequence) is o = let both = o.its c inside (sym number ∙ is) in (sym both.0 ∙ own, sym both.1 ∙ its)
  same_owner g id other another ids (OfNew new more) is o = absurd (not_given (new_number g new) is o.given)
    where
      not_given : g.id ≡ client_id 1 (s.ids + 1) → g.id ≡ id → id ≤ client_id 1 s.ids → ⊥
      not_given new same given = omega (arith, new, same, given)

-- ---- two places of one list

pub data Places {A : Type 0} (before : List A) (e : A) (early : List A) (f : A) : Type 0 where
  AreSame : before ≡ early → e ≡ f → Places before e early f
  IsFirst : (mid : List A) → early ≡ before ++ e ∷ mid → Places before e early f
  IsSecond : (mid : List A) → before ≡ early ++ f ∷ mid → Places before e early f

abbrev head_or : {A : Type 0} → A → List A → A
head_or x [] = x
head_or x (y ∷ ys) = y

abbrev tail_of : {A : Type 0} → List A → List A
tail_of [] = []
tail_of (x ∷ xs) = xs

places : {A : Type 0} (before after : List A) (e : A) (early late : List A) (f : A) → before ++ e ∷ after ≡ early ++ f ∷ late → Places before e early f
places {A = A} [] after e [] late f is = AreSame refl (ap (head_or e) is)
places {A = A} [] after e (y ∷ early) late f is = IsFirst early (ap (λ (x : A). x ∷ early) (sym (ap (head_or e) is)))
places {A = A} (x ∷ before) after e [] late f is = IsSecond before (ap (λ (z : A). z ∷ before) (ap (head_or x) is))
places {A = A} (x ∷ before) after e (y ∷ early) late f is = behind (places before after e early late f (ap tail_of is))
  where
    behind : Places before e early f → Places (x ∷ before) e (y ∷ early) f
    behind (AreSame same one) = AreSame (ap (λ (z : A). z ∷ before) (ap (head_or x) is) ∙ ap (λ l. y ∷ l) same) one
    behind (IsFirst mid rest) = IsFirst mid (ap (λ l. y ∷ l) rest ∙ ap (λ (z : A). z ∷ (before ++ e ∷ mid)) (sym (ap (head_or x) is)))
    behind (IsSecond mid rest) = IsSecond mid (ap (λ l. x ∷ l) rest ∙ ap (λ (z : A). z ∷ (early ++ f ∷ mid)) (ap (head_or x) is))

-- ---- an id that is given in two events

abbrev bytes_in : MdsInput → List ℕ
bytes_in (Hears node bytes) = bytes
bytes_in other = []

abbrev ops_in : IncomingValue → List (Value argop4)
ops_in (IsCompound xid v) = v.ops.values
ops_in other = []

abbrev exchanged_in : List (Value argop4) → List ℕ × ℕ
exchanged_in [] = ([], 0)
exchanged_in (op ∷ ops) = in_arm 42 argop4 (λ (verifier, (owner, rest)). (owner, verifier)) ([], 0) op

module _ (servers : List AddressValue) (mirrors : ℕ) where
  pub gave_in : (before : List MdsEvent) (e : MdsEvent) (owner : List ℕ) (verifier client : ℕ) (g : GivesId servers mirrors before e owner verifier client)
      → Gave e (server_after servers mirrors before) owner verifier client g.sequence
  gave_in before e owner verifier client g =
      let m : MdsValue = server_after servers mirrors before in
      gave e m g.node g.xid owner verifier client g.sequence (table_of_run servers mirrors before) (are_called servers mirrors before) (event_is e m g.node g.xid owner (ExchangeId verifier) g.came) g.reply g.sent g.says

  -- behind the event it is this owner's
  own_behind : (before : List MdsEvent) (e : MdsEvent) (owner : List ℕ) (verifier client sequence : ℕ) → Gave e (server_after servers mirrors before) owner verifier client sequence
      → Owns client owner (long verifier) (after_event e (server_after servers mirrors before)).mds.sessions
  own_behind before e owner verifier client sequence g =
      let m : MdsValue = server_after servers mirrors before in
      let s : SessionsState = m.sessions in
      let t : IsTable s = table_of_run servers mirrors before in
      let now : Owns client owner (long verifier) (table_after s (Exchanges (long verifier) owner e.now)) = (table_keeps s (Exchanges (long verifier) owner e.now) t, by_it s t g.g g.id g.is) in
      subst (λ (x : MdsValue). Owns client owner (long verifier) x.sessions) (sym g.mds) (out_owns client owner (long verifier) (record m { sessions = table_after s (Exchanges (long verifier) owner e.now) }) now)
    where
      within : (s : SessionsState) (id ids : ℕ) → id ≡ client_id 1 (s.ids + 1) → ids ≡ s.ids + 1 → id ≤ client_id 1 ids
      within s id ids new more = omega (arith, new, more)

      by_it : (s : SessionsState) (t : IsTable s) (x : ClientState) → x.id ≡ client → IsGiven s (long verifier) owner e.now (table_after s (Exchanges (long verifier) owner e.now)).ids x
          → IsOwn client owner (long verifier) (table_after s (Exchanges (long verifier) owner e.now))
      by_it s t x is (OfOld c inside own its number sequence) =
          subst (λ (n : ℕ). IsOwn n owner (long verifier) (table_after s (Exchanges (long verifier) owner e.now))) (sym number ∙ is)
          (own_keeps s (Exchanges (long verifier) owner e.now) t c.id owner (long verifier) (old_own s t owner (long verifier) e.now c inside own its))
      by_it s t x is (OfNew new more) =
          let number : client ≡ client_id 1 (s.ids + 1) = sym is ∙ new_number s t owner (long verifier) e.now x new in
          new_own s t owner (long verifier) e.now client number (within s client (table_after s (Exchanges (long verifier) owner e.now)).ids number more)

  -- where another is given it later, it is the same
  later : (before mid : List MdsEvent) (e f : MdsEvent) (owner other : List ℕ) (verifier another client : ℕ) → GivesId servers mirrors before e owner verifier client
      → GivesId servers mirrors (before ++ e ∷ mid) f other another client → (owner ≡ other) × (long verifier ≡ long another)
  later before mid e f owner other verifier another client g h =
      let m : MdsValue = server_after servers mirrors before in
      let n : MdsValue = server_after servers mirrors (before ++ e ∷ mid) in
      let second : Gave f n other another client h.sequence = gave_in (before ++ e ∷ mid) f other another client h in
      let owns : Owns client owner (long verifier) n.sessions =
      subst (λ (x : MdsValue). Owns client owner (long verifier) x.sessions) (sym (run_behind (new_mds servers mirrors) before (e ∷ mid)))
      (run_owns client owner (long verifier) (after_event e m).mds mid (own_behind before e owner verifier client g.sequence (gave_in before e owner verifier client g))) in
      same_owner n.sessions (table_of_run servers mirrors (before ++ e ∷ mid)) other (long another) f.now second.g client owner (long verifier) _ second.is second.id owns.1

  -- one event has one compound
  at_once : (before : List MdsEvent) (e : MdsEvent) (owner other : List ℕ) (verifier another client : ℕ) → GivesId servers mirrors before e owner verifier client → GivesId servers mirrors before e other another client
      → (owner ≡ other) × (long verifier ≡ long another)
  at_once before e owner other verifier another client g h =
      let bytes : g.came.bytes ≡ h.came.bytes = ap bytes_in (sym g.came.input ∙ h.came.input) in
      let ops : g.came.v.ops.values ≡ h.came.v.ops.values = ap ops_in (sym g.came.compound ∙ ap incoming_of bytes ∙ h.came.compound) in
      let same : (owner, verifier) ≡ (other, another) = ap exchanged_in (sym g.came.is.ops ∙ ops ∙ h.came.is.ops) in
      (ap (λ (p : List ℕ × ℕ). p.0) same, ap (λ (p : List ℕ × ℕ). long p.1) same)

  by_places : (before early : List MdsEvent) (e f : MdsEvent) (owner other : List ℕ) (verifier another client : ℕ) → Places before e early f → GivesId servers mirrors before e owner verifier client
      → GivesId servers mirrors early f other another client → (owner ≡ other) × (long verifier ≡ long another)
  by_places before early e f owner other verifier another client (AreSame same one) g h =
      at_once before e owner other verifier another client g
      (subst (λ (x : MdsEvent). GivesId servers mirrors before x other another client) (sym one) (subst (λ (l : List MdsEvent). GivesId servers mirrors l f other another client) (sym same) h))
  by_places before early e f owner other verifier another client (IsFirst mid is) g h = later before mid e f owner other verifier another client g (subst (λ (l : List MdsEvent). GivesId servers mirrors l f other another client) is h)
  by_places before early e f owner other verifier another client (IsSecond mid is) g h =
      let both = later early mid f e other owner another verifier client h (subst (λ (l : List MdsEvent). GivesId servers mirrors l e owner verifier client) is g) in
      (sym both.0, sym both.1)

pub ids_are_own : IdsAreOwn
ids_are_own servers mirrors events calls before after e early late f first second owner other verifier another client g h =
    by_places servers mirrors before early e f owner other verifier another client (places before after e early late f (sym first ∙ second)) g h
