-- Where a call stands in a list, and the list without it; and what giving up a call to a data server leaves.
use Rattle.std.proofs.Common.{◌≡◌, ℕ, suc, ◌+◌, ◌<◌, Bool, true, false, cond, List, [], ◌∷◌, ◌++◌, length, Option, Some, None, refl, sym, ap, ◌∙◌, arith, subst}
use Rattle.std.specs.Prelude.{remove, not, OnSome}
use Rattle.std.specs.List.{filter, position, position_from}
use Rattle.std.proofs.lemmas.Iterator.Adapters.{position_from-zero}
use Rattle.std.proofs.lemmas.Option.{same_Some}
use Rattle.cluster_model.specs.declared.ids.NodeId.{NodeId}
use Rattle.waiting_calls.specs.declared.link_call.LinkCall.{LinkCall}
use Rattle.waiting_calls.specs.declared.server_news.ServerNews.{ServerNews}
use Rattle.waiting_calls.specs.declared.server_news.NewsChange.TheVariants.{IsGivenUp}
use Rattle.cluster_model.specs.declared.ids.NodeId.TheVariants.{Server}
use Rattle.waiting_calls.specs.ServerNews.{is_found_down, with_news}
use Rattle.waiting_calls.specs.LinkCalls.{LinkCallsValue, is_link_call, is_read_of, calls_without, node_given_up, with_reads_over_if, with_servers}

module _ (node : NodeId) (xid : ℕ) where
  abbrev test : LinkCall → Bool
  test call = is_link_call node xid call

  found_from : (calls : List LinkCall) (i place : ℕ) → position_from test i calls ≡ Some place → (k : ℕ) × (place ≡ i + k) × (k < length calls) × (calls_without node xid calls ≡ remove calls k)
  found_from [] i place is = absurd (cc (is))
  found_from (call ∷ calls) i place is = by_case (test call) refl is (found_from calls (i + 1) place)
    where
      by_case : (b : Bool) → test call ≡ b → cond b (Some i) (position_from test (i + 1) calls) ≡ Some place
          → (position_from test (i + 1) calls ≡ Some place → (k : ℕ) × (place ≡ (i + 1) + k) × (k < length calls) × (calls_without node xid calls ≡ remove calls k))
          → (k : ℕ) × (place ≡ i + k) × (k < length (call ∷ calls)) × (calls_without node xid (call ∷ calls) ≡ remove (call ∷ calls) k)
      by_case true passes is rest = let same : i ≡ place = same_Some i place is in (0, omega arith, omega arith, rw passes refl)
      by_case false fails is rest = let r = rest is in let at = r.1 in let below = r.2 in (suc r.0, omega arith, omega arith, rw fails (ap (λ cs. call ∷ cs) r.3))

  pub without_found : (calls : List LinkCall) (place : ℕ) → position test calls ≡ Some place → (place < length calls) × (calls_without node xid calls ≡ remove calls place)
  without_found calls place is =
      let r = found_from calls 0 place (sym (position_from-zero test calls) ∙ is) in
      let at = r.1 in
      let same : r.0 ≡ place = omega arith in
      let below = r.2 in
      (omega arith, r.3 ∙ ap (remove calls) same)

  missing_from : (calls : List LinkCall) (i : ℕ) → position_from test i calls ≡ None → calls_without node xid calls ≡ calls
  missing_from [] i is = refl
  missing_from (call ∷ calls) i is = by_case (test call) refl is (missing_from calls (i + 1))
    where
      by_case : (b : Bool) → test call ≡ b → cond b (Some i) (position_from test (i + 1) calls) ≡ None
          → (position_from test (i + 1) calls ≡ None → calls_without node xid calls ≡ calls) → calls_without node xid (call ∷ calls) ≡ call ∷ calls
      by_case true passes is rest = absurd (cc (is))
      by_case false fails is rest = rw fails (ap (λ cs. call ∷ cs) (rest is))

  pub without_missing : (calls : List LinkCall) → position test calls ≡ None → calls_without node xid calls ≡ calls
  without_missing calls is = missing_from calls 0 (sym (position_from-zero test calls) ∙ is)

-- what holds where something was removed
pub removed : (r : Option LinkCall) (call : LinkCall) (P : Type 0) → OnSome r P → r ≡ Some call → P
removed r call P on is = subst (λ (o : Option LinkCall). OnSome o P) is on

-- the READs of a server that is down are moved
pub gave_up : (now number : ℕ) (c : LinkCallsValue) (down : Bool) (waiting at_once : List LinkCall) (servers : List ServerNews) → down ≡ true → down ≡ is_found_down now number c.servers
    → servers ≡ with_news now number (IsGivenUp down) c.servers → waiting ≡ filter (λ call. not (is_read_of number call)) c.waiting → at_once ≡ c.at_once ++ filter (λ call. is_read_of number call) c.waiting
    → (let x : LinkCallsValue = record { waiting = waiting; at_once = at_once; servers = servers; highest = c.highest } in x) ≡ node_given_up now (Server number) c
gave_up now number c down waiting at_once servers so found news waits over =
    let news' : servers ≡ with_news now number (IsGivenUp (is_found_down now number c.servers)) c.servers = news ∙ ap (λ (b : Bool). with_news now number (IsGivenUp b) c.servers) found in
    let found_so : is_found_down now number c.servers ≡ true = sym found ∙ so in
    (λ i. record { waiting = waits i; at_once = over i; servers = news' i; highest = c.highest })
    ∙ ap (λ (b : Bool). with_reads_over_if b number (with_servers (with_news now number (IsGivenUp (is_found_down now number c.servers)) c.servers) c)) (sym found_so)
