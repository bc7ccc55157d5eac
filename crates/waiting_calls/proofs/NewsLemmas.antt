-- What is known of data servers, and what the moves of a link say of their silence.
use Rattle.std.proofs.Common.{◌≡◌, ℕ, ◌-◌, ◌*◌, ◌≤◌, ◌⊎◌, inl, inr, Bool, true, false, cond, List, [], ◌∷◌, ◌++◌, Option, Some, None, refl, sym, ap, ◌∙◌, arith, subst}
use Rattle.std.specs.Prelude.{◌&&◌, ◌||◌, ◌==◌, not, nat_lt, nat_le}
use Rattle.std.specs.List.{list_any, AllByRecursion}
use Rattle.std.proofs.lemmas.Option.{same_Some}
use Rattle.std.proofs.lemmas.Bool.{eq-eqb, eqb-true, leb-true, and_parts, or_cases}
use Rattle.cluster_model.specs.declared.ids.NodeId.{NodeId}
use Rattle.cluster_model.specs.declared.ids.NodeId.TheVariants.{Mds, Server, Client}
use Rattle.waiting_calls.specs.declared.server_news.ServerNews.{ServerNews}
use Rattle.waiting_calls.specs.declared.server_news.NewsChange.{NewsChange}
use Rattle.waiting_calls.specs.declared.server_news.NewsChange.TheVariants.{IsCalled, IsHeardFrom, IsGivenUp}
use Rattle.waiting_calls.specs.declared.server_news.TheConstants.{DOWN_LIMIT}
use Rattle.waiting_calls.specs.declared.link_call.TheConstants.{CALL_LIMIT}
use Rattle.waiting_calls.specs.ServerNews.{is_recent, is_down_at, since_at, new_news, changed_news, is_heard_since, has_other_come, is_silent_since, is_silent, is_server_down, is_found_down, with_news, is_called_before, servers_called, servers_heard, servers_given_up}
use Rattle.waiting_calls.specs.LinkMoves.{LinkMove, CallGoesOut, RecordComesIn, CallIsGivenUp, last_moment, move_moment}
use Rattle.waiting_calls.specs.LinkLaws.{IsMuteSince, HasOtherCome, IsSilentBy}
use Rattle.waiting_calls.proofs.CountLemmas.{not_both}

-- ---- servers

abbrev server_number : NodeId → ℕ
server_number Mds = 0
server_number (Server n) = n
server_number (Client k) = k

-- a record came from this server at this moment
abbrev pub HasComeAt : ℕ → ℕ → List LinkMove → Type 0
HasComeAt number at [] = ⊥
HasComeAt number at (CallGoesOut now node xid is_data_read ∷ past) = HasComeAt number at past
HasComeAt number at (RecordComesIn now node answers ∷ past) = ((node ≡ Server number) × (now ≡ at)) ⊎ HasComeAt number at past
HasComeAt number at (CallIsGivenUp now node xid ∷ past) = HasComeAt number at past

-- what is known of a server is what the moves say
pub record IsTold (moves : List LinkMove) (news : ServerNews) : Type 0 where
  pub mute : (since : ℕ) → news.since ≡ Some since → IsMuteSince news.number since moves
  pub heard : (at : ℕ) → news.heard ≡ Some at → HasComeAt news.number at moves
  pub down : news.is_down ≡ true → IsSilentBy news.number (last_moment moves) moves

other_came : (number other since at : ℕ) (moves : List LinkMove) → (other ≡ number → ⊥) → since ≤ at → HasComeAt other at moves → HasOtherCome number since moves
other_came number other since at [] differs behind came = came
other_came number other since at (CallGoesOut now node xid is_data_read ∷ past) differs behind came = other_came number other since at past differs behind came
other_came number other since at (RecordComesIn now node answers ∷ past) differs behind (inl came) = let at_now = came.1 in inl (other, came.0, differs, omega (arith, behind, at_now))
other_came number other since at (RecordComesIn now node answers ∷ past) differs behind (inr came) = inr (other_came number other since at past differs behind came)
other_came number other since at (CallIsGivenUp now node xid ∷ past) differs behind came = other_came number other since at past differs behind came

pub silent_later : (number now then_at : ℕ) (moves : List LinkMove) → now ≤ then_at → IsSilentBy number now moves → IsSilentBy number then_at moves
silent_later number now then_at moves later silent = let long = silent.1 in (silent.0, omega (arith, long, later), silent.2, silent.3)

-- ---- a move of which a server hears nothing

-- the move is no record of this server
abbrev pub IsNoneOf : ℕ → LinkMove → Type 0
IsNoneOf number (CallGoesOut now node xid is_data_read) = Unit {0}
IsNoneOf number (RecordComesIn now node answers) = node ≡ Server number → ⊥
IsNoneOf number (CallIsGivenUp now node xid) = Unit {0}

mute_on : (number since : ℕ) (move : LinkMove) (past : List LinkMove) → IsNoneOf number move → IsMuteSince number since past → IsMuteSince number since (move ∷ past)
mute_on number since (CallGoesOut now node xid is_data_read) past none mute = inr mute
mute_on number since (RecordComesIn now node answers) past none mute = (none, mute)
mute_on number since (CallIsGivenUp now node xid) past none mute = mute

came_on : (number at : ℕ) (move : LinkMove) (past : List LinkMove) → HasComeAt number at past → HasComeAt number at (move ∷ past)
came_on number at (CallGoesOut now node xid is_data_read) past came = came
came_on number at (RecordComesIn now node answers) past came = inr came
came_on number at (CallIsGivenUp now node xid) past came = came

others_on : (number since : ℕ) (move : LinkMove) (past : List LinkMove) → HasOtherCome number since past → HasOtherCome number since (move ∷ past)
others_on number since (CallGoesOut now node xid is_data_read) past came = came
others_on number since (RecordComesIn now node answers) past came = inr came
others_on number since (CallIsGivenUp now node xid) past came = came

pub silent_on : (number now : ℕ) (move : LinkMove) (past : List LinkMove) → IsNoneOf number move → IsSilentBy number now past → IsSilentBy number now (move ∷ past)
silent_on number now move past none silent = (silent.0, silent.1, mute_on number silent.0 move past none silent.2, others_on number silent.0 move past silent.3)

told_on : (move : LinkMove) (past : List LinkMove) (news : ServerNews) → last_moment past ≤ move_moment move → IsNoneOf news.number move → IsTold past news → IsTold (move ∷ past) news
told_on move past news after none told = record {
  mute = λ since is. mute_on news.number since move past none (told.mute since is);
  heard = λ at is. came_on news.number at move past (told.heard at is);
  down = λ is. silent_later news.number (last_moment past) (move_moment move) (move ∷ past) after (silent_on news.number (last_moment past) move past none (told.down is));
}

-- ---- lists

abbrev pub AreTold : List LinkMove → List ServerNews → Type 0
AreTold moves servers = AllByRecursion (λ (news : ServerNews). IsTold moves news) servers

-- one passes the test, and this holds of it
some_passes : (P : ServerNews → Type 0) (test : ServerNews → Bool) (servers : List ServerNews) → list_any test servers ≡ true → AllByRecursion P servers → (news : ServerNews) × (test news ≡ true) × P news
some_passes P test [] is all = absurd cc
some_passes P test (news ∷ servers) is all = by_case (or_cases (test news) (list_any test servers) is) (λ rest. some_passes P test servers rest all.1)
  where
    by_case : (test news ≡ true) ⊎ (list_any test servers ≡ true) → (list_any test servers ≡ true → (x : ServerNews) × (test x ≡ true) × P x) → (x : ServerNews) × (test x ≡ true) × P x
    by_case (inl passes) others = (news, passes, all.0)
    by_case (inr rest) others = others rest

not_one : (b : Bool) → not b ≡ true → b ≡ true → ⊥
not_one true is so = absurd cc
not_one false is so = absurd cc

told_joined : (moves : List LinkMove) (xs ys : List ServerNews) → AreTold moves xs → AreTold moves ys → AreTold moves (xs ++ ys)
told_joined moves [] ys all rest = rest
told_joined moves (x ∷ xs) ys all rest = (all.0, told_joined moves xs ys all.1 rest)

-- ---- which servers are down

module _ (now number : ℕ) (moves : List LinkMove) (servers : List ServerNews) (told : AreTold moves servers) (after : last_moment moves ≤ now) where
  down_says : (news : ServerNews) → IsTold moves news → is_down_at now news ≡ true → IsSilentBy news.number now moves
  down_says news its is =
      let parts = and_parts news.is_down (is_recent now news.given_up) is in
      silent_later news.number (last_moment moves) now moves after (its.down parts.0)

  silent_says : (news : ServerNews) → IsTold moves news → is_silent now servers news ≡ true → IsSilentBy news.number now moves
  silent_says news its is = by_since news.since refl is
    where
      other_heard : (since : ℕ) (other : ServerNews) → IsTold moves other → (other.number ≡ news.number → ⊥) → (o : Option ℕ) → other.heard ≡ o → is_heard_since since o ≡ true → HasOtherCome news.number since moves
      other_heard since other others differs None heard behind = absurd cc
      other_heard since other others differs (Some at) heard behind = other_came news.number other.number since at moves differs (leb-true since at behind) (others.heard at heard)

      by_since : (o : Option ℕ) → news.since ≡ o → is_silent_since now servers news.number o ≡ true → IsSilentBy news.number now moves
      by_since None since silent = absurd cc
      by_since (Some since) is_since silent =
          let parts = and_parts (nat_le DOWN_LIMIT (now - since)) (has_other_come news.number since servers) silent in
          let long : DOWN_LIMIT ≤ now - since = leb-true DOWN_LIMIT (now - since) parts.0 in
          let some = some_passes (λ (x : ServerNews). IsTold moves x) (λ (x : ServerNews). not (x.number == news.number) && is_heard_since since x.heard) servers parts.1 told in
          let other = some.0 in
          let tests = and_parts (not (other.number == news.number)) (is_heard_since since other.heard) some.1 in
          let came = other_heard since other some.2 (λ same. not_one (other.number == news.number) tests.0 (eq-eqb other.number news.number same)) other.heard refl tests.1 in
          (since, omega (arith, long), its.mute since is_since, came)

  -- one that is down is silent
  pub down_silent : is_server_down now number servers ≡ true → IsSilentBy number now moves
  down_silent is =
      let some = some_passes (λ (x : ServerNews). IsTold moves x) (λ (x : ServerNews). x.number == number && is_down_at now x) servers is told in
      let parts = and_parts (some.0.number == number) (is_down_at now some.0) some.1 in
      subst (λ (n : ℕ). IsSilentBy n now moves) (eqb-true some.0.number number parts.0) (down_says some.0 some.2 parts.1)

  -- and one that is found down
  pub found_silent : is_found_down now number servers ≡ true → IsSilentBy number now moves
  found_silent is =
      let some = some_passes (λ (x : ServerNews). IsTold moves x) (λ (x : ServerNews). x.number == number && (is_down_at now x || is_silent now servers x)) servers is told in
      let parts = and_parts (some.0.number == number) (is_down_at now some.0 || is_silent now servers some.0) some.1 in
      subst (λ (n : ℕ). IsSilentBy n now moves) (eqb-true some.0.number number parts.0) (by_case some.0 some.2 (or_cases (is_down_at now some.0) (is_silent now servers some.0) parts.1))
    where
      by_case : (news : ServerNews) → IsTold moves news → (is_down_at now news ≡ true) ⊎ (is_silent now servers news ≡ true) → IsSilentBy news.number now moves
      by_case news its (inl down) = down_says news its down
      by_case news its (inr silent) = silent_says news its silent

-- ---- what happens to one server

told_called : (now number xid : ℕ) (is_data_read : Bool) (past : List LinkMove) (news : ServerNews) → last_moment past ≤ now → news.number ≡ number → IsTold past news → IsTold (CallGoesOut now (Server number) xid is_data_read ∷ past) (changed_news now IsCalled news)
told_called now number xid is_data_read past news after same told = record {
  mute = λ since is. by_since since news.since refl is;
  heard = told.heard;
  down = λ is. silent_later news.number (last_moment past) now (CallGoesOut now (Server number) xid is_data_read ∷ past) after (silent_on news.number (last_moment past) (CallGoesOut now (Server number) xid is_data_read) past tt (told.down is));
}
  where
    by_gap : (since s : ℕ) → news.since ≡ Some s → (b : Bool) → cond b (Some now) (Some s) ≡ Some since → IsMuteSince news.number since (CallGoesOut now (Server number) xid is_data_read ∷ past)
    by_gap since s was true is = inl (ap Server (sym same), same_Some now since is)
    by_gap since s was false is = inr (told.mute since (was ∙ is))

    by_since : (since : ℕ) (o : Option ℕ) → news.since ≡ o → since_at now news.called o ≡ Some since → IsMuteSince news.number since (CallGoesOut now (Server number) xid is_data_read ∷ past)
    by_since since None was is = inl (ap Server (sym same), same_Some now since is)
    by_since since (Some s) was is = by_gap since s was (nat_lt (2 * CALL_LIMIT) (now - news.called)) is

told_new : (now number xid : ℕ) (is_data_read : Bool) (past : List LinkMove) → IsTold (CallGoesOut now (Server number) xid is_data_read ∷ past) (new_news now number)
told_new now number xid is_data_read past = record {
  mute = λ since is. inl (refl, same_Some now since is);
  heard = λ at is. absurd cc;
  down = λ is. absurd cc;
}

told_heard : (now number : ℕ) (answers : Option ℕ) (past : List LinkMove) (news : ServerNews) → news.number ≡ number → IsTold (RecordComesIn now (Server number) answers ∷ past) (changed_news now IsHeardFrom news)
told_heard now number answers past news same = record {
  mute = λ since is. absurd cc;
  heard = λ at is. inl (ap Server (sym same), same_Some now at is);
  down = λ is. absurd cc;
}

told_given_up : (now : ℕ) (node : NodeId) (xid : ℕ) (is_down : Bool) (past : List LinkMove) (news : ServerNews) → (is_down ≡ true → IsSilentBy news.number now past) → IsTold past news → IsTold (CallIsGivenUp now node xid ∷ past) (changed_news now (IsGivenUp is_down) news)
told_given_up now node xid is_down past news silent told = record { mute = told.mute; heard = told.heard; down = λ is. silent_on news.number now (CallIsGivenUp now node xid) past tt (silent is) }

-- ---- what happens to all servers

module _ (move : LinkMove) (past : List LinkMove) where
  all_told : (servers : List ServerNews) → ((news : ServerNews) → IsTold past news → IsTold (move ∷ past) news) → AreTold past servers → AreTold (move ∷ past) servers
  all_told [] keeps told = tt
  all_told (news ∷ servers) keeps told = (keeps news told.0, all_told servers keeps told.1)

  changed_told : (now number : ℕ) (change : NewsChange) (servers : List ServerNews) → ((news : ServerNews) → news.number ≡ number → IsTold past news → IsTold (move ∷ past) (changed_news now change news))
      → ((news : ServerNews) → (news.number ≡ number → ⊥) → IsTold past news → IsTold (move ∷ past) news) → AreTold past servers → AreTold (move ∷ past) (with_news now number change servers)
  changed_told now number change [] hit miss told = tt
  changed_told now number change (news ∷ servers) hit miss told = (by_case (news.number == number) refl, changed_told now number change servers hit miss told.1)
    where
      by_case : (b : Bool) → (news.number == number) ≡ b → IsTold (move ∷ past) (cond b (changed_news now change news) news)
      by_case true is = hit news (eqb-true news.number number is) told.0
      by_case false is = miss news (λ same. not_both (eq-eqb news.number number same) is) told.0

-- a call goes
pub told_behind_call : (now : ℕ) (node : NodeId) (xid : ℕ) (is_data_read : Bool) (past : List LinkMove) (servers : List ServerNews) → last_moment past ≤ now → AreTold past servers
    → AreTold (CallGoesOut now node xid is_data_read ∷ past) (servers_called now node servers)
told_behind_call now Mds xid is_data_read past servers after told = all_told (CallGoesOut now Mds xid is_data_read) past servers (λ news its. told_on (CallGoesOut now Mds xid is_data_read) past news after tt its) told
told_behind_call now (Client k) xid is_data_read past servers after told = all_told (CallGoesOut now (Client k) xid is_data_read) past servers (λ news its. told_on (CallGoesOut now (Client k) xid is_data_read) past news after tt its) told
told_behind_call now (Server number) xid is_data_read past servers after told = by_case (is_called_before number servers)
  where
    by_case : (b : Bool) → AreTold (CallGoesOut now (Server number) xid is_data_read ∷ past) (cond b (with_news now number IsCalled servers) (servers ++ new_news now number ∷ []))
    by_case true =
        changed_told (CallGoesOut now (Server number) xid is_data_read) past now number IsCalled servers (λ news same its. told_called now number xid is_data_read past news after same its)
        (λ news differs its. told_on (CallGoesOut now (Server number) xid is_data_read) past news after tt its) told
    by_case false =
        told_joined (CallGoesOut now (Server number) xid is_data_read ∷ past) servers (new_news now number ∷ [])
        (all_told (CallGoesOut now (Server number) xid is_data_read) past servers (λ news its. told_on (CallGoesOut now (Server number) xid is_data_read) past news after tt its) told)
        (told_new now number xid is_data_read past, tt)

-- a record comes
pub told_behind_record : (now : ℕ) (node : NodeId) (answers : Option ℕ) (past : List LinkMove) (servers : List ServerNews) → last_moment past ≤ now → AreTold past servers → AreTold (RecordComesIn now node answers ∷ past) (servers_heard now node servers)
told_behind_record now Mds answers past servers after told = all_told (RecordComesIn now Mds answers) past servers (λ news its. told_on (RecordComesIn now Mds answers) past news after (λ is. absurd cc) its) told
told_behind_record now (Client k) answers past servers after told = all_told (RecordComesIn now (Client k) answers) past servers (λ news its. told_on (RecordComesIn now (Client k) answers) past news after (λ is. absurd cc) its) told
told_behind_record now (Server number) answers past servers after told =
    changed_told (RecordComesIn now (Server number) answers) past now number IsHeardFrom servers (λ news same its. told_heard now number answers past news same)
    (λ news differs its. told_on (RecordComesIn now (Server number) answers) past news after (λ is. differs (sym (ap server_number is))) its) told

-- a call is given up
pub told_behind_end : (now : ℕ) (node : NodeId) (other : NodeId) (xid : ℕ) (past : List LinkMove) (servers : List ServerNews) → last_moment past ≤ now → AreTold past servers → AreTold (CallIsGivenUp now other xid ∷ past) (servers_given_up now node servers)
told_behind_end now Mds other xid past servers after told = all_told (CallIsGivenUp now other xid) past servers (λ news its. told_on (CallIsGivenUp now other xid) past news after tt its) told
told_behind_end now (Client k) other xid past servers after told = all_told (CallIsGivenUp now other xid) past servers (λ news its. told_on (CallIsGivenUp now other xid) past news after tt its) told
told_behind_end now (Server number) other xid past servers after told =
    changed_told (CallIsGivenUp now other xid) past now number (IsGivenUp (is_found_down now number servers)) servers
    (λ news same its. told_given_up now other xid (is_found_down now number servers) past news (λ is. subst (λ (n : ℕ). IsSilentBy n now past) (sym same) (found_silent now number past servers told after is)) its)
    (λ news differs its. told_on (CallIsGivenUp now other xid) past news after tt its) told

-- ---- one that gave a record

pub heard_up : (then_at now number : ℕ) (servers : List ServerNews) → is_server_down now number (with_news then_at number IsHeardFrom servers) ≡ false
heard_up then_at now number [] = refl
heard_up then_at now number (news ∷ servers) = by_case (news.number == number) refl (heard_up then_at now number servers)
  where
    by_case : (b : Bool) → (news.number == number) ≡ b → is_server_down now number (with_news then_at number IsHeardFrom servers) ≡ false
        → is_server_down now number (cond b (changed_news then_at IsHeardFrom news) news ∷ with_news then_at number IsHeardFrom servers) ≡ false
    by_case true is rest = rw is rest
    by_case false is rest = rw is rest
