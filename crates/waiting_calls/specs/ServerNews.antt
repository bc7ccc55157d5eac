-- What is known of the silence of data servers that were called.
--
-- A server is found down where a call to it is given up, calls to it were out all along for six seconds in which nothing came from it, and
-- something came from another server meanwhile, so that it is not this node that hears nothing.
use Rattle.std.specs.Prelude.{ℕ, ◌-◌, ◌*◌, ◌==◌, ◌&&◌, ◌||◌, not, nat_lt, nat_le, Bool, false, if◌then◌else◌, List, [], ◌∷◌, ◌++◌, map, Option, None, Some}
use Rattle.std.specs.List.{list_any}
use Rattle.cluster_model.specs.declared.ids.NodeId.{NodeId}
use Rattle.cluster_model.specs.declared.ids.NodeId.TheVariants.{Mds, Server, Client}
use Rattle.waiting_calls.specs.declared.link_call.TheConstants.{CALL_LIMIT}
use Rattle.waiting_calls.specs.declared.server_news.TheConstants.{DOWN_LIMIT}
use Rattle.waiting_calls.specs.declared.server_news.ServerNews.{ServerNews}
use Rattle.waiting_calls.specs.declared.server_news.NewsChange.{NewsChange}
use Rattle.waiting_calls.specs.declared.server_news.NewsChange.TheVariants.{IsCalled, IsHeardFrom, IsGivenUp}

-- ---- one server

-- less than six seconds ago
abbrev pub is_recent : ℕ → Option ℕ → Bool
is_recent now None = false
is_recent now (Some moment) = nat_lt (now - moment) DOWN_LIMIT

-- It is down at this moment: it was found down, and the last call to it that was given up was so not long ago.
abbrev pub is_down_at : ℕ → ServerNews → Bool
is_down_at now news = news.is_down && is_recent now news.given_up

-- Since when calls to it are out all along, where one goes now. One is given up two seconds behind its sending, and goes out again then or at
-- the next moment; so behind a longer gap none was out.
abbrev pub since_at : ℕ → ℕ → Option ℕ → Option ℕ
since_at now called None = Some now
since_at now called (Some since) = if nat_lt (2 * CALL_LIMIT) (now - called) then Some now else Some since

-- one that was never called before
abbrev pub new_news : ℕ → ℕ → ServerNews
new_news now number = record { number = number; heard = None; since = Some now; called = now; given_up = None; is_down = false }

-- A call goes to it; a record came from it; or a call to it was given up, and it is down from now on, or is not.
abbrev pub changed_news : ℕ → NewsChange → ServerNews → ServerNews
changed_news now IsCalled news = record news { since = since_at now news.called news.since; called = now }
changed_news now IsHeardFrom news = record news { heard = Some now; since = None; is_down = false }
changed_news now (IsGivenUp is_down) news = record news { given_up = Some now; is_down = is_down }

-- ---- all servers

-- a record came from another server at this moment or later
abbrev pub is_heard_since : ℕ → Option ℕ → Bool
is_heard_since since None = false
is_heard_since since (Some heard) = nat_le since heard

abbrev pub has_other_come : ℕ → ℕ → List ServerNews → Bool
has_other_come number since servers = list_any (λ news. not (news.number == number) && is_heard_since since news.heard) servers

-- calls to it are out for six seconds, in which something came from another server and nothing from this one
abbrev pub is_silent_since : ℕ → List ServerNews → ℕ → Option ℕ → Bool
is_silent_since now servers number None = false
is_silent_since now servers number (Some since) = nat_le DOWN_LIMIT (now - since) && has_other_come number since servers

abbrev pub is_silent : ℕ → List ServerNews → ServerNews → Bool
is_silent now servers news = is_silent_since now servers news.number news.since

-- the server of this number is down at this moment
abbrev pub is_server_down : ℕ → ℕ → List ServerNews → Bool
is_server_down now number servers = list_any (λ news. news.number == number && is_down_at now news) servers

-- it is down from now on, where a call to it is given up
abbrev pub is_found_down : ℕ → ℕ → List ServerNews → Bool
is_found_down now number servers = list_any (λ news. news.number == number && (is_down_at now news || is_silent now servers news)) servers

-- this happened to the server of this number
abbrev pub with_news : ℕ → ℕ → NewsChange → List ServerNews → List ServerNews
with_news now number change servers = map (λ news. if news.number == number then changed_news now change news else news) servers

abbrev pub is_called_before : ℕ → List ServerNews → Bool
is_called_before number servers = list_any (λ news. news.number == number) servers

-- a call goes to the server of this number
abbrev pub with_called : ℕ → ℕ → List ServerNews → List ServerNews
with_called now number servers = if is_called_before number servers then with_news now number IsCalled servers else servers ++ new_news now number ∷ []

-- ---- by nodes: of others than data servers nothing is kept

abbrev pub servers_called : ℕ → NodeId → List ServerNews → List ServerNews
servers_called now Mds servers = servers
servers_called now (Server number) servers = with_called now number servers
servers_called now (Client k) servers = servers

abbrev pub servers_heard : ℕ → NodeId → List ServerNews → List ServerNews
servers_heard now Mds servers = servers
servers_heard now (Server number) servers = with_news now number IsHeardFrom servers
servers_heard now (Client k) servers = servers

abbrev pub servers_given_up : ℕ → NodeId → List ServerNews → List ServerNews
servers_given_up now Mds servers = servers
servers_given_up now (Server number) servers = with_news now number (IsGivenUp (is_found_down now number servers)) servers
servers_given_up now (Client k) servers = servers
