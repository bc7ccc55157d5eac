use Rattle.std.proofs.Common.{◌≡◌, ◌++◌, take, drop}
use Rattle.waiting_calls.specs.ServerNews.{with_news}
use Rattle.waiting_calls.proofs.server_news.change_news.Given as goal

abbrev pub invariant-loop-place : goal.invariant-loop-place
invariant-loop-place l = l.servers ≡ with_news l.now l.number l.change (take l.place l.fn.servers) ++ drop l.place l.fn.servers
