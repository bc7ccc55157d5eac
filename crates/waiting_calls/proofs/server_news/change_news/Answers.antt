use Rattle.std.proofs.Common.{◌≡◌, ℕ, ◌+◌, ◌<◌, List, ◌++◌, length, get_or, set, take, drop, map, ap, ◌∙◌, arith}
use Rattle.std.proofs.lemmas.Grind.{common_steps}
use Rattle.std.proofs.lemmas.List.Edits.{map_over_more}
use Rattle.std.specs.Prelude.{◌==◌, if◌then◌else◌}
use Rattle.waiting_calls.specs.declared.server_news.ServerNews.{ServerNews}
use Rattle.waiting_calls.specs.ServerNews.{changed_news}
use Rattle.waiting_calls.proofs.server_news.change_news.Goals as goal

one_more : (f : ServerNews → ServerNews) (xs ys : List ServerNews) (i : ℕ) (d r : ServerNews) → i < length xs → length ys ≡ length xs → ys ≡ map f (take i xs) ++ drop i xs → r ≡ f (get_or ys i d)
    → set ys i r ≡ map f (take (i + 1) xs) ++ drop (i + 1) xs
one_more f xs ys i d r below long so is =
    let here : get_or ys i d ≡ get_or ys i (get_or ys i d) = grind (arith, common_steps) in
    ap (set ys i) is ∙ map_over_more f xs ys i (get_or ys i d) below so here

pub loop-place-preserved : goal.loop-place-preserved
loop-place-preserved c =
    one_more (λ (news : ServerNews). if news.number == c.args.number then changed_news c.args.now c.args.change news else news) c.args.servers.now c.loop-place.servers c.loop-place.place _ c.changed_if.result
    c.loop-place-test.true c.loop-place.auto.servers c.loop-place.invariant c.changed_if.ensures
