use Rattle.std.proofs.Common.{◌≡◌, ◌==◌}
use Rattle.std.specs.List.{list_any}
use Rattle.ff_xdr.specs.Form.{Number32}
use Rattle.ff_xdr.specs.Items.{contents}
use Rattle.ds_procedures.proofs.access.is_member.Given as goal

-- one of all groups is this one where one of those that are left is
abbrev pub invariant-loop-gid : goal.invariant-loop-gid
invariant-loop-gid l =
    (goal.iterator-loop-gid).can_next l.gid-iterator
    × (goal.iterator-loop-gid).is_finite l.gid-iterator
    × (list_any (λ gid. gid == l.group) (contents Number32 (λ n. n) l.gid-iterator.rest) ≡ list_any (λ gid. gid == l.group) (contents Number32 (λ n. n) l.cred.gids.place))
