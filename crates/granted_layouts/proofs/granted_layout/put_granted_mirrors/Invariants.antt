use Rattle.std.proofs.Common.{◌≡◌, ◌++◌, take}
use Rattle.std.specs.List.{flat_map}
use Rattle.ff_xdr.specs.Form.{spelling}
use Rattle.ff_layout.specs.Mirror.{ff_mirror4}
use Rattle.granted_layouts.specs.GrantedBodies.{mirror_under}
use Rattle.granted_layouts.proofs.granted_layout.put_granted_mirrors.Given as goal

abbrev pub invariant-loop-place : goal.invariant-loop-place
invariant-loop-place l = l.out ≡ l.fn.out ++ flat_map (λ m. spelling ff_mirror4 (mirror_under l.cred.0 m)) (take l.place l.mirrors)
