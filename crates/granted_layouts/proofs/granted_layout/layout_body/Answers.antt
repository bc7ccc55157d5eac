use Rattle.std.proofs.Common.{◌≡◌, List, ℕ, ◌++◌, sym, ap, ◌∙◌}
use Rattle.ff_xdr.specs.Form.{word, long}
use Rattle.granted_layouts.specs.GrantedBodies.{layout_body}
use Rattle.granted_layouts.proofs.Bodies.{layout_is}
use Rattle.granted_layouts.proofs.LayoutSizes.{body_few}
use Rattle.granted_layouts.proofs.granted_layout.layout_body.Goals as goal

pub returns-clause-exact : goal.returns-clause-exact
returns-clause-exact c =
    c.from_vec.ensures
    ∙ c.into_bytes.ensures
    ∙ layout_is c.args.cred.0 c.len-2.result c.args.mirrors c.put.new.out c.put_granted_mirrors.new.out c.put-2.new.out c.len-2.ensures.count
    (c.in_ok-put.ensures ∙ ap (λ (xs : List ℕ). xs ++ (long 65536 ++ word c.len-2.result)) c.new-out.ensures) c.in_ok-put_granted_mirrors.ensures c.in_ok-put-2.ensures

pub returns-clause-few : goal.returns-clause-few
returns-clause-few c =
    body_few c.args.cred.0 c.layout_size-size.result c.args.mirrors c.from_vec.result
    (
    c.from_vec.ensures
    ∙ c.into_bytes.ensures
    ∙ layout_is c.args.cred.0 c.len-2.result c.args.mirrors c.put.new.out c.put_granted_mirrors.new.out c.put-2.new.out c.len-2.ensures.count
    (c.in_ok-put.ensures ∙ ap (λ (xs : List ℕ). xs ++ (long 65536 ++ word c.len-2.result)) c.new-out.ensures) c.in_ok-put_granted_mirrors.ensures c.in_ok-put-2.ensures
    )
    (c.layout_size-size.ensures c.args.mirrors (sym c.len.ensures.count)) c.layout_size-size.type_inv
