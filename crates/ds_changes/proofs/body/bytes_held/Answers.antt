use Rattle.std.proofs.Common.{◌≡◌, ℕ, ◌++◌, List, map, refl, ap, ◌∙◌, arith}
use Rattle.std.proofs.lemmas.List.{length-append, length-map}
use Rattle.ff_xdr.specs.Form.{spelling}
use Rattle.ds_log.specs.Bodies.{Logged, HoldsBytes, body_form, body_value}
use Rattle.ds_changes.specs.HeldRanges.{plain_held}
use Rattle.ds_changes.specs.Logging.{own_of}
use Rattle.ds_changes.proofs.BodySizes.{few_count, bytes_fit, bytes_short, spelled_as, spells}
use Rattle.ds_changes.proofs.body.bytes_held.Goals as goal

pub put_held-requires-clause-count : goal.put_held-requires-clause-count
put_held-requires-clause-count c =
    let held = map plain_held c.args.ranges.now in
    let own = own_of c.args.own in
    omega (arith, few_count (held ++ own) c.requires.few, length-append held own, length-map c.args.ranges.now plain_held)

pub returns : goal.returns
returns c =
    let a = c.args in
    let all = map plain_held a.ranges.now ++ own_of a.own in
    let body : Logged = HoldsBytes a.fileid a.mtime a.ctime all in
    let is : c.into_bytes.result.items ≡ spelling body_form (body_value body) = c.into_bytes.ensures ∙ c.in_ok-put_held.ensures ∙ ap (λ (old : List ℕ). old ++ spelling body_form (body_value body)) c.new-out.ensures in
    let fits = bytes_fit a.fileid a.mtime a.ctime all c.requires.few c.ranges.fileid.fits c.requires.mtime c.requires.ctime in
    spells (λ (b : Logged). b ≡ body) body c.into_bytes.result.items refl (bytes_short a.fileid a.mtime a.ctime all c.requires.few) (spelled_as body c.into_bytes.result.items fits is)
