use Rattle.std.proofs.Common.{◌≡◌, subst, sym, ap, ◌∙◌}
use Rattle.std.specs.Prelude.{◌==◌, option_map}
use Rattle.std.specs.List.{find}
use Rattle.mirror_writer.specs.Writers.{WriterValue}
use Rattle.mirror_writer.specs.Rooms.{mirrors_shown}
use Rattle.mirror_writer.specs.Outstanding.{out_call, out_at}
use Rattle.mirror_writer.proofs.FirstOn.{out_named, out_first}
use Rattle.mirror_writer.proofs.writer.Writer.call_to.Goals as goal

pub returns-in_default-clause-call : goal.returns-in_default-clause-call
returns-in_default-clause-call c =
    let w = c.self.inside in
    let s : WriterValue = record { cred = w.cred.0; taken = w.taken.items; mirrors = mirrors_shown w.mirrors.items; wants_commit = w.wants_commit; is_fenced = w.is_fenced } in
    let first = sym c.in_default.is ∙ c.first_on.ensures ∙ ap (λ rs. option_map (λ r. (r.mirror.id, r.mirror.call)) (find (λ r. r.mirror.id.server == c.args.server) rs)) c.deref.ensures.value in
    rw (← c.self.view_is) (ap (out_named s) first ∙ out_first s c.args.server w.mirrors.items)

pub returns-clause-call : goal.returns-clause-call
returns-clause-call c =
    let w = c.self.inside in
    let s : WriterValue = record { cred = w.cred.0; taken = w.taken.items; mirrors = mirrors_shown w.mirrors.items; wants_commit = w.wants_commit; is_fenced = w.is_fenced } in
    let first = sym c.in-Some.is ∙ c.first_on.ensures ∙ ap (λ rs. option_map (λ r. (r.mirror.id, r.mirror.call)) (find (λ r. r.mirror.id.server == c.args.server) rs)) c.deref.ensures.value in
    c.lend_out.ensures.call ∙ subst (λ (v : WriterValue). out_call v c.in-Some.id c.in-Some.call ≡ out_at v c.args.server) c.self.view_is (ap (out_named s) first ∙ out_first s c.args.server w.mirrors.items)
