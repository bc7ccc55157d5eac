use Rattle.std.proofs.Common.{sym, ap, subst, refl, ◌∙◌, ◌≡◌, ℕ, Option, length, length-append}
use Rattle.mds_refusals.specs.declared.object.Object.{Object}
use Rattle.mds_refusals.specs.Orders.{refusal}
use Rattle.mds_refusals.specs.Opens.{open_order, open_step}
use Rattle.mds_rule.specs.MdsStates.{CompoundRun, MdsValue, file_named}
use Rattle.mds_rule.specs.FileOps.{opens_file, with_new_file}
use Rattle.compound_run.specs.CompoundRuns.{HasOperated}
use Rattle.mds_state.proofs.OpLemmas.{refused_so}
use Rattle.mds_names.proofs.OpenLemmas.{order_so, opens_so, makes_so}
use Rattle.mds_names.proofs.opening.open_named.Goals as goal

pub returns-in-Ok-Opens-clause-op : goal.returns-in-Ok-Opens-clause-op
returns-in-Ok-Opens-clause-op c out =
    let m : MdsValue = c.args.state.now in
    let run : CompoundRun = c.args.run.now in
    let found : c.named-file.result ≡ file_named m c.args.name.now = c.named-file.ensures ∙ ap (λ (x : MdsValue). file_named x c.args.name.now) c.state.view_is in
    let order = order_so m run c.args.access c.args.creation c.args.name.now c.client_of-client.result c.named-file.result c.can_open.result c.may_make.result c.client_of-client.ensures found c.can_open.ensures c.may_make.ensures in
    let current = ap (λ (r : CompoundRun). r.current) c.run.view_is in
    let at = ap (λ (o : Option Object). refusal (open_order o c.args.name.now c.args.access c.args.creation (record { file = c.named-file.result; can_open = c.can_open.result; can_make = c.may_make.result }))) current in
    opens_so m c.open_file.new.state run c.open_file.new.run c.args.name.now (file_named m c.args.name.now) c.in-Ok-Opens.file _ c.open_file.result out (sym order ∙ (sym at ∙ c.in-Ok-Opens.ensures.takes.0))
    (sym c.in-Ok-Opens.field-0-is ∙ c.in-Ok-Opens.ensures.takes.1 ∙ ap open_step found) (c.open_file.ensures.op out)

pub returns-in_ok-make-in-Ok-Makes-clause-op : goal.returns-in_ok-make-in-Ok-Makes-clause-op
returns-in_ok-make-in-Ok-Makes-clause-op c out =
    let m : MdsValue = c.args.state.now in
    let run : CompoundRun = c.args.run.now in
    let found : c.named-file.result ≡ file_named m c.args.name.now = c.named-file.ensures ∙ ap (λ (x : MdsValue). file_named x c.args.name.now) c.state.view_is in
    let order = order_so m run c.args.access c.args.creation c.args.name.now c.client_of-client.result c.named-file.result c.can_open.result c.may_make.result c.client_of-client.ensures found c.can_open.ensures c.may_make.ensures in
    let current = ap (λ (r : CompoundRun). r.current) c.run.view_is in
    let at = ap (λ (o : Option Object). refusal (open_order o c.args.name.now c.args.access c.args.creation (record { file = c.named-file.result; can_open = c.can_open.result; can_make = c.may_make.result }))) current in
    let made : c.make.new.state ≡ with_new_file m c.args.name.now = c.in_ok-make-in-Ok-Makes.ensures in
    let number = c.len.ensures.exact ∙ ap (λ (x : MdsValue). length x.files) (c.state-in-Ok-Makes.view_is ∙ made) ∙ length-append m.files _ in
    makes_so m c.open_file-in-Ok-Makes.new.state run c.open_file-in-Ok-Makes.new.run c.args.name.now (file_named m c.args.name.now) (record { 0 = c.len.result }) _ c.open_file-in-Ok-Makes.result out
    (sym order ∙ (sym at ∙ c.in-Ok-Makes.ensures.takes.0)) (sym c.in-Ok-Makes.field-0-is ∙ c.in-Ok-Makes.ensures.takes.1 ∙ ap open_step found) (ap (λ (n : ℕ). record { 0 = n }) number)
    (subst (λ (x : MdsValue). HasOperated (opens_file x run (record { 0 = c.len.result })) out c.open_file-in-Ok-Makes.result c.open_file-in-Ok-Makes.new.state c.open_file-in-Ok-Makes.new.run out) made (c.open_file-in-Ok-Makes.ensures.op out))

pub returns-in-Err-clause-op : goal.returns-in-Err-clause-op
returns-in-Err-clause-op c out =
    let m : MdsValue = c.args.state.now in
    let run : CompoundRun = c.args.run.now in
    let found : c.named-file.result ≡ file_named m c.args.name.now = c.named-file.ensures ∙ ap (λ (x : MdsValue). file_named x c.args.name.now) c.state.view_is in
    let order = order_so m run c.args.access c.args.creation c.args.name.now c.client_of-client.result c.named-file.result c.can_open.result c.may_make.result c.client_of-client.ensures found c.can_open.ensures c.may_make.ensures in
    let current = ap (λ (r : CompoundRun). r.current) c.run.view_is in
    let at = ap (λ (o : Option Object). refusal (open_order o c.args.name.now c.args.access c.args.creation (record { file = c.named-file.result; can_open = c.can_open.result; can_make = c.may_make.result }))) current in
    refused_so m m run c.refuse.new.self 18 c.in-Err.status _ _ c.refuse.result out (sym order ∙ (sym at ∙ c.in-Err.ensures.takes)) refl c.refuse.ensures.ends c.refuse.ensures.run
