-- What putting and getting did, by what was done one after the other.
use Rattle.std.proofs.Common.{◌≡◌, ℕ, ◌≤◌, false, ◌⊎◌, inl, inr, List, [], ◌++◌, Option, Some, None, Result, Ok, Err, refl, ap, subst, ◌∙◌}
use Rattle.rpc_record.specs.declared.stream.Failed.{Failed}
use Rattle.rpc_record.specs.declared.stream.Failed.TheVariants as failed
use Rattle.cluster_model.specs.declared.answer.FailCause.{FailCause}
use Rattle.node_config.specs.declared.config.Config.{Config}
use Rattle.node_link.specs.declared.link.Arrival.{Arrival}
use Rattle.node_link.specs.declared.link.Opening.{Opening}
use Rattle.node_link.specs.declared.link.Role.TheVariants as role
use Rattle.node_link.specs.Clock.{GivesMoment}
use Rattle.node_link.specs.Link.{opening_of}
use Rattle.ff_node.specs.declared.end.NodeEnd.{NodeEnd}
use Rattle.ff_node.specs.declared.end.NodeEnd.TheVariants as ends
use Rattle.ff_node.specs.declared.fault.EventFault.{EventFault}
use Rattle.ff_node.specs.declared.fault.EventFault.TheVariants as faults
use Rattle.ff_node.specs.Nodes.{NodeRule, SentRecords}
use Rattle.ff_node.specs.Serve.{Beside, beside, NodeRuns, Stops, end_of_link, end_of_outcome, end_of_event, last_end}
use Rattle.user_nodes.specs.Users.{records_of}
use Rattle.user_nodes.specs.Puts.{BeginsPut, PutValue, PutsFile, end_of_source, put_begins, put_from, put_rule}
use Rattle.user_nodes.specs.Gets.{GetValue, GetsFile, get_begins, get_from, get_rule}

-- ---- what is beside a node

pub same_beside : (coming coming' : Option (List Arrival)) (sent sent' : Option SentRecords) (moments : Option (List ℕ)) (moment moment' : ℕ) (held : Option (List ℕ)) → coming' ≡ coming → sent' ≡ sent → moment' ≡ moment
    → beside coming' sent' moments moment' held ≡ beside coming sent moments moment held
same_beside coming coming' sent sent' moments moment moment' held same-coming same-sent same-moment = rw (same-coming, same-sent, same-moment) refl

-- a run, with its beginning known by equations
pub run_is : {S : Type 0} (rule : NodeRule S) (first first' : SentRecords) (s s' last : S) (turns : ℕ) (b b' after : Beside) (end : NodeEnd) → first' ≡ first → s' ≡ s → b' ≡ b → NodeRuns rule first' s' turns b' end last after
    → NodeRuns rule first s turns b end last after
run_is rule first first' s s' last turns b b' after end same-first same-state same-beside runs =
    subst (λ (f : SentRecords). NodeRuns rule f s turns b end last after) same-first
    (subst (λ (t : _). NodeRuns rule first' t turns b end last after) same-state (subst (λ (x : Beside). NodeRuns rule first' s' turns x end last after) same-beside runs))

-- ---- a node that ends well and is no server has ended by itself

module _ {S : Type 0} (rule : NodeRule S) (is_user : rule.is_server ≡ false) (left : ℕ) (s : S) (b : Beside) (s' : S) (b' : Beside) where
  outcome_is : (r : Result (Unit {0}) FailCause) → ends.Done ≡ end_of_outcome r → rule.outcome s ≡ Some r → (x : Unit {0}) × (rule.outcome s ≡ Some (Ok x))
  outcome_is (Ok x) done is = (x, is)
  outcome_is (Err cause) done is = absurd (cc (done))

  no_last : ends.Done ≡ last_end rule.is_server → ⊥
  no_last done = let turns : ends.Done ≡ ends.Turns = done ∙ ap last_end is_user in absurd (cc (turns))

  no_link : (e : Failed) → ends.Done ≡ end_of_link e → ⊥
  no_link failed.Fault done = absurd (cc (done))
  no_link failed.NoMemory done = absurd (cc (done))

  no_event : (e : EventFault) → ends.Done ≡ end_of_event e → ⊥
  no_event faults.Sink done = absurd (cc (done))
  no_event faults.Disk done = absurd (cc (done))
  no_event faults.NoMemory done = absurd (cc (done))

  pub done_by_itself : Stops rule left s b ends.Done s' b' → ((x : Unit {0}) × (rule.outcome s ≡ Some (Ok x))) × (b' ≡ b)
  done_by_itself (inl (r, is, done, same)) = (outcome_is r done is, same.1)
  done_by_itself (inr (none, inl (done, more))) = absurd (no_last done)
  done_by_itself (inr (none, inr (some, inl (e, done, same)))) = absurd (no_link e done)
  done_by_itself (inr (none, inr (some, inr breaks))) = absurd (no_event breaks.error breaks.end_is)

-- ---- a put

-- how a source that failed ends a put
source_ends : (e : Failed) (end : NodeEnd) → end ≡ end_of_source e → (end ≡ ends.ReadFault) ⊎ (end ≡ ends.NoMemory)
source_ends failed.Fault end is = inl is
source_ends failed.NoMemory end is = inr is

module _ (config : Config) (name : List ℕ) (unread : Option (List ℕ)) (opened : Option Opening) (coming : Option (List Arrival)) (sent : Option SentRecords) (moments : Option (List ℕ)) (last : ℕ)
    (moment : ℕ) (moments' : Option (List ℕ)) (rises : last ≤ moment) (gives : GivesMoment moments last moment moments') where
  abbrev before : Beside
  before = beside coming sent moments last None

  -- behind the clock's answer
  abbrev begun : Beside
  begun = beside coming sent moments' moment None

  pub put_nothing : (e : Failed) (end : NodeEnd) (left : Option (List ℕ)) (opened' : Option Opening) (after : Beside) → end ≡ end_of_source e → opened' ≡ opened → after ≡ begun → PutsFile config name unread opened before end left opened' after
  put_nothing e end left opened' after is same-opened same = (moment, begun, (rises, gives, refl), inr (source_ends e end is, same-opened, same))

  pub put_unopened : (p : PutValue) (left : Option (List ℕ)) (sends : SentRecords) (e : Failed) (end : NodeEnd) (opened' : Option Opening) (after : Beside) → BeginsPut config.own moment name unread [] (Ok p) left sends
      → end ≡ end_of_link e → opened' ≡ opened → after ≡ begun → PutsFile config name unread opened before end left opened' after
  put_unopened p left sends e end opened' after begins is same-opened same = (moment, begun, (rises, gives, refl), inl (begins.0, begins.1, inr (e, is, same-opened, same)))

  pub put_served : (p served : PutValue) (left : Option (List ℕ)) (sends : SentRecords) (b after : Beside) (end : NodeEnd) (opened' : Option Opening) → BeginsPut config.own moment name unread [] (Ok p) left sends
      → opened' ≡ Some (opening_of config role.Client) → b ≡ begun → NodeRuns put_rule sends p config.turns b end served after → PutsFile config name unread opened before end left opened' after
  put_served p served left sends b after end opened' begins is-opened same runs =
      let step = put_begins config.own moment name begins.0 in (
        moment,
        begun,
        (rises, gives, refl),
        inl (begins.0, begins.1, inl (is-opened, (served, run_is put_rule (records_of step) sends (put_from step) p served config.turns begun b after end begins.3 begins.2 same runs))),
      )

-- ---- a get

module _ (config : Config) (name : List ℕ) (opened : Option Opening) (coming : Option (List Arrival)) (sent : Option SentRecords) (moments : Option (List ℕ)) (last : ℕ) (held : Option (List ℕ)) (moment : ℕ)
    (moments' : Option (List ℕ)) (rises : last ≤ moment) (gives : GivesMoment moments last moment moments') where
  abbrev get_before : Beside
  get_before = beside coming sent moments last held

  abbrev get_begun : Beside
  get_begun = beside coming sent moments' moment held

  pub get_unopened : (e : Failed) (end : NodeEnd) (opened' : Option Opening) (after : Beside) → end ≡ end_of_link e → opened' ≡ opened → after ≡ get_begun → GetsFile config name opened get_before end opened' after
  get_unopened e end opened' after is same-opened same = (moment, get_begun, (rises, gives, refl), inr (e, is, same-opened, same))

  pub get_served : (n served : GetValue) (none sends : SentRecords) (b after : Beside) (end : NodeEnd) (opened' : Option Opening) → n ≡ get_from (get_begins config.own moment name) → none ≡ []
      → sends ≡ none ++ records_of (get_begins config.own moment name) → opened' ≡ Some (opening_of config role.Client) → b ≡ get_begun → NodeRuns get_rule sends n config.turns b end served after
      → GetsFile config name opened get_before end opened' after
  get_served n served none sends b after end opened' begins empty first is-opened same runs =
      let step = get_begins config.own moment name in (
        moment,
        get_begun,
        (rises, gives, refl),
        inl (is-opened, (served, run_is get_rule (records_of step) sends (get_from step) n served config.turns get_begun b after end (first ∙ ap (λ (l : SentRecords). l ++ records_of step) empty) begins same runs)),
      )
