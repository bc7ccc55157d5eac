-- An event of a metadata server: the tick, and what arrived.
use Rattle.std.proofs.Common.{◌≡◌, ℕ, ◌++◌, sym, ap, ◌∙◌, append_assoc, refl, subst, [], Some, Err}
use Rattle.std.proofs.lemmas.List.{map-append}
use Rattle.rpc_record.specs.declared.stream.Failed.{Failed}
use Rattle.rpc_record.specs.declared.stream.Failed.TheVariants.{Fault, NoMemory}
use Rattle.rpc_record.specs.Stream.{counted}
use Rattle.mds_rule.specs.MdsStates.{MdsValue}
use Rattle.mds_rule.specs.Spelled.{records_sent, spelled_send}
use Rattle.ff_node.specs.Nodes.{NodeEvent, SentRecords}
use Rattle.ff_node.specs.Serve.{Beside, NodeRuns, end_of_link, link_faults, sink_faults, disk_faults}
use Rattle.ff_node.specs.declared.end.NodeEnd.{NodeEnd}
use Rattle.mds_node.specs.MdsNodes.{MdsNodeValue, mds_passes, mds_hears, mds_does, mds_node_after, mds_node_rule}

-- the server as it is then, with the moment that it was given
abbrev pub with_moment : ℕ → MdsValue → MdsNodeValue
with_moment moment m = record { mds = m; last = Some moment }

pub state_does : (e : NodeEvent) (n : MdsNodeValue) (mid last : MdsValue) → mid ≡ (mds_passes n.last e.moment n.mds).mds → last ≡ (mds_hears e.moment e.arrival mid).mds → with_moment e.moment last ≡ mds_node_after e n
state_does e n mid last passed heard = ap (with_moment e.moment) (heard ∙ ap (λ (x : MdsValue). (mds_hears e.moment e.arrival x).mds) passed)

pub sends_does : (e : NodeEvent) (n : MdsNodeValue) (mid : MdsValue) (old between last : SentRecords) → mid ≡ (mds_passes n.last e.moment n.mds).mds → between ≡ old ++ records_sent (mds_passes n.last e.moment n.mds)
    → last ≡ between ++ records_sent (mds_hears e.moment e.arrival mid) → last ≡ old ++ records_sent (mds_does e n)
sends_does e n mid old between last passed first then =
    let a = mds_passes n.last e.moment n.mds in
    let b = mds_hears e.moment e.arrival a.mds in
    then ∙ ap (λ (x : MdsValue). between ++ records_sent (mds_hears e.moment e.arrival x)) passed ∙ ap (λ l. l ++ records_sent b) first
    ∙ append_assoc old (records_sent a) (records_sent b) ∙ ap (λ l. old ++ l) (sym (map-append spelled_send a.sends b.sends))

-- ---- a link that could not be opened

pub open_counted : (e : Failed) (n : ℕ) → counted {T = Unit {0}} (Err e) n ≡ link_faults (end_of_link e) n
open_counted Fault n = refl
open_counted NoMemory n = refl

pub open_writes : (e : Failed) → sink_faults (end_of_link e) 0 ≡ 0
open_writes Fault = refl
open_writes NoMemory = refl

pub open_keeps : (e : Failed) → disk_faults (end_of_link e) 0 ≡ 0
open_keeps Fault = refl
open_keeps NoMemory = refl

-- a new server ran over a link that was opened
pub runs_new : (first : SentRecords) (n fresh last : MdsNodeValue) (turns : ℕ) (b was b' : Beside) (end : NodeEnd) → first ≡ [] → n ≡ fresh → b ≡ was
    → NodeRuns mds_node_rule first n turns b end last b' → NodeRuns mds_node_rule [] fresh turns was end last b'
runs_new first n fresh last turns b was b' end none new same runs =
    subst (λ (x : Beside). NodeRuns mds_node_rule [] fresh turns x end last b') same
    (subst (λ (x : MdsNodeValue). NodeRuns mds_node_rule [] x turns b end last b') new
    (subst (λ (x : SentRecords). NodeRuns mds_node_rule x n turns b end last b') none runs))
