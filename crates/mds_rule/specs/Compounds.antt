-- How a compound is run (RFC 8881, sections 2.10.6, 15.1, 16.2 and 18.46): its first operation, one operation after the other, and its
-- reply.
use Rattle.std.specs.Prelude.{ℕ, Bool, true, false, ◌==◌, ◌||◌, List, [], ◌∷◌, Option, Some, None, is_some, if◌then◌else◌}
use Rattle.std.proofs.Common.{inl}
use Rattle.ff_xdr.specs.Form.{Value, spelling, arm_of}
use Rattle.ff_xdr.specs.Arms.{arm, by_arm}
use Rattle.compound_reply.specs.Replied.{success_reply}
use Rattle.cluster_model.specs.declared.ids.NodeId.{NodeId}
use Rattle.nfs4_types.specs.declared.sequence.Sequence.{Sequence}
use Rattle.nfs4_types.specs.declared.status.Stat4.{Stat4}
use Rattle.nfs4_types.specs.declared.status.Stat4.TheVariants as stat
use Rattle.nfs4_types.specs.Status.{stat4_number}
use Rattle.nfs4_types.specs.Sequences.{sequence4_args}
use Rattle.nfs4_compound.specs.Args.{argop4}
use Rattle.nfs4_compound.specs.Results.{resop4}
use Rattle.nfs4_compound.specs.Compounds.{CompoundValue, compound4_res}
use Rattle.nfs4_session.specs.declared.begin.SlotPass.{SlotPass}
use Rattle.nfs4_session.specs.Slots.{SlotAnswer, TakesEffect, Repeats, Refuses}
use Rattle.nfs4_session.specs.Clients.{SessionsState, session_of}
use Rattle.nfs4_session.specs.Requests.{request_answer, after_request, pass_of, after_finish}
use Rattle.nfs4_session.specs.Bindings.{after_binding}
use Rattle.mds_rule.specs.MdsStates.{CompoundRun, Replies, MdsValue, MdsStep, sends_none, enters}
use Rattle.mds_rule.specs.OpSteps.{OpStep, Goes, Ends, Waits, with_result, refuses, refused_as, stopped}
use Rattle.mds_rule.specs.SessionOps.{runs_bind, runs_exchange, runs_create, runs_destroy_session, runs_destroy_client, reclaims}
use Rattle.mds_rule.specs.FileOps.{runs_close, runs_commit, runs_get_attr, runs_get_fh, runs_lookup, runs_open, runs_put_fh, runs_put_root_fh, runs_read, runs_write}
use Rattle.mds_rule.specs.LayoutOps.{runs_get_device_info, runs_layout_commit, runs_layout_get, runs_layout_return}

-- ---- one operation

-- each by its number; a SEQUENCE that is not the first stands in a wrong place
abbrev pub operate : ℕ → MdsValue → CompoundRun → Value argop4 → OpStep
operate now m c op =
    by_arm argop4 (
      (λ close. runs_close m c close),
      (
        (λ commit. runs_commit m c),
        (
          (λ words. runs_get_attr m c words),
          (
            (λ nothing. runs_get_fh m c),
            (
              (λ name. runs_lookup m c name),
              (
                (λ opening. runs_open m c opening),
                (
                  (λ handle. runs_put_fh m c handle),
                  (
                    (λ nothing. runs_put_root_fh m c),
                    (
                      (λ read. runs_read m c read),
                      (
                        (λ write. runs_write m c now write),
                        (
                          (λ bind. runs_bind m c bind),
                          (
                            (λ exchange. runs_exchange m c now exchange),
                            (
                              (λ create. runs_create m c now create),
                              (
                                (λ session. runs_destroy_session m c session),
                                (
                                  (λ device. runs_get_device_info m c device),
                                  (
                                    (λ commit. runs_layout_commit m c commit),
                                    (
                                      (λ layout. runs_layout_get m c now layout),
                                      (
                                        (λ layout. runs_layout_return m c layout),
                                        (
                                          (λ sequence. refuses m c 53 stat.SequencePos),
                                          (
                                            (λ client. runs_destroy_client m c client),
                                            ((λ one_fs. reclaims m c c.slot), tt),
                                          ),
                                        ),
                                      ),
                                    ),
                                  ),
                                ),
                              ),
                            ),
                          ),
                        ),
                      ),
                    ),
                  ),
                ),
              ),
            ),
          ),
        ),
      ),
    ) op

-- its session stands, where it has one: it may have gone while an operation waited
abbrev pub has_session : MdsValue → Option SlotPass → Bool
has_session m None = true
has_session m (Some slot) = is_some (session_of m.sessions.clients slot.session)

abbrev pub operates : ℕ → MdsValue → CompoundRun → Value argop4 → OpStep
operates now m c op = if has_session m c.slot then operate now m c op else refuses m c (arm_of argop4 op) stat.BadSession

-- ---- the reply

abbrev pub compound_bytes : CompoundRun → Stat4 → List ℕ
compound_bytes c status = spelling compound4_res (stat4_number status, (c.tag, c.results))

-- the slot keeps it, where it is still there
abbrev pub kept_in_slot : SessionsState → Option SlotPass → List ℕ → SessionsState
kept_in_slot s None bytes = s
kept_in_slot s (Some slot) bytes = after_finish s slot bytes

abbrev pub finishes : MdsValue → CompoundRun → Stat4 → MdsStep
finishes m c status = record {
  mds = record m { sessions = kept_in_slot m.sessions c.slot (compound_bytes c status) };
  entries = [];
  sends = Replies c.node (success_reply c.xid (compound_bytes c status)) ∷ [];
}

-- ---- one after the other

abbrev pub op_then : OpStep → (MdsValue → CompoundRun → MdsStep) → MdsStep
op_then (Goes m entries c) next = enters entries (next m c)
op_then (Ends m entries c status) next = enters entries (finishes m c status)
op_then (Waits m entries) next = enters entries (sends_none m)

abbrev pub with_ops : CompoundRun → List (Value argop4) → CompoundRun
with_ops c ops = record c { ops = ops }

abbrev pub runs : ℕ → List (Value argop4) → MdsValue → CompoundRun → MdsStep
runs now [] m c = op_then (stopped m (with_ops c []) c.stop) (λ n d. sends_none n)
runs now (op ∷ ops) m c = op_then (operates now m (with_ops c ops) op) (λ n d. runs now ops n d)

-- the operations that are left of a compound
abbrev pub runs_on : ℕ → MdsValue → CompoundRun → MdsStep
runs_on now m c = runs now c.ops m c

-- ---- the first one

-- the highest slots are 7, of eight
abbrev pub sequence_result : Sequence → Value resop4
sequence_result s = arm 53 resop4 (inl (s.session.0, (s.sequence, (s.slot, (7, (7, 0))))))

abbrev pub sequence_in : Value sequence4_args → Sequence
sequence_in (session, (sequence, (slot, (highest, cachethis)))) = record { session = record { 0 = session }; sequence = sequence; slot = slot; highest = highest; cachethis = cachethis }

abbrev pub in_slot : CompoundRun → Sequence → CompoundRun
in_slot c s = record c { slot = Some (pass_of s); is_kept = s.cachethis; results = sequence_result s ∷ [] }

-- A request takes effect once. One that comes again is answered by what is kept of it.
abbrev pub sequenced : ℕ → MdsValue → CompoundRun → List (Value argop4) → Sequence → SlotAnswer → MdsStep
sequenced now m c ops s TakesEffect = runs now ops (record m { sessions = after_request m.sessions s now }) (in_slot c s)
sequenced now m c ops s (Repeats reply) = record { mds = m; entries = []; sends = Replies c.node (success_reply c.xid reply) ∷ [] }
sequenced now m c ops s (Refuses status) = finishes m (with_result c (refused_as 53 status)) status

-- the session's last record came from this node
abbrev pub begins_sequence : ℕ → MdsValue → CompoundRun → List (Value argop4) → Sequence → MdsStep
begins_sequence now m c ops s = let n = record m { sessions = after_binding m.sessions s.session c.node } in sequenced now n c ops s (request_answer n.sessions s)

abbrev pub sequence_of : Value argop4 → Option (Value sequence4_args)
sequence_of op =
    by_arm argop4 (
      (λ a. None),
      (
        (λ a. None),
        (
          (λ a. None),
          (
            (λ a. None),
            (
              (λ a. None),
              (
                (λ a. None),
                (
                  (λ a. None),
                  (
                    (λ a. None),
                    (
                      (λ a. None),
                      (
                        (λ a. None),
                        (
                          (λ a. None),
                          (
                            (λ a. None),
                            (
                              (λ a. None),
                              (
                                (λ a. None),
                                (
                                  (λ a. None),
                                  (
                                    (λ a. None),
                                    (
                                      (λ a. None),
                                      (
                                        (λ a. None),
                                        (
                                          (λ sequence. Some sequence),
                                          ((λ a. None), ((λ a. None), tt)),
                                        ),
                                      ),
                                    ),
                                  ),
                                ),
                              ),
                            ),
                          ),
                        ),
                      ),
                    ),
                  ),
                ),
              ),
            ),
          ),
        ),
      ),
    ) op

-- those that may stand without a SEQUENCE, but alone: BIND_CONN_TO_SESSION, EXCHANGE_ID, CREATE_SESSION, DESTROY_SESSION, DESTROY_CLIENTID
abbrev pub may_stand_alone : ℕ → Bool
may_stand_alone number = (number == 41) || ((number == 42) || ((number == 43) || ((number == 44) || (number == 57))))

abbrev pub first_alone : ℕ → MdsValue → CompoundRun → ℕ → Value argop4 → List (Value argop4) → MdsStep
first_alone now m c count op ops =
    if not_alone then op_then (refuses m c number stat.NotOnlyOp) (λ n d. sends_none n)
    else op_then (operate now m (with_ops c ops) op) (λ n d. runs now ops n d)
  where
    number : ℕ
    number = arm_of argop4 op

    not_alone : Bool
    not_alone = Rattle.std.specs.Prelude.not (count == 1)

abbrev pub first_by : ℕ → MdsValue → CompoundRun → ℕ → Value argop4 → List (Value argop4) → Option (Value sequence4_args) → MdsStep
first_by now m c count op ops (Some args) = begins_sequence now m c ops (sequence_in args)
first_by now m c count op ops None =
    if may_stand_alone (arm_of argop4 op) then first_alone now m c count op ops
    else op_then (refuses m c (arm_of argop4 op) stat.OpNotInSession) (λ n d. sends_none n)

abbrev pub first_operation : ℕ → MdsValue → CompoundRun → ℕ → List (Value argop4) → MdsStep
first_operation now m c count [] = runs now [] m c
first_operation now m c count (op ∷ ops) = first_by now m c count op ops (sequence_of op)

abbrev pub new_run : NodeId → ℕ → CompoundValue → CompoundRun
new_run node xid v = record { node = node; xid = xid; tag = v.tag; ops = v.ops.values; stop = v.ops.stop; results = []; slot = None; is_kept = false; current = None }

abbrev pub runs_compound : ℕ → MdsValue → NodeId → ℕ → CompoundValue → MdsStep
runs_compound now m node xid v = first_operation now m (new_run node xid v) v.count v.ops.values
