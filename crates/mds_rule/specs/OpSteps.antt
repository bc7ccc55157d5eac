-- What one operation of a compound comes to (RFC 8881, section 16.2.3), and its result.
use Rattle.std.specs.Prelude.{ℕ, ◌+◌, Bool, true, false, ◌==◌, ◌&&◌, List, [], ◌∷◌, ◌++◌, nat_le, Option, Some, None, if◌then◌else◌}
use Rattle.std.proofs.Common.{inr}
use Rattle.ff_xdr.specs.Form.{Value}
use Rattle.ff_xdr.specs.Arms.{arm}
use Rattle.cluster_model.specs.declared.entry.Entry.{Entry}
use Rattle.nfs4_types.specs.declared.status.Stat4.{Stat4}
use Rattle.nfs4_types.specs.declared.status.Stat4.TheVariants as stat
use Rattle.nfs4_types.specs.Status.{stat4_number}
use Rattle.nfs4_compound.specs.declared.stop.Stop.{Stop}
use Rattle.nfs4_compound.specs.declared.stop.Stop.TheVariants as stop
use Rattle.nfs4_unserved_ops.specs.Results.{unserved_resop4, unserved_refused}
use Rattle.nfs4_compound.specs.Joined.{behind}
use Rattle.nfs4_compound.specs.Results.{served_resop4, resop4}
use Rattle.mds_refusals.specs.declared.object.Object.{Object}
use Rattle.mds_refusals.specs.Orders.{Order, refusal}
use Rattle.mds_rule.specs.MdsStates.{CompoundRun, MdsValue}

-- ---- results

-- OP_ILLEGAL, under which an operation stands that there is not, and one that is out of form
abbrev pub illegal : ℕ
illegal = 10044

-- A status other than OK, as the result of the operation with this number. TOOSMALL of GETDEVICEINFO and LAYOUTTRYLATER have more, and
-- are made where they come about.
abbrev pub refused_as : ℕ → Stat4 → Value resop4
refused_as number status =
    if number == 4 then arm 4 resop4 (inr (stat4_number status))
    else if number == 5 then arm 5 resop4 (inr (stat4_number status))
    else if number == 9 then arm 9 resop4 (inr (stat4_number status))
    else if number == 10 then arm 10 resop4 (inr (stat4_number status))
    else if number == 15 then arm 15 resop4 (inr (stat4_number status))
    else if number == 18 then arm 18 resop4 (inr (stat4_number status))
    else if number == 22 then arm 22 resop4 (inr (stat4_number status))
    else if number == 24 then arm 24 resop4 (inr (stat4_number status))
    else if number == 25 then arm 25 resop4 (inr (stat4_number status))
    else if number == 38 then arm 38 resop4 (inr (stat4_number status))
    else if number == 41 then arm 41 resop4 (inr (stat4_number status))
    else if number == 42 then arm 42 resop4 (inr (stat4_number status))
    else if number == 43 then arm 43 resop4 (inr (stat4_number status))
    else if number == 44 then arm 44 resop4 (inr (stat4_number status))
    else if number == 47 then arm 47 resop4 (inr (inr (stat4_number status)))
    else if number == 49 then arm 49 resop4 (inr (stat4_number status))
    else if number == 50 then arm 50 resop4 (inr (inr (stat4_number status)))
    else if number == 51 then arm 51 resop4 (inr (stat4_number status))
    else if number == 53 then arm 53 resop4 (inr (stat4_number status))
    else if number == 57 then arm 57 resop4 (inr (stat4_number status))
    else if number == 58 then arm 58 resop4 (inr (stat4_number status))
    else behind served_resop4 unserved_resop4 tt (unserved_refused number status)

-- ---- an operation that was run

pub data OpStep : Type 0 where
  -- it is done, and the next one follows
  Goes : MdsValue → List Entry → CompoundRun → OpStep
  -- it is not, which ends the compound by this status
  Ends : MdsValue → List Entry → CompoundRun → Stat4 → OpStep
  -- it waits for data servers: what it waits for keeps the compound
  Waits : MdsValue → List Entry → OpStep

abbrev pub with_result : CompoundRun → Value resop4 → CompoundRun
with_result c result = record c { results = c.results ++ result ∷ [] }

abbrev pub at_object : CompoundRun → Object → CompoundRun
at_object c object = record c { current = Some object }

-- it is done without a change but the result
abbrev pub gives : MdsValue → CompoundRun → Value resop4 → OpStep
gives m c result = Goes m [] (with_result c result)

abbrev pub refuses : MdsValue → CompoundRun → ℕ → Stat4 → OpStep
refuses m c number status = Ends m [] (with_result c (refused_as number status)) status

-- it is refused by the first of its statuses that holds, or else comes to this
abbrev pub refused_or : MdsValue → CompoundRun → ℕ → Option Stat4 → OpStep → OpStep
refused_or m c number None step = step
refused_or m c number (Some status) step = refuses m c number status

abbrev pub by_order : MdsValue → CompoundRun → ℕ → Order → OpStep → OpStep
by_order m c number order step = refused_or m c number (refusal order) step

-- ---- behind the last operation that is read

-- NOTSUPP for the numbers 3 to 58 of what is not built, OP_ILLEGAL for others (section 15.1.1.3); BADXDR for what is out of form, of which
-- not even the number is relied on
abbrev pub is_operation_number : ℕ → Bool
is_operation_number number = nat_le 3 number && nat_le number 58

abbrev pub unread : MdsValue → CompoundRun → ℕ → Bool → OpStep
unread m c number true = refuses m c number stat.NotSupp
unread m c number false = refuses m c illegal stat.OpIllegal

abbrev pub stopped : MdsValue → CompoundRun → Stop → OpStep
stopped m c (stop.End rest) = Ends m [] c stat.Ok
stopped m c (stop.Unread number) = unread m c number (is_operation_number number)
stopped m c (stop.Bad e) = refuses m c illegal stat.BadXdr
