-- The results of operations that are read and not carried out, by number (RFC 8881, sections 16.2.3 and 18).
use Rattle.std.specs.Prelude.{ℕ, List, [], ◌∷◌, ◌==◌, if◌then◌else◌}
use Rattle.std.proofs.Common.{inl, inr}
use Rattle.ff_xdr.specs.Items.{contents}
use Rattle.ff_xdr.specs.Form.{Form, Void, Number32, Pair, Array, Arm, Default, Value}
use Rattle.ff_xdr.specs.Arms.{arm}
use Rattle.nfs4_types.specs.declared.status.Stat4.{Stat4}
use Rattle.nfs4_types.specs.Status.{refusal4, stat4_number}
use Rattle.nfs4_types.specs.Stateids.{stateid4, stateid4_value}
use Rattle.nfs4_types.specs.OpResults.{result4, result4_value}
use Rattle.nfs4_unserved_ops.specs.Access.{access4_ok, access4_ok_value}
use Rattle.nfs4_unserved_ops.specs.SetAttr.{setattr4_res, setattr4_res_value}
use Rattle.nfs4_unserved_ops.specs.SecInfoNoName.{flavor4, flavors4}
use Rattle.nfs4_unserved_ops.specs.declared.op_res.UnservedRes.{UnservedRes}
use Rattle.nfs4_unserved_ops.specs.declared.op_res.UnservedRes.TheVariants as res

-- the numbers of all operations whose results have a form of their own, those that are carried out among them
abbrev pub result_numbers : List ℕ
result_numbers =
    3 ∷ 4 ∷ 5 ∷ 9 ∷ 10 ∷ 15 ∷ 18 ∷ 21 ∷ 22 ∷ 24 ∷ 25 ∷ 31 ∷ 32 ∷ 34 ∷ 38 ∷ 41 ∷ 42 ∷ 43 ∷ 44 ∷ 45 ∷ 47 ∷ 49 ∷ 50 ∷ 51 ∷ 52 ∷ 53 ∷ 55 ∷ 57 ∷ 58 ∷ []

-- Under any other number stands a status other than OK, and nothing more. That of READDIR that was done is not built.
abbrev pub unserved_resop4 : Form
unserved_resop4 =
    Arm 3 (result4 access4_ok)
    (Arm 21 (result4 stateid4)
    (Arm 31 (result4 Void)
    (Arm 32 (result4 Void)
    (Arm 34 setattr4_res
    (Arm 45 (result4 Void)
    (Arm 52 (result4 flavors4)
    (Arm 55 (result4 (Array 4294967295 Number32)) (Pair (Default result_numbers) refusal4))))))))

-- what stands under a number of no form
abbrev pub unbuilt_res : ℕ → ℕ → Value unserved_resop4
unbuilt_res number status = inr (inr (inr (inr (inr (inr (inr (inr (number, status))))))))

abbrev pub unserved_res_value : UnservedRes → Value unserved_resop4
unserved_res_value (res.Access r) = arm 3 unserved_resop4 (result4_value access4_ok access4_ok_value r)
unserved_res_value (res.OpenDowngrade r) = arm 21 unserved_resop4 (result4_value stateid4 stateid4_value r)
unserved_res_value (res.RestoreFh r) = arm 31 unserved_resop4 (result4_value Void (λ nothing. tt) r)
unserved_res_value (res.SaveFh r) = arm 32 unserved_resop4 (result4_value Void (λ nothing. tt) r)
unserved_res_value (res.SetAttr r) = arm 34 unserved_resop4 (setattr4_res_value r)
unserved_res_value (res.FreeStateid r) = arm 45 unserved_resop4 (result4_value Void (λ nothing. tt) r)
unserved_res_value (res.SecInfoNoName r) = arm 52 unserved_resop4 (result4_value flavors4 (λ list. contents flavor4 (λ flavor. flavor.number) list.items.place) r)
unserved_res_value (res.TestStateid r) = arm 55 unserved_resop4 (result4_value (Array 4294967295 Number32) (λ list. contents Number32 (λ n. n) list.items.place) r)
unserved_res_value (res.Unbuilt number status) = unbuilt_res number (stat4_number status)

-- the number under which a result stands
abbrev pub unserved_number : Value unserved_resop4 → ℕ
unserved_number (inl v) = 3
unserved_number (inr (inl v)) = 21
unserved_number (inr (inr (inl v))) = 31
unserved_number (inr (inr (inr (inl v)))) = 32
unserved_number (inr (inr (inr (inr (inl v))))) = 34
unserved_number (inr (inr (inr (inr (inr (inl v)))))) = 45
unserved_number (inr (inr (inr (inr (inr (inr (inl v))))))) = 52
unserved_number (inr (inr (inr (inr (inr (inr (inr (inl v)))))))) = 55
unserved_number (inr (inr (inr (inr (inr (inr (inr (inr v)))))))) = v.0

-- a status other than OK, as the result of the operation with this number, which is none that is carried out
abbrev pub unserved_refused : ℕ → Stat4 → Value unserved_resop4
unserved_refused number status =
    if number == 3 then arm 3 unserved_resop4 (inr (stat4_number status))
    else if number == 21 then arm 21 unserved_resop4 (inr (stat4_number status))
    else if number == 31 then arm 31 unserved_resop4 (inr (stat4_number status))
    else if number == 32 then arm 32 unserved_resop4 (inr (stat4_number status))
    else if number == 34 then arm 34 unserved_resop4 (stat4_number status, [])
    else if number == 45 then arm 45 unserved_resop4 (inr (stat4_number status))
    else if number == 52 then arm 52 unserved_resop4 (inr (stat4_number status))
    else if number == 55 then arm 55 unserved_resop4 (inr (stat4_number status))
    else unbuilt_res number (stat4_number status)
