-- What an operation gives, and how long the values of attributes are.
use Rattle.std.proofs.Common.{◌≡◌, ℕ, ◌+◌, ◌≤◌, ◌<◌, ◌^◌, Bool, true, false, List, [], ◌∷◌, ◌++◌, inl, suc, length, Result, Ok, Err, sym, ap, subst, ◌∙◌, arith, length-append, IfOk, OnOk}
use Rattle.std.specs.Prelude.{get_or}
use Rattle.std.specs.List.{AllByRecursion}
use Rattle.ff_xdr.specs.Arms.{arm}
use Rattle.nfs4_types.specs.declared.stateid.Stateid.{Stateid}
use Rattle.nfs4_types.specs.Stateids.{stateid4_value}
use Rattle.open_state.specs.declared.open.Open.{Open}
use Rattle.open_state.specs.Opens.{stateid_of}
use Rattle.mds_rule.specs.FileOps.{open_result}
use Rattle.ff_xdr.specs.declared.error.NoMemory.{NoMemory}
use Rattle.ff_xdr.specs.Form.{Value, word, long}
use Rattle.ff_xdr.proofs.Fields.{length-word}
use Rattle.ff_xdr.proofs.CutShort.{length-long}
use Rattle.nfs4_compound.specs.Results.{resop4}
use Rattle.mds_refusals.specs.declared.object.Object.{Object}
use Rattle.mds_refusals.specs.declared.object.Object.TheVariants.{Root, File}
use Rattle.mds_refusals.specs.declared.attributes.TheConstants.{LEASE_TIME, FIRST_WORD, SECOND_WORD, REGULAR, DIRECTORY}
use Rattle.mds_refusals.specs.declared.attributes.Attributes.{Attributes}
use Rattle.mds_refusals.specs.declared.attributes.AskedAttributes.{AskedAttributes}
use Rattle.mds_refusals.specs.declared.layout_get.TheConstants.{FLEX_FILES}
use Rattle.mds_refusals.specs.Attributes.{when, supported_value, type_value, layout_types_value, values_of}
use Rattle.mds_rule.specs.MdsStates.{CompoundRun}
use Rattle.mds_rule.specs.OpSteps.{with_result}
use Rattle.compound_run.specs.declared.op_end.OpEnd.{OpEnd}
use Rattle.compound_run.specs.declared.op_end.OpEnd.TheVariants as end
use Rattle.compound_run.specs.CompoundRuns.{OnGoes}

-- it is done, with this result in other words
pub gives_as : (result : Result OpEnd NoMemory) (c d : CompoundRun) (v w : Value resop4) → v ≡ w → IfOk result (λ e. e ≡ end.Goes) → OnOk result (d ≡ with_result c v) → OnGoes result (d ≡ with_result c w)
gives_as (Err e) c d v w is goes run = tt
gives_as (Ok e) c d v w is goes run = subst (λ (x : OpEnd). OnGoes (Ok x) (d ≡ with_result c w)) (sym goes) (run ∙ ap (with_result c) is)

pub open_result_as : (o : Open) (s : Stateid) (words : List ℕ) → s ≡ stateid_of o → words ≡ [] → arm 18 resop4 (inl (stateid4_value s, (true, (0, (0, (0, (words, inl tt))))))) ≡ open_result o
open_result_as o s words named none =
    ap (λ (x : Stateid). arm 18 resop4 (inl (stateid4_value x, (true, (0, (0, (0, (words, inl tt)))))))) named ∙ ap (λ (x : List ℕ). arm 18 resop4 (inl (stateid4_value (stateid_of o), (true, (0, (0, (0, (x, inl tt)))))))) none

-- each number of a list has four bytes
pub all_fit : (xs : List ℕ) → ((i : ℕ) → get_or xs i 0 < 2 ^ 32) → AllByRecursion (λ (v : ℕ). v < 2 ^ 32) xs
all_fit [] each = tt
all_fit (x ∷ xs) each = (each 0, all_fit xs (λ i. each (suc i)))

when_few : (b : Bool) (xs : List ℕ) → length (when b xs) ≤ length xs
when_few true xs = omega arith
when_few false xs = omega arith

supported_size : length supported_value ≡ 12
supported_size = omega (arith, length-append (word 2) (word FIRST_WORD ++ word SECOND_WORD), length-append (word FIRST_WORD) (word SECOND_WORD), length-word 2, length-word FIRST_WORD, length-word SECOND_WORD)

type_size : (o : Object) → length (type_value o) ≡ 4
type_size Root = length-word DIRECTORY
type_size (File file) = length-word REGULAR

layout_types_size : length layout_types_value ≡ 8
layout_types_size = omega (arith, length-append (word 1) (word FLEX_FILES), length-word 1, length-word FLEX_FILES)

six : (a b c d e f : List ℕ) → length (a ++ (b ++ (c ++ (d ++ (e ++ f))))) ≡ length a + (length b + (length c + (length d + (length e + length f))))
six a b c d e f =
    length-append a (b ++ (c ++ (d ++ (e ++ f)))) ∙ ap (λ (n : ℕ). length a + n) (length-append b (c ++ (d ++ (e ++ f))) ∙ ap (λ (n : ℕ). length b + n) (length-append c (d ++ (e ++ f))
    ∙ ap (λ (n : ℕ). length c + n) (length-append d (e ++ f) ∙ ap (λ (n : ℕ). length d + n) (length-append e f))))

pub values_few : (asked : AskedAttributes) (a : Attributes) → length (values_of asked a) ≤ 44
values_few asked a =
    let types = type_value a.object in
    let all = six (when asked.supported supported_value) (when asked.object_type types) (when asked.change (long a.change)) (when asked.size (long a.size)) (when asked.lease_time (word LEASE_TIME)) (when asked.layout_types layout_types_value) in
    omega (
      arith,
      all,
      when_few asked.supported supported_value,
      when_few asked.object_type types,
      when_few asked.change (long a.change),
      when_few asked.size (long a.size),
      when_few asked.lease_time (word LEASE_TIME),
      when_few asked.layout_types layout_types_value,
      supported_size,
      type_size a.object,
      length-long a.change,
      length-long a.size,
      length-word LEASE_TIME,
      layout_types_size,
    )

pub values_short : (asked : AskedAttributes) (a : Attributes) (bytes old new : List ℕ) → bytes ≡ new → new ≡ old ++ values_of asked a → old ≡ [] → length bytes < 65536
values_short asked a bytes old new is made none = omega (arith, ap {A = List ℕ} length (is ∙ made ∙ ap (λ (x : List ℕ). x ++ values_of asked a) none), values_few asked a)
