-- How long the reply to a LAYOUTGET is: a slot can keep it.
use Rattle.std.proofs.Common.{◌≡◌, ◌≤◌, ℕ, ◌+◌, List, [], ◌∷◌, ◌++◌, length, refl, arith, inl, length-append}
use Rattle.std.specs.List.{flat_map}
use Rattle.ff_xdr.specs.Form.{Value, word, padded, spelling}
use Rattle.ff_xdr.specs.Arms.{arm}
use Rattle.ff_xdr.proofs.Fields.{length-word}
use Rattle.granted_layouts.specs.GrantedBodies.{layout_length, layout_body, whole_layout}
use Rattle.granted_layouts.proofs.LayoutSizes.{padded_size, opaque_size}
use Rattle.cluster_model.specs.declared.ids.FileId.{FileId}
use Rattle.nfs4_types.specs.declared.sequence.Sequence.{Sequence}
use Rattle.nfs4_file_ops.specs.Layout4.{layout4}
use Rattle.nfs4_types.specs.Stateids.{three_words}
use Rattle.nfs4_compound.specs.Results.{resop4}
use Rattle.nfs4_compound.specs.Compounds.{compound4_res}
use Rattle.mds_rule.specs.MdsStates.{ServedFile}
use Rattle.mds_rule.specs.LayoutOps.{layout_of_file}
use Rattle.mds_rule.specs.Compounds.{sequence_result}
use Rattle.mds_replies.proofs.LayoutGetRuns.{IsShort, words_length}

pub compound_size : (status : ℕ) (results : List (Value resop4)) → length (spelling compound4_res (status, ([], results))) ≡ 12 + length (flat_map (λ (v : Value resop4). spelling resop4 v) results)
compound_size status results =
    let all = flat_map (λ (v : Value resop4). spelling resop4 v) results in
    let counted = word (length results) ++ all in
    let tag = word 0 ++ padded [] in
    omega (arith, length-append (word status) (tag ++ counted), length-word status, length-append tag counted, opaque_size [], length-append (word (length results)) all, length-word (length results))

pub first_size : (s : Sequence) → length s.session.0 ≡ 16 → length (spelling resop4 (sequence_result s)) ≡ 44
first_size s is =
    let numbers = word s.sequence ++ (word s.slot ++ (word 7 ++ (word 7 ++ word 0))) in
    let b = word s.slot ++ (word 7 ++ (word 7 ++ word 0)) in
    let c = word 7 ++ (word 7 ++ word 0) in
    let d = word 7 ++ word 0 in
    let body = padded s.session.0 ++ numbers in
    omega (
      arith,
      is,
      length-append (word 53) (word 0 ++ body),
      length-word 53,
      length-append (word 0) body,
      length-word 0,
      length-append (padded s.session.0) numbers,
      padded_size s.session.0,
      length-append (word s.sequence) b,
      length-word s.sequence,
      length-append (word s.slot) c,
      length-word s.slot,
      length-append (word 7) d,
      length-word 7,
      length-append (word 7) (word 0),
    )

put_size : length (spelling resop4 (arm 22 resop4 (inl tt))) ≡ 8
unfolding word
put_size = refl

layout_size : (file : FileId) (s : ServedFile) → length (spelling resop4 (layout_of_file file s)) ≡ 32 + layout_length s.file.layout.cred.0 s.file.layout.live
layout_size file s =
    let layout = spelling layout4 (whole_layout (layout_body s.file.layout.cred.0 s.file.layout.live)) in
    let other = padded (three_words file.0 s.file.layout.cred.0 0) in
    let layouts = word 1 ++ (layout ++ []) in
    let stateid = word s.seqid ++ other in
    let body = word 0 ++ (stateid ++ layouts) in
    omega (
      arith,
      length-append (word 50) (word 0 ++ body),
      length-word 50,
      length-append (word 0) body,
      length-word 0,
      length-append (word 0) (stateid ++ layouts),
      length-append stateid layouts,
      length-append (word s.seqid) other,
      length-word s.seqid,
      padded_size (three_words file.0 s.file.layout.cred.0 0),
      words_length file.0 s.file.layout.cred.0 0,
      length-append (word 1) (layout ++ []),
      length-word 1,
      length-append layout [],
    )

-- the reply is kept
pub refused_short : (s : Sequence) (status : ℕ) (results : List (Value resop4)) → length s.session.0 ≡ 16 → IsShort (sequence_result s) results → length (spelling compound4_res (status, ([], results))) ≤ 32768
refused_short s status results id few =
    let first = first_size s id in
    let whole = compound_size status results in
    let short : length (flat_map (λ (v : Value resop4). spelling resop4 v) results) ≤ length (spelling resop4 (sequence_result s)) + 64 = few in
    omega (arith, first, whole, short)

pub granted_short : (s : Sequence) (file : FileId) (its : ServedFile) → length s.session.0 ≡ 16 → layout_length its.file.layout.cred.0 its.file.layout.live ≤ 4096
    → length (spelling compound4_res (0, ([], sequence_result s ∷ arm 22 resop4 (inl tt) ∷ layout_of_file file its ∷ []))) ≤ 32768
granted_short s file its id few =
    let first = spelling resop4 (sequence_result s) in
    let put = spelling resop4 (arm 22 resop4 (inl tt)) in
    let layout = spelling resop4 (layout_of_file file its) in
    omega (
      arith,
      few,
      first_size s id,
      compound_size 0 (sequence_result s ∷ arm 22 resop4 (inl tt) ∷ layout_of_file file its ∷ []),
      length-append first (put ++ (layout ++ [])),
      length-append put (layout ++ []),
      put_size,
      length-append layout [],
      layout_size file its,
    )
