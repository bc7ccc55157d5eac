-- The plan of a call on a file, by what the code found of it.
use Rattle.std.proofs.Common.{◌≡◌, ℕ, ◌+◌, ◌<◌, Bool, List, length, get_or, Option, Some, None, refl, sym, ap, subst, ◌∙◌}
use Rattle.std.specs.Prelude.{slice_get}
use Rattle.std.specs.Option.{option_map}
use Rattle.std.proofs.lemmas.Option.{slice_get_read}
use Rattle.nfs3_wire.specs.declared.status.Stat3.{Stat3}
use Rattle.nfs3_wire.specs.declared.stable_how.StableHow.{StableHow}
use Rattle.nfs3_wire.specs.Replies.{WriteRefused, SetAttrRefused}
use Rattle.cluster_model.specs.declared.tick.Tick.{Tick}
use Rattle.cluster_model.specs.declared.change.Changes.{Changes}
use Rattle.cluster_model.specs.File.{StoredFile, Writes, shown}
use Rattle.cluster_model.specs.Server.{ServerState, Caller, Refusal, write_refusal, set_refusal, OnFile}
use Rattle.ds_procedures.specs.declared.server_base.ServerBase.{ServerBase}
use Rattle.ds_procedures.specs.Objects.{stat_of, file_attributes, wcc_same}
use Rattle.ds_procedures.specs.Write.{is_synced, write_done, write_unless}
use Rattle.ds_procedures.specs.Setattr.{set_done, set_unless}
use Rattle.ds_procedures.specs.Plans.{reply_alone}
use Rattle.ds_procedures.specs.ServerBases.{IsServer, server_of, write_refusal_by_sizes}
use Rattle.ds_procedures.specs.CodePlans.{HasRoom, IsReady}
use Rattle.ds_procedures.proofs.Places.{refusal_is, granted, same_file}

-- what a status says, that is of a refusal
write_status : (s : ServerState) (index : ℕ) (x : StoredFile) (offset : ℕ) (how : StableHow) (bytes : List ℕ) (r : Option Refusal) (status : Stat3) → Some status ≡ option_map stat_of r
    → reply_alone (WriteRefused status (wcc_same (Some (file_attributes (index + 2) x)))) ≡ write_unless s index x offset how bytes r
write_status s index x offset how bytes None status e = absurd (cc)
write_status s index x offset how bytes (Some refusal) status e =
    let same : status ≡ stat_of refusal = cc in
    ap (λ (st : Stat3). reply_alone (WriteRefused st (wcc_same (Some (file_attributes (index + 2) x))))) same

set_status : (s : ServerState) (index : ℕ) (x : StoredFile) (changes : Changes) (r : Option Refusal) (status : Stat3) → Some status ≡ option_map stat_of r
    → reply_alone (SetAttrRefused status (wcc_same (Some (file_attributes (index + 2) x)))) ≡ set_unless s index x changes r
set_status s index x changes None status e = absurd (cc)
set_status s index x changes (Some refusal) status e =
    let same : status ≡ stat_of refusal = cc in
    ap (λ (st : Stat3). reply_alone (SetAttrRefused st (wcc_same (Some (file_attributes (index + 2) x))))) same

pub none_by : (r : Option Refusal) → None ≡ option_map stat_of r → r ≡ None
none_by None e = refl
none_by (Some refusal) e = absurd (cc)

module _ (h : ServerBase) (files : List StoredFile) (index : ℕ) (x : StoredFile) (caller : Caller) (k : IsServer h files) (is : x ≡ get_or files index x) (lt : index < length files) where
  there_is : slice_get files index ≡ Some x
  there_is = slice_get_read files (length files) index x refl lt is

  -- ---- WRITE

  module _ (agree : Bool) (offset : ℕ) (how : StableHow) (bytes : List ℕ) where
    same_refusal : write_refusal_by_sizes h.total h.clock x caller agree offset bytes ≡ write_refusal (server_of h files) index x caller agree offset bytes
    same_refusal = refusal_is h files index x caller agree offset bytes k there_is

    pub write_refused : (status : Stat3) → Some status ≡ option_map stat_of (write_refusal_by_sizes h.total h.clock x caller agree offset bytes) → (f : StoredFile) → slice_get files index ≡ Some f
        → reply_alone (WriteRefused status (wcc_same (Some (file_attributes (index + 2) x)))) ≡ write_unless (server_of h files) index f offset how bytes (write_refusal (server_of h files) index f caller agree offset bytes)
    write_refused status e f there =
        let here : reply_alone (WriteRefused status (wcc_same (Some (file_attributes (index + 2) x)))) ≡ write_unless (server_of h files) index x offset how bytes (write_refusal (server_of h files) index x caller agree offset bytes) =
        write_status (server_of h files) index x offset how bytes (write_refusal (server_of h files) index x caller agree offset bytes) status (e ∙ ap (option_map stat_of) same_refusal) in
        subst (λ (g : StoredFile). reply_alone (WriteRefused status (wcc_same (Some (file_attributes (index + 2) x)))) ≡ write_unless (server_of h files) index g offset how bytes (write_refusal (server_of h files) index g caller agree offset bytes)) (same_file files index x f is there) here

    pub write_granted : None ≡ option_map stat_of (write_refusal_by_sizes h.total h.clock x caller agree offset bytes) → (f : StoredFile) → slice_get files index ≡ Some f
        → write_done (server_of h files) index x (Writes offset (is_synced how) bytes) (length bytes) (is_synced how) ≡ write_unless (server_of h files) index f offset how bytes (write_refusal (server_of h files) index f caller agree offset bytes)
    write_granted e f there =
        let none = sym same_refusal ∙ none_by (write_refusal_by_sizes h.total h.clock x caller agree offset bytes) e in
        let here : write_done (server_of h files) index x (Writes offset (is_synced how) bytes) (length bytes) (is_synced how) ≡ write_unless (server_of h files) index x offset how bytes (write_refusal (server_of h files) index x caller agree offset bytes) = rw none refl in
        subst (λ (g : StoredFile). write_done (server_of h files) index x (Writes offset (is_synced how) bytes) (length bytes) (is_synced how) ≡ write_unless (server_of h files) index g offset how bytes (write_refusal (server_of h files) index g caller agree offset bytes)) (same_file files index x f is there) here

    -- and it can be carried out
    pub write_ready : None ≡ option_map stat_of (write_refusal_by_sizes h.total h.clock x caller agree offset bytes) → IsReady h files (OnFile index (Writes offset (is_synced how) bytes))
    write_ready e =
        let room = (granted h x caller agree offset bytes k.ticks (none_by (write_refusal_by_sizes h.total h.clock x caller agree offset bytes) e)).room in
        (lt, (λ f there. subst (λ (g : StoredFile). HasRoom h (length (shown g)) offset (length bytes)) (same_file files index x f is there) room), tt)

  -- ---- SETATTR

  module _ (agree : Bool) (guard : Option Tick) (changes : Changes) where
    pub set_refused : (status : Stat3) → Some status ≡ option_map stat_of (set_refusal (server_of h files) x caller agree guard) → (f : StoredFile) → slice_get files index ≡ Some f
        → reply_alone (SetAttrRefused status (wcc_same (Some (file_attributes (index + 2) x)))) ≡ set_unless (server_of h files) index f changes (set_refusal (server_of h files) f caller agree guard)
    set_refused status e f there =
        let here : reply_alone (SetAttrRefused status (wcc_same (Some (file_attributes (index + 2) x)))) ≡ set_unless (server_of h files) index x changes (set_refusal (server_of h files) x caller agree guard) =
        set_status (server_of h files) index x changes (set_refusal (server_of h files) x caller agree guard) status e in
        subst (λ (g : StoredFile). reply_alone (SetAttrRefused status (wcc_same (Some (file_attributes (index + 2) x)))) ≡ set_unless (server_of h files) index g changes (set_refusal (server_of h files) g caller agree guard)) (same_file files index x f is there) here

    pub set_granted : None ≡ option_map stat_of (set_refusal (server_of h files) x caller agree guard) → (f : StoredFile) → slice_get files index ≡ Some f
        → set_done (server_of h files) index x changes ≡ set_unless (server_of h files) index f changes (set_refusal (server_of h files) f caller agree guard)
    set_granted e f there =
        let none = none_by (set_refusal (server_of h files) x caller agree guard) e in
        let here : set_done (server_of h files) index x changes ≡ set_unless (server_of h files) index x changes (set_refusal (server_of h files) x caller agree guard) = rw none refl in
        subst (λ (g : StoredFile). set_done (server_of h files) index x changes ≡ set_unless (server_of h files) index g changes (set_refusal (server_of h files) g caller agree guard)) (same_file files index x f is there) here
