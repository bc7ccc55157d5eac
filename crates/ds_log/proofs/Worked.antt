-- Logs worked out byte by byte.
use Rattle.std.proofs.Common.{◌≡◌, ℕ, List, [], ◌∷◌, map, Some, None, Ok, Err, refl}
use Rattle.std.specs.Option.{option_map}
use Rattle.ff_xdr.specs.Form.{word, long, padded, pad_len, spelling}
use Rattle.ff_xdr.specs.Reading.{number_at}
use Rattle.rpc_record.specs.Calls.{word_of}
use Rattle.gate_log.specs.Logs.{log_within}
use Rattle.cluster_model.specs.declared.tick.Tick.{Tick}
use Rattle.cluster_model.specs.declared.tick.Times.{Times}
use Rattle.cluster_model.specs.Content.{Pending}
use Rattle.cluster_model.specs.File.{all_at}
use Rattle.cluster_model.specs.Server.{ServerState}
use Rattle.ds_log.specs.Bodies.{Creates, SetsAttributes, HoldsBytes, HoldsFile, HoldsRoot, body_form, body_value, body_in}
use Rattle.ds_log.specs.Durable.{unbooted, start_of, created, with_lasting_file, applied, log_state}

-- ---- a disk of at most one byte is new

pub nothing : log_state 1 [] ≡ Ok (unbooted 1)
nothing = refl

pub closed_gate : log_state 1 (0 ∷ []) ≡ Ok (unbooted 1)
closed_gate = refl

pub open_gate : log_state 1 (1 ∷ []) ≡ Ok (unbooted 1)
open_gate = refl

-- ---- a gate with no record behind it

pub no_record : log_state 1 (1 ∷ 0 ∷ []) ≡ Err 0
unfolding log_within
no_record = refl

-- ---- the record of the first boot: its gate, its length, the number of its kind, and the boot

abbrev first_boot : List ℕ → List ℕ
first_boot next = 1 ∷ 0 ∷ 0 ∷ 0 ∷ 8 ∷ 0 ∷ 0 ∷ 0 ∷ 1 ∷ 0 ∷ 0 ∷ 0 ∷ 1 ∷ next

pub booted : log_state 1 (first_boot (0 ∷ [])) ≡ Ok (record (unbooted 1) { clock = start_of 1 })
unfolding log_within word_of number_at
booted = refl

pub other_gate : log_state 1 (first_boot (7 ∷ [])) ≡ Ok (record (unbooted 1) { clock = start_of 1 })
unfolding log_within word_of number_at
other_gate = refl

-- with no gate behind it, or with an open one that has no record
pub no_gate : log_state 1 (first_boot []) ≡ Err 13
unfolding log_within word_of number_at
no_gate = refl

pub gate_left_open : log_state 1 (first_boot (1 ∷ [])) ≡ Err 13
unfolding log_within word_of number_at
gate_left_open = refl

-- ---- bodies that are bad

-- the same boot again, in the second record, whose gate is the byte 13
pub booted_again : log_state 1 (first_boot (first_boot (0 ∷ []))) ≡ Err 13
unfolding log_within word_of number_at
booted_again = refl

-- a byte behind the body, and a number that is no kind's
pub longer_body : log_state 1 (1 ∷ 0 ∷ 0 ∷ 0 ∷ 9 ∷ 0 ∷ 0 ∷ 0 ∷ 1 ∷ 0 ∷ 0 ∷ 0 ∷ 1 ∷ 0 ∷ 0 ∷ []) ≡ Err 0
unfolding log_within word_of number_at
longer_body = refl

pub no_kind : log_state 1 (1 ∷ 0 ∷ 0 ∷ 0 ∷ 8 ∷ 0 ∷ 0 ∷ 0 ∷ 5 ∷ 0 ∷ 0 ∷ 0 ∷ 1 ∷ 0 ∷ []) ≡ Err 0
unfolding log_within word_of number_at
no_kind = refl

-- ---- a file

abbrev tick_at : ℕ → ℕ → Tick
tick_at boot count = record { boot = boot; count = count }

abbrev one_file : ServerState
one_file = created (record (unbooted 1) { clock = start_of 1 }) (109 ∷ []) 7 8 416 (tick_at 1 1)

pub made : applied (record (unbooted 1) { clock = start_of 1 }) (Creates (109 ∷ []) 2 7 8 416 (tick_at 1 1)) ≡ Some one_file
made = refl

-- each range is behind the one before, with zeros in the gap; one of no bytes changes nothing
abbrev ranges : List Pending
ranges = record { at = 3; bytes = 1 ∷ 2 ∷ [] } ∷ record { at = 4; bytes = 9 ∷ [] } ∷ record { at = 20; bytes = [] } ∷ []

pub stored : option_map (λ s. map (λ f. f.content.stable) s.files) (applied one_file (HoldsBytes 2 (tick_at 1 2) (tick_at 1 3) ranges)) ≡ Some ((0 ∷ 0 ∷ 0 ∷ 1 ∷ 9 ∷ []) ∷ [])
stored = refl

-- a range that ends behind what a file may have, though it has no bytes; a tick of the next boot; a fileid that nothing has
pub range_too_far : applied one_file (HoldsBytes 2 (tick_at 1 2) (tick_at 1 3) (record { at = 67108865; bytes = [] } ∷ [])) ≡ None
range_too_far = refl

pub tick_to_come : applied one_file (HoldsBytes 2 (tick_at 1 2) (tick_at 2 1) []) ≡ None
tick_to_come = refl

pub no_file : applied one_file (HoldsBytes 3 (tick_at 1 2) (tick_at 1 3) []) ≡ None
no_file = refl

pub root_is_none : applied one_file (SetsAttributes 1 7 8 416 (record { atime = tick_at 1 1; mtime = tick_at 1 1; ctime = tick_at 1 1 })) ≡ None
root_is_none = refl

-- ---- what a snapshot has besides

-- the root's times, all of them the start of boot 1
abbrev root_bytes : List ℕ
root_bytes = 0 ∷ 0 ∷ 0 ∷ 7 ∷ 0 ∷ 0 ∷ 0 ∷ 1 ∷ 0 ∷ 0 ∷ 0 ∷ 0 ∷ 0 ∷ 0 ∷ 0 ∷ 1 ∷ 0 ∷ 0 ∷ 0 ∷ 0 ∷ 0 ∷ 0 ∷ 0 ∷ 1 ∷ 0 ∷ 0 ∷ 0 ∷ 0 ∷ []

pub root_spelled : spelling body_form (body_value (HoldsRoot (all_at (tick_at 1 0)))) ≡ root_bytes
unfolding word
root_spelled = refl

pub root_read : body_in root_bytes ≡ Some (HoldsRoot (all_at (tick_at 1 0)))
unfolding number_at
root_read = refl

-- a file m1 of owner 7 and group 8 with mode 0640, whose times are 1.1, 1.2 and 1.3
abbrev three_times : Times
three_times = record { atime = tick_at 1 1; mtime = tick_at 1 2; ctime = tick_at 1 3 }

abbrev file_bytes : List ℕ
file_bytes =
    0 ∷ 0 ∷ 0 ∷ 6 ∷ 0 ∷ 0 ∷ 0 ∷ 2 ∷ 109 ∷ 49 ∷ 0 ∷ 0 ∷ 0 ∷ 0 ∷ 0 ∷ 0 ∷ 0 ∷ 0 ∷ 0 ∷ 2 ∷ 0 ∷ 0 ∷ 0 ∷ 7 ∷ 0 ∷ 0 ∷ 0 ∷ 8 ∷ 0 ∷ 0 ∷ 1 ∷ 160
    ∷ 0 ∷ 0 ∷ 0 ∷ 1 ∷ 0 ∷ 0 ∷ 0 ∷ 1 ∷ 0 ∷ 0 ∷ 0 ∷ 1 ∷ 0 ∷ 0 ∷ 0 ∷ 2 ∷ 0 ∷ 0 ∷ 0 ∷ 1 ∷ 0 ∷ 0 ∷ 0 ∷ 3 ∷ []

pub file_spelled : spelling body_form (body_value (HoldsFile (109 ∷ 49 ∷ []) 2 7 8 416 three_times)) ≡ file_bytes
unfolding word long padded pad_len
file_spelled = refl

-- it leaves the root as it is, and its fileid is the next; a name in use, one of no bytes, another fileid and a ctime to come are refused
pub file_held : applied one_file (HoldsFile (109 ∷ 49 ∷ []) 3 7 8 416 three_times) ≡ Some (with_lasting_file one_file (109 ∷ 49 ∷ []) 7 8 416 three_times)
file_held = refl

pub root_stays : option_map (λ s. s.root) (applied one_file (HoldsFile (109 ∷ 49 ∷ []) 3 7 8 416 three_times)) ≡ Some one_file.root
root_stays = refl

pub name_in_use : applied one_file (HoldsFile (109 ∷ []) 3 7 8 416 three_times) ≡ None
name_in_use = refl

pub no_name : applied one_file (HoldsFile [] 3 7 8 416 three_times) ≡ None
no_name = refl

pub other_fileid : applied one_file (HoldsFile (109 ∷ 49 ∷ []) 2 7 8 416 three_times) ≡ None
other_fileid = refl

pub root_to_come : applied one_file (HoldsRoot (all_at (tick_at 2 0))) ≡ None
root_to_come = refl
