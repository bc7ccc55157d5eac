-- The report of a LAYOUTRETURN: its parts, and how long it is.
use Rattle.std.proofs.Common.{◌≡◌, ℕ, ◌+◌, ◌*◌, ◌^◌, ◌<◌, ◌≤◌, List, [], ◌∷◌, ◌++◌, length, take, map, refl, sym, ap, ◌∙◌, arith, append_assoc, append-nil, length-append}
use Rattle.std.specs.List.{flat_map}
use Rattle.std.proofs.Math.Seq.{take-length}
use Rattle.ff_xdr.specs.Form.{spelling, word, pad_len}
use Rattle.ff_xdr.proofs.Fields.{length-word}
use Rattle.ff_xdr.proofs.CutShort.{length-long}
use Rattle.ff_xdr.proofs.StoppedText.{length-padded}
use Rattle.ff_layout.specs.IoError.{ff_ioerr4}
use Rattle.nfs4_types.specs.declared.stateid.Stateid.{Stateid}
use Rattle.client_file_calls.specs.declared.layout_return.FailedMirror.{FailedMirror}
use Rattle.client_file_calls.specs.FileOps.{io_error_of, return_body}

-- what is said of one mirror
abbrev pub error_text : Stateid → FailedMirror → List ℕ
error_text stateid m = spelling ff_ioerr4 (io_error_of stateid m)

one_by_one : (stateid : Stateid) (failed : List FailedMirror) → flat_map (error_text stateid) failed ≡ flat_map (λ v. spelling ff_ioerr4 v) (map (io_error_of stateid) failed)
one_by_one stateid [] = refl
one_by_one stateid (m ∷ ms) = ap (λ (xs : List ℕ). error_text stateid m ++ xs) (one_by_one stateid ms)

count_of : (stateid : Stateid) (failed : List FailedMirror) → length (map (io_error_of stateid) failed) ≡ length failed
count_of stateid [] = refl
count_of stateid (m ∷ ms) = omega (arith, count_of stateid ms)

pub report_is : (stateid : Stateid) (failed : List FailedMirror) → return_body stateid failed ≡ (word (length failed) ++ flat_map (error_text stateid) failed) ++ word 0
report_is stateid failed =
    ap (λ (xs : List ℕ). (word (length (map (io_error_of stateid) failed)) ++ flat_map (λ v. spelling ff_ioerr4 v) (map (io_error_of stateid) failed)) ++ xs) (append-nil (word 0))
    ∙ (λ i. (word (count_of stateid failed i) ++ sym (one_by_one stateid failed) i) ++ word 0)

-- the errors of all mirrors are put, and then that there are no statistics
pub report_end : (stateid : Stateid) (failed : List FailedMirror) (old mid new : List ℕ) (n : ℕ) → n ≡ length failed
    → mid ≡ old ++ (word (length failed) ++ flat_map (error_text stateid) (take n failed)) → new ≡ mid ++ word 0 → new ≡ old ++ return_body stateid failed
report_end stateid failed old mid new n all put last =
    let whole : take n failed ≡ failed = ap (λ (k : ℕ). take k failed) all ∙ take-length failed in
    last ∙ ap (λ (xs : List ℕ). xs ++ word 0) (put ∙ ap (λ (ms : List FailedMirror). old ++ (word (length failed) ++ flat_map (error_text stateid) ms)) whole)
    ∙ append_assoc old (word (length failed) ++ flat_map (error_text stateid) failed) (word 0) ∙ ap (λ (xs : List ℕ). old ++ xs) (sym (report_is stateid failed))

pad_below : (n : ℕ) → pad_len n ≤ 3
unfolding pad_len
pad_below n = omega arith

error_size : (s : Stateid) (m : FailedMirror) → length s.other ≡ 12 → length (error_text s m) ≤ 100
error_size s m twelve =
    simp (length-append, length-word, length-long, length-padded) (omega (arith, twelve, pad_below (length s.other), pad_below 16, length-long m.server))

texts_size : (s : Stateid) → length s.other ≡ 12 → (failed : List FailedMirror) → length (flat_map (error_text s) failed) ≤ 100 * length failed
texts_size s twelve [] = omega arith
texts_size s twelve (m ∷ ms) = omega (arith, length-append (error_text s m) (flat_map (error_text s) ms), error_size s m twelve, texts_size s twelve ms)

pub report_size : (s : Stateid) (failed : List FailedMirror) → length s.other ≡ 12 → length failed ≤ 4 → length (return_body s failed) < 2 ^ 32
report_size s failed twelve few =
    let texts = flat_map (error_text s) failed in
    let size = ap length (report_is s failed) ∙ length-append (word (length failed) ++ texts) (word 0) in
    omega (arith, few, size, length-append (word (length failed)) texts, length-word (length failed), length-word 0, texts_size s twelve failed)
