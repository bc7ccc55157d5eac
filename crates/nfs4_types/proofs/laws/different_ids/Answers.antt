use Rattle.std.proofs.Common.{◌≡◌, ℕ, ◌<◌, ◌^◌, ◌++◌, replicate, arith, ap, refl, sym, ◌∙◌, lit<, Some}
use Rattle.ff_xdr.specs.Form.{long}
use Rattle.std.proofs.lemmas.Nat.{from_be_bytes-to_be_bytes_8}
use Rattle.nfs4_types.specs.Handles.{file_handle_of, file_number_of}
use Rattle.nfs4_types.proofs.OneSpelling.{one_spelling, words3, longs2}
use Rattle.nfs4_types.proofs.laws.different_ids.Goals as goal

zeros : (n : ℕ) → replicate 8 0 ++ long n ≡ long 0 ++ long n
unfolding long
zeros n = refl

pub returns-clause-layouts : goal.returns-clause-layouts
returns-clause-layouts c = λ file uid seqid file2 uid2 seqid2 a b d e same.
    let v = one_spelling words3 (c.every_form.ensures words3 refl).again (file, (uid, 0)) (file2, (uid2, 0)) (a, (b, (lit< tt))) (d, (e, (lit< tt))) same in
    (ap (λ x. x.0) v, ap (λ x. x.1.0) v)

pub returns-clause-opens : goal.returns-clause-opens
returns-clause-opens c = λ file n file2 n2 a b d e same.
    let v = one_spelling words3 (c.every_form.ensures words3 refl).again (file, (0, n)) (file2, (0, n2)) (a, ((lit< tt), b)) (d, ((lit< tt), e)) same in
    (ap (λ x. x.0) v, ap (λ x. x.1.1) v)

pub returns-clause-kinds : goal.returns-clause-kinds
returns-clause-kinds c = λ file n file2 uid seqid a above b d e same.
    let v = one_spelling words3 (c.every_form.ensures words3 refl).again (file, (0, n)) (file2, (uid, 0)) (a, ((lit< tt), b)) (d, (e, (lit< tt))) same in
    let none = ap (λ x. x.1.1) v in
    omega (arith, none, above)

pub returns-clause-read_layouts : goal.returns-clause-read_layouts
returns-clause-read_layouts c = λ file uid seqid file2 uid2 seqid2 a b d e same.
    let v = one_spelling words3 (c.every_form.ensures words3 refl).again (file, (uid, 1)) (file2, (uid2, 1)) (a, (b, (lit< tt))) (d, (e, (lit< tt))) same in
    (ap (λ x. x.0) v, ap (λ x. x.1.0) v)

pub returns-clause-read_kinds : goal.returns-clause-read_kinds
returns-clause-read_kinds c = λ file uid seqid file2 uid2 seqid2 a b d e same.
    let v = one_spelling words3 (c.every_form.ensures words3 refl).again (file, (uid, 1)) (file2, (uid2, 0)) (a, (b, (lit< tt))) (d, (e, (lit< tt))) same in
    let one : 1 ≡ 0 = ap (λ x. x.1.1) v in
    omega (arith, one)

pub returns-clause-read_opens : goal.returns-clause-read_opens
returns-clause-read_opens c = λ file uid seqid file2 n a above b d e same.
    let v = one_spelling words3 (c.every_form.ensures words3 refl).again (file, (uid, 1)) (file2, (0, n)) (a, (b, (lit< tt))) (d, ((lit< tt), e)) same in
    let none : uid ≡ 0 = ap (λ x. x.1.0) v in
    omega (arith, none, above)

pub returns-clause-devices : goal.returns-clause-devices
returns-clause-devices c = λ server server2 a b same.
    let long_a : server < 2 ^ 64 = omega (arith, a) in
    let long_b : server2 < 2 ^ 64 = omega (arith, b) in
    let texts = sym (zeros server) ∙ ap (λ d. d.0) same ∙ zeros server2 in
    let v = one_spelling longs2 (c.every_form.ensures longs2 refl).again (0, server) (0, server2) ((lit< tt), long_a) ((lit< tt), long_b) texts in
    ap (λ x. x.1) v

number_again : (file : ℕ) → file < 2 ^ 64 → file_number_of (file_handle_of file) ≡ Some file
unfolding long
number_again file below = ap Some (from_be_bytes-to_be_bytes_8 file below)

pub returns-clause-handles : goal.returns-clause-handles
returns-clause-handles c = number_again
