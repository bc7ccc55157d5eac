-- What is kept of the file at one place by all that goes out, where its READs and its own calls keep it.
use Rattle.std.proofs.Common.{◌≡◌, ◌≢◌, ◌⊎◌, inl, inr, ℕ, suc, Bool, true, false, Option, Some, None, refl, sym, ap, subst, ◌∙◌, arith}
use Rattle.std.specs.Prelude.{◌-◌, ◌==◌, not, if◌then◌else◌, slice_get, slice_set}
use Rattle.std.proofs.lemmas.Bool.{cond_both, eq-eqb, eqb-true}
use Rattle.std.proofs.lemmas.Option.{none-some, same_Some}
use Rattle.cluster_model.proofs.Elements.{slice_get-set_same, slice_get-set_other}
use Rattle.cluster_model.specs.declared.ids.FileId.{FileId}
use Rattle.mds_io.specs.Reads.{ReadSends}
use Rattle.mds_io.specs.Reads as read
use Rattle.mds_rule.specs.MdsStates.{WaitingRead, ServedFile, MdsValue, served, numbered}
use Rattle.mds_rule.specs.Goes.{OwnCall, own_by, has_xids}
use Rattle.mds_progress.proofs.Ticked.{pred_suc}
use Rattle.mds_quiet.proofs.OutWalk.{read_sent, OutCases}

pub served_at : (m : MdsValue) (file : FileId) (s : ServedFile) → served m file ≡ Some s → slice_get m.files (file.0 - 1) ≡ Some s
served_at m file s is =
    cond_both (file.0 == 0) None (slice_get m.files (file.0 - 1)) (λ (o : Option ServedFile). o ≡ Some s → slice_get m.files (file.0 - 1) ≡ Some s) (λ off none. absurd (none-some s none)) (λ on its. its) is

not_zero : (n : ℕ) (b : Bool) → (suc n == 0) ≡ b → b ≡ false
not_zero n true is = let same : suc n ≡ 0 = eqb-true (suc n) 0 is in absurd (omega (arith, same))
not_zero n false is = refl

pub served_suc : (m : MdsValue) (n : ℕ) → served m (numbered (suc n)) ≡ slice_get m.files n
served_suc m n = ap (λ (b : Bool). if b then None else slice_get m.files (suc n - 1)) (not_zero n (suc n == 0) refl) ∙ ap (slice_get m.files) (pred_suc n)

pub off_on : false ≡ true → ⊥
off_on e = absurd cc

-- no number is left
pub none_left : (m : MdsValue) → has_xids m ≡ false → m.next_xid ≡ 0
none_left m off = by_test (m.next_xid == 0) refl off
  where
    by_test : (b : Bool) → (m.next_xid == 0) ≡ b → not b ≡ false → m.next_xid ≡ 0
    by_test true is off = eqb-true m.next_xid 0 is
    by_test false is off = absurd cc

pub record FileCases (R : ServedFile → Type 0) : Type 0 where
  pub reads : (s : ServedFile) (n : ℕ) (r : WaitingRead) (sent : ReadSends) (xid : ℕ) → slice_get s.reads n ≡ Some r → read.next_sent r.read xid ≡ Some sent → R s → R (read_sent s n r sent)
  pub own : (file : FileId) (s : ServedFile) (xid : ℕ) (c : OwnCall) → own_by file s xid s.write ≡ Some c → R s → R c.served

-- the file at the place is so, or no number is left
abbrev pub Has : ℕ → (ServedFile → Type 0) → MdsValue → Type 0
Has p R m = (s : ServedFile) → slice_get m.files p ≡ Some s → R s

abbrev pub At : ℕ → (ServedFile → Type 0) → MdsValue → Type 0
At p R m = (m.next_xid ≡ 0) ⊎ Has p R m

pub at_put : (p : ℕ) (R : ServedFile → Type 0) (m : MdsValue) (file : FileId) (s t : ServedFile) → served m file ≡ Some s → (R s → R t) → Has p R m → (u : ServedFile) → slice_get (slice_set m.files (file.0 - 1) t) p ≡ Some u → R u
at_put p R m file s t is moves all u at = by_place (file.0 - 1 == p) refl
  where
    by_place : (b : Bool) → (file.0 - 1 == p) ≡ b → R u
    by_place true here =
        let same : file.0 - 1 ≡ p = eqb-true (file.0 - 1) p here in
        let own : slice_get m.files p ≡ Some s = subst (λ (i : ℕ). slice_get m.files i ≡ Some s) same (served_at m file s is) in
        let new : slice_get (slice_set m.files (file.0 - 1) t) p ≡ Some t = subst (λ (i : ℕ). slice_get (slice_set m.files i t) p ≡ Some t) (sym same) (slice_get-set_same m.files p s t own) in
        subst R (same_Some t u (sym new ∙ at)) (moves (all s own))
    by_place false off = all u (sym (slice_get-set_other m.files (file.0 - 1) p t (λ same. off_on (sym off ∙ eq-eqb (file.0 - 1) p (sym same)))) ∙ at)

-- to another, where the file is so
pub at_more : (p : ℕ) (R S : ServedFile → Type 0) (m : MdsValue) → ((s : ServedFile) → R s → S s) → At p R m → At p S m
at_more p R S m more (inl none) = inl none
at_more p R S m more (inr all) = inr (λ s at. more s (all s at))

module _ (p : ℕ) (R : ServedFile → Type 0) (k : FileCases R) where
  number_put : (m : MdsValue) (file : FileId) (s t : ServedFile) → served m file ≡ Some s → (R s → R t) → At p R m → (m.next_xid ≡ 0) ⊎ ((u : ServedFile) → slice_get (slice_set m.files (file.0 - 1) t) p ≡ Some u → R u)
  number_put m file s t is moves (inl none) = inl none
  number_put m file s t is moves (inr all) = inr (at_put p R m file s t is moves all)

  pub out_cases : OutCases (At p R)
  out_cases = record {
    called = λ m node caller sent some i. calls m some i;
    skips = λ m some i. calls m some i;
    sessions = λ m table i. i;
    recalls = λ m sent goes i. i;
    reads = λ m file s n r sent is at goes i. number_put m file s (read_sent s n r sent) is (λ its. k.reads s n r sent m.next_xid at goes its) i;
    own = λ m file s c is its i. number_put m file s c.served is (λ old. k.own file s m.next_xid c its old) i;
  }
    where
      calls : {N : Type 0} (m : MdsValue) → m.next_xid ≢ 0 → At p R m → N ⊎ Has p R m
      calls m some (inl none) = absurd (some none)
      calls m some (inr all) = inr all
