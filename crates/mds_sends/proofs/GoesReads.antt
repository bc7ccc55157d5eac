-- A file's READ that goes out, or does not.
use Rattle.std.proofs.Common.{◌≡◌, ℕ, ◌==◌, ◌&&◌, Bool, true, false, cond, not, List, Option, Some, None, Result, Ok, Err, refl, sym, ap, subst, ◌∙◌, slice_get, OnOk}
use Rattle.std.proofs.lemmas.Bool.{eq-eqb, ne_eqb}
use Rattle.std.proofs.lemmas.Option.{same_Some}
use Rattle.ff_xdr.specs.declared.error.NoMemory.{NoMemory}
use Rattle.cluster_model.specs.declared.ids.NodeId.TheVariants.{Server}
use Rattle.cluster_model.specs.declared.ids.FileId.{FileId}
use Rattle.cluster_model.specs.declared.outbox.Outbox.{Outbox}
use Rattle.mds_io.specs.Reads.{ReadSends}
use Rattle.mds_rule.specs.MdsStates.{WaitingRead, ServedFile, CallsServer, MdsValue, MdsStep, sends_none, served, with_file}
use Rattle.mds_rule.specs.Goes.{read_goes, read_call, read_call_in, has_xids, place_of, calls_as, calls_server}
use Rattle.mds_rule.specs.declared.waiter.Waiter.TheVariants.{ForRead}
use Rattle.compound_run.specs.CompoundRuns.{HasMadeStep}
use Rattle.served_files.specs.declared.sending.SentByFile.{SentByFile}
use Rattle.served_files.specs.Sending.{ReadWaits, read_sent, read_out, SendsReadAt}
use Rattle.served_files.specs.FileSteps.{SendsReadOf, SendsReadIn}
use Rattle.mds_sends.proofs.GoesOwn.{steps_none, with_same}

-- whether the READ goes to this place now
abbrev goes_here : MdsValue → ServedFile → ℕ → ReadSends → Bool
goes_here m s place sent = (place_of s sent.id.server == place) && has_xids m

-- ---- of what stands at its place

pub none_at : (m : MdsValue) (file : FileId) (s : ServedFile) (n place : ℕ) (r : Option WaitingRead) → read_sent s m.next_xid r ≡ None → read_call m file s n place r ≡ sends_none m
none_at m file s n place None is = refl
none_at m file s n place (Some r) is = ap (read_goes m file s n place r) is

not_here : (m : MdsValue) (file : FileId) (s : ServedFile) (n place : ℕ) (r : Option WaitingRead) (sent : ReadSends) → read_sent s m.next_xid r ≡ Some sent → goes_here m s place sent ≡ false
    → read_call m file s n place r ≡ sends_none m
not_here m file s n place None sent is test = refl
not_here m file s n place (Some r) sent is test =
    ap (read_goes m file s n place r) is ∙ ap (λ (b : Bool). cond b (calls_server m file (read_out s n r sent) (ForRead file) sent.id.server 0 sent.call) (sends_none m)) test

left_at : (m : MdsValue) (file : FileId) (s t : ServedFile) (n place : ℕ) (r : Option WaitingRead) → SendsReadAt file s n m.next_xid (Ok None) t r → (read_call m file s n place r ≡ sends_none m) × (t ≡ s)
left_at m file s t n place None stays = (refl, stays)
left_at m file s t n place (Some r) (none, stays) = (ap (read_goes m file s n place r) none, stays)

went_at : (m : MdsValue) (file : FileId) (s t : ServedFile) (n place : ℕ) (c : SentByFile) (r : Option WaitingRead) (sent : ReadSends) → read_sent s m.next_xid r ≡ Some sent → goes_here m s place sent ≡ true
    → SendsReadAt file s n m.next_xid (Ok (Some c)) t r → read_call m file s n place r ≡ calls_server m file t c.caller c.server c.uid.0 c.call
went_at m file s t n place c None sent is test said = absurd said
went_at m file s t n place c (Some r) sent is test (other, next, gone, caller, server, uid, call) =
    let same : sent ≡ other = same_Some sent other (sym is ∙ next) in
    let file_is : read_out s n r sent ≡ t = ap (read_out s n r) same ∙ sym gone in
    let server_is : sent.id.server ≡ c.server = ap (λ (x : ReadSends). x.id.server) same ∙ sym server in
    let call_is : sent.call ≡ c.call = ap (λ (x : ReadSends). x.call) same ∙ sym call in
    let caller_is : ForRead file ≡ c.caller = sym caller in
    let uid_is : 0 ≡ c.uid.0 = sym uid in
    ap (read_goes m file s n place r) is
    ∙ ap (λ (b : Bool). cond b (calls_server m file (read_out s n r sent) (ForRead file) sent.id.server 0 sent.call) (sends_none m)) test
    ∙ (λ i. calls_server m file (file_is i) (caller_is i) (server_is i) (uid_is i) (call_is i))

-- ---- of the file

pub read_is : (m : MdsValue) (file : FileId) (place n : ℕ) (s : ServedFile) → served m file ≡ Some s → read_call_in file place n m (served m file) ≡ read_call m file s n place (slice_get s.reads n)
read_is m file place n s is = ap (read_call_in file place n m) is

-- none waits
pub read_not : (m : MdsValue) (file : FileId) (place n : ℕ) (s : ServedFile) (out : Outbox) → served m file ≡ Some s → ReadWaits s n m.next_xid None → HasMadeStep (read_call_in file place n m (served m file)) out m out
read_not m file place n s out is waits = steps_none _ m out (read_is m file place n s is ∙ none_at m file s n place (slice_get s.reads n) waits)

-- it waits for another place
pub read_elsewhere : (m : MdsValue) (file : FileId) (place n server : ℕ) (s : ServedFile) (out : Outbox) → served m file ≡ Some s → ReadWaits s n m.next_xid (Some server) → (place_of s server ≡ place → ⊥)
    → HasMadeStep (read_call_in file place n m (served m file)) out m out
read_elsewhere m file place n server s out is (sent, waits, to) other =
    let test = ap (λ (b : Bool). b && has_xids m) (ne_eqb (place_of s sent.id.server) place (λ same. other (ap (place_of s) (sym to) ∙ same))) in
    steps_none _ m out (read_is m file place n s is ∙ not_here m file s n place (slice_get s.reads n) sent waits test)

-- there is no number for it
and_false : (b c : Bool) → c ≡ false → (b && c) ≡ false
and_false true c is = is
and_false false c is = refl

pub read_over : (m : MdsValue) (file : FileId) (place n server : ℕ) (s : ServedFile) (out : Outbox) → served m file ≡ Some s → ReadWaits s n m.next_xid (Some server) → m.next_xid ≡ 0
    → HasMadeStep (read_call_in file place n m (served m file)) out m out
read_over m file place n server s out is (sent, waits, to) none =
    let test = and_false (place_of s sent.id.server == place) (has_xids m) (ap not (eq-eqb m.next_xid 0 none)) in
    steps_none _ m out (read_is m file place n s is ∙ not_here m file s n place (slice_get s.reads n) sent waits test)

-- none went out
read_left : (m : MdsValue) (file : FileId) (place n : ℕ) (s : ServedFile) (new : List ServedFile) (out : Outbox) → served m file ≡ Some s → SendsReadOf m.files file n m.next_xid (Ok None) new (Some s)
    → HasMadeStep (read_call_in file place n m (served m file)) out (record m { files = new }) out
read_left m file place n s new out is (t, said, now) =
    let left = left_at m file s t n place (slice_get s.reads n) said in
    let same : record m { files = new } ≡ m = ap (λ (files : List ServedFile). record m { files = files }) (now ∙ ap (with_file m.files file) left.1 ∙ with_same m.files file s is) in
    subst (λ (x : MdsValue). HasMadeStep (read_call_in file place n m (served m file)) out x out) (sym same) (steps_none _ m out (read_is m file place n s is ∙ left.0))

pub read_kept : (m : MdsValue) (file : FileId) (place n : ℕ) (s : ServedFile) (new : List ServedFile) (out : Outbox) → served m file ≡ Some s → SendsReadIn m.files file n m.next_xid (Ok None) new
    → HasMadeStep (read_call_in file place n m (served m file)) out (record m { files = new }) out
read_kept m file place n s new out is said = read_left m file place n s new out is (subst (SendsReadOf m.files file n m.next_xid (Ok None) new) is said)

-- it went out
read_goes_out : (m k : MdsValue) (file : FileId) (place n server : ℕ) (s : ServedFile) (c : SentByFile) (new : List ServedFile) (out out' : Outbox) → (m.next_xid ≡ 0 → ⊥) → served m file ≡ Some s
    → ReadWaits s n m.next_xid (Some server) → place_of s server ≡ place → SendsReadOf m.files file n m.next_xid (Ok (Some c)) new (Some s)
    → HasMadeStep (calls_as (record m { files = new }) (Server c.server) c.caller (CallsServer c.server m.next_xid c.uid.0 c.call)) out k out'
    → HasMadeStep (read_call_in file place n m (served m file)) out k out'
read_goes_out m k file place n server s c new out out' more is (sent, waits, to) here (t, said, now) step =
    let test =
    ap (λ (b : Bool). b && has_xids m) (eq-eqb (place_of s sent.id.server) place (ap (place_of s) to ∙ here))
    ∙ ap not (ne_eqb m.next_xid 0 more)
    in
    let goes = read_is m file place n s is ∙ went_at m file s t n place c (slice_get s.reads n) sent waits test said in
    subst (λ (x : MdsStep). HasMadeStep x out k out') (sym goes)
    (subst (λ (files : List ServedFile). HasMadeStep (calls_as (record m { files = files }) (Server c.server) c.caller (CallsServer c.server m.next_xid c.uid.0 c.call)) out k out') now step)

pub read_went : (m k : MdsValue) (file : FileId) (place n server : ℕ) (s : ServedFile) (c : SentByFile) (new : List ServedFile) (out out' : Outbox) (result : Result (Unit {0}) NoMemory) → (m.next_xid ≡ 0 → ⊥)
    → served m file ≡ Some s → ReadWaits s n m.next_xid (Some server) → place_of s server ≡ place → SendsReadIn m.files file n m.next_xid (Ok (Some c)) new
    → OnOk result (HasMadeStep (calls_as (record m { files = new }) (Server c.server) c.caller (CallsServer c.server m.next_xid c.uid.0 c.call)) out k out')
    → OnOk result (HasMadeStep (read_call_in file place n m (served m file)) out k out')
read_went m k file place n server s c new out out' (Err e) more is waits here said step = tt
read_went m k file place n server s c new out out' (Ok done) more is waits here said step =
    read_goes_out m k file place n server s c new out out' more is waits here (subst (SendsReadOf m.files file n m.next_xid (Ok (Some c)) new) is said) step
