-- The places to which the READs of a file go: each to the mirror that has its turn.
use Rattle.std.proofs.Common.{◌≡◌, ℕ, zero, suc, ◌+◌, Bool, true, List, [], ◌∷◌, ◌++◌, Option, Some, None, refl, sym, ap, subst, ◌∙◌, inl, inr}
use Rattle.std.specs.Prelude.{◌==◌, nat_lt, map, position, remove, slice_get, slice_set, if◌then◌else◌}
use Rattle.std.specs.List.{list_any}
use Rattle.std.proofs.lemmas.Bool.{cond_both}
use Rattle.std.proofs.lemmas.Option.{none-some, same_Some}
use Rattle.cluster_model.specs.declared.limits.TheConstants.{MAX_TIMEOUTS}
use Rattle.cluster_model.specs.declared.ids.Mirror.{Mirror}
use Rattle.cluster_model.specs.declared.entry.Entry.{Entry}
use Rattle.cluster_model.specs.declared.phase.LeftCause.{LeftCause}
use Rattle.cluster_model.specs.declared.phase.LeftCause.TheVariants.{Error, Timeouts}
use Rattle.cluster_model.specs.declared.call_stage.CallStage.{CallStage}
use Rattle.cluster_model.specs.declared.call_stage.CallStage.TheVariants.{Waits, Out, KeptOut, KeptBack, Done, GivenUp}
use Rattle.cluster_model.specs.DsCalls.{DsReplyValue, Created, Set, Written, Committed, Bytes, NotSync, Failed, Read}
use Rattle.cluster_model.specs.Fences.{is_out, waits, odd_status}
use Rattle.mds_io.specs.Reads as read
use Rattle.mds_io.specs.Reads.{ReadState, ReadAfter, ReadSends, new_read, in_turn, begun_again}
use Rattle.mds_rule.specs.MdsStates.{CompoundRun, WaitingRead}
use Rattle.mds_rule.specs.ServedFiles.{is_swap, begins_again, reads_behind}
use Rattle.mds_rule.specs.Answers.{is_read_out}
use Rattle.mds_walk.proofs.Lists.{AllOf, all_set, all_got}
use Rattle.standing_calls.proofs.Spots.{Spot, is_number, has_number, is_spot_of, IsLeft, left_same, left_then, Less, Thin, thin_left, map_thin, push_thin, map_push, map_set, first_passes, remove_left, map_remove, map_any, any_same}
use Rattle.standing_calls.proofs.OwnSpots.{number_of, out_number, item_left}
use Rattle.standing_calls.proofs.OwnSteps.{Taken, item_gone, taken_then, out_is}

abbrev pub server_of : Option Mirror → ℕ
server_of None = 0
server_of (Some m) = m.id.server

abbrev pub state_spot : ReadState → Spot
state_spot r = (server_of (in_turn r), number_of r.stage)

abbrev pub read_spot : WaitingRead → Spot
read_spot r = state_spot r.read

abbrev pub read_spots : List WaitingRead → List Spot
read_spots reads = map read_spot reads

-- where no mirror has its turn no call is out
abbrev pub TurnSo : ReadState → Type 0
TurnSo r = in_turn r ≡ None → number_of r.stage ≡ None

abbrev pub TurnsSo : List WaitingRead → Type 0
TurnsSo reads = AllOf (λ (r : WaitingRead). TurnSo r.read) reads

-- a READ is out under a number where its place has it
pub any_out : (n : ℕ) (reads : List WaitingRead) → list_any (is_read_out n) reads ≡ has_number n (read_spots reads)
any_out n reads =
    any_same (is_read_out n) (λ (r : WaitingRead). is_number n (number_of r.read.stage)) (λ r. out_number n r.read.stage) reads ∙ sym (map_any (is_spot_of n) read_spot reads)

-- ---- a READ begins; each begins again

pub begun_left : (reads : List WaitingRead) (c : CompoundRun) (live : List Mirror) (at count : ℕ) → IsLeft (read_spots (reads ++ (record { compound = c; read = new_read live at count }) ∷ [])) (read_spots reads)
begun_left reads c live at count =
    let new : WaitingRead = record { compound = c; read = new_read live at count } in
    subst (λ (l : List Spot). IsLeft l (read_spots reads)) (sym (map_push read_spot reads new)) (thin_left (read_spots reads ++ read_spot new ∷ []) (read_spots reads) (push_thin (read_spots reads) (read_spot new) refl))

pub turns_push : (reads : List WaitingRead) (r : WaitingRead) → TurnsSo reads → TurnSo r.read → TurnsSo (reads ++ r ∷ [])
turns_push [] r all is = (is, tt)
turns_push (x ∷ reads) r all is = (all.0, turns_push reads r all.1 is)

again_thin : (live : List Mirror) (reads : List WaitingRead) → Thin (read_spots (map (begins_again live) reads)) (read_spots reads)
again_thin live reads = map_thin read_spot (begins_again live) (λ r. inl refl) reads

turns_again : (live : List Mirror) (reads : List WaitingRead) → TurnsSo (map (begins_again live) reads)
turns_again live [] = tt
turns_again live (r ∷ reads) = (λ none. refl, turns_again live reads)

pub behind_left : (entries : List Entry) (live : List Mirror) (reads : List WaitingRead) → IsLeft (read_spots (reads_behind entries live reads)) (read_spots reads)
behind_left entries live reads =
    cond_both (list_any is_swap entries) (map (begins_again live) reads) reads (λ (l : List WaitingRead). IsLeft (read_spots l) (read_spots reads)) (λ swap. thin_left (read_spots (map (begins_again live) reads)) (read_spots reads) (again_thin live reads))
    (λ off. left_same (read_spots reads))

pub behind_turns : (entries : List Entry) (live : List Mirror) (reads : List WaitingRead) → TurnsSo reads → TurnsSo (reads_behind entries live reads)
behind_turns entries live reads all = cond_both (list_any is_swap entries) (map (begins_again live) reads) reads (λ (l : List WaitingRead). TurnsSo l) (λ swap. turns_again live reads) (λ off. all)

-- ---- a step of one of them

-- its call is out no more, or as it was
pub record StepsSo (r s : ReadState) : Type 0 where
  pub less : Less (state_spot r) (state_spot s)
  pub turn : TurnSo r → TurnSo s

steps_same : (r : ReadState) → StepsSo r r
steps_same r = record { less = inr refl; turn = λ is. is }

steps_none : (r s : ReadState) → number_of s.stage ≡ None → StepsSo r s
steps_none r s none = record { less = inl none; turn = λ is no. none }

fails_none : (r : ReadState) (xid : ℕ) (cause : LeftCause) (o : Option Mirror) → StepsSo r (read.fails r xid cause o).read
fails_none r xid cause None = steps_same r
fails_none r xid cause (Some m) = steps_none r (read.fails r xid cause (Some m)).read refl

late_steps : (r : ReadState) (xid : ℕ) (stage : CallStage) → r.stage ≡ stage → StepsSo r (read.late r xid stage).read
late_steps r xid (Out own timeouts) is =
    let again : ReadState = read.at_stage r (Out own (timeouts + 1)) in
    let number : number_of r.stage ≡ Some own = ap number_of is in
    cond_both (own == xid) (if nat_lt (timeouts + 1) MAX_TIMEOUTS then read.goes_on again else read.fails r xid Timeouts (in_turn r)) (read.goes_on r) (λ (a : ReadAfter). StepsSo r a.read)
    (λ its.
    cond_both (nat_lt (timeouts + 1) MAX_TIMEOUTS) (read.goes_on again) (read.fails r xid Timeouts (in_turn r)) (λ (a : ReadAfter). StepsSo r a.read)
    (λ few. record { less = inr (ap (λ (o : Option ℕ). (server_of (in_turn r), o)) (sym number)); turn = λ so none. sym number ∙ so none }) (λ last. fails_none r xid Timeouts (in_turn r)))
    (λ other. steps_same r)
late_steps r xid Waits is = steps_same r
late_steps r xid (KeptOut own) is = steps_same r
late_steps r xid KeptBack is = steps_same r
late_steps r xid Done is = steps_same r
late_steps r xid GivenUp is = steps_same r

pub late_so : (r : ReadState) (xid : ℕ) → StepsSo r (read.after_timeout r xid).read
late_so r xid = late_steps r xid r.stage refl

pub put_left : (reads : List WaitingRead) (place : ℕ) (r : WaitingRead) (s : ReadState) → slice_get reads place ≡ Some r → StepsSo r.read s → IsLeft (read_spots (slice_set reads place (record { compound = r.compound; read = s }))) (read_spots reads)
put_left reads place r s at so =
    let t : WaitingRead = record { compound = r.compound; read = s } in
    thin_left (read_spots (slice_set reads place t)) (read_spots reads) (item_left read_spot reads place r t at so.less)

pub put_turns : (reads : List WaitingRead) (place : ℕ) (r : WaitingRead) (s : ReadState) → slice_get reads place ≡ Some r → (TurnSo r.read → TurnSo s) → TurnsSo reads → TurnsSo (slice_set reads place (record { compound = r.compound; read = s }))
put_turns reads place r s at turn all =
    all_set (λ (r : WaitingRead). TurnSo r.read) reads place (record { compound = r.compound; read = s }) all (turn (all_got (λ (r : WaitingRead). TurnSo r.read) reads place r all at))

-- ---- one of them ends

-- set to any, and taken out
away_left : (reads : List WaitingRead) (place : ℕ) (r t : WaitingRead) → slice_get reads place ≡ Some r → (read_spot t).1 ≡ None → IsLeft (read_spots (remove reads place)) (read_spots (slice_set reads place t))
away_left reads place r t at none =
    subst (λ (l : List Spot). IsLeft l (read_spots (slice_set reads place t))) (sym (map_remove read_spot reads place))
    (subst (λ (l : List Spot). IsLeft (remove (read_spots reads) place) l) (sym (map_set read_spot reads place t)) (remove_left (read_spots reads) place (read_spot t)))

abbrev over : WaitingRead → WaitingRead
over r = record { compound = r.compound; read = read.at_stage r.read Done }

pub gone_left : (reads : List WaitingRead) (place : ℕ) (r : WaitingRead) → slice_get reads place ≡ Some r → IsLeft (read_spots (remove reads place)) (read_spots reads)
gone_left reads place r at =
    left_then (read_spots (remove reads place)) (read_spots (slice_set reads place (over r))) (read_spots reads) (away_left reads place r (over r) at refl)
    (thin_left (read_spots (slice_set reads place (over r))) (read_spots reads) (item_left read_spot reads place r (over r) at (inl refl)))

pub gone_turns : (reads : List WaitingRead) (place : ℕ) → TurnsSo reads → TurnsSo (remove reads place)
gone_turns [] zero all = tt
gone_turns [] (suc place) all = tt
gone_turns (r ∷ reads) zero all = all.1
gone_turns (r ∷ reads) (suc place) all = (all.0, gone_turns reads place all.1)

-- ---- an answer

fails_gone : (r : ReadState) (xid : ℕ) (cause : LeftCause) → TurnSo r → is_out xid r.stage ≡ true → (o : Option Mirror) → in_turn r ≡ o → number_of (read.fails r xid cause o).read.stage ≡ None
fails_gone r xid cause so out None none = so none
fails_gone r xid cause so out (Some m) is = refl

answered_gone : (r : ReadState) (xid : ℕ) (reply : DsReplyValue) → TurnSo r → is_out xid r.stage ≡ true → number_of (read.answered r xid reply).read.stage ≡ None
answered_gone r xid (Bytes shown eof bytes) so out = refl
answered_gone r xid (Failed status shown) so out = fails_gone r xid (Error status) so out (in_turn r) refl
answered_gone r xid (Created fileid shown) so out = fails_gone r xid (Error odd_status) so out (in_turn r) refl
answered_gone r xid (Set shown) so out = fails_gone r xid (Error odd_status) so out (in_turn r) refl
answered_gone r xid (Written shown verifier) so out = fails_gone r xid (Error odd_status) so out (in_turn r) refl
answered_gone r xid (Committed shown verifier) so out = fails_gone r xid (Error odd_status) so out (in_turn r) refl
answered_gone r xid (NotSync shown) so out = fails_gone r xid (Error odd_status) so out (in_turn r) refl

pub reply_gone : (r : ReadState) (xid : ℕ) (reply : DsReplyValue) → TurnSo r → is_out xid r.stage ≡ true → number_of (read.after_reply r xid reply).read.stage ≡ None
reply_gone r xid reply so out = ap (λ (b : Bool). number_of (if b then read.answered r xid reply else read.goes_on r).read.stage) out ∙ answered_gone r xid reply so out

-- the first that is out under a number is put back without its call, or taken out
pub put_taken : (xid : ℕ) (reads : List WaitingRead) (place : ℕ) (r t : WaitingRead) → position (is_read_out xid) reads ≡ Some place → slice_get reads place ≡ Some r → (read_spot t).1 ≡ None
    → Taken xid (read_spots reads) (read_spots (slice_set reads place t))
put_taken xid reads place r t first at none = item_gone read_spot xid reads place r t at (out_is xid r.read.stage (first_passes (is_read_out xid) reads place r first at)) none

pub gone_taken : (xid : ℕ) (reads : List WaitingRead) (place : ℕ) (r : WaitingRead) → position (is_read_out xid) reads ≡ Some place → slice_get reads place ≡ Some r → Taken xid (read_spots reads) (read_spots (remove reads place))
gone_taken xid reads place r first at =
    taken_then xid (read_spots reads) (read_spots (slice_set reads place (over r))) (read_spots (remove reads place)) (put_taken xid reads place r (over r) first at refl) (away_left reads place r (over r) at refl)

pub turns_none : (reads : List WaitingRead) (place : ℕ) (t : WaitingRead) → (read_spot t).1 ≡ None → TurnsSo reads → TurnsSo (slice_set reads place t)
turns_none reads place t none all = all_set (λ (r : WaitingRead). TurnSo r.read) reads place t all (λ no. none)

-- ---- a call goes out

sent_to : (r : ReadState) (xid : ℕ) (c : ReadSends) (o : Option Mirror) → in_turn r ≡ o → read.sends_to r xid o ≡ Some c → (state_spot c.read ≡ (c.id.server, Some xid)) × TurnSo c.read
sent_to r xid c None turn is = absurd (none-some c is)
sent_to r xid c (Some m) turn is =
    let s : ReadSends = record { read = read.at_stage r (Out xid 0); id = m.id; call = Read m.id.fileid r.at r.count } in
    subst (λ (x : ReadSends). (state_spot x.read ≡ (x.id.server, Some xid)) × TurnSo x.read) (same_Some s c is)
    (ap (λ (o : Option Mirror). (server_of o, Some xid)) turn, λ none. absurd (none-some m (sym none ∙ turn)))

pub sent_so : (r : ReadState) (xid : ℕ) (c : ReadSends) → read.next_sent r xid ≡ Some c → (state_spot c.read ≡ (c.id.server, Some xid)) × TurnSo c.read
sent_so r xid c is =
    cond_both (waits r.stage) (read.sends_to r xid (in_turn r)) None (λ (o : Option ReadSends). o ≡ Some c → (state_spot c.read ≡ (c.id.server, Some xid)) × TurnSo c.read) (λ w its. sent_to r xid c (in_turn r) refl its)
    (λ off its. absurd (none-some c its)) is
