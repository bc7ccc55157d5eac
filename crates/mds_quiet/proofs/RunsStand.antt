-- In every run of a metadata server with at most four mirrors to a file, and as many servers, each file stands so that its calls wait in order.
use Rattle.std.proofs.Common.{◌≡◌, ◌≤◌, ◌⊎◌, inl, inr, ℕ, suc, ◌+◌, Bool, true, false, List, [], ◌∷◌, ◌++◌, length, Option, Some, None, refl, sym, ap, subst, ◌∙◌, arith}
use Rattle.std.specs.Prelude.{◌-◌, slice_get, slice_set}
use Rattle.std.specs.List.{AllByRecursion, list_any}
use Rattle.std.proofs.lemmas.Bool.{cond_both, and_parts, cases_eq}
use Rattle.std.proofs.lemmas.Option.{same_Some, none-some}
use Rattle.device_addr.specs.Universal.{AddressValue}
use Rattle.cluster_model.proofs.Elements.{slice_get-set_other, slice_get-set_same, Pushed, Old, New, pushed}
use Rattle.cluster_model.specs.declared.ids.NodeId.TheVariants.{Mds, Server}
use Rattle.cluster_model.specs.declared.ids.FileId.{FileId}
use Rattle.cluster_model.specs.declared.entry.Entry.{Entry}
use Rattle.cluster_model.specs.declared.layout_state.LayoutPhase.TheVariants.{Free, Held}
use Rattle.file_rule.specs.declared.fresh.Fresh.{Fresh}
use Rattle.file_rule.specs.MdsFiles.{Idle, MdsFile, FileStep}
use Rattle.file_rule.specs.FilePhases.{FileInput, OwnWrite, Answers as IsAnswer, TimesOut, Sees, creations_at, new_mds_file, phase, CallOut, call_out_of, call_out}
use Rattle.mds_rows.specs.Draws.{drawn}
use Rattle.recall.specs.Recalls.{without_file}
use Rattle.mirror_writer.specs.Writers.{WriterValue}
use Rattle.mirror_writer.specs.Writers as writer
use Rattle.mds_io.specs.OwnWrites.{after_own_reply}
use Rattle.mds_rule.specs.MdsStates.{CompoundRun, WaitingWrite, ServedFile, MdsSend, CallsServer, CallsBack, Replies, Answers, AwaitedCall, MdsValue, with_call, served, with_served, new_mds}
use Rattle.mds_rule.specs.declared.waiter.Waiter.TheVariants.{ForFile, ForRead, ForWrite, ForRecall}
use Rattle.mds_rule.specs.ServedFiles.{has_fresh, is_period_end, file_behind, file_stepped}
use Rattle.mds_rule.specs.FileOps.{servers_of, new_served, with_new_file, with_write, may_make}
use Rattle.mds_rule.specs.LayoutOps.{with_holder}
use Rattle.mds_rule.specs.Answers.{own_answer, write_stepped}
use Rattle.cluster_laws.proofs.Invariant.{are_apart}
use Rattle.cluster_laws.proofs.Invariant as inv
use Rattle.cluster_laws.proofs.FewMirrors.{FileHasFew}
use Rattle.cluster_laws.proofs.FewSteps.{phase_few, out_few}
use Rattle.mds_walk.proofs.Parts.{HeardAny, CanBegin, end_input, without_write}
use Rattle.mds_laws.proofs.EachCases.{EachCase, is_own_input}
use Rattle.mds_walk.proofs.Served.{place_served, served_again, stepped_there}
use Rattle.mds_laws.proofs.OwnPeriods.{own_granted, own_granted_so}
use Rattle.mds_laws.proofs.Numbers.{WereSent, sent_more, sent_with, sent_kept}
use Rattle.mds_quiet.proofs.NewServers.{new_apart, how_many}
use Rattle.mds_quiet.proofs.Parts as parts
use Rattle.mds_quiet.proofs.Ordered.{IsMadeThere}
use Rattle.mds_quiet.proofs.OrderedSteps.{phase_ordered, out_ordered}
use Rattle.mds_quiet.proofs.OwnPhases.{Agrees, nothing_under_way, phase_agrees, out_agrees, HoldsStill, own_still}
use Rattle.mds_quiet.proofs.Turns.{TakesTurns, phase_turns, out_turns}
use Rattle.mds_quiet.proofs.OwnCalls.{out_layout}
use Rattle.mds_quiet.proofs.WriterServers.{mirror_servers, answer_kept, timeout_kept, sends_same, own_servers_new}
use Rattle.mds_quiet.proofs.Standing.{WritesThere, FileStands, Stands}

-- ---- one file

-- where its own write waits the metadata server holds it, or no more can be drawn
abbrev IsHeldOwn : MdsFile → Type 0
IsHeldOwn f = (r : Bool) × (f.layout.phase ≡ Held Mds r) × (f.activity ≡ Idle)

abbrev IsOwn : Fresh → MdsFile → Option WaitingWrite → Type 0
IsOwn fresh f None = Unit {0}
IsOwn fresh f (Some w) = IsHeldOwn f ⊎ (has_fresh fresh ≡ false)

pub record Fits (fresh : Fresh) (s : ServedFile) : Type 0 where
  pub stands : Stands s
  pub agrees : Agrees s.file.activity s.file.layout.phase
  pub turns : TakesTurns s.file.activity
  pub own : IsOwn fresh s.file s.write

on_off : true ≡ false → ⊥
on_off e = absurd cc

-- while more can be drawn
own_later : (fresh more : Fresh) (f : MdsFile) (o : Option WaitingWrite) → has_fresh fresh ≡ true → IsOwn fresh f o → IsOwn more f o
own_later fresh more f None has i = tt
own_later fresh more f (Some w) has (inl held) = inl held
own_later fresh more f (Some w) has (inr spent) = absurd (on_off (sym has ∙ spent))

fits_later : (fresh more : Fresh) → has_fresh fresh ≡ true → (s : ServedFile) → Fits fresh s → Fits more s
fits_later fresh more has s i = record { stands = i.stands; agrees = i.agrees; turns = i.turns; own = own_later fresh more s.file s.write has i.own }

-- the same file, and its write
same_fits : (fresh : Fresh) (s t : ServedFile) → t.file ≡ s.file → t.write ≡ s.write → Fits fresh s → Fits fresh t
same_fits fresh s t file write i = record {
  stands = record {
    file_stands = subst FileStands (sym file) i.stands.file_stands;
    writes = subst (λ (f : MdsFile). WritesThere f t.write) (sym file) (subst (WritesThere s.file) (sym write) i.stands.writes);
  };
  agrees = subst (λ (f : MdsFile). Agrees f.activity f.layout.phase) (sym file) i.agrees;
  turns = subst (λ (f : MdsFile). TakesTurns f.activity) (sym file) i.turns;
  own = subst (λ (f : MdsFile). IsOwn fresh f t.write) (sym file) (subst (IsOwn fresh s.file) (sym write) i.own);
}

-- without its write
unwritten_fits : (fresh more : Fresh) (s : ServedFile) → Fits fresh s → Fits more (without_write s)
unwritten_fits fresh more s i = record { stands = record { file_stands = i.stands.file_stands; writes = tt }; agrees = i.agrees; turns = i.turns; own = tt }

-- with its write behind a step
written_fits : (fresh : Fresh) (s : ServedFile) (w v : WaitingWrite) → s.write ≡ Some w → mirror_servers v.writer ≡ mirror_servers w.writer → Fits fresh s → Fits fresh (record s { write = Some v })
written_fits fresh s w v at same i = record {
  stands = record { file_stands = i.stands.file_stands; writes = same ∙ subst (WritesThere s.file) at i.stands.writes };
  agrees = i.agrees;
  turns = i.turns;
  own = subst (IsOwn fresh s.file) at i.own;
}

-- ---- an input

stepped_stands : (file : FileId) (fresh : Fresh) (f : MdsFile) (input : FileInput) → FileStands f → FileStands (phase file f input fresh).file
stepped_stands file fresh f input i = record { ordered = phase_ordered file fresh f input i.ordered; few = (phase_few file fresh f input i.few).file }

-- one that is not of an own write
other_fits : (file : FileId) (fresh more : Fresh) (s : ServedFile) (input : FileInput) → has_fresh fresh ≡ true → is_own_input input ≡ false → Fits fresh s → Fits more (file_behind s (phase file s.file input fresh))
other_fits file fresh more s input has other i = record {
  stands = record { file_stands = stepped_stands file fresh s.file input i.stands.file_stands; writes = writes_so s.write i.stands.writes i.own };
  agrees = phase_agrees file fresh s.file input i.agrees;
  turns = phase_turns file fresh s.file input i.turns;
  own = own_so s.write i.own;
}
  where
    writes_so : (o : Option WaitingWrite) → WritesThere s.file o → IsOwn fresh s.file o → WritesThere (phase file s.file input fresh).file o
    writes_so None writes own = tt
    writes_so (Some w) writes (inl held) = let k : HoldsStill s.file (phase file s.file input fresh).file = own_still file fresh s.file input held.0 held.1 held.2 other in writes ∙ sym k.servers
    writes_so (Some w) writes (inr spent) = absurd (on_off (sym has ∙ spent))

    own_so : (o : Option WaitingWrite) → IsOwn fresh s.file o → IsOwn more (phase file s.file input fresh).file o
    own_so None own = tt
    own_so (Some w) (inl held) =
        let k : HoldsStill s.file (phase file s.file input fresh).file = own_still file fresh s.file input held.0 held.1 held.2 other in inl (held.0, k.phase_same ∙ held.1, k.activity_same ∙ held.2)
    own_so (Some w) (inr spent) = absurd (on_off (sym has ∙ spent))

-- where no own write waits, any
plain_fits : (file : FileId) (fresh more : Fresh) (s : ServedFile) (input : FileInput) → s.write ≡ None → Fits fresh s → Fits more (file_behind s (phase file s.file input fresh))
plain_fits file fresh more s input none i = record {
  stands = record { file_stands = stepped_stands file fresh s.file input i.stands.file_stands; writes = subst (WritesThere (phase file s.file input fresh).file) (sym none) tt };
  agrees = phase_agrees file fresh s.file input i.agrees;
  turns = phase_turns file fresh s.file input i.turns;
  own = subst (IsOwn more (phase file s.file input fresh).file) (sym none) tt;
}

-- ---- all files

abbrev AllFit : List ServedFile → Fresh → Type 0
AllFit files fresh = (place : ℕ) (s : ServedFile) → slice_get files place ≡ Some s → Fits fresh s

pub record RunStands (files : List ServedFile) (fresh : Fresh) (servers : List AddressValue) (mirrors : ℕ) (calls : List AwaitedCall) (ss : List MdsSend) : Type 0 where
  fit : AllFit files fresh
  pub few : mirrors ≤ 4
  pub there : mirrors ≤ length servers
  pub were : WereSent calls ss

abbrev pub IsSo : MdsValue → List Entry → List MdsSend → Type 0
IsSo m es ss = RunStands m.files m.fresh m.servers m.mirrors m.calls ss

fit_set : (files : List ServedFile) (fresh more : Fresh) (place : ℕ) (s t : ServedFile) → slice_get files place ≡ Some s → ((x : ServedFile) → Fits fresh x → Fits more x) → Fits more t → AllFit files fresh → AllFit (slice_set files place t) more
fit_set files fresh more place s t at later new all other x got = by_place (cases_eq other place)
  where
    by_place : (other ≡ place) ⊎ (other ≡ place → ⊥) → Fits more x
    by_place (inl same) = subst (Fits more) (same_Some t x (sym (slice_get-set_same files place s t at) ∙ (ap (slice_get (slice_set files place t)) (sym same) ∙ got))) new
    by_place (inr ne) = later x (all other x (sym (slice_get-set_other files place other t ne) ∙ got))

module _ (m : MdsValue) (file : FileId) (s : ServedFile) (at : served m file ≡ Some s) where
  its_fits : AllFit m.files m.fresh → Fits m.fresh s
  its_fits all = all (file.0 - 1) s (place_served m file s at).1

  put_case : (t : ServedFile) (es : List Entry) (ss : List MdsSend) → Fits m.fresh t → IsSo m es ss → IsSo (with_served m file t) es ss
  put_case t es ss new i = record { fit = fit_set m.files m.fresh m.fresh (file.0 - 1) s t (place_served m file s at).1 (λ x k. k) new i.fit; few = i.few; there = i.there; were = i.were }

  input_case : (input : FileInput) (es more : List Entry) (ss : List MdsSend) → has_fresh m.fresh ≡ true → Fits (drawn m.fresh (phase file s.file input m.fresh)) (file_behind s (phase file s.file input m.fresh)) → IsSo m es ss
      → IsSo (file_stepped m file s (phase file s.file input m.fresh)).mds more ss
  input_case input es more ss has new i =
      let step : FileStep = phase file s.file input m.fresh in
      let n : MdsValue = with_served (record m { fresh = drawn m.fresh step }) file (file_behind s step) in
      let its : IsSo n es ss = record { fit = fit_set m.files m.fresh (drawn m.fresh step) (file.0 - 1) s (file_behind s step) (place_served m file s at).1 (fits_later m.fresh (drawn m.fresh step) has) new i.fit; few = i.few; there = i.there; were = i.were } in
      cond_both (list_any is_period_end step.entries) (record n { recalls = without_file file n.recalls }) n (λ (x : MdsValue). RunStands x.files x.fresh x.servers x.mirrors x.calls ss) (λ end. its) (λ other. its)

  other_case : (input : FileInput) → is_own_input input ≡ false → has_fresh m.fresh ≡ true → (es more : List Entry) (ss : List MdsSend) → IsSo m es ss → IsSo (file_stepped m file s (phase file s.file input m.fresh)).mds more ss
  other_case input other has es more ss i = input_case input es more ss has (other_fits file m.fresh (drawn m.fresh (phase file s.file input m.fresh)) s input has other (its_fits i.fit)) i

  call_case : (t : ServedFile) (call : AwaitedCall) (es : List Entry) (ss : List MdsSend) → Fits m.fresh t → IsSo m es ss → RunStands (slice_set m.files (file.0 - 1) t) m.fresh m.servers m.mirrors (with_call call m.calls) (ss ++ call.sent ∷ [])
  call_case t call es ss new i = record {
    fit = fit_set m.files m.fresh m.fresh (file.0 - 1) s t (place_served m file s at).1 (λ x k. k) new i.fit;
    few = i.few;
    there = i.there;
    were = sent_with m.calls ss call i.were;
  }

sends : (m : MdsValue) (es : List Entry) (ss : List MdsSend) (s : MdsSend) → IsSo m es ss → IsSo m es (ss ++ s ∷ [])
sends m es ss s i = record { fit = i.fit; few = i.few; there = i.there; were = sent_more m.calls ss s i.were }

-- ---- an own write begins

free_none : (fresh : Fresh) (f : MdsFile) (o : Option WaitingWrite) → f.layout.phase ≡ Free → has_fresh fresh ≡ true → IsOwn fresh f o → o ≡ None
free_none fresh f None free has own = refl
free_none fresh f (Some w) free has (inl held) = absurd (apart (sym free ∙ held.1))
  where
    apart : Free ≡ Held Mds held.0 → ⊥
    apart e = absurd cc
free_none fresh f (Some w) free has (inr spent) = absurd (on_off (sym has ∙ spent))

new_write_fits : (more : Fresh) (file : FileId) (s : ServedFile) (c : CompoundRun) (at : ℕ) (bytes : List ℕ) (step : FileStep) → step ≡ own_granted file s.file at bytes → s.file.activity ≡ Idle → Fits more (file_behind s step) → Fits more (with_write c at bytes (file_behind s step))
new_write_fits more file s c at bytes step so idle i = record {
  stands = record { file_stands = i.stands.file_stands; writes = own_servers_new step.file.layout.live step.file.layout.cred.0 at bytes };
  agrees = i.agrees;
  turns = i.turns;
  own = inl (false, ap (λ (x : FileStep). x.file.layout.phase) so, ap (λ (x : FileStep). x.file.activity) so ∙ idle);
}

begins : (m : MdsValue) (file : FileId) (s : ServedFile) (c : CompoundRun) (at : ℕ) (bytes : List ℕ) (there : served m file ≡ Some s) → CanBegin m s at bytes → has_fresh m.fresh ≡ true → (es more : List Entry) (ss : List MdsSend) → IsSo m es ss
    → IsSo (with_served (file_stepped m file s (phase file s.file (OwnWrite at bytes) m.fresh)).mds file (with_write c at bytes (file_behind s (phase file s.file (OwnWrite at bytes) m.fresh)))) more ss
begins m file s c at bytes there can has es more ss i =
    let step : FileStep = phase file s.file (OwnWrite at bytes) m.fresh in
    let n : MdsValue = (file_stepped m file s step).mds in
    let t : ServedFile = file_behind s step in
    let old : Fits m.fresh s = its_fits m file s there i.fit in
    let none : s.write ≡ None = free_none m.fresh s.file s.write can.free has old.own in
    let idle : s.file.activity ≡ Idle = nothing_under_way s.file.activity s.file.layout.phase (ap inv.is_idle can.free) old.agrees in
    let first : IsSo n more ss = input_case m file s there (OwnWrite at bytes) es more ss has (plain_fits file m.fresh (drawn m.fresh step) s (OwnWrite at bytes) none old) i in
    let its : Fits n.fresh t = its_fits n file t (stepped_there m file s step there) first.fit in
    put_case n file t (stepped_there m file s step there) (with_write c at bytes t) more ss (new_write_fits n.fresh file s c at bytes step (own_granted_so file s.file m.fresh at bytes can.free can.unspent) idle its) first

begins_alone : (m : MdsValue) (file : FileId) (s : ServedFile) (c : CompoundRun) (at : ℕ) (bytes : List ℕ) → served m file ≡ Some s → has_fresh m.fresh ≡ false → (es : List Entry) (ss : List MdsSend) → IsSo m es ss → IsSo (with_served m file (with_write c at bytes s)) es ss
begins_alone m file s c at bytes there spent es ss i =
    let old : Fits m.fresh s = its_fits m file s there i.fit in
    put_case m file s there (with_write c at bytes s) es ss (record {
      stands = record { file_stands = old.stands.file_stands; writes = own_servers_new s.file.layout.live s.file.layout.cred.0 at bytes };
      agrees = old.agrees;
      turns = old.turns;
      own = inr spent;
    }) i

-- ---- a new file

new_made : (name : ℕ) (servers : List ℕ) → AllByRecursion IsMadeThere (creations_at name servers)
new_made name [] = tt
new_made name (n ∷ servers) = (λ x is. absurd (none-some x is), new_made name servers)

new_servers : (name : ℕ) (servers : List ℕ) → inv.servers_of (creations_at name servers) ≡ servers
new_servers name [] = refl
new_servers name (n ∷ servers) = ap (λ (l : List ℕ). n ∷ l) (new_servers name servers)

new_size : (name : ℕ) (servers : List ℕ) → length (creations_at name servers) ≡ length servers
new_size name [] = refl
new_size name (n ∷ servers) = ap suc (new_size name servers)

new_fits : (fresh more : Fresh) (name : List ℕ) (servers : List ℕ) → length servers ≤ 4 → are_apart servers ≡ true → Fits more (new_served name (new_mds_file fresh servers))
new_fits fresh more name servers few apart =
    let size = new_size fresh.name servers in
    record {
      stands = record {
        file_stands = record {
          ordered = record { apart = refl; busy = record { none = refl; on = new_made fresh.name servers; apart = ap are_apart (new_servers fresh.name servers) ∙ apart } };
          few = record { mirrors = record { few_wanted = few; few_live = omega arith }; room = omega (arith, few, size) };
        };
        writes = tt;
      };
      agrees = refl;
      turns = tt;
      own = tt;
    }

makes : (m : MdsValue) (name : List ℕ) → may_make m ≡ true → (es : List Entry) (ss : List MdsSend) → IsSo m es ss → IsSo (with_new_file m name) es ss
makes m name may es ss i = record { fit = λ place s got. by_place place s (pushed m.files _ place s got); few = i.few; there = i.there; were = i.were }
  where
    has : has_fresh m.fresh ≡ true
    has = (and_parts _ (has_fresh m.fresh) may).1

    now : Fresh
    now = (with_new_file m name).fresh

    size : length (servers_of (length m.servers) m.mirrors (length m.files + 1)) ≡ m.mirrors
    size = how_many (length m.servers) m.mirrors (length m.files + 1)

    by_place : (place : ℕ) (s : ServedFile) → Pushed m.files (new_served name (new_mds_file m.fresh (servers_of (length m.servers) m.mirrors (length m.files + 1)))) place s → Fits (with_new_file m name).fresh s
    by_place place s (Old at) = fits_later m.fresh now has s (i.fit place s at)
    by_place place s (New at its) =
        let few : m.mirrors ≤ 4 = i.few in
        let same = size in
        subst (Fits (with_new_file m name).fresh) (sym its) (new_fits m.fresh (with_new_file m name).fresh name (servers_of (length m.servers) m.mirrors (length m.files + 1)) (omega (arith, few, same)) (new_apart (length m.servers) m.mirrors (length m.files + 1) i.there))

-- ---- a call of a file goes out

out_own : (fresh : Fresh) (f : MdsFile) (xid : ℕ) (c : CallOut) → call_out f xid ≡ Some c → (o : Option WaitingWrite) → IsOwn fresh f o → IsOwn fresh c.file o
out_own fresh f xid c is None own = tt
out_own fresh f xid c is (Some w) (inl held) = absurd (none-some c (sym (ap (call_out_of f xid) held.2) ∙ is))
out_own fresh f xid c is (Some w) (inr spent) = inr spent

layout_there : (f g : MdsFile) (o : Option WaitingWrite) → g.layout ≡ f.layout → WritesThere f o → WritesThere g o
layout_there f g None same i = tt
layout_there f g (Some w) same i = i ∙ ap (λ (l : Rattle.cluster_model.specs.declared.layout_state.LayoutState.LayoutState). parts.servers_of l.live) (sym same)

out_fits : (fresh : Fresh) (s : ServedFile) (xid : ℕ) (c : CallOut) → call_out s.file xid ≡ Some c → Fits fresh s → Fits fresh (record s { file = c.file })
out_fits fresh s xid c is i = record {
  stands = record {
    file_stands = record { ordered = out_ordered s.file i.stands.file_stands.ordered xid c is; few = out_has_few is };
    writes = layout_there s.file c.file s.write (out_layout s.file xid c is) i.stands.writes;
  };
  agrees = out_agrees s.file xid c i.agrees is;
  turns = out_turns s.file xid c i.turns is;
  own = out_own fresh s.file xid c is s.write i.own;
}
  where
    out_has_few : call_out s.file xid ≡ Some c → FileHasFew c.file
    out_has_few its = subst (Rattle.cluster_laws.proofs.FewSteps.OutFew s.file i.stands.file_stands.few) its (out_few s.file i.stands.file_stands.few xid s.file.activity i.stands.file_stands.few.room)

-- ---- the cases

pub cases : EachCase IsSo HeardAny
cases = record {
  quiet = λ m confirmed opens reclaimed recalls es ss i. i;
  tables = λ m move is es ss i. i;
  replies = λ m node reply es ss i. sends m es ss (Replies node reply) i;
  answers = λ m node bytes reply is es ss i. sends m es ss (Answers node bytes) i;
  notes = λ m e note es ss i. i;
  puts = λ m file s t at same holder write es ss i. put_case m file s at t es ss (same_fits m.fresh s t same write (its_fits m file s at i.fit)) i;
  holds = λ m file s client again at es ss i. put_case m file s at (with_holder client again s) es ss (same_fits m.fresh s (with_holder client again s) refl refl (its_fits m file s at i.fit)) i;
  inputs = λ m file s input itself other at fresh es ss i. other_case m file s at input other fresh es es ss i;
  timeouts = λ m file s xid at fresh es ss i. other_case m file s at (TimesOut xid) refl fresh es es ss i;
  hears = λ m file s call server own uid c replies heard caller sent out at fresh es ss i. other_case m file s at (IsAnswer call.xid (own_answer c (replies c))) refl fresh es es ss i;
  learns = λ m file s call server own uid c replies fileid shown heard caller sent named shows at fresh es ss i. other_case m file s at (Sees (record { server = server; fileid = fileid }) shown.seen) refl fresh es es ss i;
  begins_write = λ m file s c at bytes there can fresh es ss i. begins m file s c at bytes there can fresh es es ss i;
  begins_alone = λ m file s c at bytes there can spent es ss i. begins_alone m file s c at bytes there spent es ss i;
  answers_write = λ m file s w call server own uid c replies heard caller sent at waits es ss i.
      put_case m file s at (record s { write = Some (write_stepped w (after_own_reply w.writer call.xid (replies c))) }) es ss
      (written_fits m.fresh s w (write_stepped w (after_own_reply w.writer call.xid (replies c))) waits (answer_kept w.writer call.xid (replies c)) (its_fits m file s at i.fit)) i;
  times_write = λ m file s w xid at waits es ss i.
      put_case m file s at (record s { write = Some (write_stepped w (writer.after_timeout w.writer xid)) }) es ss (written_fits m.fresh s w (write_stepped w (writer.after_timeout w.writer xid)) waits (timeout_kept w.writer xid) (its_fits m file s at i.fit)) i;
  ends_write = λ m file s w places at waits over fresh es ss i.
      (let old : Fits m.fresh s = its_fits m file s at i.fit in
      let t : ServedFile = without_write s in
      let new : Fits m.fresh t = unwritten_fits m.fresh m.fresh s old in
      input_case (with_served m file t) file t (served_again m file s t at) (end_input s w) es es ss fresh (plain_fits file m.fresh (drawn m.fresh (phase file s.file (end_input s w) m.fresh)) t (end_input s w) refl new) (put_case m file s at t es ss new i));
  drops_write = λ m file s w places at waits over spent es ss i. put_case m file s at (without_write s) es ss (unwritten_fits m.fresh m.fresh s (its_fits m file s at i.fit)) i;
  makes = λ m name may es ss i. makes m name may es ss i;
  calls_file = λ m file s c at has its es ss i.
      call_case m file s at (record s { file = c.file }) (record { node = Server c.server; xid = m.next_xid; caller = ForFile file; sent = CallsServer c.server m.next_xid c.uid c.call }) es ss (out_fits m.fresh s m.next_xid c its (its_fits m file s at i.fit)) i;
  calls_write = λ m file s w c at has waits its is_write es ss i.
      call_case m file s at (record s { write = Some (record w { writer = c.writer }) }) (record { node = Server c.id.server; xid = m.next_xid; caller = ForWrite file; sent = CallsServer c.id.server m.next_xid w.writer.cred c.call }) es ss
      (written_fits m.fresh s w (record w { writer = c.writer }) waits (sends_same w.writer m.next_xid c its) (its_fits m file s at i.fit)) i;
  calls_read = λ m file s t server call at has same holder write uid is_read es ss i.
      call_case m file s at t (record { node = Server server; xid = m.next_xid; caller = ForRead file; sent = CallsServer server m.next_xid 0 call }) es ss (same_fits m.fresh s t same write (its_fits m file s at i.fit)) i;
  calls_back = λ m node back file stateid has es ss i.
      record { fit = i.fit; few = i.few; there = i.there; were = sent_with m.calls ss (record { node = node; xid = m.next_xid; caller = ForRecall; sent = CallsBack m.next_xid back file stateid }) i.were };
  skips = λ m has es ss i. i;
  forgets = λ m test es ss i. record { fit = i.fit; few = i.few; there = i.there; were = sent_kept test m.calls ss i.were };
  was = λ m es ss i. i.were;
  again = λ m s es ss i inside. sends m es ss s i;
}

pub begun : (servers : List AddressValue) (mirrors : ℕ) → mirrors ≤ 4 → mirrors ≤ length servers → IsSo (new_mds servers mirrors) [] []
begun servers mirrors few there = record { fit = λ place s got. absurd (none-some s got); few = few; there = there; were = λ call inside. absurd inside }

pub each_stands : (m : MdsValue) (es : List Entry) (ss : List MdsSend) → IsSo m es ss → (place : ℕ) (s : ServedFile) → slice_get m.files place ≡ Some s → Stands s
each_stands m es ss i place s at = (i.fit place s at).stands

pub each_fits : (m : MdsValue) (es : List Entry) (ss : List MdsSend) → IsSo m es ss → (place : ℕ) (s : ServedFile) → slice_get m.files place ≡ Some s → Fits m.fresh s
each_fits m es ss i = i.fit
