-- No two mirrors of a layout are on one server, so a call that is out at a mirror is the one that is out at its server.
use Rattle.client_progress.proofs.FlagLists.{Misses, missed}
use Rattle.std.proofs.Common.{◌≡◌, ℕ, zero, suc, Bool, true, false, List, [], ◌∷◌, cond, Option, Some, None, refl, sym, ap, subst, ◌∙◌}
use Rattle.std.specs.Prelude.{slice_get, option_map, map, not, ◌==◌, ◌||◌, ◌&&◌, if◌then◌else◌}
use Rattle.std.specs.List.{find}
use Rattle.std.proofs.lemmas.Bool.{eq-eqb}
use Rattle.std.proofs.lemmas.Option.{none-some, same_Some, slice_get-map}
use Rattle.cluster_model.specs.declared.ids.Mirror.{Mirror}
use Rattle.cluster_model.specs.declared.ids.MirrorId.{MirrorId}
use Rattle.cluster_model.specs.Mirrors.{has_server, are_on_different_servers}
use Rattle.mirror_writer.specs.declared.call.WriterCall.{WriterCall}
use Rattle.mirror_writer.specs.declared.call.WriterCall.TheVariants.{NoCall, OutWrite, OutCommit}
use Rattle.mirror_writer.specs.declared.call.NextCall.TheVariants.{SendsCommit}
use Rattle.mirror_writer.specs.Writers.{WriterMirror, WriterValue, open_committed, is_committed, next_at, next_of_call, next_idle, is_some_call, write_of_taken}
use Rattle.mirror_writer.specs.Outstanding.{OutCall, out_as, out_call, out_at_mirror, out_at}
use Rattle.client_laws.specs.ClientHistory.{HistoryItem}
use Rattle.client_laws.proofs.Places.{Found, found, same_number}
use Rattle.client_laws.proofs.Stands.{AtEach, CallStands, WriterStands, is_settled_there, writer_ids, mirror_ids}
use Rattle.mirror_client.specs.ClientRule.{ds_call_number}
use Rattle.client_progress.specs.Going.{number_of_call}

-- ---- two places

not_both : (b : Bool) → b ≡ true → not b ≡ true → ⊥
not_both true is other = absurd cc
not_both false is other = absurd cc

both : (a b : Bool) → (a && b) ≡ true → (a ≡ true) × (b ≡ true)
both true b is = (refl, is)
both false b is = absurd cc

has_there : (mirrors : List Mirror) (place : ℕ) (m : Mirror) (server : ℕ) → slice_get mirrors place ≡ Some m → m.id.server ≡ server → has_server mirrors server ≡ true
has_there [] place m server there on = absurd (none-some m there)
has_there (x ∷ mirrors) zero m server there on = first (x.id.server == server) (has_server mirrors server) (eq-eqb x.id.server server (ap (λ (k : Mirror). k.id.server) (same_Some x m there) ∙ on))
  where
    first : (a b : Bool) → a ≡ true → (a || b) ≡ true
    first true b is = refl
    first false b is = absurd cc
has_there (x ∷ mirrors) (suc place) m server there on = further (x.id.server == server) (has_server mirrors server) (has_there mirrors place m server there on)
  where
    further : (a b : Bool) → b ≡ true → (a || b) ≡ true
    further true b is = refl
    further false b is = is

one_place : (mirrors : List Mirror) → are_on_different_servers mirrors ≡ true → (i j : ℕ) (a b : Mirror) → slice_get mirrors i ≡ Some a → slice_get mirrors j ≡ Some b → a.id.server ≡ b.id.server → i ≡ j
one_place [] apart i j a b first second same = absurd (none-some a first)
one_place (m ∷ mirrors) apart zero zero a b first second same = refl
one_place (m ∷ mirrors) apart zero (suc j) a b first second same =
    absurd (not_both (has_server mirrors m.id.server) (has_there mirrors j b m.id.server second (sym same ∙ ap (λ (k : Mirror). k.id.server) (sym (same_Some m a first)))) (both (not (has_server mirrors m.id.server)) (are_on_different_servers mirrors) apart).0)
one_place (m ∷ mirrors) apart (suc i) zero a b first second same =
    absurd (not_both (has_server mirrors m.id.server) (has_there mirrors i a m.id.server first (same ∙ ap (λ (k : Mirror). k.id.server) (sym (same_Some m b second)))) (both (not (has_server mirrors m.id.server)) (are_on_different_servers mirrors) apart).0)
one_place (m ∷ mirrors) apart (suc i) (suc j) a b first second same = ap suc (one_place mirrors (both (not (has_server mirrors m.id.server)) (are_on_different_servers mirrors) apart).1 i j a b first second same)

-- the mirror of the layout at the place of a writer's mirror
record Its (mirrors : List Mirror) (place : ℕ) (id : MirrorId) : Type 0 where
  mirror : Mirror
  there : slice_get mirrors place ≡ Some mirror
  same : mirror.id ≡ id

its : (ms : List WriterMirror) (mirrors : List Mirror) (place : ℕ) (m : WriterMirror) → map (λ (m : WriterMirror). m.id) ms ≡ map (λ (m : Mirror). m.id) mirrors → slice_get ms place ≡ Some m → Its mirrors place m.id
its ms mirrors place m are there = by_mirror (slice_get mirrors place) refl (sym (slice_get-map (λ (m : Mirror). m.id) mirrors place) ∙ sym (ap (λ (l : List MirrorId). slice_get l place) are) ∙ slice_get-map (λ (m : WriterMirror). m.id) ms place ∙ ap (option_map (λ (m : WriterMirror). m.id)) there)
  where
    by_mirror : (o : Option Mirror) → slice_get mirrors place ≡ o → option_map (λ (m : Mirror). m.id) o ≡ Some m.id → Its mirrors place m.id
    by_mirror None at is = absurd (none-some m.id is)
    by_mirror (Some k) at is = record { mirror = k; there = at; same = same_Some k.id m.id is }

finds : {A : Type 0} (test : A → Bool) (xs : List A) (i : ℕ) (x : A) → slice_get xs i ≡ Some x → test x ≡ true → (y : A) × (find test xs ≡ Some y)
finds test [] i x there passes = absurd (none-some x there)
finds {A} test (y ∷ ys) zero x there passes = (y, ap (λ b. cond b (Some y) (find test ys)) (ap test (same_Some y x there) ∙ passes))
finds {A} test (y ∷ ys) (suc i) x there passes = by_test (test y) (finds test ys i x there passes)
  where
    by_test : (b : Bool) → (z : A) × (find test ys ≡ Some z) → (z : A) × (cond b (Some y) (find test ys) ≡ Some z)
    by_test true rest = (y, refl)
    by_test false rest = rest

-- the first on a server is the only one
only : (w : WriterValue) (mirrors : List Mirror) → writer_ids w ≡ mirror_ids mirrors → are_on_different_servers mirrors ≡ true → (place : ℕ) (m : WriterMirror) → slice_get w.mirrors place ≡ Some m
    → find (λ (x : WriterMirror). x.id.server == m.id.server) w.mirrors ≡ Some m
only w mirrors ids apart place m there = by_first (finds (λ (x : WriterMirror). x.id.server == m.id.server) w.mirrors place m there (eq-eqb m.id.server m.id.server refl))
  where
    by_first : (y : WriterMirror) × (find (λ (x : WriterMirror). x.id.server == m.id.server) w.mirrors ≡ Some y) → find (λ (x : WriterMirror). x.id.server == m.id.server) w.mirrors ≡ Some m
    by_first (y, is) =
        let f : Found (λ (x : WriterMirror). x.id.server == m.id.server) w.mirrors y = found (λ (x : WriterMirror). x.id.server == m.id.server) w.mirrors y is in
        let a : Its mirrors f.place y.id = its w.mirrors mirrors f.place y ids f.there in
        let b : Its mirrors place m.id = its w.mirrors mirrors place m ids there in
        let on : a.mirror.id.server ≡ b.mirror.id.server = ap (λ (i : MirrorId). i.server) a.same ∙ same_number y.id.server m.id.server f.passes ∙ sym (ap (λ (i : MirrorId). i.server) b.same) in
        let at : f.place ≡ place = one_place mirrors apart f.place place a.mirror b.mirror a.there b.there on in
        is ∙ sym f.there ∙ ap (slice_get w.mirrors) at ∙ there

-- ---- a call that is out

abbrev pub IsBusy : WriterCall → Type 0
IsBusy NoCall = ⊥
IsBusy (OutWrite xid n timeouts) = Unit {0}
IsBusy (OutCommit xid timeouts) = Unit {0}

module _ (h : List HistoryItem) (name : List ℕ) (reports : ℕ → Bool) (w : WriterValue) (s : WriterStands h name reports w) where
  call_out : (m : WriterMirror) (call : WriterCall) → CallStands h name w.cred w.taken m.id m.answered call → IsBusy call → (out : OutCall) × (out_call w m.id call ≡ Some out)
  call_out m NoCall stands busy = absurd busy
  call_out m (OutWrite xid n timeouts) stands busy = (_, ap (λ t. out_as xid (write_of_taken m.id t)) stands.there)
  call_out m (OutCommit xid timeouts) stands busy = (_, refl)

  pub out_there : (mirrors : List Mirror) → writer_ids w ≡ mirror_ids mirrors → are_on_different_servers mirrors ≡ true → (place : ℕ) (m : WriterMirror) → slice_get w.mirrors place ≡ Some m → IsBusy m.call → (out : OutCall) × (out_at w m.id.server ≡ Some out)
  out_there mirrors ids apart place m there busy = by_call (call_out m m.call (s place m there).call busy)
    where
      by_call : (out : OutCall) × (out_call w m.id m.call ≡ Some out) → (out : OutCall) × (out_at w m.id.server ≡ Some out)
      by_call (out, is) = (out, ap (out_at_mirror w) (only w mirrors ids apart place m there) ∙ is)

  call_number : (m : WriterMirror) (call : WriterCall) → CallStands h name w.cred w.taken m.id m.answered call → ds_call_number (out_call w m.id call) ≡ number_of_call call
  call_number m NoCall stands = refl
  call_number m (OutWrite xid n timeouts) stands = ap (λ t. ds_call_number (out_as xid (write_of_taken m.id t))) stands.there
  call_number m (OutCommit xid timeouts) stands = refl

  pub its_number : (mirrors : List Mirror) → writer_ids w ≡ mirror_ids mirrors → are_on_different_servers mirrors ≡ true → (place : ℕ) (m : WriterMirror) → slice_get w.mirrors place ≡ Some m → ds_call_number (out_at w m.id.server) ≡ number_of_call m.call
  its_number mirrors ids apart place m there = ap (λ o. ds_call_number (out_at_mirror w o)) (only w mirrors ids apart place m there) ∙ call_number m m.call (s place m there).call

-- ---- a mirror that is to commit

-- where none waits to send, it has a call out
not_settled : (m : WriterMirror) → is_settled_there m ≡ false → is_some_call (next_at true m) ≡ false → IsBusy m.call
not_settled m unsettled idle = by_failure m.has_failed (is_committed m) refl unsettled idle
  where
    not_true : true ≡ false → ⊥
    not_true e = absurd cc

    by_queue : (queue : List ℕ) → is_committed m ≡ false → is_some_call (next_idle true m queue) ≡ false → ⊥
    by_queue (n ∷ queue) none idle = not_true idle
    by_queue [] none idle = not_true (sym (ap (λ b. is_some_call (if not b then Some SendsCommit else None)) none) ∙ idle)

    by_call : (call : WriterCall) → is_committed m ≡ false → is_some_call (next_of_call true m call) ≡ false → IsBusy call
    by_call NoCall none idle = absurd (by_queue m.queue none idle)
    by_call (OutWrite xid n timeouts) none idle = tt
    by_call (OutCommit xid timeouts) none idle = tt

    by_failure : (a b : Bool) → is_committed m ≡ b → (a || b) ≡ false → is_some_call (if a then None else next_of_call true m m.call) ≡ false → IsBusy m.call
    by_failure true b at unsettled idle = absurd (not_true unsettled)
    by_failure false true at unsettled idle = absurd (not_true unsettled)
    by_failure false false at unsettled idle = by_call m.call at idle

pub record HasBusy (w : WriterValue) : Type 0 where
  pub place : ℕ
  pub mirror : WriterMirror
  pub there : slice_get w.mirrors place ≡ Some mirror
  pub busy : IsBusy mirror.call

pub one_busy : (w : WriterValue) → w.wants_commit ≡ true → open_committed w.mirrors ≡ false → AtEach w.mirrors (λ m. is_some_call (next_at w.wants_commit m) ≡ false) → HasBusy w
one_busy w wants unsettled idle =
    let one : Misses is_settled_there w.mirrors = missed is_settled_there w.mirrors unsettled in
    record {
      place = one.place;
      mirror = one.element;
      there = one.there;
      busy = not_settled one.element one.fails (subst (λ b. is_some_call (next_at b one.element) ≡ false) wants (idle one.place one.element one.there));
    }
