-- The mirrors of a layout's writer are those of its grant, and the call that is out at one of them is a WRITE of its file or a COMMIT of it.
use Rattle.std.proofs.Common.{◌≡◌, ℕ, List, [], ◌∷◌, Option, Some, None, refl, sym, ap, subst, ◌∙◌}
use Rattle.std.specs.Prelude.{slice_get, option_map, map, ◌==◌}
use Rattle.std.specs.List.{find}
use Rattle.std.proofs.lemmas.Option.{none-some, same_Some, slice_get-map}
use Rattle.cluster_model.specs.declared.ids.Mirror.{Mirror}
use Rattle.cluster_model.specs.declared.ids.MirrorId.{MirrorId}
use Rattle.cluster_model.specs.DsCalls.{DsCallValue}
use Rattle.mirror_writer.specs.declared.call.TakenWrite.{TakenWrite}
use Rattle.mirror_writer.specs.declared.call.WriterCall.{WriterCall}
use Rattle.mirror_writer.specs.declared.call.WriterCall.TheVariants.{NoCall, OutWrite, OutCommit}
use Rattle.mirror_writer.specs.Writers.{WriterMirror, WriterValue, new_mirror, queued, with_write, write_of_taken}
use Rattle.mirror_writer.specs.Outstanding.{OutCall, out_as, out_call, out_at_mirror, out_at}
use Rattle.client_laws.proofs.Places.{Found, found, same_number}
use Rattle.client_laws.proofs.Stands.{writer_ids, mirror_ids}
use Rattle.client_sessions.specs.LayoutEnds.{IsCallTo}

abbrev id_of : WriterMirror → MirrorId
id_of m = m.id

abbrev its_id : Mirror → MirrorId
its_id m = m.id

-- ---- the mirrors of a writer

pub new_ids : (mirrors : List Mirror) → map (λ (m : WriterMirror). m.id) (map new_mirror mirrors) ≡ map (λ (m : Mirror). m.id) mirrors
new_ids [] = refl
new_ids (m ∷ mirrors) = ap (λ k. m.id ∷ k) (new_ids mirrors)

queued_ids : (n : ℕ) (mirrors : List WriterMirror) → map (λ (m : WriterMirror). m.id) (map (queued n) mirrors) ≡ map (λ (m : WriterMirror). m.id) mirrors
queued_ids n [] = refl
queued_ids n (m ∷ mirrors) = ap (λ k. m.id ∷ k) (queued_ids n mirrors)

-- a write is taken
pub taken_ids : (w : WriterValue) (at : ℕ) (bytes : List ℕ) → writer_ids (with_write w at bytes) ≡ writer_ids w
taken_ids w at bytes = queued_ids _ w.mirrors

-- ---- the call that is out

-- it goes to one of these mirrors, on this server
pub record IsOutTo (mirrors : List Mirror) (server : ℕ) (call : DsCallValue) : Type 0 where
  pub place : ℕ
  pub mirror : Mirror
  pub there : slice_get mirrors place ≡ Some mirror
  pub its_server : mirror.id.server ≡ server
  pub to_mirror : IsCallTo mirror.id call

-- the mirror of the grant that has this one's place
record HasPlace (mirrors : List Mirror) (place : ℕ) (id : MirrorId) : Type 0 where
  mirror : Mirror
  there : slice_get mirrors place ≡ Some mirror
  same : mirror.id ≡ id

place_of : (ms : List WriterMirror) (mirrors : List Mirror) (place : ℕ) (m : WriterMirror) → map (λ (m : WriterMirror). m.id) ms ≡ map (λ (m : Mirror). m.id) mirrors → slice_get ms place ≡ Some m → HasPlace mirrors place m.id
place_of ms mirrors place m are there = by_mirror (slice_get mirrors place) refl (sym (slice_get-map its_id mirrors place) ∙ sym (ap (λ (l : List MirrorId). slice_get l place) are) ∙ slice_get-map id_of ms place ∙ ap (option_map id_of) there)
  where
    by_mirror : (o : Option Mirror) → slice_get mirrors place ≡ o → option_map its_id o ≡ Some m.id → HasPlace mirrors place m.id
    by_mirror None at is = absurd (none-some m.id is)
    by_mirror (Some k) at is = record { mirror = k; there = at; same = same_Some k.id m.id is }

-- what is out of a mirror
out_call_to : (w : WriterValue) (id : MirrorId) (call : WriterCall) (out : OutCall) → out_call w id call ≡ Some out → IsCallTo id out.call
out_call_to w id NoCall out is = absurd (none-some out is)
out_call_to w id (OutWrite xid n timeouts) out is = by_taken (slice_get w.taken n) is
  where
    by_taken : (o : Option TakenWrite) → out_as xid (write_of_taken id o) ≡ Some out → IsCallTo id out.call
    by_taken None is = absurd (none-some out is)
    by_taken (Some t) is = subst (λ (o : OutCall). IsCallTo id o.call) (same_Some _ out is) refl
out_call_to w id (OutCommit xid timeouts) out is = subst (λ (o : OutCall). IsCallTo id o.call) (same_Some _ out is) refl

pub out_to : (w : WriterValue) (server : ℕ) (out : OutCall) (mirrors : List Mirror) → writer_ids w ≡ mirror_ids mirrors → out_at w server ≡ Some out → IsOutTo mirrors server out.call
out_to w server out mirrors are is = by_mirror (find (λ (m : WriterMirror). m.id.server == server) w.mirrors) refl is
  where
    by_mirror : (o : Option WriterMirror) → find (λ (m : WriterMirror). m.id.server == server) w.mirrors ≡ o → out_at_mirror w o ≡ Some out → IsOutTo mirrors server out.call
    by_mirror None at is = absurd (none-some out is)
    by_mirror (Some m) at is =
        let f : Found (λ (m : WriterMirror). m.id.server == server) w.mirrors m = found (λ (m : WriterMirror). m.id.server == server) w.mirrors m at in
        let p : HasPlace mirrors f.place m.id = place_of w.mirrors mirrors f.place m are f.there in
        record {
          place = f.place;
          mirror = p.mirror;
          there = p.there;
          its_server = ap (λ (id : MirrorId). id.server) p.same ∙ same_number m.id.server server f.passes;
          to_mirror = subst (λ (id : MirrorId). IsCallTo id out.call) (sym p.same) (out_call_to w m.id m.call out is);
        }
