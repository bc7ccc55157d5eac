-- CREATEs: those of a new file, and those of the targets of a copy.
use Rattle.std.proofs.Common.{◌≡◌, ℕ, zero, suc, ◌+◌, Bool, true, false, eqb, ltb, not, List, [], ◌∷◌, ◌++◌, set, Option, Some, None, refl, sym, ap, subst, ◌∙◌}
use Rattle.std.specs.Prelude.{slice_get, ◌||◌}
use Rattle.std.specs.List.{AllByRecursion, list_any}
use Rattle.std.specs.Option.{option_to_list}
use Rattle.std.proofs.lemmas.Bool.{cond_both, and_parts}
use Rattle.std.proofs.lemmas.Option.{same_Some}
use Rattle.cluster_model.specs.declared.tick.Tick.{Tick}
use Rattle.cluster_model.specs.declared.ids.NodeId.TheVariants.{Mds}
use Rattle.cluster_model.specs.declared.ids.Mirror.{Mirror}
use Rattle.cluster_model.specs.declared.call_stage.CallStage.{CallStage}
use Rattle.cluster_model.specs.declared.call_stage.CallStage.TheVariants.{Waits, Out, KeptOut, KeptBack, Done, GivenUp}
use Rattle.cluster_model.specs.Mirrors.{has_server, are_on_different_servers}
use Rattle.cluster_model.specs.DsCalls.{DsCallValue, Create, DsReplyValue, Created, Set, Written, Committed, Bytes, NotSync, Failed}
use Rattle.cluster_model.specs.Fences.{is_out, stage_at_tick}
use Rattle.file_rule.specs.MdsFiles.{Creations, in_stage, made_as, all_made, standing, creation_failed, creation_answered, stage_behind, creation_timed_out}
use Rattle.file_rule.specs.declared.creation.Creation.{Creation}
use Rattle.cluster_laws.proofs.Facts.{Bears, HasGiven}
use Rattle.cluster_laws.proofs.Lists.{all_at}
use Rattle.cluster_laws.proofs.Invariant.{Net, at_server, IsThisCall, IsReplyTo, IsAnswer, IsCreationOf, servers_of, are_apart}
use Rattle.cluster_laws.proofs.Lives.{both, not_true}

-- ---- one file that is made

module _ (net : Net) (n owner : ℕ) (c : Creation) (h : IsCreationOf net n owner c) where
  -- its call is at another stage
  pub staged : (stage : CallStage) → ((xid : ℕ) → is_out xid stage ≡ true → is_out xid c.stage ≡ true) → IsCreationOf net n owner (in_stage c stage)
  staged stage outs = record { drawn = h.drawn; home = h.home; low = h.low; out = λ xid is. h.out xid (outs xid is); made = h.made }

  pub failed_stage : (all : Creations) (kept : CallStage) → ((xid : ℕ) → is_out xid kept ≡ true → is_out xid c.stage ≡ true) → IsCreationOf net n owner (in_stage c (creation_failed all kept))
  failed_stage all kept outs = cond_both (ltb 1 (standing all)) GivenUp kept (λ (x : CallStage). IsCreationOf net n owner (in_stage c x)) (λ e. staged GivenUp (λ xid is. absurd cc)) (λ e. staged kept outs)

  pub was_made : (fileid : ℕ) (seen : Tick) → Bears net.servers (at_server c.server fileid) c.name → HasGiven net.servers c.server seen → IsCreationOf net n owner (made_as c fileid seen)
  was_made fileid seen bears given = record {
    drawn = h.drawn;
    home = h.home;
    low = h.low;
    out = λ xid is. absurd cc;
    made = λ m is.
        let made_is : record { id = record { server = c.server; fileid = fileid }; seen = seen } ≡ m = same_Some _ m is in
        subst (λ (x : Mirror). (x.id.server ≡ c.server) × Bears net.servers x.id c.name × HasGiven net.servers x.id.server x.seen) made_is (refl, bears, given);
  }

  created_is : (name uid : ℕ) (call : DsCallValue) → call ≡ Create name uid → call ≡ Create c.name owner → name ≡ c.name
  created_is name uid call a b = let e : Create name uid ≡ Create c.name owner = sym a ∙ b in cc

  pub answer_ok : (all : Creations) (call : DsCallValue) (reply : DsReplyValue) → call ≡ Create c.name owner → IsReplyTo net.servers c.server call reply → IsCreationOf net n owner (creation_answered all c reply)
  answer_ok all call (Created fileid shown) is k = was_made fileid shown.seen (subst (λ (name : ℕ). Bears net.servers (at_server c.server fileid) name) (created_is k.name k.owner call k.asked is) k.bears) k.given
  answer_ok all call (Set shown) is k = failed_stage all KeptBack (λ xid o. absurd cc)
  answer_ok all call (Written shown verifier) is k = failed_stage all KeptBack (λ xid o. absurd cc)
  answer_ok all call (Committed shown verifier) is k = failed_stage all KeptBack (λ xid o. absurd cc)
  answer_ok all call (Bytes shown eof bytes) is k = failed_stage all KeptBack (λ xid o. absurd cc)
  answer_ok all call (NotSync shown) is k = failed_stage all KeptBack (λ xid o. absurd cc)
  answer_ok all call (Failed status shown) is k = failed_stage all KeptBack (λ xid o. absurd cc)

  pub late_ok : (all : Creations) → IsCreationOf net n owner (creation_timed_out all c)
  late_ok all = by_stage c.stage refl
    where
      by_stage : (stage : CallStage) → c.stage ≡ stage → IsCreationOf net n owner (in_stage c (stage_behind stage (λ xid. creation_failed all (KeptOut xid))))
      by_stage Waits is = staged Waits (λ xid o. absurd cc)
      by_stage (Out xid timeouts) is =
          cond_both (ltb (timeouts + 1) 3) (Out xid (timeouts + 1)) (creation_failed all (KeptOut xid)) (λ (x : CallStage). IsCreationOf net n owner (in_stage c x))
          (λ e. staged (Out xid (timeouts + 1)) (λ x o. ap (is_out x) is ∙ o))
          (λ e. failed_stage all (KeptOut xid) (λ x o. ap (is_out x) is ∙ o))
      by_stage (KeptOut xid) is = staged (KeptOut xid) (λ x o. ap (is_out x) is ∙ o)
      by_stage KeptBack is = staged KeptBack (λ x o. absurd cc)
      by_stage Done is = staged Done (λ x o. absurd cc)
      by_stage GivenUp is = staged GivenUp (λ x o. absurd cc)

  pub tick_stage : IsCreationOf net n owner (in_stage c (stage_at_tick c.stage))
  tick_stage = staged (stage_at_tick c.stage) (λ xid o. outs c.stage xid o)
    where
      outs : (stage : CallStage) (xid : ℕ) → is_out xid (stage_at_tick stage) ≡ true → is_out xid stage ≡ true
      outs Waits xid o = o
      outs (Out x timeouts) xid o = o
      outs (KeptOut x) xid o = o
      outs KeptBack xid o = absurd cc
      outs Done xid o = o
      outs GivenUp xid o = o

  -- the call of it that an answer answers
  pub its_call : (xid server : ℕ) (reply : DsReplyValue) → is_out xid c.stage ≡ true → (a : IsAnswer net.packets net.servers server Mds xid reply) → (a.call ≡ Create c.name owner) × IsReplyTo net.servers c.server a.call reply
  its_call xid server reply out a =
      let this = all_at (IsThisCall xid c.server (Create c.name owner)) net.packets a.sent.place _ (h.out xid out).1 a.sent.there refl in
      (this.1, subst (λ (k : ℕ). IsReplyTo net.servers k a.call reply) this.0 a.shows)

pub answered_server : (all : Creations) (c : Creation) (reply : DsReplyValue) → (creation_answered all c reply).server ≡ c.server
answered_server all c (Created fileid shown) = refl
answered_server all c (Set shown) = refl
answered_server all c (Written shown verifier) = refl
answered_server all c (Committed shown verifier) = refl
answered_server all c (Bytes shown eof bytes) = refl
answered_server all c (NotSync shown) = refl
answered_server all c (Failed status shown) = refl

pub servers_set : (items : List Creation) (place : ℕ) (c new : Creation) → slice_get items place ≡ Some c → new.server ≡ c.server → servers_of (set items place new) ≡ servers_of items
servers_set [] place c new e same = absurd cc
servers_set (x ∷ items) zero c new e same = ap (λ k. k ∷ servers_of items) (same ∙ ap (λ (y : Creation). y.server) (sym (same_Some x c e)))
servers_set (x ∷ items) (suc place) c new e same = ap (λ ks. x.server ∷ ks) (servers_set items place c new e same)

-- ---- the mirrors that are made

no_server : (net : Net) (n owner k : ℕ) (items : List Creation) → AllByRecursion (IsCreationOf net n owner) items → list_any (λ s. eqb s k) (servers_of items) ≡ false → has_server (all_made (record { owner = owner; items = items })) k ≡ false
no_server net n owner k [] h none = refl
no_server net n owner k (c ∷ items) h none = by_made c.made refl (no_server net n owner k items h.1 (rest (eqb c.server k) none))
  where
    rest : (b : Bool) → (b || list_any (λ s. eqb s k) (servers_of items)) ≡ false → list_any (λ s. eqb s k) (servers_of items) ≡ false
    rest true e = absurd cc
    rest false e = e

    first : (b : Bool) → (b || list_any (λ s. eqb s k) (servers_of items)) ≡ false → b ≡ false
    first true e = absurd cc
    first false e = refl

    by_made : (o : Option Mirror) → c.made ≡ o → has_server (all_made (record { owner = owner; items = items })) k ≡ false → has_server (option_to_list o ++ all_made (record { owner = owner; items = items })) k ≡ false
    by_made None is ih = ih
    by_made (Some m) is ih =
        let on = (h.0.made m is).0 in
        ap (λ (b : Bool). b || has_server (all_made (record { owner = owner; items = items })) k) (ap (λ s. eqb s k) on ∙ first (eqb c.server k) none) ∙ ih

pub made_apart : (net : Net) (n owner : ℕ) (items : List Creation) → AllByRecursion (IsCreationOf net n owner) items → are_apart (servers_of items) ≡ true → are_on_different_servers (all_made (record { owner = owner; items = items })) ≡ true
made_apart net n owner [] h apart = refl
made_apart net n owner (c ∷ items) h apart =
    let parts = and_parts _ _ apart in
    by_made c.made refl (made_apart net n owner items h.1 parts.1)
  where
    by_made : (o : Option Mirror) → c.made ≡ o → are_on_different_servers (all_made (record { owner = owner; items = items })) ≡ true → are_on_different_servers (option_to_list o ++ all_made (record { owner = owner; items = items })) ≡ true
    by_made None is ih = ih
    by_made (Some m) is ih =
        let on = (h.0.made m is).0 in
        both _ _ (ap not (no_server net n owner m.id.server items h.1 (ap (λ k. list_any (λ s. eqb s k) (servers_of items)) on ∙ not_true _ (and_parts _ _ apart).0))) ih

pub made_all : (net : Net) (n owner : ℕ) (P : Mirror → Type 0) (items : List Creation) → AllByRecursion (IsCreationOf net n owner) items → ((c : Creation) (m : Mirror) → IsCreationOf net n owner c → c.made ≡ Some m → P m) → AllByRecursion P (all_made (record { owner = owner; items = items }))
made_all net n owner P [] h f = tt
made_all net n owner P (c ∷ items) h f = by_made c.made refl (made_all net n owner P items h.1 f)
  where
    by_made : (o : Option Mirror) → c.made ≡ o → AllByRecursion P (all_made (record { owner = owner; items = items })) → AllByRecursion P (option_to_list o ++ all_made (record { owner = owner; items = items }))
    by_made None is ih = ih
    by_made (Some m) is ih = (f c m h.0 is, ih)
