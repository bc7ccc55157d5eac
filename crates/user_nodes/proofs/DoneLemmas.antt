-- What putting and getting did where they ended well.
use Rattle.std.proofs.Common.{◌≡◌, ℕ, inl, inr, List, map, Option, refl, sym, ap, subst, ◌∙◌}
use Rattle.rpc_record.specs.declared.stream.Failed.{Failed}
use Rattle.rpc_record.specs.declared.stream.Failed.TheVariants as failed
use Rattle.node_config.specs.declared.config.Config.{Config}
use Rattle.node_link.specs.declared.link.Arrival.{Arrival}
use Rattle.node_link.specs.declared.link.Opening.{Opening}
use Rattle.ff_node.specs.declared.end.NodeEnd.TheVariants as ends
use Rattle.ff_node.specs.Nodes.{NodeEvent, text_over}
use Rattle.ff_node.specs.Serve.{Beside, TakesFront, behind, end_of_link, with_sent}
use Rattle.user_nodes.specs.Users.{AsksClock, records_of}
use Rattle.user_nodes.specs.Puts.{PutsBytes, PutsFile, put_begins, put_rule}
use Rattle.user_nodes.specs.Gets.{GetsFile, get_begins, get_from, get_rule}
use Rattle.user_nodes.specs.Copies.{GotWell, PutWell}
use Rattle.user_nodes.proofs.RunLemmas.{done_by_itself}
use Rattle.user_nodes.proofs.EndLemmas.{get_done, get_reads, put_done}

no_link : (e : Failed) → ends.Done ≡ end_of_link e → ⊥
no_link failed.Fault done = absurd (cc (done))
no_link failed.NoMemory done = absurd (cc (done))

-- behind the clock's answer, what comes over the link is as before
same_coming : (b : Beside) (moment : ℕ) (begun : Beside) → AsksClock b moment begun → (begun.coming ≡ b.coming) × (begun.held ≡ b.held)
same_coming b moment begun asks = (ap (λ (x : Beside). x.coming) asks.2, ap (λ (x : Beside). x.held) asks.2)

-- ---- a put

module _ (config : Config) (name : List ℕ) (unread left : Option (List ℕ)) (opened opened' : Option Opening) (b b' : Beside) where
  put_ran : (moment : ℕ) (begun : Beside) → AsksClock b moment begun → PutsBytes config name unread moment opened begun ends.Done left opened' b' → PutWell config name unread b left b'
  put_ran moment begun asks (bytes, read, inr (e, done, same-opened, same)) = absurd (no_link e done)
  put_ran moment begun asks (bytes, read, inl (is-opened, (last, inr (done, state, same, none)))) = absurd (cc (done))
  put_ran moment begun asks (bytes, read, inl (is-opened, (last, inl serves))) =
      let step = put_begins config.own moment name bytes in
      let sent = with_sent begun (records_of step) in
      let end = done_by_itself put_rule refl serves.left serves.mid serves.beside_mid last b' serves.stops in
      let arrivals = map (λ (e : NodeEvent). e.arrival) serves.served.taken in
      record {
        bytes = bytes;
        read = read;
        moment = moment;
        events = serves.served.taken;
        came =
            subst (λ (l : Option (List Arrival)). TakesFront l arrivals b'.coming) (same_coming b moment begun asks).0
            (subst (λ (x : Beside). TakesFront begun.coming arrivals x.coming) (sym end.1) serves.served.came);
        answered = put_done step config.turns sent last b' serves;
      }

  pub put_well : PutsFile config name unread opened b ends.Done left opened' b' → PutWell config name unread b left b'
  put_well (moment, begun, asks, inl puts) = put_ran moment begun asks puts
  put_well (moment, begun, asks, inr (inl done, same-opened, same)) = absurd (cc (done))
  put_well (moment, begun, asks, inr (inr done, same-opened, same)) = absurd (cc (done))

-- ---- a get

module _ (config : Config) (name : List ℕ) (opened opened' : Option Opening) (b b' : Beside) where
  pub got_well : GetsFile config name opened b ends.Done opened' b' → GotWell config name b b'
  got_well (moment, begun, asks, inr (e, done, same-opened, same)) = absurd (no_link e done)
  got_well (moment, begun, asks, inl (is-opened, (last, inr (done, state, same, none)))) = absurd (cc (done))
  got_well (moment, begun, asks, inl (is-opened, (last, inl serves))) =
      let step = get_begins config.own moment name in
      let sent = with_sent begun (records_of step) in
      let end = done_by_itself get_rule refl serves.left serves.mid serves.beside_mid last b' serves.stops in
      let arrivals = map (λ (e : NodeEvent). e.arrival) serves.served.taken in
      let same = same_coming b moment begun asks in
      record {
        moment = moment;
        events = serves.served.taken;
        came = subst (λ (l : Option (List Arrival)). TakesFront l arrivals b'.coming) same.0 (subst (λ (x : Beside). TakesFront begun.coming arrivals x.coming) (sym end.1) serves.served.came);
        answered = get_done step config.turns sent last b' serves;
        written =
            ap (λ (x : Beside). x.held) end.1 ∙ serves.served.text ∙ ap (λ (h : Option (List ℕ)). behind h (text_over get_rule (get_from step) serves.served.taken)) same.1
            ∙ ap (behind b.held) (get_reads (get_from step) serves.served.taken);
      }
