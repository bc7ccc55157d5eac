-- Where a packet of a request came, there is a first that came: whether an entry delivers one is decided by the packets before it.
use Rattle.std.proofs.Common.{◌≡◌, ℕ, ◌⊎◌, inl, inr, List, [], ◌∷◌, ◌++◌, Option, Some, None, refl, sym, ap, subst, append_assoc, append-nil}
use Rattle.std.proofs.lemmas.Bool.{cases_eq}
use Rattle.std.proofs.lemmas.Option.{same_Some}
use Rattle.cluster_model.specs.declared.ids.NodeId.TheVariants.{Mds, Client}
use Rattle.cluster_model.specs.declared.entry.Entry.{Entry}
use Rattle.cluster_model.specs.declared.entry.Entry.TheVariants.{Packet, Delivered}
use Rattle.ff_laws.specs.declared.read_call.ReadCall.{ReadCall}
use Rattle.ff_laws.specs.ReadCalls.{client_read_of}
use Rattle.ff_laws.specs.ReadLaw.{IsRequestIn, HasNotCome}

-- ---- splits of a list

nothing_there : {A : Type 0} (before behind : List A) (x : A) → [] ≡ before ++ x ∷ behind → ⊥
nothing_there [] behind x is = absurd cc
nothing_there (b ∷ before) behind x is = absurd cc

-- what stands in a list with one more at its end is that one, or stands before it
pub last_or_before : {A : Type 0} (past before behind : List A) (e x : A) → past ++ e ∷ [] ≡ before ++ x ∷ behind
    → ((past ≡ before) × (e ≡ x)) ⊎ ((rest : List A) × (past ≡ before ++ x ∷ rest))
last_or_before [] [] behind e x is = inl (refl, cc)
last_or_before [] (b ∷ before) behind e x is = absurd (nothing_there before behind x cc)
last_or_before (p ∷ past) [] behind e x is = inr (past, cc)
last_or_before {A = A} (p ∷ past) (b ∷ before) behind e x is =
    let head : p ≡ b = cc in
    let tail : past ++ e ∷ [] ≡ before ++ x ∷ behind = cc in
    elim (last_or_before past before behind e x tail) [
      | inl here ↦ inl (cc (head, here.0), here.1)
      | inr there ↦ inr (there.0, cc (head, there.1))
    ]

-- ---- what is decided

abbrev pub Decided : Type 0 → Type 0
Decided P = P ⊎ (P → ⊥)

same_call : (a b : ReadCall) → a.xid ≡ b.xid → a.handle ≡ b.handle → a.offset ≡ b.offset → a.count ≡ b.count → a ≡ b
same_call a b xid handle offset count = λ i. record { xid = xid i; handle = handle i; offset = offset i; count = count i }

-- whether two READs are the same
pub is_same_call : (a b : ReadCall) → Decided (a ≡ b)
is_same_call a b =
    elim (cases_eq a.xid b.xid) [
      | inl xid ↦
          elim (cases_eq a.handle b.handle) [
            | inl handle ↦
                elim (cases_eq a.offset b.offset) [
                  | inl offset ↦
                      elim (cases_eq a.count b.count) [
                        | inl count ↦ inl (same_call a b xid handle offset count)
                        | inr other ↦ inr (λ same. other (ap (λ (c : ReadCall). c.count) same))
                      ]
                  | inr other ↦ inr (λ same. other (ap (λ (c : ReadCall). c.offset) same))
                ]
            | inr other ↦ inr (λ same. other (ap (λ (c : ReadCall). c.handle) same))
          ]
      | inr other ↦ inr (λ same. other (ap (λ (c : ReadCall). c.xid) same))
    ]

is_this_read : (found : Option ReadCall) (read : ReadCall) → Decided (found ≡ Some read)
is_this_read None read = inr (λ is. absurd cc)
is_this_read (Some call) read =
    elim (is_same_call call read) [
      | inl same ↦ inl (ap Some same)
      | inr other ↦ inr (λ is. other (same_Some call read is))
    ]

-- an entry is a packet of the request, under this number
pub record IsPacketOf (e : Entry) (client : ℕ) (read : ReadCall) (number : ℕ) : Type 0 where
  pub bytes : List ℕ
  pub is : e ≡ Packet number (Client client) Mds bytes
  pub reads : client_read_of bytes ≡ Some read

is_packet_of : (e : Entry) (client : ℕ) (read : ReadCall) (number : ℕ) → Decided (IsPacketOf e client read number)
is_packet_of (Packet n (Client c) Mds bytes) client read number =
    elim (cases_eq n number) [
      | inl same ↦
          elim (cases_eq c client) [
            | inl own ↦
                elim (is_this_read (client_read_of bytes) read) [
                  | inl reads ↦ inl (record { bytes = bytes; is = λ i. Packet (same i) (Client (own i)) Mds bytes; reads = reads })
                  | inr other ↦ inr (λ p. let its : bytes ≡ p.bytes = cc (p.is) in other (subst (λ (k : List ℕ). client_read_of k ≡ Some read) (sym its) p.reads))
                ]
            | inr other ↦ inr (λ p. other (cc (p.is)))
          ]
      | inr other ↦ inr (λ p. other (cc (p.is)))
    ]
is_packet_of e client read number = inr (λ p. absurd (cc (p.is)))

-- ---- whether the packet of a number is one of the request

by_place : (e : Entry) (journal before behind : List Entry) (bytes : List ℕ) (client : ℕ) (read : ReadCall) (number : ℕ)
    → e ∷ journal ≡ before ++ Packet number (Client client) Mds bytes ∷ behind → client_read_of bytes ≡ Some read
    → IsPacketOf e client read number ⊎ IsRequestIn journal client read number
by_place e journal [] behind bytes client read number is reads = inl (record { bytes = bytes; is = cc; reads = reads })
by_place e journal (b ∷ before) behind bytes client read number is reads =
    inr (record { bytes = bytes; there = record { before = before; behind = behind; split = cc }; reads = reads })

pub is_request_in : (journal : List Entry) (client : ℕ) (read : ReadCall) (number : ℕ) → Decided (IsRequestIn journal client read number)
is_request_in [] client read number = inr (λ r. nothing_there r.there.before r.there.behind (Packet number (Client client) Mds r.bytes) r.there.split)
is_request_in (e ∷ journal) client read number =
    elim (is_packet_of e client read number) [
      | inl p ↦
          inl (record { bytes = p.bytes; there = record { before = []; behind = journal; split = ap (λ (k : Entry). k ∷ journal) p.is }; reads = p.reads })
      | inr other ↦
          elim (is_request_in journal client read number) [
            | inl r ↦
                inl (
                record {
                  bytes = r.bytes;
                  there = record { before = e ∷ r.there.before; behind = r.there.behind; split = ap (λ (k : List Entry). e ∷ k) r.there.split };
                  reads = r.reads;
                }
                )
            | inr none ↦
                inr (
                λ r. elim (by_place e journal r.there.before r.there.behind r.bytes client read number r.there.split r.reads) [
                  | inl p ↦ other p
                  | inr later ↦ none later
                ]
                )
          ]
    ]

-- ---- the first delivery

-- an entry behind these delivers a packet of the request
record Comes (past : List Entry) (e : Entry) (client : ℕ) (read : ReadCall) : Type 0 where
  pub number : ℕ
  pub is : e ≡ Delivered number
  pub request : IsRequestIn past client read number

comes : (past : List Entry) (e : Entry) (client : ℕ) (read : ReadCall) → Decided (Comes past e client read)
comes past (Delivered number) client read =
    elim (is_request_in past client read number) [
      | inl request ↦ inl (record { number = number; is = refl; request = request })
      | inr none ↦ inr (λ c. let same : number ≡ c.number = cc (c.is) in none (subst (λ (k : ℕ). IsRequestIn past client read k) (sym same) c.request))
    ]
comes past e client read = inr (λ c. absurd (cc (c.is)))

not_yet : (past : List Entry) (e : Entry) (client : ℕ) (read : ReadCall) → HasNotCome past client read → (Comes past e client read → ⊥)
    → HasNotCome (past ++ e ∷ []) client read
not_yet past e client read none other before behind number is request =
    elim (last_or_before past before behind e (Delivered number) is) [
      | inl here ↦ other (record { number = number; is = here.1; request = subst (λ (k : List Entry). IsRequestIn k client read number) (sym here.0) request })
      | inr there ↦ none before there.0 number there.1 request
    ]

-- the place where a packet of the request came first
pub record FirstDelivery (journal : List Entry) (client : ℕ) (read : ReadCall) : Type 0 where
  pub early : List Entry
  pub number : ℕ
  pub more : List Entry
  pub split : journal ≡ early ++ Delivered number ∷ more
  pub request : IsRequestIn early client read number
  pub first : HasNotCome early client read

look : (past list : List Entry) (client : ℕ) (read : ReadCall) → HasNotCome past client read
    → FirstDelivery (past ++ list) client read ⊎ HasNotCome (past ++ list) client read
look past [] client read none = inr (subst (λ (k : List Entry). HasNotCome k client read) (sym (append-nil past)) none)
look past (e ∷ list) client read none =
    elim (comes past e client read) [
      | inl c ↦
          inl (
          record {
            early = past;
            number = c.number;
            more = list;
            split = ap (λ (k : Entry). past ++ k ∷ list) c.is;
            request = c.request;
            first = none;
          }
          )
      | inr other ↦
          subst (λ (k : List Entry). FirstDelivery k client read ⊎ HasNotCome k client read) (append_assoc past (e ∷ []) list)
          (look (past ++ e ∷ []) list client read (not_yet past e client read none other))
    ]

-- A request that came at some place came first at one.
pub first_delivery : (early more : List Entry) (number client : ℕ) (read : ReadCall) → IsRequestIn early client read number
    → FirstDelivery (early ++ Delivered number ∷ more) client read
first_delivery early more number client read request =
    elim (look [] (early ++ Delivered number ∷ more) client read (λ before behind n is r. nothing_there before behind (Delivered n) is)) [
      | inl first ↦ first
      | inr none ↦ absurd (none early more number refl request)
    ]
