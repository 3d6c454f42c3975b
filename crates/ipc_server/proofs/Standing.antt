-- The clients in a slab, by number: what a step of a walk over them makes of them, and that each keeps its connection.
use Rattle.std.proofs.Common.{◌≡◌, ◌≢◌, ℕ, ◌+◌, ◌<◌, ◌≤◌, Bool, true, false, List, Option, Some, None}
use Rattle.std.proofs.Common.{is_some, refl, sym, ap, subst, ◌∙◌, inl, inr, get_or, arith}
use Rattle.std.specs.Prelude.{nat_eq, not, ◌==◌, ◌&&◌, ◌||◌, option_map, [], slice_index_or, unwrap_or, IfSome}
use Rattle.std.proofs.lemmas.Bool.{cases_eq}
use Rattle.std.proofs.lemmas.Bool.Decides.{nat_tests}
use Rattle.std.proofs.Math.ListN.{get_or-map}
use Rattle.std.proofs.lemmas.List.{map-set}
use Rattle.std.proofs.Math.Seq.{map-set_same}
use Rattle.slab.specs.Slab.{Slab, Updates, get, with_value}
use Rattle.slab.proofs.SlabLemmas.{Updates-with_value}
use Rattle.ipc_base.proofs.CallerLemmas.{same_keys, test_cases}
use Rattle.ipc_base.specs.Table.{value_at}
use Rattle.ipc_hub.specs.View.{HubView, is_connected, numbers_of, output_of}
use Rattle.ipc_server.specs.declared.client.Client.{Client}
use Rattle.ipc_server.specs.Rows.{EachBelow, IsServing, KeepsClients, KeepsFailed, StandsIn, Stays, clients_of, conns_of, view_of}
use Rattle.ipc_server.specs.View.{ClientView, EachClient, HaveOwnNumbers, WasWritten, Writing, client_of, has_failed, is_gone}

-- the number of a client's connection
abbrev conn_of : Option ClientView → Option ℕ
conn_of = option_map (λ c. c.conn)

-- whether the socket of a client, if there is one, has failed
abbrev failing : Option ClientView → Bool
failing r = unwrap_or (option_map (λ c. c.writing.failed) r) false

-- two slots with the same number both have a client, or none
both-some : (r s : Option ClientView) → conn_of r ≡ conn_of s → is_some r ≡ is_some s
both-some None None same = refl
both-some None (Some c) same = cc
both-some (Some c) None same = cc
both-some (Some c) (Some d) same = refl

pub stands-none : (clients : List (Option ClientView)) → StandsIn clients clients
stands-none clients number client is live = (client.writing, is)

pub stands-both : (old mid new : List (Option ClientView)) → StandsIn old mid → StandsIn mid new → StandsIn old new
stands-both old mid new one two number client is live =
    let was = two number client is live in
    one number (record client { writing = was.0 }) was.1 live

-- all of them stand, and so those that are not over
pub stands-all : (old new : List (Option ClientView)) → Stays old new → StandsIn old new
stands-all old new stays number client is live = stays number client is

pub stays-none : (clients : List (Option ClientView)) → Stays clients clients
stays-none clients number client is = (client.writing, is)

pub stays-both : (old mid new : List (Option ClientView)) → Stays old mid → Stays mid new → Stays old new
stays-both old mid new one two number client is =
    let was = two number client is in
    one number (record client { writing = was.0 }) was.1

first-false : (a b : Bool) → (a || b) ≡ false → a ≡ false
first-false false b is = refl
first-false true b is = cc

pub or-true : (a : Bool) → (a || true) ≡ true
or-true false = refl
or-true true = refl

-- What holds of each client that is not over, whatever became of it when it was written to, holds of all, once those
-- that are over are parted with.
pub left-each : (P : ClientView → Type 0) → ((client : ClientView) (writing : Writing) → P (record client { writing = writing }) → P client)
    → (n : ℕ) (first parted last : List (Option ClientView)) → EachBelow n (λ c. c.over ≡ false → P c) first
    → StandsIn first parted → EachBelow n (λ c. c.over ≡ false) parted → Stays parted last
    → ((number : ℕ) (client : ClientView) → client_of last number ≡ Some client → number < n) → EachClient P last
left-each P blind n first parted last each stands live stays within number client is =
    let small = within number client is in
    let there = stays number client is in
    let on = live number (record client { writing = there.0 }) small there.1 in
    let was = stands number (record client { writing = there.0 }) there.1 on in
    blind client was.0 (each number (record client { writing = was.0 }) small was.1 on)

-- A client whose socket has failed is let go, once those are over and all that are over are parted with.
pub failed-left : (n : ℕ) (noted parted last : List (Option ClientView)) → EachBelow n (λ c. c.writing.failed ≡ true → c.over ≡ true) noted
    → StandsIn noted parted → EachBelow n (λ c. c.over ≡ false) parted → Stays parted last
    → ((number : ℕ) (client : ClientView) → client_of last number ≡ Some client → number < n)
    → (number : ℕ) → has_failed noted number ≡ true → client_of last number ≡ None
failed-left n noted parted last over stands live stays within number bad = by_slot (client_of last number) refl
  where
    by_slot : (r : Option ClientView) → client_of last number ≡ r → r ≡ None
    by_slot None is = refl
    by_slot (Some client) is =
        let small = within number client is in
        let there = stays number client is in
        let on = live number (record client { writing = there.0 }) small there.1 in
        let was = stands number (record client { writing = there.0 }) there.1 on in
        let gone : client.over ≡ true = over number (record client { writing = was.0 }) small was.1 (sym (ap failing was.1) ∙ bad) in
        let never : true ≡ false = sym gone ∙ on in
        cc

module _ {S : Type 0} where
  -- ---- one slot

  pub at-number : (slab : Slab (Client S)) (number : ℕ) → client_of (clients_of slab) number ≡ option_map view_of (get slab number)
  at-number slab number = get_or-map (option_map view_of) slab.slots number None

  pub stands-at : (slab : Slab (Client S)) (number : ℕ) (client : Client S) → get slab number ≡ Some client
      → client_of (clients_of slab) number ≡ Some (view_of client)
  stands-at slab number client is = at-number slab number ∙ ap (option_map view_of) is

  -- a number has the same client in two slabs with the same slot
  pub same-at : (old new : Slab (Client S)) (number : ℕ) → get new number ≡ get old number → client_of (clients_of new) number
      ≡ client_of (clients_of old) number
  same-at old new number same = at-number new number ∙ ap (option_map view_of) same ∙ sym (at-number old number)

  -- what stands at the key that was changed
  pub changed-at : (old new : Slab (Client S)) (key : ℕ) (slot : Option (Client S)) → Updates old new key slot
      → client_of (clients_of new) key ≡ option_map view_of slot
  changed-at old new key slot updates = at-number new key ∙ ap (option_map view_of) updates.changed

  -- ---- a step of a walk

  -- what holds of each client that was passed holds of one more
  pub below-more : (P : ClientView → Type 0) (old new : Slab (Client S)) (key : ℕ) (slot : Option (Client S)) → Updates old new key slot
      → IfSome slot (λ c. P (view_of c)) → EachBelow key P (clients_of old) → EachBelow (key + 1) P (clients_of new)
  below-more P old new key slot updates here before number client below is =
      elim (cases_eq number key) [
        | inl same ↦ by_slot slot here (sym (changed-at old new key slot updates) ∙ (rw same at is))
        | inr differs ↦ before number client (omega arith) (sym (same-at old new number (updates.others number differs)) ∙ is)
      ]
    where
      by_slot : (r : Option (Client S)) → IfSome r (λ c. P (view_of c)) → option_map view_of r ≡ Some client → P client
      by_slot None here is = cc
      by_slot (Some c) here is = let same : view_of c ≡ client = cc in subst P same here

  -- a step that finds no client, or leaves it as it is
  pub below-same : (P : ClientView → Type 0) (slab : Slab (Client S)) (key : ℕ)
      → ((c : Client S) → get slab key ≡ Some c → P (view_of c)) → EachBelow key P (clients_of slab) → EachBelow (key + 1) P (clients_of slab)
  below-same P slab key here before =
      below-more P slab slab key (get slab key) (record { changed = refl; others = λ other differs. refl }) (by_slot (get slab key) refl) before
    where
      by_slot : (slot : Option (Client S)) → get slab key ≡ slot → IfSome slot (λ c. P (view_of c))
      by_slot None at_key = tt
      by_slot (Some c) at_key = here c at_key

  pub stands-more : (old new : Slab (Client S)) (key : ℕ) (slot : Option (Client S)) → Updates old new key slot
      → IfSome slot (λ c. c.over ≡ false → client_of (clients_of old) key ≡ Some (view_of c)) → StandsIn (clients_of old) (clients_of new)
  stands-more old new key slot updates here number client is live = (
    client.writing,
    elim (cases_eq number key) [
      | inl same ↦ rw same (by_slot slot here (sym (changed-at old new key slot updates) ∙ (rw same at is)))
      | inr differs ↦ sym (same-at old new number (updates.others number differs)) ∙ is
    ],
  )
    where
      by_slot : (r : Option (Client S)) → IfSome r (λ c. c.over ≡ false → client_of (clients_of old) key ≡ Some (view_of c))
          → option_map view_of r ≡ Some client → client_of (clients_of old) key ≡ Some client
      by_slot None here is = cc
      by_slot (Some c) here is =
          let same : view_of c ≡ client = cc in
          here (ap (λ (v : ClientView). v.over) same ∙ live) ∙ ap Some same

  pub updates-value : (slab : Slab (Client S)) (key : ℕ) (was now : Client S) → get slab key ≡ Some was
      → Updates slab (with_value slab key now) key (Some now)
  updates-value slab key was now is = Updates-with_value slab key now (ap is_some is)

  -- one slot was changed, and a socket that had failed there has failed still
  pub failed-kept : (old new : Slab (Client S)) (key : ℕ) (slot : Option (Client S)) → Updates old new key slot
      → (failing (option_map view_of (get old key)) ≡ true → failing (option_map view_of slot) ≡ true) → KeepsFailed (clients_of old) (clients_of new)
  failed-kept old new key slot updates here number bad =
      elim (cases_eq number key) [
        | inl same ↦ rw same (ap failing (changed-at old new key slot updates) ∙ here (sym (ap failing (at-number old key)) ∙ (rw same at bad)))
        | inr differs ↦ ap failing (same-at old new number (updates.others number differs)) ∙ bad
      ]

  -- a client came, at a key that was vacant
  pub failed-joined : (old : List (Option ClientView)) (room new : Slab (Client S)) (key : ℕ) (client : Client S) → clients_of room ≡ old
      → get room key ≡ None → Updates room new key (Some client) → KeepsFailed old (clients_of new)
  failed-joined old room new key client same vacant updates =
      rw (sym same) (failed-kept room new key (Some client) updates
      (λ bad. let never : false ≡ true = sym (ap (λ r. failing (option_map view_of r)) vacant) ∙ bad in cc))

  -- a client was changed, its connection is the same, and a socket that had failed has failed still
  pub keeps-value : (slab : Slab (Client S)) (key : ℕ) (was now : Client S) → get slab key ≡ Some was → now.conn ≡ was.conn
      → (was.failed ≡ true → now.failed ≡ true) → KeepsClients slab (with_value slab key now)
  keeps-value slab key was now is same failed = record {
    conns = ap conns_of (map-set (option_map view_of) slab.slots key (Some now)) ∙ map-set_same conn_of (clients_of slab) key (Some (view_of now)) None
        (ap Some same ∙ sym (ap conn_of (stands-at slab key was is)));
    failed = failed-kept slab (with_value slab key now) key (Some now) (updates-value slab key was now is)
        (λ bad. failed (sym (ap (λ r. failing (option_map view_of r)) is) ∙ bad));
    capacity = refl;
  }

  pub keeps-none : (slab : Slab (Client S)) → KeepsClients slab slab
  keeps-none slab = record { conns = refl; failed = λ number bad. bad; capacity = refl }

  pub keeps-both : (old mid new : Slab (Client S)) → KeepsClients old mid → KeepsClients mid new → KeepsClients old new
  keeps-both old mid new one two = record {
    conns = two.conns ∙ one.conns;
    failed = λ number bad. two.failed number (one.failed number bad);
    capacity = two.capacity ∙ one.capacity;
  }

  -- a client was written to
  pub stays-value : (slab : Slab (Client S)) (key : ℕ) (was now : Client S) → get slab key ≡ Some was
      → view_of now ≡ record (view_of was) { writing = (view_of now).writing } → Stays (clients_of slab) (clients_of (with_value slab key now))
  stays-value slab key was now is same number client there =
      elim (cases_eq number key) [
        | inl at_key ↦
            let here : Some (view_of now) ≡ Some client =
            sym (changed-at slab (with_value slab key now) key (Some now) (updates-value slab key was now is)) ∙ (rw at_key at there) in
            let seen : view_of now ≡ client = cc in (
              (view_of was).writing,
              rw at_key (stands-at slab key was is ∙ ap (λ (v : ClientView). Some (record v { writing = (view_of was).writing })) (sym same ∙ seen)),
            )
        | inr differs ↦
            (client.writing, sym (same-at slab (with_value slab key now) number ((updates-value slab key was now is).others number differs)) ∙ there)
      ]

  -- one more client was written to, and the others may see what they could
  pub written-more : (hub next : HubView) (slab : Slab (Client S)) (key : ℕ) (was now : Client S) → get slab key ≡ Some was → HaveOwnNumbers (clients_of slab)
      → ((other : ℕ) → other ≢ was.conn → output_of next other ≡ output_of hub other) → WasWritten next (view_of now)
      → EachBelow key (WasWritten hub) (clients_of slab) → EachBelow (key + 1) (WasWritten next) (clients_of (with_value slab key now))
  written-more hub next slab key was now is own others here before =
      below-more (WasWritten next) slab (with_value slab key now) key (Some now) (updates-value slab key was now is) here
      (λ number client small there.
      let apart : client.conn ≢ was.conn =
      λ same. omega (arith, small, own number client there, own key (view_of was) (stands-at slab key was is), same) in
      let so_far = before number client small there in
      (so_far.0, λ room fine. rw (others client.conn apart) (so_far.1 room fine)))

  -- a client was changed, and one that is not over is as it was
  pub stands-seen : (slab : Slab (Client S)) (key : ℕ) (was now : Client S) → get slab key ≡ Some was → (now.over ≡ false → view_of now ≡ view_of was)
      → StandsIn (clients_of slab) (clients_of (with_value slab key now))
  stands-seen slab key was now is same =
      stands-more slab (with_value slab key now) key (Some now) (updates-value slab key was now is)
      (λ on. stands-at slab key was is ∙ sym (ap Some (same on)))

  -- whether a client is gone was noted: one that is not over was not over before, and is not gone
  pub ended-live : (hub : HubView) (was now : Client S) → now ≡ record was { over = is_gone hub (view_of was) || was.failed } → now.over ≡ false
      → (view_of now ≡ view_of was) × (is_gone hub (view_of now) ≡ false)
  ended-live hub was now is live =
      let noted : (is_gone hub (view_of was) || was.failed) ≡ false = sym (ap (λ (c : Client S). c.over) is) ∙ live in
      let here : is_gone hub (view_of was) ≡ false = first-false (is_gone hub (view_of was)) was.failed noted in
      let before : was.over ≡ false = first-false was.over _ here in
      let same : view_of now ≡ view_of was =
      ap view_of is ∙ ap (λ (b : Bool). record (view_of was) { over = b }) (noted ∙ sym before) in
      (same, ap (is_gone hub) same ∙ here)

  -- and one whose socket has failed is over
  pub failed-over : (hub : HubView) (was now : Client S) → now ≡ record was { over = is_gone hub (view_of was) || was.failed } → now.failed ≡ true
      → now.over ≡ true
  failed-over hub was now is bad =
      let failed : was.failed ≡ true = sym (ap (λ (c : Client S). c.failed) is) ∙ bad in
      ap (λ (c : Client S). c.over) is ∙ ap (λ (b : Bool). is_gone hub (view_of was) || b) failed ∙ or-true (is_gone hub (view_of was))

  -- a client was let go
  pub stands-left : (old new : Slab (Client S)) (key : ℕ) → Updates old new key None → StandsIn (clients_of old) (clients_of new)
  stands-left old new key updates = stands-more old new key None updates tt

  pub below-left : (P : ClientView → Type 0) (old new : Slab (Client S)) (key : ℕ) → Updates old new key None → EachBelow key P (clients_of old)
      → EachBelow (key + 1) P (clients_of new)
  below-left P old new key updates before = below-more P old new key None updates tt before

  -- ---- each client keeps its connection

  conn-kept : (old new : Slab (Client S)) → KeepsClients old new → (number : ℕ)
      → conn_of (client_of (clients_of new) number) ≡ conn_of (client_of (clients_of old) number)
  conn-kept old new keeps number =
      sym (get_or-map conn_of (clients_of new) number None) ∙ ap (λ (cs : List (Option ℕ)). get_or cs number None) keeps.conns
      ∙ get_or-map conn_of (clients_of old) number None

  pub some-kept : (old new : Slab (Client S)) → KeepsClients old new → (number : ℕ)
      → is_some (client_of (clients_of new) number) ≡ is_some (client_of (clients_of old) number)
  some-kept old new keeps number = both-some (client_of (clients_of new) number) (client_of (clients_of old) number) (conn-kept old new keeps number)

  -- the client that was there
  one-kept : (old new : Slab (Client S)) → KeepsClients old new → (number : ℕ) (client : ClientView) → client_of (clients_of new) number ≡ Some client
      → (was : ClientView) × (client_of (clients_of old) number ≡ Some was) × (client.conn ≡ was.conn)
  one-kept old new keeps number client is =
      by_slot (client_of (clients_of old) number) refl (sym (conn-kept old new keeps number) ∙ ap conn_of is)
    where
      by_slot : (slot : Option ClientView) → client_of (clients_of old) number ≡ slot → conn_of slot ≡ Some client.conn
          → (was : ClientView) × (client_of (clients_of old) number ≡ Some was) × (client.conn ≡ was.conn)
      by_slot None here is = cc
      by_slot (Some was) here is = (was, here, cc)

  pub own-kept : (old new : Slab (Client S)) → KeepsClients old new → HaveOwnNumbers (clients_of old) → HaveOwnNumbers (clients_of new)
  own-kept old new keeps own number client is =
      let was = one-kept old new keeps number client is in
      was.2 ∙ own number was.0 was.1

  -- the same clients, over a hub with the same connections
  pub serving-kept : (hub next : HubView) (old new : Slab (Client S)) → numbers_of next ≡ numbers_of hub → KeepsClients old new
      → IsServing hub old → IsServing next new
  serving-kept hub next old new numbers keeps serving = record {
    connected = record {
      own = own-kept old new keeps serving.connected.own;
      same = λ number. same_keys next.connections hub.connections number numbers ∙ serving.connected.same number
          ∙ both-some (client_of (clients_of old) number) (client_of (clients_of new) number) (sym (conn-kept old new keeps number));
    };
    within = λ number client is. rw keeps.capacity (let was = one-kept old new keeps number client is in serving.within number was.0 was.1);
  }

  -- a client came, and its connection
  pub serving-joined : (hub next : HubView) (old new : Slab (Client S)) (key : ℕ) (client : Client S) → IsServing hub old
      → Updates old new key (Some client) → client.conn ≡ key → key < new.capacity → old.capacity ≤ new.capacity
      → ((other : ℕ) → is_connected next other ≡ (other == key || is_connected hub other)) → IsServing next new
  serving-joined hub next old new key client serving updates conn fits grows joins = record {
    connected = record {
      own = λ number v is. elim (cases_eq number key) [
        | inl same ↦ let here : view_of client ≡ v = found v (rw same at is) in sym (ap (λ (c : ClientView). c.conn) here) ∙ conn ∙ sym same
        | inr differs ↦ serving.connected.own number v (elsewhere number differs v is)
      ];
      same = λ number. joins number ∙ elim (test_cases (nat_eq number key)) [
        | inl t ↦ let same : number ≡ key = grind (arith, nat_tests) in rw t (rw same (sym (ap is_some (changed-at old new key (Some client) updates))))
        | inr f ↦ rw f (serving.connected.same number ∙ sym (ap is_some (same-at old new number (updates.others number (λ same. grind (arith, nat_tests))))))
      ];
    };
    within = λ number v is. elim (cases_eq number key) [
      | inl same ↦ omega arith
      | inr differs ↦ omega (arith, serving.within number v (elsewhere number differs v is))
    ];
  }
    where
      found : (v : ClientView) → client_of (clients_of new) key ≡ Some v → view_of client ≡ v
      found v is = let both : Some (view_of client) ≡ Some v = sym (changed-at old new key (Some client) updates) ∙ is in cc

      elsewhere : (number : ℕ) → number ≢ key → (v : ClientView) → client_of (clients_of new) number ≡ Some v → client_of (clients_of old) number ≡ Some v
      elsewhere number differs v is = sym (same-at old new number (updates.others number differs)) ∙ is

  -- a client was let go, and its connection was hung up
  pub serving-left : (hub next : HubView) (old new : Slab (Client S)) (key : ℕ) → IsServing hub old → Updates old new key None
      → new.capacity ≡ old.capacity → ((other : ℕ) → is_connected next other ≡ (not (other == key) && is_connected hub other)) → IsServing next new
  serving-left hub next old new key serving updates capacity leaves = record {
    connected = record {
      own = λ number v is. serving.connected.own number v (elsewhere number v is);
      same = λ number. leaves number ∙ elim (test_cases (nat_eq number key)) [
        | inl t ↦ let same : number ≡ key = grind (arith, nat_tests) in rw t (rw same (sym (ap is_some (changed-at old new key None updates))))
        | inr f ↦ rw f (serving.connected.same number ∙ sym (ap is_some (same-at old new number (updates.others number (λ same. grind (arith, nat_tests))))))
      ];
    };
    within = λ number v is. rw capacity (serving.within number v (elsewhere number v is));
  }
    where
      elsewhere : (number : ℕ) (v : ClientView) → client_of (clients_of new) number ≡ Some v → client_of (clients_of old) number ≡ Some v
      elsewhere number v is =
          elim (cases_eq number key) [
            | inl same ↦ let none : None ≡ Some v = sym (changed-at old new key None updates) ∙ (rw same at is) in cc
            | inr differs ↦ sym (same-at old new number (updates.others number differs)) ∙ is
          ]

  -- the same, where the connection that was hung up is the client's
  pub serving-gone : (hub next : HubView) (old new : Slab (Client S)) (key : ℕ) (client : Client S) → get old key ≡ Some client → IsServing hub old
      → Updates old new key None → new.capacity ≡ old.capacity
      → ((other : ℕ) → is_connected next other ≡ (not (other == client.conn) && is_connected hub other)) → IsServing next new
  serving-gone hub next old new key client is serving updates capacity leaves =
      let own : client.conn ≡ key = serving.connected.own key (view_of client) (stands-at old key client is) in
      serving-left hub next old new key serving updates capacity
      (λ other. leaves other ∙ ap (λ (n : ℕ). not (other == n) && is_connected hub other) own)

  -- room was made for more
  pub serving-grown : (hub : HubView) (old new : Slab (Client S)) → new ≡ record old { capacity = new.capacity } → old.capacity ≤ new.capacity
      → IsServing hub old → IsServing hub new
  serving-grown hub old new is grows serving =
      let slots : clients_of new ≡ clients_of old = ap clients_of is in
      record {
        connected = rw slots serving.connected;
        within = λ number client there. omega (arith, serving.within number client (rw slots at there));
      }

  -- a server without clients, over a hub without connections
  pub serving-none : (hub : HubView) (slab : Slab (Client S)) → hub.connections ≡ [] → slab.slots ≡ [] → IsServing hub slab
  serving-none hub slab none empty = record {
    connected = record {
      own = λ number client is. let never : None ≡ Some client = sym (nowhere number) ∙ is in cc;
      same = λ number. ap (λ es. is_some (value_at nat_eq es number)) none ∙ sym (ap is_some (nowhere number));
    };
    within = λ number client is. let never : None ≡ Some client = sym (nowhere number) ∙ is in cc;
  }
    where
      nowhere : (number : ℕ) → client_of (clients_of slab) number ≡ None
      nowhere number = at-number slab number ∙ ap (λ slots. option_map view_of (slice_index_or slots number None)) empty

  -- connections were fed, clients were answered, and those that are gone were noted
  pub serving-noted : (h0 h1 h2 : HubView) (s0 s1 s2 s3 : Slab (Client S)) → numbers_of h1 ≡ numbers_of h0 → KeepsClients s0 s1
      → numbers_of h2 ≡ numbers_of h1 → KeepsClients s1 s2 → KeepsClients s2 s3 → IsServing h0 s0 → IsServing h2 s3
  serving-noted h0 h1 h2 s0 s1 s2 s3 fed heard written answered noted =
      serving-kept h0 h2 s0 s3 (written ∙ fed) (keeps-both s0 s1 s3 heard (keeps-both s1 s2 s3 answered noted))
