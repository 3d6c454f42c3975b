-- The server ends a connection: what it is then, step by step over its rows, and what is the definitions' end of it.
use Rattle.std.proofs.Common.{◌≡◌, ◌≤◌, ◌<◌, ℕ, true, false, [], ◌++◌, Option, Some, None, refl, sym, ◌∙◌, subst, append-nil, arith}
use Rattle.std.proofs.Common.{ap, ◌⊎◌, inl, inr, rules}
use Rattle.std.specs.Prelude.{length, nat_eq, IfSome}
use Rattle.ipc_base.specs.Table.{value_at, with_value, keys_of}
use Rattle.ipc_base.specs.declared.errno.Errno.TheVariants.{EPROTO}
use Rattle.ipc_limits.specs.declared.limits.Limits.{Limits}
use Rattle.ipc_base.proofs.CallerLemmas.{paired-at, paired-none, paired-with, each-at, at-with}
use Rattle.ipc_wire.proofs.CallerLemmas.{first_short, length-reply_bytes}
use Rattle.ipc_state.specs.State.{State}
use Rattle.ipc_engine.specs.Engine.{Machine}
use Rattle.ipc_engine.specs.View.{reply_of}
use Rattle.ipc_hub.specs.Hub.{Endpoint, Hub, accepted, client_at, with_client, refusal, leave, break_off}
use Rattle.ipc_hub.specs.Clients.{Client, Clients}
use Rattle.ipc_hub.specs.View.{ConnectionView, HubView, HasNoFrame}
use Rattle.ipc_hub.specs.Relations.Delivery.{pushed, closed, last_frame, owed_to, unanswered_of, view_endpoint}
use Rattle.ipc_hub.specs.Relations.Invariant.{IsSoundIn, HubInvariant, Continues, IsNobodys, LeavesOthers}
use Rattle.ipc_hub.specs.Relations.Matches.{ClientMatches, HubMatches}
use Rattle.ipc_hub.specs.Relations.Requests.{Left, exit_of}
use Rattle.ipc_hub.specs.Relations.Rows.{Becomes, Table, hub_of, hub_view, changed, process_in, is_open_in}
use Rattle.ipc_hub.proofs.Deliveries.{table-matches}
use Rattle.ipc_hub.proofs.Keeping.{change-invariant, changed-invariant, changed-keys, change-nobodys, kept-pushed, live-at, pushed-frame}
use Rattle.ipc_hub.proofs.Rows.{same_value, process_of}

-- the event of a process that leaves is the last one
pub leave-adds : {E : Type 0} (kind : Endpoint E) (limits : Limits) (h : Hub E) (p : Option ℕ) (moment : ℕ)
    → (leave kind limits h p moment).events ≡ h.events ++ exit_of p moment
leave-adds kind limits h None moment = sym (append-nil h.events)
leave-adds kind limits h (Some pid) moment = refl

-- it is one, if there is a process
pub exit-few : (p : Option ℕ) (moment : ℕ) → length (exit_of p moment) ≤ 1
exit-few None moment = omega arith
exit-few (Some pid) moment = omega arith

-- and there is, if a call of it waits
pub exit-some : (s : State) (p : Option ℕ) (moment : ℕ) → 0 < unanswered_of s p → 0 < length (exit_of p moment)
exit-some s None moment waits = absurd (omega (arith, waits))
exit-some s (Some pid) moment waits = omega arith

-- a hub of which the process of a connection has left
left-becomes : (old new : HubView) (p : Option ℕ) (moment : ℕ) → Left old new p moment → Becomes old new (leave view_endpoint old.limits (hub_of old) p moment)
left-becomes old new None moment same =
    record { limits = ap (λ (v : HubView). v.limits) same; state = ap (λ (v : HubView). v.state) same; rows = ap (λ (v : HubView). v.connections) same }
left-becomes old new (Some pid) moment is = is.becomes

-- a connection and its client
pub record Pair (confirmed : ℕ) (old : HubView) (h : Clients) (conn : ℕ) : Type 0 where
  pub v : ConnectionView
  pub c : Client
  pub at : value_at nat_eq old.connections conn ≡ Some v
  pub here : client_at h conn ≡ Some c
  pub mine : ClientMatches confirmed (accepted h) v c

-- a number has both, or neither
pub pair-at : (limits : Limits) (confirmed : ℕ) (old : HubView) (h : Clients) (conn : ℕ) → HubMatches limits confirmed old h
    → ((value_at nat_eq old.connections conn ≡ None) × (client_at h conn ≡ None)) ⊎ Pair confirmed old h conn
pair-at limits confirmed old h conn m = by_value (value_at nat_eq old.connections conn) refl
  where
    by_value : (r : Option ConnectionView) → value_at nat_eq old.connections conn ≡ r → ((r ≡ None) × (client_at h conn ≡ None)) ⊎ Pair confirmed old h conn
    by_value None is = inl (refl, paired-none (ClientMatches confirmed (accepted h)) old.connections h.clients conn m.clients is)
    by_value (Some v) is =
        let p = paired-at (ClientMatches confirmed (accepted h)) old.connections h.clients conn v m.clients is in
        inr (record { v = v; c = p.0; at = is; here = p.1.0; mine = p.1.1 })

-- a connection and its client are changed
pub change-matches : (limits : Limits) (confirmed : ℕ) (old new : HubView) (h : Clients) (conn : ℕ) (v : ConnectionView) (c : Client)
    → HubMatches limits confirmed old h → new.limits ≡ old.limits → new.state ≡ old.state
    → new.connections ≡ with_value nat_eq old.connections conn v → ClientMatches confirmed (accepted h) v c
    → HubMatches limits confirmed new (with_client h conn c)
change-matches limits confirmed old new h conn v c m same state rows is = search (rules, paired-with, table-matches)

-- ---- the steps, over the table

module _ (engine : Machine) (table : Table) (conn : ℕ) (inv : HubInvariant (hub_view engine table)) (live : is_open_in table conn ≡ true) where
  abbrev v : ConnectionView
  v = (live-at table conn live).0

  found : value_at nat_eq table conn ≡ Some v
  found = (live-at table conn live).1.0

  kept : IsSoundIn (hub_view engine table) v
  kept = each-at (IsSoundIn (hub_view engine table)) table conn v inv.each found

  -- the connection is over
  pub closed-invariant : HubInvariant (hub_view engine (changed closed conn table))
  closed-invariant = changed-invariant (hub_view engine table) conn closed inv (λ w is k. (
    λ pid never. cc,
    record { input = first_short [] (omega arith); last = λ live'. let never : true ≡ false = live' in cc; over = λ _. refl; spare = k.spare; size = k.size },
  ))

  pub closed-nobodys : IsNobodys (changed closed conn table) (process_in table conn)
  closed-nobodys = rw found (change-nobodys (hub_view engine table) conn v (closed v) inv found refl)

  -- ---- its process has left

  module _ (left : Machine) (gone after : Table) (is : gone ≡ changed closed conn table) (continues : Continues (hub_view engine gone) (hub_view left after))
      (others : LeavesOthers gone after) where
    here : value_at nat_eq after conn ≡ Some (closed v)
    here = others conn (closed v) (ap (λ (t : Table). value_at nat_eq t conn) is ∙ rw found (at-with table conn (closed v) v found)) refl

    pub left-space : IfSome (value_at nat_eq after conn) (λ c. last_frame ≤ c.outbox.free)
    left-space = rw here (omega (arith, kept.last (live-at table conn live).1.1))

    -- ---- the last frame follows

    module _ (serial : ℕ) where
      abbrev last : ConnectionView → ConnectionView
      last = pushed (reply_of (refusal serial EPROTO))

      put : changed last conn after ≡ with_value nat_eq after conn (last (closed v))
      put = rw here refl

      pub last-goes-on : Continues (hub_view engine table) (hub_view left (changed last conn after))
      last-goes-on =
          let long = length-reply_bytes (reply_of (refusal serial EPROTO)) in
          let owes : Option ℕ → ℕ = owed_to left.limits left.state in
          record {
            limits = continues.limits;
            numbers = changed-keys last conn after ∙ continues.numbers ∙ ap keys_of is ∙ changed-keys closed conn table;
            invariant = rw put (change-invariant (hub_view left after) conn (closed v) (last (closed v)) continues.invariant here (λ pid mine. mine)
                (kept-pushed left.limits owes owes (refusal serial EPROTO) (closed v)
                (each-at (IsSoundIn (hub_view left after)) after conn (closed v) continues.invariant.each here)
                (omega (arith, kept.last (live-at table conn live).1.1, long)) (λ never. cc)));
          }

      pub last-ends : (moment : ℕ) (process : Option ℕ) → process ≡ process_in table conn → Left (hub_view engine gone) (hub_view left after) process moment
          → (c : ConnectionView) → value_at nat_eq table conn ≡ Some c → Becomes (hub_view engine table) (hub_view left (changed last conn after))
          (break_off view_endpoint engine.limits (hub_of (hub_view engine table)) conn c serial moment)
      last-ends moment process had gone-now c there =
          let same : v ≡ c = same_value v c (sym found ∙ there) in
          let put-out : gone ≡ with_value nat_eq table conn (closed v) = is ∙ rw found refl in
          let b = rw (put-out, had ∙ ap process_of found) at (left-becomes (hub_view engine gone) (hub_view left after) process moment gone-now) in
          subst (λ (w : ConnectionView). Becomes (hub_view engine table) (hub_view left (changed last conn after))
          (break_off view_endpoint engine.limits (hub_of (hub_view engine table)) conn w serial moment)) same
          (record { limits = b.limits; state = b.state; rows = put ∙ ap (λ (t : Table). with_value nat_eq t conn (last (closed v))) b.rows })

      pub last-answers : HasNoFrame (hub_view left (changed last conn after)) conn → ⊥
      last-answers = pushed-frame left after conn (reply_of (refusal serial EPROTO)) (closed v) here
