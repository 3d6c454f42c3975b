use Rattle.std.proofs.Common.{rules, ◌≡◌, ◌+◌, ℕ, false, None, refl, sym, ap, ◌∙◌, subst}
use Rattle.std.specs.Prelude.{nat_eq, is_some, ◌==◌, ◌||◌}
use Rattle.ipc_hub.specs.View.{is_connected}
use Rattle.ipc_limits.specs.Limits.{longest_reply}
use Rattle.ipc_base.specs.Table.{value_at}
use Rattle.ipc_base.proofs.CallerLemmas.{nobody}
use Rattle.ipc_engine.specs.Bytes.{most_owed}
use Rattle.ipc_engine.specs.Engine.{Machine}
use Rattle.ipc_hub.specs.Relations.Matches.{HubMatches}
use Rattle.ipc_hub.specs.Relations.Invariant.{IsNew}
use Rattle.ipc_hub.specs.Relations.Rows.{Table, hub_view}
use Rattle.ipc_hub.proofs.Changes.{entry-invariant, entry-joins, entry-matches}
use Rattle.ipc_hub.proofs.Committing.{goes-on}
use Rattle.ipc_hub.proofs.hub.Hub.add.Goals as goal

-- the number is not in use
free : {before now : Table} (conn : ℕ) → before ≡ now → is_some (value_at nat_eq now conn) ≡ false → value_at nat_eq before conn ≡ None
free {before} conn same none = nobody (value_at nat_eq before conn) (rw same none)

pub invariant_of-self-2 : goal.invariant_of-self-2
invariant_of-self-2 g c _ =
    let is : IsNew (c.most_owed.result + c.longest_reply.result) c.in_ok-session.session = search rules in
    let running = ap (λ v. v.store.stopped) c.self.view_is ∙ goes-on c.args.self.now c.requires.running in
    let limits = ap (λ (m : Machine). m.limits) c.engine-engine.ensures in
    let long = c.longest_reply.ensures.longest ∙ ap longest_reply (c.limits.ensures.limits ∙ limits) in
    let most = c.most_owed.ensures.most ∙ ap most_owed limits in
    rw c.in_ok-insert.ensures.ok (entry-invariant (hub_view c.self.inside.store.machine c.self.inside.connections) c.args.conn c.in_ok-session.session
    (c.self.invariant running) c.ranges.conn.fits (free c.args.conn (ap (λ v. v.hub.connections) c.self.view_is) c.requires.free)
    (rw (most, long) at is))

pub returns : goal.returns
returns g c =
    let is : IsNew (c.most_owed.result + c.longest_reply.result) c.in_ok-session.session = search rules in
    let before : Table = c.self.inside.connections in
    record {
      ok = λ limits confirmed h m.
          entry-matches limits confirmed (hub_view c.self.inside.store.machine before) (hub_view c.self.inside.store.machine c.insert.new.self) h c.args.conn
          c.in_ok-session.session (c.most_owed.result + c.longest_reply.result)
          (subst (λ v. HubMatches limits confirmed v h) (sym (ap (λ v. v.hub) c.self.view_is)) m) refl refl c.in_ok-insert.ensures.ok is;
      joins = λ other.
          rw c.in_ok-insert.ensures.ok (entry-joins before c.args.conn c.in_ok-session.session other
          (free c.args.conn (ap (λ v. v.hub.connections) c.self.view_is) c.requires.free))
          ∙ ap (λ v. other == c.args.conn || is_connected v.hub other) c.self.view_is;
      store = search rules;
      err = tt;
    }
