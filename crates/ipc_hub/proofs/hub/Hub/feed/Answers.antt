use Rattle.std.proofs.Common.{◌+◌, take, inl, inr, sym, subst, ◌∙◌, arith}
use Rattle.ipc_hub.specs.View.{StoredHub}
use Rattle.ipc_hub.specs.Relations.Matches.{ServesFeed}
use Rattle.ipc_hub.proofs.Coming.{serves-fed}
use Rattle.ipc_hub.proofs.Committing.{halts-feed, spends-then}
use Rattle.ipc_hub.proofs.hub.Hub.feed.Goals as goal

pub serve-requires-clause-can : goal.serve-requires-clause-can
serve-requires-clause-can g c =
    let e = c.in_default.ensures in record { invariant = e.invariant; room = e.ready.0; left = inl e.ready.1 }

pub returns-in-Ok-clause-ok : goal.returns-in-Ok-clause-ok
returns-in-Ok-clause-ok g c =
    subst (λ (v : StoredHub g.row.D.Denot).
    ServesFeed g.D.SectorDisk.medium c.args.self.now v c.args.conn (take c.in-Ok.taken c.args.piece.now) c.args.moment.0)
    (sym c.self.view_is)
    (serves-fed g.D.SectorDisk.medium c.args.self.now c.advance.new.self c.serve.new.self c.args.conn (take c.in-Ok.taken c.args.piece.now)
    c.args.moment.0 (rw c.focus.ensures.same at c.in_default.ensures.ok) c.in-Ok.ensures.ok)

pub returns-in-Err-serve-clause-refused : goal.returns-in-Err-serve-clause-refused
returns-in-Err-serve-clause-refused g c =
    let f = c.in-Err-serve.ensures.refused in
    rw c.from-in-Err-serve.ensures
    (halts-feed g.D.SectorDisk.medium g.D.SectorDisk.counts c.args.self.now c.serve.new.self c.args.conn c.args.piece.now
    c.args.moment.0 c.in-Err-serve.error (inr (record {
      there = sym c.focus.ensures.found ∙ c.if-not-focus.false;
      taken = f.taken;
      some = f.some;
      within = f.within;
      fed = f.fed;
      feeds = serves-fed g.D.SectorDisk.medium c.args.self.now c.advance.new.self f.fed c.args.conn (take f.taken c.args.piece.now) c.args.moment.0
          (rw c.focus.ensures.same at c.in_default.ensures.ok) f.serves;
      spends = spends-then (2 + f.taken) (rw c.focus.ensures.same at c.in_default.ensures.spends) f.spends (omega arith);
      fails = f.fails;
    })))

pub returns-in-Err-clause-refused : goal.returns-in-Err-clause-refused
returns-in-Err-clause-refused g c =
    rw c.from.ensures
    (halts-feed g.D.SectorDisk.medium g.D.SectorDisk.counts c.args.self.now c.advance.new.self c.args.conn c.args.piece.now
    c.args.moment.0 c.in-Err.error (inl (rw c.focus.ensures.same at c.in-Err.ensures.refused)))
