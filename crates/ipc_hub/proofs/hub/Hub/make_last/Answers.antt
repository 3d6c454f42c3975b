use Rattle.std.proofs.Common.{◌≡◌, inl, inr, ⊎_elim, ap, subst}
use Rattle.ipc_store.proofs.CallerLemmas.{left-goes-on}
use Rattle.ipc_hub.specs.Relations.Rows.{Table}
use Rattle.ipc_hub.proofs.Committing.{Told, Wrote, told-lasts, told-settles, told-spare, told-stands}
use Rattle.ipc_hub.proofs.hub.Hub.make_last.Given.{Over}
use Rattle.ipc_hub.proofs.hub.Hub.make_last.Goals.{Joined-whole, then-whole, else-whole}
use Rattle.ipc_hub.proofs.hub.Hub.make_last.Goals as goal

-- a save and a commit come to the same
wrote : (g : Over) (c : Joined-whole g) → Wrote g.D.SectorDisk.medium g.D.SectorDisk.counts c.self.inside.store c.if-whole.self-inside.store c.if-whole.done
wrote g c =
    elim c.if-whole.branch [
      | then-whole w ↦
          let s = w.save-done.ensures in
          rw (w.done-is, w.self-inside-is) (record {
            commits = s.commits;
            takes = s.takes;
            device = s.faults.failure;
            halted = s.stopped.0;
            spends = s.spends;
            honest = s.same.honest.0;
          })
      | else-whole w ↦
          let s = w.commit-done.ensures in
          rw (w.done-is, w.self-inside-is) (record {
            commits = s.commits;
            takes = s.takes;
            device = s.faults.failure;
            halted = λ is. ⊎_elim inl (λ end. inr end.0) (s.stopped.0 is);
            spends = s.spends;
            honest = s.same.honest.0;
          })
    ]

-- and neither changes a connection
same : (g : Over) (c : Joined-whole g) → c.if-whole.self-inside.connections ≡ c.self.inside.connections
same g c = elim c.if-whole.branch [ then-whole w ↦ ap (λ h. h.connections) w.self-inside-is | else-whole w ↦ ap (λ h. h.connections) w.self-inside-is ]

told : (g : Over) (c : Joined-whole g) (after : Table) → Told c.if-whole.self-inside.connections after c.if-whole.done
    → Told c.self.inside.connections after c.if-whole.done
told g c after is = subst (λ (cs : Table). Told cs after c.if-whole.done) (same g c) is

pub after_commit-requires : goal.after_commit-requires
after_commit-requires g c =
    rw (same g (goal.at.after_commit-requires g c).Joined-whole)
    (told-spare c.args.self.now c.self.view_is (left-goes-on c.args.self.now.store c.requires) c.self.invariant)

pub invariant_of-self : goal.invariant_of-self
invariant_of-self g c =
    let here = (goal.at.invariant_of-self g c).Joined-whole in
    told-stands c.args.self.now c.self.view_is (left-goes-on c.args.self.now.store c.requires) c.self.invariant c.if-whole.done (wrote g here)
    (told g here _ (c.after_commit.ensures.ok, c.after_commit.ensures.err))

pub returns-clause-settles : goal.returns-clause-settles
returns-clause-settles g c =
    let here = (goal.at.returns-clause-settles g c).Joined-whole in
    told-settles c.args.self.now c.self.view_is (left-goes-on c.args.self.now.store c.requires) c.self.invariant c.if-whole.done (wrote g here)
    (told g here _ (c.after_commit.ensures.ok, c.after_commit.ensures.err))

pub returns-clause-lasts : goal.returns-clause-lasts
returns-clause-lasts g c =
    let here = (goal.at.returns-clause-lasts g c).Joined-whole in
    told-lasts c.args.self.now c.self.view_is (left-goes-on c.args.self.now.store c.requires) _ _ c.if-whole.done (wrote g here)
    (told g here _ (c.after_commit.ensures.ok, c.after_commit.ensures.err))
