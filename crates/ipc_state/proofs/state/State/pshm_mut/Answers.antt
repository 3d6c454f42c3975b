use Rattle.std.proofs.Common.{◌∙◌, refl, ap}
use Rattle.std.specs.Prelude.{is_some, option_map}
use Rattle.shm_segment.specs.Segment.{Segment}
use Rattle.ipc_state.specs.contracts.state.State.{the_view}
use Rattle.ipc_state.specs.Named.{NamedEntry}
use Rattle.ipc_state.specs.Held.{Held}
use Rattle.ipc_state.specs.Numbered.{entry_of}
use Rattle.ipc_state.specs.State.{with_pshm}
use Rattle.ipc_state.specs.Tables.{HeldObjects}
use Rattle.ipc_state.proofs.Lent.{put-back}
use Rattle.ipc_state.proofs.state.State.pshm_mut.Goals as goal

pub returns : goal.returns
returns c =
    let n = c.args.number in
    let viewed : HeldObjects _ Segment → Held = λ (p : HeldObjects _ Segment). the_view (record c.self.inside { pshm = p }) in (
      (
        refl,
        λ x there. let some = ap (λ (m : Held). is_some (entry_of m.state.pshm n)) c.self.view_is ∙ there in
            ap viewed (put-back c.self.inside.pshm n x (c.get_mut.follows.lender x) (c.get_mut.follows.holds x) some)
            ∙ ap (λ (m : Held). let h : Held = record m { state = with_pshm m.state n x } in h) c.self.view_is,
        ap viewed c.get_mut.follows.holds-at-none ∙ c.self.view_is,
      ),
      record {
        writes_back = tt;
        object = c.get_mut.ensures.object
            ∙ ap (λ (m : Held). option_map (λ (e : NamedEntry Segment). e.object) (entry_of m.state.pshm n)) c.self.view_is;
      },
    )
