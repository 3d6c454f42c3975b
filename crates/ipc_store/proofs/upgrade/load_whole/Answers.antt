-- The old objects are there, and stand for a state, if they are where version 1 has them.
use Rattle.std.proofs.Common.{◌≡◌, inl, inr, sym, ap, subst, ◌∙◌}
use Rattle.std.proofs.lemmas.Result.{IfErr-weaker}
use Rattle.ipc_base.specs.Objects.{PlainObjects}
use Rattle.ipc_checkpoint.specs.declared.layout.Layout.{Layout}
use Rattle.ipc_checkpoint.specs.Checkpoint.{Holds}
use Rattle.ipc_checkpoint.proofs.CallerLemmas.{Holds-one}
use Rattle.ipc_disk.specs.Medium.{Image}
use Rattle.ipc_image.specs.Format.{format, format_one}
use Rattle.ipc_image.specs.Saved.{StandForStateIn}
use Rattle.ipc_store.specs.Image.{layout_in}
use Rattle.ipc_store.specs.Relations.Upgrade.{whole_layout}
use Rattle.ipc_store.proofs.Refusals.{damage-map}
use Rattle.ipc_store.proofs.upgrade.load_whole.Goals as goal

-- the old root's sector, and the rest as on a device of today
abbrev with_old_root : Layout → Layout
with_old_root layout = record { range = layout.range; root = format_one.root; area = layout.area }

pub returns-clause-refused : goal.returns-clause-refused
returns-clause-refused g c = IfErr-weaker c.load_objects.result _ _
    (λ error. damage-map _ _ error
    (λ sector damage honest epoch objects s there stand.
    let image : Image = (g.D.SectorDisk.medium c.args.disk.now).contents in
    let wide : Layout = whole_layout c.args.limits.now (g.D.SectorDisk.size c.args.disk.now) in
    let lies : with_old_root c.layout_in.result ≡ wide =
    ap with_old_root (c.layout_in.ensures.exact ∙ ap (layout_in format c.args.limits.now) c.sectors.ensures) in
    elim (damage honest) [
      | inl none ↦ none.none epoch objects (subst (λ (l : Layout). Holds l epoch objects image) (sym lies) there)
      | inr others ↦
          let one = Holds-one wide others.epoch epoch others.objects objects image
          (subst (λ (l : Layout). Holds l others.epoch others.objects image) lies others.there) there in
          others.none s (subst (λ (o : PlainObjects). StandForStateIn format_one c.args.own s o) (sym one.1) stand)
    ]))
    c.load_objects.ensures.refused
