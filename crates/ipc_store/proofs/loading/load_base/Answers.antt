-- What the objects are to the image.
use Rattle.std.proofs.Common.{◌≡◌, inl, inr, sym, ap, subst, ◌∙◌}
use Rattle.std.proofs.lemmas.Result.{IfErr-weaker, IfOk-weaker}
use Rattle.ipc_base.specs.Objects.{PlainObjects}
use Rattle.ipc_checkpoint.specs.declared.layout.Layout.{Layout}
use Rattle.ipc_checkpoint.specs.Checkpoint.{IsFirstDamage, IsLaidOut, Holds}
use Rattle.ipc_checkpoint.specs.View.{epoch_of as saved_epoch}
use Rattle.ipc_checkpoint.proofs.CallerLemmas.{Holds-one}
use Rattle.ipc_disk.specs.Medium.{Image}
use Rattle.ipc_image.specs.Saved.{StandForStateIn}
use Rattle.ipc_store.specs.Image.{layout_in, named_sectors, IsFirstFaultIn}
use Rattle.ipc_store.proofs.Formatting.{laid-out}
use Rattle.ipc_store.proofs.Refusals.{damage-map}
use Rattle.ipc_store.proofs.loading.load_base.Goals as goal

pub load_objects-requires-clause-laid_out : goal.load_objects-requires-clause-laid_out
load_objects-requires-clause-laid_out g c =
    subst (λ (l : Layout). IsLaidOut l (g.D.SectorDisk.size c.args.disk.now)) (sym c.layout_in-layout.ensures.exact)
    (laid-out c.args.form c.requires.known c.args.superblock.limits c.args.superblock.sectors (g.D.SectorDisk.size c.args.disk.now)
    c.requires.of c.requires.room c.requires.there)

pub returns-clause-refused : goal.returns-clause-refused
returns-clause-refused g c = IfErr-weaker c.load_objects.result _ _
    (λ error. damage-map _ _ error
    (λ sector damage honest device named.
    let form = c.args.form in
    let limits = c.args.superblock.limits in
    let image : Image = (g.D.SectorDisk.medium c.args.disk.now).contents in
    let here : c.layout_in-layout.result ≡ layout_in form limits (named_sectors image) =
    c.layout_in-layout.ensures.exact ∙ ap (layout_in form limits) named in
    elim (damage honest) [
      | inl none ↦ record {
        none = λ epoch base has. none.none epoch has.objects (subst (λ (l : Layout). Holds l epoch has.objects image) (sym here) has.there);
        first = IsFirstFaultIn.Objects limits sector device (subst (λ (l : Layout). IsFirstDamage l image sector) here none.first);
      }
      | inr others ↦ record {
        none = λ epoch base has.
            let one = Holds-one (layout_in form limits (named_sectors image)) others.epoch epoch others.objects has.objects image
            (subst (λ (l : Layout). Holds l others.epoch others.objects image) here others.there) has.there in
            others.none base (subst (λ (o : PlainObjects). StandForStateIn form limits base o) (sym one.1) has.stand);
        first = subst (IsFirstFaultIn form image) (sym others.at)
            (IsFirstFaultIn.NoState limits others.epoch others.objects device
            (subst (λ (l : Layout). Holds l others.epoch others.objects image) here others.there) others.none);
      }
    ]))
    c.load_objects.ensures.refused

pub returns-clause-there : goal.returns-clause-there
returns-clause-there g c =
    IfOk-weaker c.load_objects.result _ _
    (λ found there honest device named.
    let form = c.args.form in
    let limits = c.args.superblock.limits in
    let image : Image = (g.D.SectorDisk.medium c.args.disk.now).contents in
    record {
      device = device;
      objects = there.0;
      there = subst (λ (l : Layout). Holds l (saved_epoch found.0) there.0 image)
          (c.layout_in-layout.ensures.exact ∙ ap (layout_in form limits) named) (there.2 honest);
      stand = there.1;
    })
    c.load_objects.ensures.there

pub returns-clause-base : goal.returns-clause-base
returns-clause-base g c =
    IfOk-weaker c.load_objects.result _ _
    (λ found base. (base.0, base.1, base.2 ∙ ap (λ (l : Layout). l.range.count) c.layout_in-layout.ensures.exact, base.3))
    c.load_objects.ensures.base
