use Rattle.std.proofs.Common.{Err, ◌≡◌, ◌<◌, ◌^◌, ◌∙◌, ℕ, Bool, true, false, if◌then◌else◌, [], refl, ap, subst, length, arith}
use Rattle.ipc_limits.specs.declared.limits.Limits.{Limits}
use Rattle.ipc_limits.specs.Limits.{has_rules_of_three}
use Rattle.ipc_disk.specs.declared.memory.MemoryDisk.{MemoryDisk}
use Rattle.ipc_disk.specs.Medium.{Medium, IsHonest, Image}
use Rattle.std.proofs.lemmas.List.{length-map}
use Rattle.std.proofs.lemmas.Result.{IfErr-weaker, IfOk-weaker, err_from_is_err_and}
use Rattle.ipc_disk.specs.Memory.{memory_medium, memory_size}
use Rattle.ipc_disk.specs.declared.memory.Slot.{Slot}
use Rattle.ipc_state.specs.State.{start, restart}
use Rattle.ipc_store.specs.Histories.{OpensOn, new_past}
use Rattle.ipc_image.specs.declared.format.Format.{Format}
use Rattle.ipc_image.specs.Format.{device_form}
use Rattle.ipc_image.specs.Sizes.{need_in}
use Rattle.ipc_image.specs.Superblock.{AreOf}
use Rattle.ipc_store.specs.Image.{own_limits, StandsFor}
use Rattle.ipc_store.specs.View.{StoreView}
use Rattle.ipc_store.proofs.CallerLemmas.{StandsFor-one, own-limits-same}
use Rattle.ipc_store.specs.declared.fault.OpenError.TheVariants as opening
use Rattle.ipcd.proofs.Formatting.{refused}
use Rattle.ipcd.proofs.device.new_store.Goals as goal

-- a restart leaves the first state: also of version 3 the next process is the first
restart-start : (limits : Limits) → restart limits start ≡ start
restart-start limits = ap (λ (n : ℕ). record start { processes = record { next = n; entries = [] } }) (first (has_rules_of_three limits))
  where
    first : (b : Bool) → ◌≡◌ {A = ℕ} (if b then 1 else 1) 1
    first true = refl
    first false = refl

-- what an open gives of a disk that stands for the first state
module _ {D : Type 0} (limits : Limits) (image : Image) (medium : Medium) (store : StoreView D) (fits : length image < 2 ^ 32)
    (of : AreOf (device_form limits) limits) (stands : StandsFor (own_limits limits) start image) (opens : OpensOn image medium store) where
  same : (store.machine.limits ≡ limits) × (opens.found.0 ≡ start)
  same =
      let one = StandsFor-one store.machine.limits (own_limits limits) opens.found.0 start image fits opens.found.1 stands in
      (one.0 ∙ own-limits-same limits of, one.1)

  state : store.machine.state ≡ start
  state = opens.found.2.waits.state ∙ ap (restart store.machine.limits) same.1 ∙ restart-start store.machine.limits

-- what a new device in memory stands for, and how many sectors it has
contents-fit : (disk : MemoryDisk) (sectors : ℕ) → sectors < 2 ^ 32 → memory_size disk ≡ sectors → length (memory_medium disk).contents < 2 ^ 32
contents-fit disk sectors few size = omega (arith, few, size, length-map disk.slots.items (λ (slot : Slot). slot.last))

pub returns-clause-limits : goal.returns-clause-limits
returns-clause-limits c =
    let disk = c.format.new.disk in
    let honest : IsHonest (memory_medium disk) = c.format.ensures.same.honest.0 c.in-Ok.ensures.honest in
    let image = (memory_medium disk).contents in
    let few = contents-fit disk c.need.result (omega (arith, c.need.ensures.bounded)) (c.format.ensures.same.sectors ∙ c.in-Ok.ensures.size) in
    IfOk-weaker c.open_store.result _ _
    (λ store opens. (same c.args.limits.now image _ store few c.requires (c.in_ok-format.ensures.ok c.in-Ok.ensures.honest image honest.reads)
    (opens honest)).0) c.open_store.ensures.ok

pub returns-clause-state : goal.returns-clause-state
returns-clause-state c =
    let disk = c.format.new.disk in
    let honest : IsHonest (memory_medium disk) = c.format.ensures.same.honest.0 c.in-Ok.ensures.honest in
    let image = (memory_medium disk).contents in
    let few = contents-fit disk c.need.result (omega (arith, c.need.ensures.bounded)) (c.format.ensures.same.sectors ∙ c.in-Ok.ensures.size) in
    IfOk-weaker c.open_store.result _ _
    (λ store opens. state c.args.limits.now image _ store few c.requires (c.in_ok-format.ensures.ok c.in-Ok.ensures.honest image honest.reads)
    (opens honest)) c.open_store.ensures.ok

pub returns-in_err-format-clause-named : goal.returns-in_err-format-clause-named
returns-in_err-format-clause-named c =
    let q = err_from_is_err_and c.from_residual.result c.from_residual.ensures.1 in
    let limits : Limits = c.args.limits.now in
    let size = c.in-Ok.ensures.size ∙ c.need.ensures.exact ∙ ap (λ (f : Format). need_in f limits) c.of.ensures.is in
    rw (q.1, q.2) (
      opening.Device,
      refused c.in_err-format.field-0.0 _ _ (λ need is. (c.in_err-format.ensures.small need).0 (ap (λ e. Err e) is)) (omega (arith, size)),
    )

pub returns-clause-history : goal.returns-clause-history
returns-clause-history c =
    let disk = c.format.new.disk in
    let honest : IsHonest (memory_medium disk) = c.format.ensures.same.honest.0 c.in-Ok.ensures.honest in
    IfOk-weaker c.open_store.result _ _
    (λ store keeps. keeps (new_past c.args.limits.now) (record {
      honest = honest;
      stands = subst (λ (l : Limits). (image : Image) → (memory_medium disk).images_now image → StandsFor l start image)
          (own-limits-same c.args.limits.now c.requires) (c.in_ok-format.ensures.ok c.in-Ok.ensures.honest);
    }))
    c.open_store.ensures.history

pub returns-clause-named : goal.returns-clause-named
returns-clause-named c = IfErr-weaker c.open_store.result _ _ (λ fault it. (it.0, it.1)) c.open_store.ensures.refused
