-- The last number decides.
use Rattle.std.proofs.Common.{◌≡◌, ◌^◌, ◌-◌, List, Some, length, map, nat_lt, slice_get, subst, sym, arith}
use Rattle.std.specs.Prelude.{IsTrue}
use Rattle.ipc_base.specs.declared.objects.Object.{Object}
use Rattle.ipc_base.specs.Objects.{PlainObjects}
use Rattle.ipc_base.specs.ObjectRows.{object_row}
use Rattle.ipc_base.specs.Table.{keys_of, IsRising}
use Rattle.ipc_base.proofs.Rising.{last_below, below_last}
use Rattle.ipc_base.proofs.objects.ObjectMap.is_next.Goals as goal

pub returns-in-Some : goal.returns-in-Some
returns-in-Some c =
    let os : List Object = c.self.inside.objects.items in
    let last = c.in-Some.object.now in
    let n = c.args.number in
    let found : Some last ≡ slice_get os (length os - 1) =
    rw c.deref.ensures.value at c.in-Some.ensures.value in
    let same : c.args.self.now ≡ map object_row os = sym c.self.view_is in (
      λ yes. subst (λ (m : PlainObjects). IsRising 0 (keys_of m) n) (sym same)
          (last_below object_row os last n (2 ^ 64) found c.self.invariant.numbers (let lt : IsTrue (nat_lt last.number n) = yes in search (arith, lt))),
      λ rising. let lt = below_last object_row os last n found (subst (λ (m : PlainObjects). IsRising 0 (keys_of m) n) same rising) in
          search (arith, lt),
    )
