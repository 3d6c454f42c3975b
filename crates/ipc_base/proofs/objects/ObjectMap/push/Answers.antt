-- The objects that there were, and one more.
use Rattle.std.proofs.Common.{◌≡◌, ℕ, List, [], ◌∷◌, ◌++◌, map, length, subst, sym, ap, ◌∙◌, arith}
use Rattle.std.proofs.lemmas.List.{map-append}
use Rattle.ipc_base.specs.declared.objects.Object.{Object}
use Rattle.ipc_base.specs.Objects.{PlainObjects, AreObjects}
use Rattle.ipc_base.specs.ObjectRows.{object_row}
use Rattle.ipc_base.specs.Table.{keys_of, IsRising}
use Rattle.ipc_base.proofs.ObjectLists.{AreObjects-push}
use Rattle.ipc_base.proofs.objects.ObjectMap.push.Goals as goal

pub invariant_of-self-2 : goal.invariant_of-self-2
invariant_of-self-2 c =
    let os : List Object = c.self.inside.objects.items in
    let one : Object = record { number = c.args.number; bytes = c.extend_from_slice.new.self } in
    let same : c.args.self.now ≡ map object_row os = sym c.self.view_is in
    let bytes : List ℕ = c.extend_from_slice.new.self.items in
    let is : bytes ≡ c.args.bytes.now =
    c.in_ok-extend_from_slice.ensures.items ∙ ap (λ (l : List ℕ). l ++ c.args.bytes.now) c.in_ok-own.ensures.items in
    subst AreObjects (sym (ap (map object_row) c.in_ok-push.ensures.items ∙ map-append object_row os (one ∷ [])))
    (AreObjects-push (map object_row os) c.args.number bytes c.self.invariant
    (subst (λ (m : PlainObjects). IsRising 0 (keys_of m) c.args.number) same c.requires.next)
    (omega (arith, c.ranges.number.fits))
    (omega (arith, c.requires.some, ap length is))
    (omega (arith, c.extend_from_slice.new.self.small))
    (omega (arith, c.requires.count, ap length same)))
