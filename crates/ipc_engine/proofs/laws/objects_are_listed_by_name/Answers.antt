use Rattle.std.proofs.Common.{ℕ}
use Rattle.std.specs.Cmp.{IsStrictWeakOrder}
use Rattle.std.proofs.lemmas.Cmp.{nat_list_cmp_total}
use Rattle.std.proofs.lemmas.List.Sorted.{ranks_by}
use Rattle.ipc_keys.specs.declared.check.NameKind.{NameKind}
use Rattle.ipc_state.specs.declared.parked.ObjectKind.TheVariants as kinds
use Rattle.ipc_state.specs.Kinds.{Content}
use Rattle.ipc_state.specs.Named.{NamedEntry}
use Rattle.ipc_engine.specs.Listing.{is_named_before}
use Rattle.ipc_engine.proofs.Sorting.{in_order-sorts, in_order-permutes, ties-in_order}
use Rattle.ipc_engine.proofs.laws.objects_are_listed_by_name.Goals as goal

by_bytes : (kind : NameKind) → IsStrictWeakOrder (is_named_before {X = Content (kinds.Named kind)})
by_bytes kind = ranks_by nat_list_cmp_total (λ (e : ℕ × NamedEntry (Content (kinds.Named kind))). e.1.bound)

pub returns-clause-sorted : goal.returns-clause-sorted
returns-clause-sorted c kind entries = in_order-sorts is_named_before (by_bytes kind) entries

pub returns-clause-stable : goal.returns-clause-stable
returns-clause-stable c kind entries x = ties-in_order is_named_before (by_bytes kind) x entries

pub returns-clause-all : goal.returns-clause-all
returns-clause-all c kind entries = in_order-permutes is_named_before entries
