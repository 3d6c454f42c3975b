use Rattle.std.proofs.Common.{inl, inr, refl}
use Rattle.ipc_image.proofs.superblock.fields_of.Goals as goal

pub returns : goal.returns
returns c = elim c.requires [
  | inl is ↦ rw (c.saturating_sub.ensures, c.objects-objects.ensures, is) refl
  | inr opened ↦ elim opened [
    | inl is ↦ rw (c.saturating_sub.ensures, c.objects-objects.ensures, is) refl
    | inr its ↦ rw (c.saturating_sub.ensures, c.objects-objects.ensures, its.2) refl
  ]
]
