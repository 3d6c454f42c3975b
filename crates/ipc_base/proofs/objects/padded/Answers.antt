-- What is left of the zeros.
use Rattle.std.proofs.Common.{ℕ, List, ◌++◌, drop, length, replicate, ap, ◌∙◌}
use Rattle.std.proofs.lemmas.List.{drop-replicate}
use Rattle.ipc_base.proofs.objects.padded.Goals as goal

pub returns : goal.returns
returns c =
    ap (λ (l : List ℕ). l ++ drop (length c.args.bytes.now) (replicate 512 0)) c.copy_from_slice.ensures.after
    ∙ ap (λ (l : List ℕ). c.args.bytes.now ++ l) (drop-replicate (length c.args.bytes.now) 512 0)
