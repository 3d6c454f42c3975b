use Rattle.std.proofs.Common.{ap, ℕ, ◌++◌, ◌∙◌}
use Rattle.std.specs.List.{flat_map}
use Rattle.ipc_image.specs.Saved.{count_bytes}
use Rattle.ipc_image.specs.Window.{passed}
use Rattle.ipc_image.proofs.Windows.{passed-both}
use Rattle.ipc_image.proofs.saved.put_counted.Goals as goal

pub returns-clause-passed : goal.returns-clause-passed
returns-clause-passed g c =
    let t = g.L.Listed in
    let all = flat_map t.bytes (t.items c.args.items.now) in
    let w = c.args.window.now in
    c.put_list.ensures.passed ∙ ap (passed all) c.put_count.ensures ∙ passed-both w (count_bytes c.count.result) all
    ∙ ap (λ (n : ℕ). passed (count_bytes n ++ all) w) c.count.ensures
