use Rattle.std.proofs.Common.{◌<◌, ap, length, map, sym, ◌∙◌, arith}
use Rattle.std.specs.Prelude.{Some, option_map}
use Rattle.std.proofs.lemmas.List.{length-map}
use Rattle.ipc_image.proofs.Marks.{each-at, table-at}
use Rattle.ipc_image.proofs.saved.InSliceListed.len_at.Goals as goal

pub len-requires : goal.len-requires
len-requires g c =
    let t = g.T.Saved in
    let ys = c.args.self.now.0.now in
    let within : c.args.at < length ys = omega (arith, c.requires.there, length-map ys t.plain) in
    each-at t.Fits (map t.plain ys) c.args.at _ c.requires.fit (table-at t.plain ys c.args.at c.index-self-at.result within)

pub returns : goal.returns
returns g c =
    let t = g.T.Saved in
    let ys = c.args.self.now.0.now in
    let within : c.args.at < length ys = omega (arith, c.requires.there, length-map ys t.plain) in
    ap (option_map _) (table-at t.plain ys c.args.at c.index-self-at.result within) ∙ ap Some (sym c.len.ensures)
