use Rattle.std.proofs.Common.{[], ap, sym, length, ◌∙◌, arith}
use Rattle.std.specs.Prelude.{Err}
use Rattle.std.specs.List.{flat_map}
use Rattle.std.proofs.lemmas.List.{append-nil}
use Rattle.ipc_base.proofs.CallerLemmas.{spelled-same}
use Rattle.ipc_image.specs.Shape.{bytes_in}
use Rattle.ipc_image.specs.Relations.Shapes.{plain_one}
use Rattle.ipc_image.proofs.saved.read_list.Goals as goal

pub returns-in_err-rest-clause-damaged : goal.returns-in_err-rest-clause-damaged
returns-in_err-rest-clause-damaged g c is xs long fit same =
    let t = g.T.Saved in
    let why = rw is at c.from_residual.ensures in
    c.in_err-rest.ensures.damaged (ap (λ e. Err e) (sym why.1)) xs [] long fit (same ∙ sym (append-nil (flat_map (bytes_in t.shape t.tree) xs)))

pub returns-then-not-is_empty-clause-damaged : goal.returns-then-not-is_empty-clause-damaged
returns-then-not-is_empty-clause-damaged g c is xs long fit same =
    let t = g.T.Saved in
    let ok = c.in_ok-rest.ensures.ok in
    let one = plain_one t.shape t.tree t.Fits g.met.T.Saved.known g.met.T.Saved.one in
    let none = (spelled-same (bytes_in t.shape t.tree) t.Fits one ok.0 xs c.in_ok-rest.rest.now [] ok.1 fit (ok.2 ∙ sym long)
    (sym ok.3 ∙ same ∙ sym (append-nil (flat_map (bytes_in t.shape t.tree) xs)))).1 in
    search (arith, c.if-not-is_empty.ensures, ap length none)
