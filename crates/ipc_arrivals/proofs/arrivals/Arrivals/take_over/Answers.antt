use Rattle.std.proofs.Common.{◌≡◌, ◌≢◌, ◌==◌, ap, length, sym, ◌∙◌, arith}
use Rattle.std.proofs.lemmas.List.{length-append}
use Rattle.ipc_arrivals.proofs.arrivals.Arrivals.take_over.Goals as goal

pub push-requires : goal.push-requires
push-requires g c =
    let i = c.loop-self.invariant in
    let l = c.loop-self in
    let is : c.is_empty.result ≡ (length l.other.items == 0) = c.is_empty.ensures in
    let some : length l.other.items ≢ 0 = λ none. let e = sym is ∙ c.loop-self-test.true in cc in
    omega (
      arith,
      c.requires,
      i.1,
      ap length i.0,
      length-append l.self.items l.other.items,
      length-append c.args.self.now.items c.args.other.now.items,
      some,
    )
