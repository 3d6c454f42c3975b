use Rattle.std.proofs.Common.{◌≡◌, ℕ, List, ◌+◌, ◌-◌, ◌≤◌, ◌++◌, take, drop, length, sym, ap, ◌∙◌, arith}
use Rattle.std.proofs.lemmas.List.{take-take, length-take-le, length-drop, drop-append-le}
use Rattle.ipc_wire.specs.Reply.{plain_reply, reply_bytes}
use Rattle.ipc_hub.specs.View.{Outgoing}
use Rattle.ipc_hub.proofs.Buffers.{front-grown, front-stays, written, same-outgoing}
use Rattle.ipc_hub.proofs.outbox.Outbox.push.Goals as goal

pub returns : goal.returns
returns c =
    let was = c.self.inside.buffer in
    let xs = c.deref_mut.result.now in
    let end = c.self.inside.end in
    let released = c.self.inside.released in
    let bytes = reply_bytes (plain_reply c.args.reply.now) in
    -- what stood there still does
    let front : (n : ℕ) → n ≤ was.len → take n xs ≡ take n was.items =
    λ n le. ap (take n) c.deref_mut.ensures.value ∙ sym (take-take n was.len c.lengthen.new.buffer.items le) ∙ ap (take n) c.lengthen.ensures.front in
    let long : end ≤ length xs = omega (arith, c.self.invariant.1, c.lengthen.ensures.grown, c.deref_mut.ensures.len) in
    let free : List ℕ = take (length xs - end) (drop end xs) in
    let fit : length bytes ≤ length xs - end = omega (arith, c.lengthen.ensures.long, c.reply_len.ensures, c.deref_mut.ensures.len) in
    let there : length bytes ≤ length free = omega (arith, fit, length-take-le (length xs - end) (drop end xs) (omega (arith, length-drop end xs))) in
    let done = c.write_reply.ensures.fits.1 (there, c.requires.length) in
    let items = written c.lengthen.new.buffer xs c.write_reply.new.out bytes end c.deref_mut.ensures.value long fit
    (rw done at c.write_reply.ensures.written) in
    let rest : List ℕ = drop (length bytes) free in
    let after : List ℕ = drop (length xs - end) (drop end xs) in
    same-outgoing _ _
    (ap (take released) items ∙ front-stays xs ((bytes ++ rest) ++ after) released end c.self.invariant.0 long
    ∙ front released (omega (arith, c.self.invariant.0, c.self.invariant.1)) ∙ ap (λ (o : Outgoing). o.visible) c.self.view_is)
    (ap (λ (ws : List ℕ). drop released (take (end + c.reply_len.result) ws)) items
    ∙ ap (λ (n : ℕ). drop released (take (end + n) (take end xs ++ ((bytes ++ rest) ++ after)))) c.reply_len.ensures
    ∙ ap (drop released) (front-grown xs bytes rest after end long)
    ∙ drop-append-le released (take end xs) bytes (omega (arith, c.self.invariant.0, length-take-le end xs long))
    ∙ ap (λ (ws : List ℕ). drop released ws ++ bytes) (front end c.self.invariant.1)
    ∙ ap (λ (o : Outgoing). o.waiting ++ bytes) c.self.view_is)
    (omega (arith, c.reply_len.ensures, ap (λ (o : Outgoing). o.free) c.self.view_is))
