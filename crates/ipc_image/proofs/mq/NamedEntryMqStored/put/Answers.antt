use Rattle.std.proofs.Common.{ℕ, List, [], ◌∷◌, ◌++◌, get_or, length, sym, ap, ◌∙◌}
use Rattle.std.specs.List.{flat_map}
use Rattle.ipc_base.specs.Numbers.{fields_bytes}
use Rattle.posix_mq.specs.Queue.{attr_of}
use Rattle.posix_mq.specs.declared.queue.MqAttr.{MqAttr}
use Rattle.ipc_image.specs.Saved.{registration_numbers, mq_sizes, mq_message_bytes}
use Rattle.ipc_image.specs.Window.{passed}
use Rattle.ipc_image.proofs.MqObjects.{numbers-spelled}
use Rattle.ipc_image.proofs.Windows.{passed-both}
use Rattle.ipc_image.proofs.mq.NamedEntryMqStored.put.Goals as goal

pub returns-clause-passed : goal.returns-clause-passed
returns-clause-passed c =
    let e = c.args.self.now in
    let w = c.args.window.now in
    let texts : List ℕ = flat_map mq_message_bytes e.object.messages in
    let head : MqAttr → List ℕ → List ℕ = λ a l. e.perm.uid ∷ e.perm.gid ∷ e.perm.mode ∷ a.maxmsg ∷ a.msgsize ∷ l in
    let front : MqAttr → List ℕ → List ℕ → List ℕ =
    λ a r name. fields_bytes mq_sizes (head a (get_or r 0 0 ∷ get_or r 1 0 ∷ get_or r 2 0 ∷ get_or r 3 0 ∷ a.curmsgs ∷ length name ∷ [])) ++ name in
    let known = numbers-spelled e.object.registration (length e.object.messages) (length e.bound) in
    c.put_list.ensures.passed ∙ ap (passed texts) c.put_row.ensures
    ∙ passed-both w (front c.attr-attr.result c.registration_numbers-registration.result c.bytes-name.result.now) texts
    ∙ ap (λ (a : MqAttr). passed (front a c.registration_numbers-registration.result c.bytes-name.result.now ++ texts) w) c.attr-attr.ensures.attr
    ∙ ap (λ (l : List ℕ). passed (front (attr_of e.object) l c.bytes-name.result.now ++ texts) w)
    (c.registration_numbers-registration.ensures ∙ ap registration_numbers c.registration.ensures)
    ∙ ap (λ (l : List ℕ). passed (front (attr_of e.object) (registration_numbers e.object.registration) l ++ texts) w) c.bytes-name.ensures
    ∙ ap (λ (l : List ℕ). passed ((fields_bytes mq_sizes (head (attr_of e.object) l) ++ e.bound) ++ texts) w) (sym known)
