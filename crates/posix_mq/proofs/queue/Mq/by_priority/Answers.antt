use Rattle.std.proofs.Common.{◌≡◌, ◌<◌, ◌^◌, ℕ, List, [], ◌∷◌, length, map, get_or, refl, ap, sym, ◌∙◌, subst, arith, Contains}
use Rattle.std.specs.List.Sorted.{IsPermutation}
use Rattle.std.proofs.Math.Facts.{Fits-of_lt}
use Rattle.std.proofs.lemmas.List.{get_or-map, length-map}
use Rattle.posix_mq.specs.Queue.{Queue, plain}
use Rattle.posix_mq.specs.declared.message.Message.{Message}
use Rattle.posix_mq.proofs.queue.Mq.by_priority.Goals as goal

priorities_of : (ms : List Message) → map (λ m. m.priority) (map plain ms) ≡ map (λ m. m.priority) ms
priorities_of [] = refl
priorities_of (m ∷ ms) = ap (λ ps. m.priority ∷ ps) (priorities_of ms)

in_range : (ms : List Message) (p : ℕ) → Contains (map (λ m. m.priority) ms) p → p < 2 ^ 32
in_range [] p there = absurd (omega (arith, there.1))
in_range (m ∷ ms) p there =
    let inside : there.0 < length (m ∷ ms) = omega (arith, there.1, length-map (m ∷ ms) (λ m. m.priority)) in
    let found : Message = get_or (m ∷ ms) there.0 m in
    let is : found.priority ≡ p = sym (get_or-map (λ m. m.priority) (m ∷ ms) there.0 m p inside) ∙ there.2 in
    omega (arith, is, found.ranged)

-- the priorities of plain messages are those of the messages
own : (ms : List Message) (q : Queue) (ps : List ℕ) → map plain ms ≡ q.messages → IsPermutation (map (λ m. m.priority) q.messages) ps
    → IsPermutation (map (λ m. m.priority) ms) ps
own ms q ps view same = subst (λ ns. IsPermutation ns ps) (ap (map (λ m. m.priority)) (sym view) ∙ priorities_of ms) same

pub returns-in_err-rank : goal.returns-in_err-rank
returns-in_err-rank c ps up same =
    let view = ap (λ (q : Queue). q.messages) c.self.view_is in
    c.from_residual.ensures ∙ sym c.in_err-rank.was ∙ c.rank_at.ensures.rank ps up (own c.self.inside.messages.items c.args.self.now ps view same)

pub overflow_cast-result : goal.overflow_cast-result
overflow_cast-result c = Fits-of_lt (in_range c.self.inside.messages.items c.in_ok-rank.rank c.in_ok-rank.ensures.found)

pub returns : goal.returns
returns c ps up same =
    let view = ap (λ (q : Queue). q.messages) c.self.view_is in
    sym c.in_ok-rank.was ∙ c.rank_at.ensures.rank ps up (own c.self.inside.messages.items c.args.self.now ps view same)
