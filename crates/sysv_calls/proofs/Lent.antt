-- What is left of a state of which an object was lent, and what was reserved in it.
use Rattle.std.proofs.Common.{◌≡◌, ◌∙◌, ℕ, ℤ, pos, List, Some, length, sym, ap}
use Rattle.std.proofs.lemmas.List.{length-replicate}
use Rattle.ipc_base.proofs.CallerLemmas.{at-with, twice}
use Rattle.ipc_perm.specs.declared.perm.Perm.{Perm}
use Rattle.ipc_state.specs.Held.{Held, Ready, zero_bytes}
use Rattle.ipc_state.specs.Held.Ready.{MsgQueue, Semset, Shm}
use Rattle.ipc_state.specs.Bound.{holding, permitting}
use Rattle.ipc_state.specs.Keyed.{Keyed, KeyedEntry}
use Rattle.ipc_state.specs.Numbered.{entry_of, with_entry}
use Rattle.ipc_state.specs.State.{State}

-- an object that was given other permissions, and then lent
module _ {X : Type 0} (o : Keyed X) (id : ℕ) (e : KeyedEntry X) (perm : Perm) where
  pub permitted : entry_of o id ≡ Some e → entry_of (with_entry o id (permitting e perm)) id ≡ Some (permitting e perm)
  permitted there = at-with o.entries id (permitting e perm) e there

  pub permitted-put : (x : X) → with_entry (with_entry o id (permitting e perm)) id (holding (permitting e perm) x)
      ≡ with_entry o id (holding (permitting e perm) x)
  permitted-put x =
      ap (λ (es : List (ℕ × KeyedEntry X)). let t : Keyed X = record { next = o.next; entries = es } in t)
      (twice o.entries id (permitting e perm) (holding (permitting e perm) x))

-- ---- what stays

abbrev pub with_state : Held → State → Held
with_state h s = record h { state = s }

-- another state alone is told by itself
pub state-alone : (old new : Held) {s : State} → new ≡ with_state old s → new ≡ with_state old new.state
state-alone old new is = is ∙ sym (ap (λ (h : Held). with_state old h.state) is)

-- ---- what is reserved

-- the key of a queue, and the key and the number of semaphores of a set
abbrev pub queue_in : Ready → ℤ
queue_in (MsgQueue key) = key
queue_in _ = pos 0

abbrev pub set_in : Ready → ℤ × ℕ
set_in (Semset key nsems) = (key, nsems)
set_in _ = (pos 0, 0)

-- the key and the size of a segment
abbrev pub segment_in : Ready → ℤ × ℕ
segment_in (Shm key zeros) = (key, length zeros.bytes)
segment_in _ = (pos 0, 0)

pub segment-in : (r : Ready) (key : ℤ) (size : ℕ) → r ≡ Shm key (zero_bytes size) → segment_in r ≡ (key, size)
segment-in r key size is = ap segment_in is ∙ ap (λ (n : ℕ). let asked : ℤ × ℕ = (key, n) in asked) (length-replicate size 0)
