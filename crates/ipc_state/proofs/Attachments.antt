-- An object is open no more often than the processes may have descriptors together.
use Rattle.std.proofs.Common.{ℕ, ◌+◌, ◌^◌, ◌<◌, ◌≤◌, List, [], ◌∷◌, length, arith}
use Rattle.std.specs.Prelude.{All, count_by}
use Rattle.std.proofs.lemmas.List.{length-map}
use Rattle.std.proofs.lemmas.List.Elements.{All-weaker}
use Rattle.std.proofs.lemmas.List.Sums.{count_by-le-length, sum_by-le}
use Rattle.ipc_limits.specs.declared.limits.Limits.{Limits}
use Rattle.ipc_limits.specs.Limits.{ArePassed}
use Rattle.ipc_base.specs.Table.{IsRising, keys_of}
use Rattle.ipc_limits.proofs.CallerLemmas.{passed-bounds}
use Rattle.ipc_state.specs.declared.descriptors.Descriptor.{Descriptor}
use Rattle.ipc_state.specs.declared.parked.Object.{Object}
use Rattle.ipc_state.specs.declared.processes.Process.{Process}
use Rattle.ipc_state.specs.Opening.{is_on, open_count}
use Rattle.ipc_state.specs.Sound.{AreSoundDescriptors, HasSoundParts}
use Rattle.ipc_state.specs.State.{State, objects_in}

-- numbers that rise are no more than there is room for
rising-length : (low : ℕ) (ns : List ℕ) (high : ℕ) → IsRising low ns high → length ns + low ≤ high
rising-length low [] high h = omega (arith, h)
rising-length low (n ∷ ns) high h = let rest = rising-length (n + 1) ns high h.1 in omega (arith, h.0, rest)

pub few-open : (limits : Limits) → ArePassed limits → (s : State) → HasSoundParts limits s → (this : Object)
    → open_count s.processes.entries this < 2 ^ 32
few-open limits passed s good this =
    let bounds = passed-bounds limits passed in
    let test : ℕ × Descriptor → _ = λ d. is_on this d.1.on in
    let each : All (λ (p : ℕ × Process). count_by test p.1.descriptors ≤ 32) s.processes.entries =
    All-weaker (λ (p : ℕ × Process). AreSoundDescriptors limits (objects_in s) p.1.descriptors) (λ (p : ℕ × Process). count_by test p.1.descriptors ≤ 32)
    (λ p sound. omega (
      arith,
      count_by-le-length test p.1.descriptors,
      length-map p.1.descriptors (λ (d : ℕ × Descriptor). d.0),
      rising-length 0 (keys_of p.1.descriptors) limits.descriptors sound.numbers,
      bounds.descriptors,
    )) s.processes.entries good.processes.descriptors in
    omega (arith, sum_by-le (λ (p : ℕ × Process). count_by test p.1.descriptors) 32 s.processes.entries each, good.processes.numbered.count, bounds.processes.1)
