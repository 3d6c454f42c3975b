-- That the objects of a sound state fit where they are kept, in each form that is opened.
use Rattle.std.proofs.Common.{◌≡◌, ◌∙◌, ℕ, ◌+◌, ◌*◌, ◌^◌, ◌≤◌, false, true, List, [], ◌∷◌, ◌++◌, length, map, Some, inl, refl, arith}
use Rattle.std.specs.Prelude.{All, sum_by}
use Rattle.std.specs.FinMap as fin
use Rattle.std.proofs.lemmas.List.Elements.{All-head, All-tail, All-weaker}
use Rattle.std.proofs.lemmas.List.Sums.{sum_by-append, sum_by-cons, sum_by_from}
use Rattle.std.proofs.lemmas.Nat.{mul-le}
use Rattle.std.proofs.Math.Nat.{mul_assoc}
use Rattle.ipc_limits.specs.declared.limits.Limits.{Limits}
use Rattle.ipc_limits.specs.Limits.{ArePassed, adjustment_limit, message_limit, queue_bytes_limit}
use Rattle.ipc_limits.proofs.CallerLemmas.{exceeds-not}
use Rattle.ipc_base.specs.Objects.{object_sectors, table_bytes, Fit}
use Rattle.ipc_base.specs.Table.{EachValue}
use Rattle.ipc_keys.specs.declared.check.NameKind.TheVariants as names
use Rattle.posix_mq.specs.Queue.{Queue as Mq}
use Rattle.sem_undo.specs.Undo.{Undo}
use Rattle.sysv_msg.specs.Queue.{Queue}
use Rattle.ipc_state.specs.Keyed.{KeyedEntry}
use Rattle.ipc_state.specs.Named.{NamedEntry}
use Rattle.ipc_state.specs.Sound.{AreFew, IsSoundMsgQueue}
use Rattle.ipc_state.specs.State.{State, bytes_of_mq, mq_bytes as count_of}
use Rattle.ipc_state.specs.Waiting.{IsSoundWaiting}
use Rattle.ipc_state.proofs.CallerLemmas.{few-adjustments}
use Rattle.ipc_engine.specs.Sound.{IsSound}
use Rattle.ipc_image.specs.declared.format.Format.{Format}
use Rattle.ipc_image.specs.Format.{IsOpened, format, format_one}
use Rattle.ipc_image.specs.Saved.{adjustments_bytes, adjustments_in, clock_bytes, mq_bytes, mq_object, processes_bytes, psem_bytes, psem_object}
use Rattle.ipc_image.specs.Saved.{pshm_object, queue_bytes, queue_object, saved, saved_in, set_bytes, set_object, shm_object, waiting_bytes, waits_bytes}
use Rattle.ipc_image.specs.Saved.{LaterObjects, later_in, later_objects}
use Rattle.ipc_image.specs.Sizes.{sectors, waiting_request, most_adjustments, process_sectors, queue_most, mq_sectors, shm_sectors, entries, area_in, area_of}
use Rattle.ipc_image.specs.Sizes.{object_sectors as most_object_sectors}
use Rattle.ipc_image.specs.Superblock.{AreOf}
use Rattle.ipc_image.proofs.Formats.{by-opened}
use Rattle.ipc_image.proofs.KindSizes.{kind-sectors}
use Rattle.ipc_image.proofs.LaterObjects.{from_psems, from_pshms}
use Rattle.ipc_image.proofs.LaterSizes.{of, HasName, each-held, later-few, most_mq, mqs-short, names-short, numbered, psem-long, pshm_size, segment-sectors}
use Rattle.ipc_image.proofs.LaterSizes.{segments-around, shm_size, shms-around, shms-numbered}
use Rattle.ipc_image.proofs.Marks.{length-most}
use Rattle.ipc_image.proofs.MqObjects.{mq-own}
use Rattle.ipc_image.proofs.SavedObjects.{adjustments-few, adjustments-long, clock-length, processes-short, queue-long, saved-count, sets-short}
use Rattle.ipc_image.proofs.SavedObjects.{things, waits-long}
use Rattle.ipc_image.proofs.WaitingCalls.{waiting-long}
use Rattle.ipc_image.proofs.WaitingSizes.{waits-bounded}

each-value-weaker : {X : Type 0} (P Q : X → Type 0) → ((x : X) → P x → Q x) → (es : List (ℕ × X)) → EachValue P es → EachValue Q es
each-value-weaker P Q from [] each = tt
each-value-weaker P Q from (e ∷ es) each = (from e.1 each.0, each-value-weaker P Q from es each.1)

-- the most sectors that all of them take
abbrev pub later_most : Format → Limits → ℕ
later_most form limits =
    mq_sectors form limits + limits.named_semaphores * sectors 271 + (2 * limits.segments + sectors limits.segment_bytes) + shm_sectors form limits

-- the sectors of POSIX queues: one for each that is not full of its bytes
abbrev mq_size : ℕ × NamedEntry Mq → ℕ
mq_size e = bytes_of_mq e.1.object.maxmsg e.1.object.msgsize

abbrev IsOwn : ℕ × NamedEntry Mq → Type 0
IsOwn e = length (mq_bytes e.1) ≤ 299 + mq_size e

mq-sectors : (es : List (ℕ × NamedEntry Mq)) → All IsOwn es → 512 * sum_by of (map mq_object es) ≤ sum_by mq_size es + 810 * length es
mq-sectors [] own = omega arith
mq-sectors (e ∷ es) own =
    omega (
      arith,
      All-head IsOwn e es own,
      mq-sectors es (All-tail IsOwn e es own),
      sum_by-cons of (mq_object e) (map mq_object es),
      sum_by-cons mq_size e es,
    )

module _ (limits : Limits) (s : State) (passed : ArePassed limits) (sound : IsSound limits s) where
  abbrev o : LaterObjects
  o = later_in s

  mqs-own : All IsOwn o.mq.entries
  mqs-own = each-held limits names.Mq s.processes.entries s.mq IsOwn (λ e good formed. mq-own limits e.0 e.1 good formed) (sound.parts.named names.Mq)

  -- version 3 has the bounds of its limits, if they are limits of this version
  module _ (form : Format) (opened : IsOpened form) (version : form.version ≡ 3 → limits.version ≡ 3) where
    mqs-sectors : sum_by of (map mq_object o.mq.entries) ≤ mq_sectors form limits
    mqs-sectors =
        by-opened (λ f. (f.version ≡ 3 → limits.version ≡ 3) → sum_by of (map mq_object o.mq.entries) ≤ mq_sectors f limits)
        (λ two. kind-sectors (3 * 2 ^ 32) limits.queues (most_mq limits) mq_bytes o.mq.entries (mqs-short limits s sound)
        (numbered limits s sound names.Mq).count)
        (λ j its three. let bytes = exceeds-not (count_of s.mq) limits.queue_bytes (queue_bytes_limit limits) (sound.parts.named names.Mq).together.bytes
        (rw (three refl) refl) in omega (arith, mq-sectors o.mq.entries mqs-own, bytes, (numbered limits s sound names.Mq).count)) form opened version

    shms-sectors : shm_sectors form limits ≡ 2 * limits.shmmni + sectors limits.shmall
    shms-sectors = by-opened (λ f. shm_sectors f limits ≡ 2 * limits.shmmni + sectors limits.shmall) refl (λ j its. refl) form opened

    pub later-sectors : sum_by of (later_objects o) ≤ later_most form limits
    later-sectors =
        let short : All (λ e. length (psem_bytes e.1) ≤ 271) o.psem.entries =
        All-weaker (HasName 251) (λ e. length (psem_bytes e.1) ≤ 271) (λ e less. omega (arith, less, psem-long e.1)) o.psem.entries
        (names-short limits s sound names.Psem) in
        let sems = kind-sectors (4 * 2 ^ 32) limits.named_semaphores 271 psem_bytes o.psem.entries short (numbered limits s sound names.Psem).count in
        omega (
          arith,
          mqs-sectors,
          shms-sectors,
          sems,
          segment-sectors pshm_size pshm_object o.pshm.entries (segments-around limits s sound),
          (sound.parts.named names.Pshm).together,
          (numbered limits s sound names.Pshm).count,
          segment-sectors shm_size shm_object o.shm.entries (shms-around o.shm.entries),
          sound.parts.shm.together,
          (shms-numbered limits s sound).count,
          sum_by-append of (map mq_object o.mq.entries) (from_psems o),
          sum_by-append of (map psem_object o.psem.entries) (from_pshms o),
          sum_by-append of (map pshm_object o.pshm.entries) (map shm_object o.shm.entries),
        )

    -- System V segments are of both
    shms-of-opened : entries form limits
        ≡ 4 + limits.msgmni + limits.semmni + limits.queues + limits.named_semaphores + limits.segments + limits.shmmni
    shms-of-opened = by-opened (λ f. entries f limits
        ≡ 4 + limits.msgmni + limits.semmni + limits.queues + limits.named_semaphores + limits.segments + limits.shmmni) refl (λ j its. refl) form opened

    queue-short : (e : ℕ × KeyedEntry Queue) → IsSoundMsgQueue limits e.1.object → length (queue_bytes form.marks e.1) ≤ queue_most form limits
    queue-short e good =
        by-opened (λ f. (f.version ≡ 3 → limits.version ≡ 3) → length (queue_bytes f.marks e.1) ≤ queue_most f limits)
        (λ two. omega (arith, queue-long false e.1, good.count, good.bytes))
        (λ j its three. omega (
          arith,
          queue-long true e.1,
          exceeds-not (length e.1.object.messages) limits.msgqlen (message_limit limits) good.limit
              (limit-of-three (three refl)),
          good.bytes,
        )) form opened version
      where
        limit-of-three : limits.version ≡ 3 → message_limit limits ≡ Some limits.msgqlen
        limit-of-three three = rw (three) refl

    queues-short : All (λ e. length (queue_bytes form.marks e.1) ≤ queue_most form limits) s.msg.entries
    queues-short =
        All-weaker (λ (e : ℕ × KeyedEntry Queue). IsSoundMsgQueue limits e.1.object) (λ e. length (queue_bytes form.marks e.1) ≤ queue_most form limits)
        queue-short s.msg.entries sound.parts.msg.held.bound.each

    waits-short : length (waits_bytes s.wait) ≤ 4 + limits.processes * (16 + waiting_request form limits)
    waits-short =
        let most : ℕ = 16 + waiting_request form limits in
        let each : All (λ w. length (waiting_bytes w) ≤ most) s.wait =
        by-opened (λ f. All (λ w. length (waiting_bytes w) ≤ 16 + waiting_request f limits) s.wait)
        (All-weaker IsSoundWaiting (λ w. length (waiting_bytes w) ≤ 16 + format.request) (λ w good. waiting-long w good.frame) s.wait
        sound.parts.wait.each)
        (λ journal its. waits-bounded limits s journal sound) form opened in
        omega (
          arith,
          waits-long s.wait,
          length-most waiting_bytes most s.wait each,
          mul-le (length s.wait) most limits.processes most sound.parts.wait.few (omega arith),
        )

    -- each process has no more adjustments than there may be semaphores, or than their limit
    undo-few : length (adjustments_in s.undo) ≤ limits.processes * most_adjustments form limits
    undo-few =
        by-opened (λ f. (f.version ≡ 3 → limits.version ≡ 3) → length (adjustments_in s.undo) ≤ limits.processes * most_adjustments f limits)
        (λ two. adjustments-few limits s passed sound limits.semmns (few-adjustments limits s sound.parts))
        (λ j its three. adjustments-few limits s passed sound limits.semume (each-value-weaker (AreFew limits) (λ (undo : Undo). fin.len undo ≤ limits.semume)
        (λ undo few. exceeds-not (fin.len undo) limits.semume (adjustment_limit limits) few (rw (three refl) refl)) s.undo sound.parts.undo.few))
        form opened version

    object-sectors-fit : object_sectors (saved_in form s) ≤ process_sectors form limits + most_object_sectors form limits
    unfolding saved_in
    object-sectors-fit =
        let of : ℕ × List ℕ → ℕ = λ o. sectors (length o.1) in
        let queues = kind-sectors (2 ^ 32) limits.msgmni (queue_most form limits) (queue_bytes form.marks) s.msg.entries queues-short
        sound.parts.msg.held.bound.numbered.count in
        let sets = kind-sectors (2 * 2 ^ 32) limits.semmni (44 + 6 * limits.semmsl) set_bytes s.semset.entries (sets-short limits s passed sound)
        sound.parts.semset.held.bound.numbered.count in
        let first : ℕ = 0 + sectors (length (clock_bytes form s)) + sectors (length (processes_bytes s.processes.entries))
        + sectors (length (waits_bytes s.wait)) + sectors (length (adjustments_bytes s.undo)) in
        let undo : 12 * length (adjustments_in s.undo) ≤ 12 * limits.processes * most_adjustments form limits =
        omega (arith, undo-few, mul_assoc 12 limits.processes (most_adjustments form limits)) in
        omega (
          arith,
          clock-length form opened s,
          sum_by_from of first (things form.marks s),
          sum_by-append of (map (queue_object form.marks) s.msg.entries) (map set_object s.semset.entries ++ later_objects (later_in s)),
          sum_by-append of (map set_object s.semset.entries) (later_objects (later_in s)),
          later-sectors,
          queues,
          sets,
          processes-short limits s passed sound,
          waits-short,
          adjustments-long s.undo,
          undo,
        )

    pub saved-fit-under : Fit (area_in form limits) (saved_in form s)
    saved-fit-under =
        omega (
          arith,
          object-sectors-fit,
          shms-of-opened,
          saved-count form s,
          sound.parts.msg.held.bound.numbered.count,
          sound.parts.semset.held.bound.numbered.count,
          later-few limits s sound,
        )

-- a sound state fits where it is kept
pub saved-fit : (form : Format) → IsOpened form → (limits : Limits) (s : State) → AreOf form limits → IsSound limits s
    → Fit (area_in form limits) (saved_in form s)
saved-fit form opened limits s of sound = saved-fit-under limits s of.passed sound form opened (λ is. of.version ∙ is)

-- in a form without a next number of System V segments they take as many sectors, and so does their table
pub saved-one-less : (s : State) → object_sectors (saved_in format_one s) ≡ object_sectors (saved s)
unfolding saved_in
saved-one-less s = refl

pub table-one-less : (s : State) → table_bytes (saved_in format_one s) ≡ table_bytes (saved s)
unfolding saved_in
table-one-less s = refl

pub old-saved-fit : (limits : Limits) (s : State) → ArePassed limits → IsSound limits s → Fit (area_of limits) (saved_in format_one s)
old-saved-fit limits s passed sound =
    let fit = saved-fit-under limits s passed sound format (inl refl) (λ is. absurd (omega (arith, is))) in
    omega (arith, fit, saved-one-less s, table-one-less s)
