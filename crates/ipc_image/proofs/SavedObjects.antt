-- The state as objects: how many bytes each has, and that they are objects.
use Rattle.std.proofs.Common.{◌≡◌, ℕ, zero, suc, ◌+◌, ◌*◌, ◌^◌, ◌<◌, ◌≤◌, ◌-◌, Bool, true, false, List, [], ◌∷◌, ◌++◌, length, map, Some}
use Rattle.std.proofs.Common.{refl, sym, ap, subst, ◌∙◌, arith}
use Rattle.std.specs.Prelude.{All, option_map, if◌then◌else◌}
use Rattle.std.specs.FinMap as fin
use Rattle.std.proofs.lemmas.List.{length-map, length-append, map-id}
use Rattle.std.proofs.lemmas.List.Concat.{flat_map-cons}
use Rattle.std.proofs.lemmas.List.Elements.{All-append, All-cons, All-map, All-nil, All-weaker}
use Rattle.std.proofs.lemmas.List.Sums.{sum_by-cons}
use Rattle.std.proofs.lemmas.Nat.{mul-le}
use Rattle.std.proofs.Math.Nat.{mul-suc}
use Rattle.std.specs.List.{flat_map, slice_get}
use Rattle.ipc_state.specs.declared.processes.Process.{Process}
use Rattle.ipc_limits.specs.declared.limits.Limits.{Limits}
use Rattle.ipc_limits.specs.Limits.{ArePassed}
use Rattle.ipc_base.specs.Objects.{PlainObjects, AreObjects}
use Rattle.ipc_base.specs.Table.{EachValue, keys_of, IsRising}
use Rattle.ipc_base.proofs.CallerLemmas.{rising-lower}
use Rattle.ipc_limits.proofs.CallerLemmas.{passed-bounds}
use Rattle.sysv_msg.specs.Queue.{Queue, PlainMessage, byte_count, stat_of as queue_stat}
use Rattle.sysv_msg.specs.declared.queue.QueueStat.{QueueStat}
use Rattle.ipc_state.specs.declared.numbered.Item.{Item}
use Rattle.ipc_state.specs.Keyed.{KeyedEntry}
use Rattle.ipc_state.specs.Named.{NamedEntry}
use Rattle.ipc_keys.specs.declared.check.NameKind.{NameKind}
use Rattle.ipc_state.specs.Sound.{IsSoundContent, IsSoundMsgQueue, IsSoundSemset, HasNumbers, AreSoundDescriptors}
use Rattle.posix_mq.specs.Queue.{Queue as Mq}
use Rattle.shm_segment.specs.Segment.{Segment}
use Rattle.shm_segment.specs.SysSegment.{SysSegment}
use Rattle.sysv_sem.specs.Set.{Set, stat_of as set_stat}
use Rattle.sysv_sem.specs.declared.set.SemStat.{SemStat}
use Rattle.ipc_state.proofs.CallerLemmas.{All-seen, queue-numbers, few-adjustments}
use Rattle.ipc_engine.specs.Sound.{IsSound}
use Rattle.ipc_state.specs.declared.parked.ObjectKind.TheVariants as kinds
use Rattle.ipc_state.specs.Kinds.{Content}
use Rattle.ipc_state.specs.State.{State, objects_in, named_of, start}
use Rattle.ipc_state.specs.Waiting.{PlainWaiting}
use Rattle.ipc_state.specs.Tables.{item_row}
use Rattle.ipc_base.specs.Numbers.{fields_bytes}
use Rattle.ipc_image.specs.declared.format.Format.{Format}
use Rattle.ipc_image.specs.Format.{IsOpened, format, format_three}
use Rattle.ipc_image.specs.Saved.{counted_bytes, queue_sizes, queue_numbers, set_sizes, set_numbers}
use Rattle.ipc_image.specs.Saved.{clock_bytes, clock_sizes, clock_numbers, count_bytes, process_bytes, processes_bytes, message_bytes}
use Rattle.ipc_image.specs.Saved.{waiting_bytes, waits_bytes, Adjustment, adjustment_bytes, adjustments_in, adjustments_bytes}
use Rattle.sem_undo.specs.Undo.{Undo}
use Rattle.ipc_image.specs.Saved.{queue_bytes, queue_object, semaphore_bytes, set_bytes, set_object, LaterObjects, later_in, later_objects}
use Rattle.ipc_image.specs.Saved.{saved_in, HasAllPlaces}
use Rattle.ipc_image.specs.Saved.{descriptor_bytes}
use Rattle.ipc_state.specs.declared.state.Numbers.{Numbers}
use Rattle.ipc_image.specs.SavedParts.{IsMarkAfter, IsFound, IsSmallNamed, Stands, seen_later, seen_state}
use Rattle.ipc_image.proofs.Marks.{each-at, length-each, length-most}
use Rattle.ipc_image.proofs.KindSizes.{objects-rise}
use Rattle.ipc_image.proofs.LaterSizes.{later-are, later-counted, later-few, later-rise, named-small, later_count}
use Rattle.ipc_image.proofs.WaitingCalls.{length-waits}
use Rattle.ipc_image.proofs.Formats.{by-opened}
use Rattle.ipc_image.proofs.Attaching.{rising-distinct}
use Rattle.ipc_image.proofs.AdjustmentLists.{few-in}
use Rattle.ipc_base.specs.declared.objects.Mark.{Mark}

-- ---- how many bytes each has

pub process-long : (p : ℕ × Process) → length (process_bytes p) ≡ 16 + 16 * length p.1.descriptors
process-long p = omega (arith, length-each descriptor_bytes 16 (λ d. refl) p.1.descriptors)

pub processes-long : (processes : List (ℕ × Process)) → length (processes_bytes processes) ≡ 4 + length (flat_map process_bytes processes)
processes-long processes = length-append (count_bytes (length processes)) (flat_map process_bytes processes)

pub waits-long : (ws : List PlainWaiting) → length (waits_bytes ws) ≡ 4 + length (flat_map waiting_bytes ws)
waits-long ws = length-append (count_bytes (length ws)) (flat_map waiting_bytes ws)

pub adjustments-long : (undo : List (ℕ × Undo)) → length (adjustments_bytes undo) ≡ 4 + 12 * length (adjustments_in undo)
adjustments-long undo =
    let xs : List Adjustment = adjustments_in undo in
    omega (arith, length-append (count_bytes (length xs)) (flat_map adjustment_bytes xs), length-each adjustment_bytes 12 (λ x. refl) xs)

-- the bytes of a message before its text
abbrev before : Bool → ℕ
before marks = if marks then 36 else 12

message-long : (marks : Bool) (m : PlainMessage) → length (message_bytes marks m) ≡ before marks + length m.text
message-long true m = omega arith
message-long false m = omega arith

more : (marks : Bool) (m : PlainMessage) (messages : List PlainMessage)
    → length (flat_map (message_bytes marks) messages) ≡ before marks * length messages + byte_count messages
    → length (flat_map (message_bytes marks) (m ∷ messages)) ≡ before marks * length (m ∷ messages) + byte_count (m ∷ messages)
more marks m messages rest =
    ap length (flat_map-cons (message_bytes marks) m messages) ∙ length-append (message_bytes marks m) (flat_map (message_bytes marks) messages)
    ∙ omega (
      arith,
      rest,
      message-long marks m,
      mul-suc (before marks) (length messages),
      sum_by-cons (λ (n : PlainMessage). length n.text) m messages,
    )

pub length-messages : (marks : Bool) (messages : List PlainMessage)
    → length (flat_map (message_bytes marks) messages) ≡ before marks * length messages + byte_count messages
length-messages true [] = refl
length-messages true (m ∷ messages) = more true m messages (length-messages true messages)
length-messages false [] = refl
length-messages false (m ∷ messages) = more false m messages (length-messages false messages)

pub queue-long : (marks : Bool) (e : KeyedEntry Queue)
    → length (queue_bytes marks e) ≡ (if marks then 72 else 64) + (before marks * length e.object.messages + byte_count e.object.messages)
queue-long true e = omega (arith, length-messages true e.object.messages)
queue-long false e = omega (arith, length-messages false e.object.messages)

-- how many its numbers and its parts have, by what it tells of itself
pub queue_counts : (q : Queue) (s : QueueStat) → s ≡ queue_stat q
    → length (fields_bytes queue_sizes (queue_numbers q) ++ counted_bytes (message_bytes false) q.messages) ≡ 40 + (12 * s.qnum + s.bytes)
queue_counts q s is = omega (arith, length-messages false q.messages, ap (λ (t : QueueStat). t.qnum) is, ap (λ (t : QueueStat). t.bytes) is)

pub marked_counts : (e : KeyedEntry Queue) (s : QueueStat) → s ≡ queue_stat e.object → length (queue_bytes true e) ≡ 72 + (36 * s.qnum + s.bytes)
marked_counts e s is = omega (arith, queue-long true e, ap (λ (t : QueueStat). t.qnum) is, ap (λ (t : QueueStat). t.bytes) is)

pub set_counts : (x : Set) (s : SemStat) → s ≡ set_stat x
    → length (fields_bytes set_sizes (set_numbers x) ++ counted_bytes semaphore_bytes x.semaphores) ≡ 20 + 6 * s.nsems
set_counts x s is = omega (arith, length-each semaphore_bytes 6 (λ y. refl) x.semaphores, ap (λ (t : SemStat). t.nsems) is)

pub set-long : (e : KeyedEntry Set) → length (set_bytes e) ≡ 44 + 6 * length e.object.semaphores
set-long e = omega (arith, length-each semaphore_bytes 6 (λ x. refl) e.object.semaphores)

-- the clock's object has all numbers in each form that is opened
pub clock-whole : (form : Format) → IsOpened form → (s : State) → clock_bytes form s ≡ fields_bytes clock_sizes (clock_numbers s)
clock-whole form opened s = by-opened (λ f. clock_bytes f s ≡ fields_bytes clock_sizes (clock_numbers s)) refl (λ j its. refl) form opened

pub clock-length : (form : Format) → IsOpened form → (s : State) → length (clock_bytes form s) ≡ 36
clock-length form opened s = by-opened (λ f. length (clock_bytes f s) ≡ 36) refl (λ j its. refl) form opened

-- ---- which object is which

-- the things that have objects of their own
abbrev pub things : Bool → State → PlainObjects
things marks s = map (queue_object marks) s.msg.entries ++ (map set_object s.semset.entries ++ later_objects (later_in s))

module _ (form : Format) (s : State) where
  pub saved-count : length (saved_in form s) ≡ 4 + (length s.msg.entries + (length s.semset.entries + later_count (later_in s)))
  unfolding saved_in
  saved-count =
      omega (
        arith,
        length-append (map (queue_object form.marks) s.msg.entries) (map set_object s.semset.entries ++ later_objects (later_in s)),
        length-append (map set_object s.semset.entries) (later_objects (later_in s)),
        length-map s.msg.entries (queue_object form.marks),
        length-map s.semset.entries set_object,
        later-counted (later_in s),
      )

  pub saved-clock : slice_get (saved_in form s) 0 ≡ Some (0, clock_bytes form s)
  unfolding saved_in
  saved-clock = refl

  pub saved-processes : slice_get (saved_in form s) 1 ≡ Some (1, processes_bytes s.processes.entries)
  unfolding saved_in
  saved-processes = refl

  pub saved-waits : slice_get (saved_in form s) 2 ≡ Some (2, waits_bytes s.wait)
  unfolding saved_in
  saved-waits = refl

  pub saved-adjustments : slice_get (saved_in form s) 3 ≡ Some (3, adjustments_bytes s.undo)
  unfolding saved_in
  saved-adjustments = refl

  pub saved-number : (i : ℕ) → i < 4 → option_map (λ o. o.0) (slice_get (saved_in form s) i) ≡ Some i
  unfolding saved_in
  saved-number zero few = refl
  saved-number (suc zero) few = refl
  saved-number (suc (suc zero)) few = refl
  saved-number (suc (suc (suc zero))) few = refl
  saved-number (suc (suc (suc (suc i)))) few = absurd (omega arith)

  -- an object after the four
  pub found-thing : AreObjects (saved_in form s) → (i : ℕ) → 4 ≤ i → (o : ℕ × List ℕ) (IsOfIt : Mark → Type 0) (Fits : Type 0) → Fits
      → Stands (things form.marks s) (IsMarkAfter form s) (i - 4) o IsOfIt → IsFound form s i o IsOfIt Fits
  unfolding saved_in
  found-thing are i four o IsOfIt Fits fits stands =
      let deep : i ≡ suc (suc (suc (suc (i - 4)))) = omega (arith, four) in
      let found = ap (slice_get (saved_in form s)) deep ∙ stands.object in
      let short = each-at (λ (p : ℕ × List ℕ). length p.1 < 2 ^ 64) (saved_in form s) i o are.lengths found in
      record { stands = stands; object = found; short = short; fits = fits }

  -- what holds of the four, and of each thing that has an object of its own, holds of all
  each-saved : (P : ℕ × List ℕ → Type 0) → P (0, clock_bytes form s) → P (1, processes_bytes s.processes.entries)
      → P (2, waits_bytes s.wait) → P (3, adjustments_bytes s.undo) → All (λ e. P (queue_object form.marks e)) s.msg.entries
      → All (λ e. P (set_object e)) s.semset.entries → All P (later_objects (later_in s)) → All P (saved_in form s)
  unfolding saved_in
  each-saved P clock processes waiting adjustments queues sets later =
      let two : List (ℕ × List ℕ) = (2, waits_bytes s.wait) ∷ (3, adjustments_bytes s.undo) ∷ things form.marks s in
      All-cons P _ ((1, processes_bytes s.processes.entries) ∷ two) clock
      (All-cons P _ two processes
      (All-cons P _ ((3, adjustments_bytes s.undo) ∷ things form.marks s) waiting
      (All-cons P _ (things form.marks s) adjustments
      (All-append P (map (queue_object form.marks) s.msg.entries) (map set_object s.semset.entries ++ later_objects (later_in s))
      (All-map P (queue_object form.marks) s.msg.entries queues)
      (All-append P (map set_object s.semset.entries) (later_objects (later_in s)) (All-map P set_object s.semset.entries sets) later)))))

-- the state that tables are, and how many objects it has
module _ (form : Format) (n : Numbers) (ps : List (Item Process)) (ws : List PlainWaiting) (us : List (Item Undo)) (qs : List (Item (KeyedEntry Queue)))
    (xs : List (Item (KeyedEntry Set))) (o : LaterObjects) where
  pub seen-is : (s : State) → n.clock.0 ≡ s.clock → n.next_pid ≡ s.processes.next → n.next_msg_queue ≡ s.msg.next → n.next_semset ≡ s.semset.next
      → map item_row ps ≡ s.processes.entries → ws ≡ s.wait → map item_row us ≡ s.undo → map item_row qs ≡ s.msg.entries
      → map item_row xs ≡ s.semset.entries → o ≡ (later_in s) → seen_state n ps ws us qs xs o ≡ s
  seen-is s clock pid queue set processes waits undo queues sets later =
      λ i. record {
        clock = clock i;
        processes = record { next = pid i; entries = processes i };
        wait = waits i;
        undo = undo i;
        msg = record { next = queue i; entries = queues i };
        semset = record { next = set i; entries = sets i };
        mq = (later i).mq;
        psem = (later i).psem;
        pshm = (later i).pshm;
        shm = (later i).shm;
      }

  pub seen_count : length (saved_in form (seen_state n ps ws us qs xs o)) ≡ 4 + (length qs + (length xs + later_count o))
  seen_count = omega (arith, saved-count form (seen_state n ps ws us qs xs o), length-map qs item_row, length-map xs item_row)

  -- the bytes of the processes can be counted
  pub processes-counted : AreObjects (saved_in form (seen_state n ps ws us qs xs o)) → 4 + length (flat_map process_bytes (map item_row ps)) < 2 ^ 64
  processes-counted are =
      let s : State = seen_state n ps ws us qs xs o in
      let short = each-at (λ (p : ℕ × List ℕ). length p.1 < 2 ^ 64) (saved_in form s) 1 _ are.lengths (saved-processes form s) in
      omega (arith, short, processes-long s.processes.entries)

  -- the bytes of the waiting calls can be counted
  pub waits-counted : AreObjects (saved_in form (seen_state n ps ws us qs xs o)) → 4 + length (flat_map waiting_bytes (map (λ w. w) ws)) < 2 ^ 64
  waits-counted are =
      let s : State = seen_state n ps ws us qs xs o in
      let short = each-at (λ (p : ℕ × List ℕ). length p.1 < 2 ^ 64) (saved_in form s) 2 _ are.lengths (saved-waits form s) in
      omega (arith, short, waits-long ws, ap (λ (l : List PlainWaiting). length (flat_map waiting_bytes l)) (map-id ws))

-- how many objects the state of these tables has
pub tables_count : (form : Format) (n : Numbers) (ps : List (Item Process)) (ws : List PlainWaiting) (us : List (Item Undo))
    (qs : List (Item (KeyedEntry Queue))) (xs : List (Item (KeyedEntry Set))) (ms : List (Item (NamedEntry Mq))) (ss : List (Item (NamedEntry ℕ)))
    (gs : List (Item (NamedEntry Segment))) (hs : List (Item (KeyedEntry SysSegment)))
    → length (saved_in form (seen_state n ps ws us qs xs (seen_later n ms ss gs hs)))
    ≡ 4 + (length qs + (length xs + (length ms + (length ss + (length gs + length hs)))))
tables_count form n ps ws us qs xs ms ss gs hs =
    omega (
      arith,
      seen_count form n ps ws us qs xs (seen_later n ms ss gs hs),
      length-map ms item_row,
      length-map ss item_row,
      length-map gs item_row,
      length-map hs item_row,
    )

-- ---- they are objects

-- numbers that rise are no more than those between their bounds
rising-few : (low : ℕ) (ns : List ℕ) (high : ℕ) → IsRising low ns high → low + length ns ≤ high
rising-few low [] high h = omega (arith, h)
rising-few low (n ∷ ns) high h = omega (arith, h.0, rising-few (n + 1) ns high h.1)

-- what holds of each entry holds of each that is kept
rows-have : {X : Type 0} (P : X → Type 0) (rows : List (Item X)) (es : List (ℕ × X)) → map item_row rows ≡ es → All (λ e. P e.1) es
    → All (λ e. P e.value) rows
rows-have {X} P rows es are each =
    let Q : ℕ × X → Type 0 = λ e. P e.1 in
    All-seen Q item_row rows (subst (All Q) (sym are) each)

module _ (limits : Limits) (s : State) (passed : ArePassed limits) (sound : IsSound limits s) where
  -- each number of a queue that is kept fits in a field of four bytes
  pub rows-numbers : (rows : List (Item (KeyedEntry Queue))) → map item_row rows ≡ s.msg.entries → All (λ e. HasNumbers e.value.object) rows
  rows-numbers rows are =
      rows-have (λ e. HasNumbers e.object) rows s.msg.entries are
      (All-weaker (λ (e : ℕ × KeyedEntry Queue). IsSoundMsgQueue limits e.1.object) (λ e. HasNumbers e.1.object)
      (λ e good. queue-numbers limits e.1.object passed good) s.msg.entries sound.parts.msg.held.bound.each)

  -- and the count of the semaphores of a set
  pub sets-numbers : (rows : List (Item (KeyedEntry Set))) → map item_row rows ≡ s.semset.entries → All (λ e. length e.value.object.semaphores < 2 ^ 32) rows
  sets-numbers rows are =
      let b = passed-bounds limits passed in
      rows-have (λ e. length e.object.semaphores < 2 ^ 32) rows s.semset.entries are
      (All-weaker (λ (e : ℕ × KeyedEntry Set). IsSoundSemset limits e.1.object) (λ e. length e.1.object.semaphores < 2 ^ 32)
      (λ e good. omega (arith, good.few, b.semmsl)) s.semset.entries sound.parts.semset.held.bound.each)

  -- the count of the descriptors of a process
  pub descriptors-few : All (λ p. length p.1.descriptors ≤ limits.descriptors) s.processes.entries
  descriptors-few =
      let P : ℕ × Process → Type 0 = λ p. AreSoundDescriptors limits (objects_in s) p.1.descriptors in
      All-weaker P (λ p. length p.1.descriptors ≤ limits.descriptors)
      (λ p good. omega (arith, length-map p.1.descriptors (λ d. d.0), rising-few 0 (keys_of p.1.descriptors) limits.descriptors good.numbers))
      s.processes.entries sound.parts.processes.descriptors

  pub processes-numbers : (rows : List (Item Process)) → map item_row rows ≡ s.processes.entries
      → All (λ p. length p.value.descriptors < 2 ^ 32) rows
  processes-numbers rows are =
      let b = passed-bounds limits passed in
      rows-have (λ p. length p.descriptors < 2 ^ 32) rows s.processes.entries are
      (All-weaker (λ (p : ℕ × Process). length p.1.descriptors ≤ limits.descriptors) (λ p. length p.1.descriptors < 2 ^ 32)
      (λ p few. omega (arith, few, b.descriptors)) s.processes.entries descriptors-few)

  -- the sizes of those with a name
  pub named-numbers : (kind : NameKind) (IsSmallObject : Content (kinds.Named kind) → Type 0)
      → ((x : Content (kinds.Named kind)) → IsSoundContent limits (kinds.Named kind) x → IsSmallObject x)
      → (rows : List (Item (NamedEntry (Content (kinds.Named kind))))) → map item_row rows ≡ (named_of s kind).entries
      → All (λ e. IsSmallNamed IsSmallObject e.value) rows
  named-numbers kind IsSmallObject small rows are =
      rows-have (IsSmallNamed IsSmallObject) rows (named_of s kind).entries are (named-small limits s sound kind IsSmallObject small)

  -- the modes of System V segments have nine bits
  pub shms-small : (rows : List (Item (KeyedEntry SysSegment))) → map item_row rows ≡ s.shm.entries → All (λ e. e.value.perm.mode < 512) rows
  shms-small rows are = rows-have (λ e. e.perm.mode < 512) rows s.shm.entries are sound.parts.shm.held.bound.modes

  pub processes-short : length (processes_bytes s.processes.entries) ≤ 4 + limits.processes * (16 + 16 * limits.descriptors)
  processes-short =
      let most : ℕ = 16 + 16 * limits.descriptors in
      let each : All (λ p. length (process_bytes p) ≤ most) s.processes.entries =
      All-weaker (λ (p : ℕ × Process). length p.1.descriptors ≤ limits.descriptors) (λ p. length (process_bytes p) ≤ most)
      (λ p few. omega (arith, process-long p, few)) s.processes.entries descriptors-few in
      omega (
        arith,
        processes-long s.processes.entries,
        length-most process_bytes most s.processes.entries each,
        mul-le (length s.processes.entries) most limits.processes most sound.parts.processes.numbered.count (omega arith),
      )

  pub sets-short : All (λ e. length (set_bytes e.1) ≤ 44 + 6 * limits.semmsl) s.semset.entries
  sets-short =
      All-weaker (λ (e : ℕ × KeyedEntry Set). IsSoundSemset limits e.1.object) (λ e. length (set_bytes e.1) ≤ 44 + 6 * limits.semmsl)
      (λ e good. omega (arith, set-long e.1, good.few)) s.semset.entries sound.parts.semset.held.bound.each

  -- the processes have adjustments, each with few
  pub adjustments-few : (most : ℕ) → EachValue (λ (undo : Undo). fin.len undo ≤ most) s.undo → length (adjustments_in s.undo) ≤ limits.processes * most
  adjustments-few most few =
      let connected = length-map s.processes.entries (λ e. e.0) in
      let own : length s.undo ≤ limits.processes =
      omega (arith, length-map s.undo (λ e. e.0), ap length sound.parts.undo.pids, connected, sound.parts.processes.numbered.count) in
      omega (arith, few-in most s.undo few, mul-le (length s.undo) most limits.processes most own (omega arith))

  pub undo-counted : length (adjustments_in s.undo) < 2 ^ 32
  undo-counted =
      let b = passed-bounds limits passed in
      omega (
        arith,
        adjustments-few limits.semmns (few-adjustments limits s sound.parts),
        mul-le limits.processes limits.semmns 4096 512 (omega (arith, b.processes)) (omega (arith, b.semmns)),
      )

  module _ (form : Format) (opened : IsOpened form) where
    clock-long : length (clock_bytes form s) ≡ 36
    clock-long = clock-length form opened s

    clock-some : 0 < length (clock_bytes form s)
    clock-some = omega (arith, clock-long)

    clock-few : length (clock_bytes form s) < 2 ^ 64
    clock-few = omega (arith, clock-long)

    queue-some : (e : KeyedEntry Queue) → 0 < length (queue_bytes form.marks e)
    queue-some e =
        by-opened (λ f. 0 < length (queue_bytes f.marks e)) (omega (arith, queue-long false e)) (λ j its. omega (arith, queue-long true e)) form opened

    queue-few : (e : KeyedEntry Queue) → IsSoundMsgQueue limits e.object → length (queue_bytes form.marks e) < 2 ^ 64
    queue-few e good =
        let b = passed-bounds limits passed in
        by-opened (λ f. length (queue_bytes f.marks e) < 2 ^ 64) (omega (arith, queue-long false e, good.count, good.bytes, b.msgmnb))
        (λ j its. omega (arith, queue-long true e, good.count, good.bytes, b.msgmnb)) form opened

    waits-few : length (waits_bytes s.wait) < 2 ^ 64
    waits-few =
        let b = passed-bounds limits passed in
        omega (arith, waits-long s.wait, length-waits s.wait sound.parts.wait.each, sound.parts.wait.few, b.processes)

    numbers-rise : IsRising 0 (keys_of (saved_in form s)) (2 ^ 64)
    unfolding saved_in
    numbers-rise =
        let later : PlainObjects = later_objects (later_in s) in
        let third : IsRising (3 * 2 ^ 32 + 1) (keys_of later) (2 ^ 64) = later-rise limits s sound in
        let sets : PlainObjects = map set_object s.semset.entries ++ later in
        let second : IsRising (2 * 2 ^ 32 + 1) (keys_of sets) (2 ^ 64) =
        objects-rise (2 * 2 ^ 32) set_bytes 1 s.semset.next (2 ^ 64) s.semset.entries later sound.parts.semset.held.bound.numbered.numbers
        (rising-lower (2 * 2 ^ 32 + s.semset.next) (3 * 2 ^ 32 + 1) (keys_of later) (2 ^ 64)
        (omega (arith, sound.parts.semset.held.bound.numbered.next)) third) in
        let all = objects-rise (2 ^ 32) (queue_bytes form.marks) 1 s.msg.next (2 ^ 64) s.msg.entries sets sound.parts.msg.held.bound.numbered.numbers
        (rising-lower (2 ^ 32 + s.msg.next) (2 * 2 ^ 32 + 1) (keys_of sets) (2 ^ 64) (omega (arith, sound.parts.msg.held.bound.numbered.next)) second) in
        (omega arith, (omega arith, (omega arith, (omega arith, rising-lower 4 (2 ^ 32 + 1) (keys_of (things form.marks s)) (2 ^ 64) (omega arith) all))))

    pub saved-are : AreObjects (saved_in form s)
    saved-are =
        let b = passed-bounds limits passed in
        let Some-bytes : ℕ × List ℕ → Type 0 = λ o. 0 < length o.1 in
        let Few-bytes : ℕ × List ℕ → Type 0 = λ o. length o.1 < 2 ^ 64 in
        let IsShort : ℕ × KeyedEntry Set → Type 0 = λ e. length (set_bytes e.1) ≤ 44 + 6 * limits.semmsl in
        let later = later-are limits s sound passed in
        let processes : limits.processes * (16 + 16 * limits.descriptors) ≤ 4096 * 16400 =
        mul-le limits.processes (16 + 16 * limits.descriptors) 4096 16400 (omega (arith, b.processes)) (omega (arith, b.descriptors)) in
        record {
          numbers = numbers-rise;
          some = each-saved form s Some-bytes clock-some (omega (arith, processes-long s.processes.entries)) (omega (arith, waits-long s.wait))
              (omega (arith, adjustments-long s.undo))
              (All-weaker (λ (e : ℕ × KeyedEntry Queue). IsSoundMsgQueue limits e.1.object) (λ e. Some-bytes (queue_object form.marks e))
              (λ e good. queue-some e.1) s.msg.entries sound.parts.msg.held.bound.each)
              (All-weaker IsShort (λ e. Some-bytes (set_object e)) (λ e short. omega (arith, set-long e.1)) s.semset.entries sets-short) later.some;
          lengths = each-saved form s Few-bytes clock-few
              (omega (arith, processes-short, processes))
              waits-few (omega (arith, adjustments-long s.undo, undo-counted))
              (All-weaker (λ (e : ℕ × KeyedEntry Queue). IsSoundMsgQueue limits e.1.object) (λ e. Few-bytes (queue_object form.marks e))
              (λ e good. queue-few e.1 good) s.msg.entries sound.parts.msg.held.bound.each)
              (All-weaker IsShort (λ e. Few-bytes (set_object e)) (λ e short. omega (arith, short, b.semmsl)) s.semset.entries sets-short) later.few;
          count = omega (
            arith,
            saved-count form s,
            sound.parts.msg.held.bound.numbered.count,
            b.msgmni,
            sound.parts.semset.held.bound.numbered.count,
            b.semmni,
            later-few limits s sound,
            b.queues,
            b.named_semaphores,
            b.segments,
            b.shmmni,
          );
        }

-- ---- the state to which nothing has happened

pub start-places : HasAllPlaces start
start-places = record {
  clock = (omega arith, (omega arith, (omega arith, (omega arith, (omega arith, (omega arith, (omega arith, (omega arith, tt))))))));
  count = omega arith;
  processes = All-nil _;
  wait_count = omega arith;
  waits = All-nil _;
  pids = tt;
  adjustment_count = omega arith;
  adjustments = All-nil _;
  undo_pids = refl;
  distinct = rising-distinct 1 [] 1 (omega arith);
  queues = All-nil _;
  sets = All-nil _;
  later = record { mqs = All-nil _; psems = All-nil _; segments = All-nil _; shms = All-nil _ };
}

pub start-are : (form : Format) → IsOpened form → AreObjects (saved_in form start)
unfolding saved_in
start-are form opened = by-opened (λ f. AreObjects (saved_in f start)) (are format refl) (λ journal its. are (format_three journal) refl) form opened
  where
    are : (f : Format) → length (clock_bytes f start) ≡ 36 → AreObjects (saved_in f start)
    are f long =
        record {
          numbers = (omega arith, (omega arith, (omega arith, (omega arith, omega arith))));
          some = each-saved f start (λ o. 0 < length o.1) (omega (arith, long)) (omega arith) (omega arith) (omega arith) (All-nil _) (All-nil _) (All-nil _);
          lengths = each-saved f start (λ o. length o.1 < 2 ^ 64) (omega (arith, long)) (omega arith) (omega arith) (omega arith) (All-nil _) (All-nil _)
              (All-nil _);
          count = omega arith;
        }
