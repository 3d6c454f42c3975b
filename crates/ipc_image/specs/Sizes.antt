-- How many sectors a device has at least. An image of all that the server keeps takes at most
-- `area_of` sectors, with its table. A device has room for two of them, the one that is there and
-- the next one, so a save is never short of sectors.
use Rattle.std.specs.Prelude.{ℕ, ◌+◌, ◌*◌, ◌/◌, max, List, [], ◌∷◌, ◌++◌, Bool, nat_le, if◌then◌else◌}
use Rattle.std.specs.Prelude.{position, not, Option}
use Rattle.ipc_limits.specs.declared.limits.Limits.{Limits}
use Rattle.ipc_limits.specs.Limits.{tests}
use Rattle.ipc_image.specs.Format.{format, has_bounds, has_shms, objects_first}
use Rattle.ipc_image.specs.declared.format.Format.{Format}

-- the sectors that so many bytes take
abbrev pub sectors : ℕ → ℕ
sectors bytes = (bytes + 511) / 512

-- the longest request of a call that waits: of a version with bounds that of a msgsnd, an mq_send or a semop, whose
-- texts and operations were tested before; no other has over 25 bytes
abbrev pub waiting_request : Format → Limits → ℕ
waiting_request form l =
    if has_bounds form then max 25 (max (21 + l.msgmax) (max (21 + l.msgsize) (17 + 6 * l.semopm))) else form.request

-- the most adjustments of a process: without a bound, one for each semaphore
abbrev pub most_adjustments : Format → Limits → ℕ
most_adjustments form l = if has_bounds form then l.semume else l.semmns

-- the most that the clock and the processes take
abbrev pub process_sectors : Format → Limits → ℕ
process_sectors form l =
    -- the clock, and the next number of each kind
    sectors (12 + 4 * form.numbers)
    -- each process, with its descriptors
    + sectors (4 + l.processes * (16 + 16 * l.descriptors))
    -- the waiting calls, one a process: 16 bytes, and a request without its length
    + sectors (4 + l.processes * (16 + waiting_request form l))
    -- each adjustment of a process for a semaphore
    + sectors (4 + 12 * l.processes * most_adjustments form l)

-- the most bytes of a message queue: a message has 12 bytes and its text, and a queue as many messages as bytes; with
-- marks it has a next token, each message has 36 bytes and its text, and their count has a bound
abbrev pub queue_most : Format → Limits → ℕ
queue_most form l = if form.marks then 72 + 36 * l.msgqlen + l.msgmnb else 64 + 13 * l.msgmnb

-- the most that POSIX queues take, each with a name of at most 255 bytes; with a bound on the bytes of all of them,
-- each takes at most one sector that is not full
abbrev pub mq_sectors : Format → Limits → ℕ
mq_sectors form l =
    if has_bounds form
    then l.queues + sectors (299 * l.queues + l.queue_bytes)
    else l.queues * sectors (299 + l.maxmsg * (8 + l.msgsize))

-- the most that System V segments take, as other segments do
abbrev pub shm_sectors : Format → Limits → ℕ
shm_sectors form l = if has_shms form then 2 * l.shmmni + sectors l.shmall else 0

-- the most that the objects take, each of which begins a sector of its own
abbrev pub object_sectors : Format → Limits → ℕ
object_sectors form l =
    -- message queues
    l.msgmni * sectors (queue_most form l)
    -- semaphore sets
    + l.semmni * sectors (44 + 6 * l.semmsl)
    -- POSIX queues
    + mq_sectors form l
    -- named semaphores, each with a name of at most 251 bytes
    + l.named_semaphores * sectors 271
    -- shared memory segments: their bytes, and for each two sectors that are not full of them
    + (2 * l.segments + sectors l.segment_bytes)
    + shm_sectors form l

-- the most entries that the table has: one for each part of `process_sectors` and for each object
abbrev pub entries : Format → Limits → ℕ
entries form l =
    4 + l.msgmni + l.semmni + l.queues + l.named_semaphores + l.segments + (if has_shms form then l.shmmni else 0)

-- the most bytes that the table has: its count, 16 for each entry, and 4 for each sector
abbrev pub table_bytes : Format → Limits → ℕ
table_bytes form l = 4 + 16 * entries form l + 4 * (process_sectors form l + object_sectors form l)

-- the most sectors that an image takes: a sector of the table holds 508 bytes of it, and 4 that
-- name the next one
abbrev pub area_in : Format → Limits → ℕ
area_in form l = process_sectors form l + object_sectors form l + (table_bytes form l + 507) / 508

abbrev pub area_of : Limits → ℕ
area_of = area_in format

-- the most sectors that an area may take
abbrev pub most_area : ℕ
most_area = 8000000

-- whether each field passes by the greatest values of a version, in the order of the fields, and then the area
abbrev pub tests_in : Format → Limits → List Bool
tests_in form l = tests form.most l ++ nat_le (area_in form l) most_area ∷ []

-- the first that fails, if one does: the number of a field, or for the area 22
abbrev pub first_fault : Format → Limits → Option ℕ
first_fault form l = position not (tests_in form l)

-- the least device: the superblock, a sector that is not used, the root, the journal, and two images
abbrev pub need_in : Format → Limits → ℕ
need_in form l = objects_first form + 2 * area_in form l

abbrev pub need_of : Limits → ℕ
need_of = need_in format
