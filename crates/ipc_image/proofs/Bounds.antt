-- The sizes under limits of any device: none of their sums and products overflows 64 bits.
use Rattle.std.proofs.Common.{◌+◌, ◌*◌, ◌≤◌, arith}
use Rattle.std.proofs.lemmas.Nat.{mul-le}
use Rattle.ipc_limits.specs.declared.limits.Limits.{Limits}
use Rattle.ipc_limits.specs.Limits.{ArePassed, AreWithin, greatest_limits, standard_limits}
use Rattle.ipc_limits.proofs.CallerLemmas.{AreBounded, bounds-within, passed-bounds}
use Rattle.ipc_image.specs.declared.format.Format.{Format}
use Rattle.ipc_image.specs.Format.{IsFormat, format}
use Rattle.ipc_image.specs.Sizes.{sectors, waiting_request, most_adjustments, process_sectors, queue_most, mq_sectors, shm_sectors, object_sectors, entries}
use Rattle.ipc_image.specs.Sizes.{area_in, most_area}
use Rattle.ipc_image.proofs.Formats.{by-form}

-- what is used of them
pub record Bounds (form : Format) (l : Limits) : Type 0 where
  pub each : AreBounded greatest_limits l
  pub numbers : form.numbers ≤ 6
  pub request : form.request ≤ 65792
  pub descriptors : l.processes * (16 + 16 * l.descriptors) ≤ 67174400
  pub requests : l.processes * (16 + waiting_request form l) ≤ 269549568
  pub adjustments : 12 * l.processes * most_adjustments form l ≤ 51539607552
  pub processes : process_sectors form l ≤ 10000000000
  pub queue : queue_most form l ≤ 300000000
  pub queues : l.msgmni * sectors (queue_most form l) ≤ 19333120000
  pub sets : l.semmni * sectors (44 + 6 * l.semmsl) ≤ 32768
  pub messages : l.maxmsg * (8 + l.msgsize) ≤ 4295491584
  pub posix_queues : l.queues * sectors (299 + l.maxmsg * (8 + l.msgsize)) ≤ 278528000000
  pub mqs : mq_sectors form l ≤ 300000000000
  pub named_semaphores : l.named_semaphores * sectors 271 ≤ 32768
  pub shms : shm_sectors form l ≤ 2000000
  pub objects : object_sectors form l ≤ 1000000000000
  pub few : entries form l ≤ 300000

pub bounds : (form : Format) (l : Limits) → IsFormat form → ArePassed l → Bounds form l
bounds form l known passed =
    let b = passed-bounds l passed in
    let numbers : form.numbers ≤ 6 = by-form (λ f. f.numbers ≤ 6) (omega arith) (omega arith) (λ j its. omega arith) form known in
    let own : form.request ≤ 65792 = by-form (λ f. f.request ≤ 65792) (omega arith) (omega arith) (λ j its. omega arith) form known in
    let request : waiting_request form l ≤ 65792 =
    by-form (λ f. waiting_request f l ≤ 65792) (omega arith) (omega arith) (λ j its. omega (arith, b.msgmax, b.msgsize, b.semopm)) form known in
    let rows : most_adjustments form l ≤ 1048576 =
    by-form (λ f. most_adjustments f l ≤ 1048576) (omega (arith, b.semmns)) (omega (arith, b.semmns)) (λ j its. omega (arith, b.semume)) form known in
    let descriptors : l.processes * (16 + 16 * l.descriptors) ≤ 67174400 =
    mul-le l.processes (16 + 16 * l.descriptors) 4096 16400 (omega (arith, b.processes)) (omega (arith, b.descriptors)) in
    let requests : l.processes * (16 + waiting_request form l) ≤ 269549568 =
    mul-le l.processes (16 + waiting_request form l) 4096 65808 (omega (arith, b.processes)) (omega (arith, request)) in
    let adjustments : 12 * l.processes * most_adjustments form l ≤ 51539607552 =
    mul-le (12 * l.processes) (most_adjustments form l) 49152 1048576 (omega (arith, b.processes)) rows in
    let queue : queue_most form l ≤ 300000000 =
    by-form (λ f. queue_most f l ≤ 300000000) (omega (arith, b.msgmnb)) (omega (arith, b.msgmnb)) (λ j its. omega (arith, b.msgmnb, b.msgqlen)) form known in
    let queues : l.msgmni * sectors (queue_most form l) ≤ 19333120000 =
    mul-le l.msgmni (sectors (queue_most form l)) 32768 590000 (omega (arith, b.msgmni)) (omega (arith, queue)) in
    let sets : l.semmni * sectors (44 + 6 * l.semmsl) ≤ 32768 =
    mul-le l.semmni (sectors (44 + 6 * l.semmsl)) 32768 1 (omega (arith, b.semmni)) (omega (arith, b.semmsl)) in
    let messages : l.maxmsg * (8 + l.msgsize) ≤ 4295491584 =
    mul-le l.maxmsg (8 + l.msgsize) 65536 65544 (omega (arith, b.maxmsg)) (omega (arith, b.msgsize)) in
    let posix_queues : l.queues * sectors (299 + l.maxmsg * (8 + l.msgsize)) ≤ 278528000000 =
    mul-le l.queues (sectors (299 + l.maxmsg * (8 + l.msgsize))) 32768 8500000 (omega (arith, b.queues)) (omega (arith, messages)) in
    let mqs : mq_sectors form l ≤ 300000000000 =
    by-form (λ f. mq_sectors f l ≤ 300000000000) (omega (arith, posix_queues)) (omega (arith, posix_queues))
    (λ j its. omega (arith, b.queues, b.queue_bytes)) form known in
    let named : l.named_semaphores * sectors 271 ≤ 32768 = omega (arith, b.named_semaphores) in
    let segments : 2 * l.segments + sectors l.segment_bytes ≤ 2000000 = omega (arith, b.segments, b.segment_bytes) in
    let shm : 2 * l.shmmni + sectors l.shmall ≤ 2000000 = omega (arith, b.shmmni, b.shmall) in
    let shms : shm_sectors form l ≤ 2000000 =
    by-form (λ f. shm_sectors f l ≤ 2000000) (omega arith) (omega (arith, shm)) (λ j its. omega (arith, shm)) form known in
    record {
      each = b;
      numbers = numbers;
      request = own;
      descriptors = descriptors;
      requests = requests;
      adjustments = adjustments;
      processes = omega (arith, numbers, descriptors, requests, adjustments);
      queue = queue;
      queues = queues;
      sets = sets;
      messages = messages;
      posix_queues = posix_queues;
      mqs = mqs;
      named_semaphores = named;
      shms = shms;
      objects = omega (arith, queues, sets, mqs, named, segments, shms);
      few = by-form (λ f. entries f l ≤ 300000) (omega (arith, b)) (omega (arith, b)) (λ j its. omega (arith, b)) form known;
    }

-- the area of version 2 under limits within its greatest values
pub area-of-two : (l : Limits) → AreWithin format.most l → area_in format l ≤ most_area
area-of-two l within =
    let b = bounds-within standard_limits l within in
    let descriptors : l.processes * (16 + 16 * l.descriptors) ≤ 33792 =
    mul-le l.processes (16 + 16 * l.descriptors) 64 528 (omega (arith, b.processes)) (omega (arith, b.descriptors)) in
    let adjustments : 12 * l.processes * l.semmns ≤ 393216 =
    mul-le (12 * l.processes) l.semmns 768 512 (omega (arith, b.processes)) (omega (arith, b.semmns)) in
    let messages : l.maxmsg * (8 + l.msgsize) ≤ 82000 =
    mul-le l.maxmsg (8 + l.msgsize) 10 8200 (omega (arith, b.maxmsg)) (omega (arith, b.msgsize)) in
    let queues : l.msgmni * sectors (64 + 13 * l.msgmnb) ≤ 106560 =
    mul-le l.msgmni (sectors (64 + 13 * l.msgmnb)) 64 1665 (omega (arith, b.msgmni)) (omega (arith, b.msgmnb)) in
    let sets : l.semmni * sectors (44 + 6 * l.semmsl) ≤ 32 =
    mul-le l.semmni (sectors (44 + 6 * l.semmsl)) 32 1 (omega (arith, b.semmni)) (omega (arith, b.semmsl)) in
    let posix_queues : l.queues * sectors (299 + l.maxmsg * (8 + l.msgsize)) ≤ 5152 =
    mul-le l.queues (sectors (299 + l.maxmsg * (8 + l.msgsize))) 32 161 (omega (arith, b.queues)) (omega (arith, messages)) in
    let processes : process_sectors format l ≤ 9064 = omega (arith, descriptors, adjustments, b.processes) in
    let segments : 2 * l.segments + sectors l.segment_bytes ≤ 2112 = omega (arith, b.segments, b.segment_bytes) in
    let shms : shm_sectors format l ≤ 2112 = omega (arith, b.shmmni, b.shmall) in
    let objects : object_sectors format l ≤ 116032 = omega (arith, queues, sets, posix_queues, b.named_semaphores, segments, shms) in
    let few : entries format l ≤ 260 = omega (arith, b) in
    omega (arith, processes, objects, few)
