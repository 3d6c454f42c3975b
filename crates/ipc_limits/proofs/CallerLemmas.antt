-- What the crates above cite of limits that were checked.
use Rattle.std.proofs.Common.{◌≡◌, ℕ, ◌+◌, ◌<◌, ◌≤◌, Bool, true, false, not, ◌&&◌, leb, cond, List, [], ◌∷◌, length, get_or}
use Rattle.std.proofs.Common.{Option, Some, None, refl, ap, arith}
use Rattle.std.specs.Prelude.{replicate}
use Rattle.std.specs.List.{position, position_or_len}
use Rattle.std.proofs.lemmas.Bool.{ltb-false, leb-true, le-leb}
use Rattle.std.proofs.lemmas.Bool.Decides.{nat_tests}
use Rattle.std.proofs.lemmas.List.Sums.{fails_before_first}
use Rattle.ipc_limits.specs.declared.limits.Limits.{Limits}
use Rattle.ipc_limits.specs.Limits.{tests, is_within, greatest_limits, AreWithin, ArePassed, longest_body, longest_reply, exceeds}

-- an option that a test left empty
not_some : (b : Bool) (n : ℕ) → cond b (Some n) None ≡ None → b ≡ false
not_some true n e = cc
not_some false n e = refl

both_true : (a b : Bool) → (a && b) ≡ true → (a ≡ true) × (b ≡ true)
both_true true b h = (refl, h)
both_true false b h = cc

not_failing : (b : Bool) → not b ≡ false → b ≡ true
not_failing true e = refl
not_failing false e = cc

-- each of a list of tests passes where the search for one that fails finds none
each_passes : (bs : List Bool) → position not bs ≡ None → (j : ℕ) → j < length bs → get_or bs j false ≡ true
each_passes bs none j within =
    let late : length bs ≤ position_or_len not bs = ltb-false _ _ (not_some _ _ none) in
    not_failing _ (fails_before_first not bs j false (omega arith))

within-bounds : (value most : ℕ) → is_within value most ≡ true → (1 ≤ value) × (value ≤ most)
within-bounds value most h =
    let both = both_true (leb 1 value) (leb value most) h in
    (leb-true 1 value both.0, leb-true value most both.1)

-- what is used of limits that are within greatest values
pub record AreBounded (most l : Limits) : Type 0 where
  pub processes : (1 ≤ l.processes) × (l.processes ≤ most.processes)
  pub msgmni : l.msgmni ≤ most.msgmni
  pub msgmax : (1 ≤ l.msgmax) × (l.msgmax ≤ most.msgmax) × (l.msgmax ≤ l.msgmnb)
  pub msgmnb : (1 ≤ l.msgmnb) × (l.msgmnb ≤ most.msgmnb)
  pub semmni : l.semmni ≤ most.semmni
  pub semmsl : l.semmsl ≤ most.semmsl
  pub semmns : l.semmns ≤ most.semmns
  pub semopm : l.semopm ≤ most.semopm
  pub queues : l.queues ≤ most.queues
  pub maxmsg : l.maxmsg ≤ most.maxmsg
  pub msgsize : l.msgsize ≤ most.msgsize
  pub named_semaphores : l.named_semaphores ≤ most.named_semaphores
  pub segments : l.segments ≤ most.segments
  pub segment_bytes : l.segment_bytes ≤ most.segment_bytes
  pub call_bytes : l.call_bytes ≤ most.call_bytes
  pub descriptors : l.descriptors ≤ most.descriptors
  pub shmmni : l.shmmni ≤ most.shmmni
  pub shmmax : (1 ≤ l.shmmax) × (l.shmmax ≤ most.shmmax) × (l.shmmax ≤ l.shmall)
  pub shmall : l.shmall ≤ most.shmall
  pub msgqlen : (1 ≤ l.msgqlen) × (l.msgqlen ≤ most.msgqlen)
  pub semume : (1 ≤ l.semume) × (l.semume ≤ most.semume)
  pub queue_bytes : (1 ≤ l.queue_bytes) × (l.queue_bytes ≤ most.queue_bytes)

pub bounds-within : (most l : Limits) → AreWithin most l → AreBounded most l
bounds-within most l within =
    let all = each_passes (tests most l) within in
    let size = both_true (is_within l.msgmax most.msgmax) (leb l.msgmax l.msgmnb) (all 2 (omega arith)) in
    let msgmax = within-bounds l.msgmax most.msgmax size.0 in
    let segment = both_true (is_within l.shmmax most.shmmax) (leb l.shmmax l.shmall) (all 17 (omega arith)) in
    let shmmax = within-bounds l.shmmax most.shmmax segment.0 in
    let set = both_true (is_within l.semmsl most.semmsl) (leb l.semmsl l.semmns) (all 5 (omega arith)) in
    record {
      processes = within-bounds _ _ (all 0 (omega arith));
      msgmni = (within-bounds _ _ (all 1 (omega arith))).1;
      msgmax = (msgmax.0, msgmax.1, leb-true _ _ size.1);
      msgmnb = within-bounds _ _ (all 3 (omega arith));
      semmni = (within-bounds _ _ (all 4 (omega arith))).1;
      semmsl = (within-bounds _ _ set.0).1;
      semmns = (within-bounds _ _ (all 6 (omega arith))).1;
      semopm = (within-bounds _ _ (all 7 (omega arith))).1;
      queues = (within-bounds _ _ (all 8 (omega arith))).1;
      maxmsg = (within-bounds _ _ (all 9 (omega arith))).1;
      msgsize = (within-bounds _ _ (all 10 (omega arith))).1;
      named_semaphores = (within-bounds _ _ (all 11 (omega arith))).1;
      segments = (within-bounds _ _ (all 12 (omega arith))).1;
      segment_bytes = (within-bounds _ _ (all 13 (omega arith))).1;
      call_bytes = (within-bounds _ _ (all 14 (omega arith))).1;
      descriptors = (within-bounds _ _ (all 15 (omega arith))).1;
      shmmni = (within-bounds _ _ (all 16 (omega arith))).1;
      shmmax = (shmmax.0, shmmax.1, leb-true _ _ segment.1);
      shmall = (within-bounds _ _ (all 18 (omega arith))).1;
      msgqlen = within-bounds _ _ (all 19 (omega arith));
      semume = within-bounds _ _ (all 20 (omega arith));
      queue_bytes = within-bounds _ _ (all 21 (omega arith));
    }

-- each is at most the greatest of any device
pub passed-bounds : (l : Limits) → ArePassed l → AreBounded greatest_limits l
passed-bounds = bounds-within greatest_limits

-- a value that is within a bound is within a greater one
module _ (value most more : ℕ) (le : most ≤ more) where
  within-more : is_within value most ≡ true → is_within value more ≡ true
  within-more h = let b = within-bounds value most h in rw (le-leb 1 value b.0) (le-leb value more (omega (arith, le, b.1)))

  below-more : (all : ℕ) → (is_within value most && leb value all) ≡ true → (is_within value more && leb value all) ≡ true
  below-more all h = let both = both_true (is_within value most) (leb value all) h in rw (within-more both.0) both.1

-- limits within greatest values that are within others are within these too
pub within-greater : (most more l : Limits) → AreWithin more most → AreWithin most l → AreWithin more l
within-greater most more l below within =
    let m = bounds-within more most below in
    let all = each_passes (tests most l) within in
    let passes : tests more l ≡ replicate 22 true =
    λ i. within-more l.processes most.processes more.processes m.processes.1 (all 0 (omega arith)) i
    ∷ within-more l.msgmni most.msgmni more.msgmni m.msgmni (all 1 (omega arith)) i
    ∷ below-more l.msgmax most.msgmax more.msgmax m.msgmax.1 l.msgmnb (all 2 (omega arith)) i
    ∷ within-more l.msgmnb most.msgmnb more.msgmnb m.msgmnb.1 (all 3 (omega arith)) i
    ∷ within-more l.semmni most.semmni more.semmni m.semmni (all 4 (omega arith)) i
    ∷ below-more l.semmsl most.semmsl more.semmsl m.semmsl l.semmns (all 5 (omega arith)) i
    ∷ within-more l.semmns most.semmns more.semmns m.semmns (all 6 (omega arith)) i
    ∷ within-more l.semopm most.semopm more.semopm m.semopm (all 7 (omega arith)) i
    ∷ within-more l.queues most.queues more.queues m.queues (all 8 (omega arith)) i
    ∷ within-more l.maxmsg most.maxmsg more.maxmsg m.maxmsg (all 9 (omega arith)) i
    ∷ within-more l.msgsize most.msgsize more.msgsize m.msgsize (all 10 (omega arith)) i
    ∷ within-more l.named_semaphores most.named_semaphores more.named_semaphores m.named_semaphores (all 11 (omega arith)) i
    ∷ within-more l.segments most.segments more.segments m.segments (all 12 (omega arith)) i
    ∷ within-more l.segment_bytes most.segment_bytes more.segment_bytes m.segment_bytes (all 13 (omega arith)) i
    ∷ within-more l.call_bytes most.call_bytes more.call_bytes m.call_bytes (all 14 (omega arith)) i
    ∷ within-more l.descriptors most.descriptors more.descriptors m.descriptors (all 15 (omega arith)) i
    ∷ within-more l.shmmni most.shmmni more.shmmni m.shmmni (all 16 (omega arith)) i
    ∷ below-more l.shmmax most.shmmax more.shmmax m.shmmax.1 l.shmall (all 17 (omega arith)) i
    ∷ within-more l.shmall most.shmall more.shmall m.shmall (all 18 (omega arith)) i
    ∷ within-more l.msgqlen most.msgqlen more.msgqlen m.msgqlen.1 (all 19 (omega arith)) i
    ∷ within-more l.semume most.semume more.semume m.semume.1 (all 20 (omega arith)) i
    ∷ within-more l.queue_bytes most.queue_bytes more.queue_bytes m.queue_bytes.1 (all 21 (omega arith)) i
    ∷ [] in
    ap (position not) passes

pub longest_reply-bound : (l : Limits) → ArePassed l → longest_reply l ≤ 65554
longest_reply-bound l passed =
    let b = passed-bounds l passed in
    omega (arith, b.msgmax.1, b.semmsl, b.msgsize, b.call_bytes)

-- a message of at most msgmax bytes, its type before it, is no longer than the longest body
pub message-is_bounded : (l : Limits) (n : ℕ) → n ≤ l.msgmax → 8 + n ≤ longest_body l
message-is_bounded l n le = omega arith

-- what does not exceed a limit is within it, and so is what is less
pub exceeds-not : (count most : ℕ) (limit : Option ℕ) → exceeds count limit ≡ false → limit ≡ Some most → count ≤ most
exceeds-not count most None within is = cc
exceeds-not count most (Some m) within is = let same : m ≡ most = cc in let below = ltb-false m count within in omega arith

pub exceeds-less : (less count : ℕ) (limit : Option ℕ) → less ≤ count → exceeds count limit ≡ false → exceeds less limit ≡ false
exceeds-less less count None le within = refl
exceeds-less less count (Some most) le within = grind (arith, nat_tests)
