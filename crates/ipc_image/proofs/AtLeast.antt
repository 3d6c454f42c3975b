-- Limits of which none is below an old one.
use Rattle.std.proofs.Common.{◌≡◌, ℕ, ◌<◌, ◌≤◌, Bool, true, false, cond, List, length, get_or, Some, refl, arith}
use Rattle.std.specs.Prelude.{not, position, None}
use Rattle.std.specs.List.{position_or_len}
use Rattle.std.proofs.lemmas.Bool.{leb-true, ltb-false}
use Rattle.std.proofs.lemmas.List.Sums.{fails_before_first}
use Rattle.ipc_limits.specs.declared.limits.Limits.{Limits}
use Rattle.ipc_image.specs.Greater.{at_least, AreAtLeast}

no_place : (b : Bool) (n : ℕ) → cond b (Some n) None ≡ None → b ≡ false
no_place true n none = cc
no_place false n none = refl

holds : (b : Bool) → not b ≡ false → b ≡ true
holds true is = refl
holds false is = cc

-- each of some tests passes, if there is no first one that fails
pub each : (bs : List Bool) → position not bs ≡ None → (j : ℕ) → j < length bs → get_or bs j false ≡ true
each bs none j within =
    let late : length bs ≤ position_or_len not bs = ltb-false _ _ (no_place _ _ none) in
    holds _ (fails_before_first not bs j false (omega arith))

pub record EachAtLeast (new old : Limits) : Type 0 where
  pub processes : old.processes ≤ new.processes
  pub msgmni : old.msgmni ≤ new.msgmni
  pub msgmax : old.msgmax ≤ new.msgmax
  pub msgmnb : old.msgmnb ≤ new.msgmnb
  pub semmni : old.semmni ≤ new.semmni
  pub semmsl : old.semmsl ≤ new.semmsl
  pub semmns : old.semmns ≤ new.semmns
  pub semopm : old.semopm ≤ new.semopm
  pub queues : old.queues ≤ new.queues
  pub maxmsg : old.maxmsg ≤ new.maxmsg
  pub msgsize : old.msgsize ≤ new.msgsize
  pub named_semaphores : old.named_semaphores ≤ new.named_semaphores
  pub segments : old.segments ≤ new.segments
  pub segment_bytes : old.segment_bytes ≤ new.segment_bytes
  pub call_bytes : old.call_bytes ≤ new.call_bytes
  pub descriptors : old.descriptors ≤ new.descriptors
  pub shmmni : old.shmmni ≤ new.shmmni
  pub shmmax : old.shmmax ≤ new.shmmax
  pub shmall : old.shmall ≤ new.shmall
  pub msgqlen : old.msgqlen ≤ new.msgqlen
  pub semume : old.semume ≤ new.semume
  pub queue_bytes : old.queue_bytes ≤ new.queue_bytes

pub each-at-least : (new old : Limits) → AreAtLeast new old → EachAtLeast new old
each-at-least new old all =
    let tests = each (at_least new old) all in
    record {
      processes = leb-true _ _ (tests 0 (omega arith));
      msgmni = leb-true _ _ (tests 1 (omega arith));
      msgmax = leb-true _ _ (tests 2 (omega arith));
      msgmnb = leb-true _ _ (tests 3 (omega arith));
      semmni = leb-true _ _ (tests 4 (omega arith));
      semmsl = leb-true _ _ (tests 5 (omega arith));
      semmns = leb-true _ _ (tests 6 (omega arith));
      semopm = leb-true _ _ (tests 7 (omega arith));
      queues = leb-true _ _ (tests 8 (omega arith));
      maxmsg = leb-true _ _ (tests 9 (omega arith));
      msgsize = leb-true _ _ (tests 10 (omega arith));
      named_semaphores = leb-true _ _ (tests 11 (omega arith));
      segments = leb-true _ _ (tests 12 (omega arith));
      segment_bytes = leb-true _ _ (tests 13 (omega arith));
      call_bytes = leb-true _ _ (tests 14 (omega arith));
      descriptors = leb-true _ _ (tests 15 (omega arith));
      shmmni = leb-true _ _ (tests 16 (omega arith));
      shmmax = leb-true _ _ (tests 17 (omega arith));
      shmall = leb-true _ _ (tests 18 (omega arith));
      msgqlen = leb-true _ _ (tests 19 (omega arith));
      semume = leb-true _ _ (tests 20 (omega arith));
      queue_bytes = leb-true _ _ (tests 21 (omega arith));
    }
