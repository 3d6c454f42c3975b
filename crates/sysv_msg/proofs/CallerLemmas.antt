-- What the crates above cite of queues.
pub use Rattle.sysv_msg.proofs.Picked.{pick-added, pick-removed}
