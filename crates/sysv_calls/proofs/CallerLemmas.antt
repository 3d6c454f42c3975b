-- What the crates above cite of the calls. From a sound state each ends in one, with a body that fits, and changes no more
-- than its own object. Whether it has to wait depends on the limits, who makes it and its own object alone.
pub use Rattle.sysv_calls.proofs.Ending.{IsApart}
pub use Rattle.sysv_calls.proofs.EveryCall.{attempt-apart, attempt-good, never-waits}
pub use Rattle.sysv_calls.proofs.Families.{IsOther, by-waiting}
pub use Rattle.sysv_calls.proofs.Kept.{kept-is, never-kept}
pub use Rattle.sysv_calls.proofs.Waits.{waits-alike, waits-there}
pub use Rattle.sysv_calls.proofs.Sparing.{call-spares, posix-concerned, spared-both}
