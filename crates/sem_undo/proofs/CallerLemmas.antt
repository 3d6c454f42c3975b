-- What the crates above cite: the order of the keys, what is at a key after a change, and that what changes stays sound.
pub use Rattle.sem_undo.proofs.Tables.{key_total, key_apart, retained, key_other, cleared_others, subtracted_there, subtracted_others, subtracted_each}
pub use Rattle.sem_undo.proofs.Tables.{empty-sound, cleared-sound, with-sound}
