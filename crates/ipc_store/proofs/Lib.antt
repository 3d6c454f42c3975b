mod Accepting
mod Batches
pub mod CallerLemmas
pub mod Clearing
mod Committing
mod Devices
mod Faults
mod Loaded
mod Histories
mod Lives
mod Looks
mod Meanwhile
mod Opened
mod Refusals
mod Openings
mod Superblocks
mod Leaving
mod Replaying
mod Formatting
mod Growing
mod Greater
mod Upgrading
mod Upgrades
mod Enlarging
mod Enlargements
mod LargerRefusals
