-- What the store keeps on a device, what a store shows, and what joins the two.
pub mod Batch
pub mod Image
pub mod Histories
pub mod Enlargements
pub mod Larger
pub mod Lives
pub mod Look
pub mod Meanwhile
pub mod Refusals
pub mod Results
pub mod Upgrade
pub mod View
pub mod Relations
