pub use Rattle.life_queue.proofs.Apart
mod Others
mod Owning
mod Presence
pub mod Stands
pub mod Spots
pub mod Keeping
pub mod Slotted
mod Taking
mod Picking
mod Spending
mod Following
mod Chained
mod Housing
mod Settles
mod Quiet
mod Busy
pub mod More
pub mod Feeding
pub mod Untold
pub mod Queues
pub mod Lasts
pub mod Rounds
pub mod Gathering
pub mod Seen
pub mod Taken
pub mod Sound
pub mod Looping
