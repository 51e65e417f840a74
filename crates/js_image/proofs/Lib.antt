pub mod Pays
pub mod Puts
pub mod Removes
pub mod Listed
pub mod Units
pub mod Called
pub mod Grown
pub mod Hosts
mod Named
pub mod Nodes
pub mod Makes
pub mod Faults
pub mod Chains
pub mod Variables
pub mod Found
pub mod Writes
mod Sums
pub mod Arrays
pub mod ForIn
pub mod Pushes
pub mod Indexes
