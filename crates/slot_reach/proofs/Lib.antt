mod Counted
mod Steps
mod Named
mod Nodes
pub mod Owning
mod Stating
mod Naming
mod Lasting
mod Confining
mod Counting
