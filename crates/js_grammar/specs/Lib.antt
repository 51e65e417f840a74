pub mod Tables
pub mod Grammar
pub mod Machine
pub mod Unplaced
