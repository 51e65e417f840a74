pub mod Form
pub mod Machine
pub mod Reads
pub mod Separated
pub mod Styles
pub mod Used
pub mod Values
