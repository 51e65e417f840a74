pub mod Numbers
pub mod Request
pub mod Page
pub mod Items
pub mod Steps
pub mod Reading
pub mod Ends
