pub mod Numbers
pub mod Request
pub mod Page
pub mod Steps
pub mod Text
pub mod Answer
