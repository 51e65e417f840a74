pub mod Tests
pub mod Absent
pub mod Numbers
pub mod Taken
pub mod Grafted
pub mod Values
