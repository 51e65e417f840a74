mod Cuts
mod Made
pub mod PieceLists
pub mod RadixLaws
pub mod RadixPlans
pub mod Receivers
mod Small
pub mod SplitPlans
