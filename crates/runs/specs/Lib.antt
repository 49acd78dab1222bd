pub mod Histories
pub mod Promises
pub mod Stacks
pub mod Runs
