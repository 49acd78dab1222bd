pub mod Handing
pub mod Boards
pub mod Sessions
