pub mod Shapes
pub mod Watching
pub mod Owing
pub mod Watchers
