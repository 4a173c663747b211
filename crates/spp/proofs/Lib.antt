pub mod Reuse
pub mod Levels
pub mod Scan
pub mod Calls
pub mod Quartet
pub mod Turn
pub mod Rising
