pub mod Counting
pub mod Halls
pub mod Found
pub mod Noting
pub mod Controls
pub mod Ending
pub mod Beginning
pub mod Measures
