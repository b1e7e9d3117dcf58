pub mod Faults
pub mod Firsts
pub mod Leaves
pub mod Loading
pub mod TestItems
