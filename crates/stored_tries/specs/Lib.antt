pub mod Calls
pub mod Agreement
pub mod Starts
pub mod Ends
