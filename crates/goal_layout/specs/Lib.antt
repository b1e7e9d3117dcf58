pub mod FirstFit
pub mod PieceSizes
pub mod Pages
pub mod Laying
pub mod Items
pub mod Goals
