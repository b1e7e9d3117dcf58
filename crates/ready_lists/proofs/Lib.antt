mod Pages
mod Found
mod Sorting
mod Matching
