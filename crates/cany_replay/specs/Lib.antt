pub mod Storm
pub mod StormTop
pub mod StormWords
pub mod Top
