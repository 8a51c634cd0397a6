pub mod Agreement
pub mod Fold
pub mod ReplicaText
pub mod Table
pub mod Top
pub mod ValueBytes
