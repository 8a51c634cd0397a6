-- Proofs of views: one membership, who stays and who is removed.
pub mod EachView
pub mod EqualMembers
pub mod LeftOut
pub mod RemovalJoiners
pub mod RemovalMembers
pub mod RemovalOut
pub mod RemovalStop
pub mod StayingAsked
pub mod StayingLaws
pub mod StayingVectors
pub mod StayingViews
