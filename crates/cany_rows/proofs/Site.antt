-- Rows of what a node knows of the site: life, failure signs, vectors and views.
pub mod DetectorAdmissionRows
pub mod DetectorRows
pub mod DetectorWords
pub mod LifeRows
pub mod MembershipRows
pub mod RejoinRows
pub mod SiteWords
pub mod VectorRows
pub mod ViewRows
