pub mod Counting
pub mod FewKinds
pub mod ClaimsFit
pub mod Telling
pub mod Completing
pub mod Strides
