pub mod ClaimLines
pub mod KindLines
pub mod ClaimFrames
pub mod Laws
