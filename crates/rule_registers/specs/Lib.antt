pub mod AtFault
pub mod Blamed
pub mod First
pub mod Laws
