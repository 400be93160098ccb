mod Lengthening
mod Made
mod Shaped
mod Shortness
mod Spelling
mod Telling
mod WorkedLimits
